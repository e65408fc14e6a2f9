-- Each ledger is the one that its blank stands for.
use Rattle.pump_tests.proofs.doors.a_full_history_ends_the_pump.Given as goal

abbrev pub ghosts-own_five : goal.ghosts-own_five
ghosts-own_five g a = record { name = a.blank.name; parts = a.blank.parts }

abbrev pub ghosts-locked_five : goal.ghosts-locked_five
ghosts-locked_five g a = record { name = a.blank.name; parts = a.blank.parts }
