-- The ledger is the one that the blank stands for.
use Rattle.thread_mode_tests.proofs.reports.a_device_with_an_open_function_gives_others.Given as goal

abbrev pub ghosts-reported : goal.ghosts-reported
ghosts-reported g a = record { name = a.blank.name; parts = a.blank.parts }
