-- The ledger is the one that the blank stands for.
use Rattle.port_tests.proofs.calls.refused_calls_are_kept.Given as goal

abbrev pub ghosts-opened_fills : goal.ghosts-opened_fills
ghosts-opened_fills g a = record { name = a.blank.name; parts = a.blank.parts }
