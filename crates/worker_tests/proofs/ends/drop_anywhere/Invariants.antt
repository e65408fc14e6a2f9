-- The ledger is the one that the blank stands for.
use Rattle.worker_tests.proofs.ends.drop_anywhere.Given as goal

abbrev pub ghosts-dropped_after : goal.ghosts-dropped_after
ghosts-dropped_after g a = record { name = a.blank.name; parts = a.blank.parts }
