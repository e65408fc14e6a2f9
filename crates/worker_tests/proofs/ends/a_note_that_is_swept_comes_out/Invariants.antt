-- The ledger is the one that the blank stands for.
use Rattle.worker_tests.proofs.ends.a_note_that_is_swept_comes_out.Given as goal

abbrev pub ghosts-one_out : goal.ghosts-one_out
ghosts-one_out g a = record { name = a.blank.name; parts = a.blank.parts }
