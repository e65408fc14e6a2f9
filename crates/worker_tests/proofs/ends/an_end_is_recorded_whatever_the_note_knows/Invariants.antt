-- The ledger is the one that the blank stands for.
use Rattle.worker_tests.proofs.ends.an_end_is_recorded_whatever_the_note_knows.Given as goal

abbrev pub ghosts-seen_with_note : goal.ghosts-seen_with_note
ghosts-seen_with_note g a = record { name = a.blank.name; parts = a.blank.parts }
