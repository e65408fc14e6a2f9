-- The ledger is the one that the blank stands for.
use Rattle.worker_tests.proofs.calls.calls_are_counted_kept_and_folded.Given as goal

abbrev pub ghosts-seen_of_two : goal.ghosts-seen_of_two
ghosts-seen_of_two g a = record { name = a.blank.name; parts = a.blank.parts }
