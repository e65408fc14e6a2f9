-- The ledger is the one that the blank stands for.
use Rattle.lock_tests.proofs.when_full.a_full_history_is_folded_where_that_is_asked_for.Given as goal

abbrev pub ghosts-second_of_one : goal.ghosts-second_of_one
ghosts-second_of_one g a = record { name = a.blank.name; parts = a.blank.parts }
