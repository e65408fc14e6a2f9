-- The ledger is the one that the blank stands for.
use Rattle.lock_tests.proofs.full.the_base_moves_at_each_full_history.Given as goal

abbrev pub ghosts-moved_bases : goal.ghosts-moved_bases
ghosts-moved_bases g a = record { name = a.blank.name; parts = a.blank.parts }
