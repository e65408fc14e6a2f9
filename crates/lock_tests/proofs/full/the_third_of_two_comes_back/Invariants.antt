-- The ledger is the one that the blank stands for.
use Rattle.lock_tests.proofs.full.the_third_of_two_comes_back.Given as goal

abbrev pub ghosts-third_of_two : goal.ghosts-third_of_two
ghosts-third_of_two g a = record { name = a.blank.name; parts = a.blank.parts }
