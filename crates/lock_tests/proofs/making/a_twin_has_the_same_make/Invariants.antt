-- The ledger is the one that the blank stands for.
use Rattle.lock_tests.proofs.making.a_twin_has_the_same_make.Given as goal

abbrev pub ghosts-fault_with : goal.ghosts-fault_with
ghosts-fault_with g a = record { name = a.blank.name; parts = a.blank.parts }
