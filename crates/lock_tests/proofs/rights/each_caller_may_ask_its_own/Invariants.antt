-- The ledger is the one that the blank stands for.
use Rattle.lock_tests.proofs.rights.each_caller_may_ask_its_own.Given as goal

abbrev pub ghosts-assert_rights : goal.ghosts-assert_rights
ghosts-assert_rights g a = record { name = a.blank.name; parts = a.blank.parts }
