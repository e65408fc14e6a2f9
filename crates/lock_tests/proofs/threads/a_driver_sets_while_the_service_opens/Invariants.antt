-- The ledger is the one that the blank stands for.
use Rattle.lock_tests.proofs.threads.a_driver_sets_while_the_service_opens.Given as goal

abbrev pub ghosts-two_threads : goal.ghosts-two_threads
ghosts-two_threads g a = record { name = a.blank.name; parts = a.blank.parts }
