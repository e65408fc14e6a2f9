-- The ledger is the one that the blank stands for.
use Rattle.worker_tests.proofs.shares.the_shares_that_are_there_come_back.Given as goal

abbrev pub ghosts-shares_after : goal.ghosts-shares_after
ghosts-shares_after g a = record { name = a.blank.name; parts = a.blank.parts }
