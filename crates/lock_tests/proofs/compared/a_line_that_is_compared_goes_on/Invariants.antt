-- The ledger is the one that the blank stands for.
use Rattle.lock_tests.proofs.compared.a_line_that_is_compared_goes_on.Given as goal

abbrev pub ghosts-kept_once_compared : goal.ghosts-kept_once_compared
ghosts-kept_once_compared g a = record { name = a.blank.name; parts = a.blank.parts }
