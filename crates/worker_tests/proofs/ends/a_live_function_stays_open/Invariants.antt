-- The ledger is the one that the blank stands for.
use Rattle.worker_tests.proofs.ends.a_live_function_stays_open.Given as goal

abbrev pub ghosts-one_of_two : goal.ghosts-one_of_two
ghosts-one_of_two g a = record { name = a.blank.name; parts = a.blank.parts }
