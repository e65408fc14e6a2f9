-- The ledger is the one that the blank stands for.
use Rattle.lock_tests.proofs.taken_out.the_last_owner_takes_it_out.Given as goal

abbrev pub ghosts-taken_out : goal.ghosts-taken_out
ghosts-taken_out g a = record { name = a.blank.name; parts = a.blank.parts }
