-- The ledger is the one that the blank stands for.
use Rattle.worker_tests.proofs.guests.guests_run_beside_each_other.Given as goal

abbrev pub ghosts-hold_two : goal.ghosts-hold_two
ghosts-hold_two g a = record { name = a.blank.name; parts = a.blank.parts }
