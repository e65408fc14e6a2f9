-- The ledger is the one that the blank stands for.
use Rattle.worker_tests.proofs.guests.a_frame_comes_for_a_port_that_is_dropped.Given as goal

abbrev pub ghosts-under_way : goal.ghosts-under_way
ghosts-under_way g a = record { name = a.blank.name; parts = a.blank.parts }
