-- The ledger is the one that the blank stands for.
use Rattle.worker_tests.proofs.ends.functions_of_ended_ports_are_closed.Given as goal

abbrev pub ghosts-open_after : goal.ghosts-open_after
ghosts-open_after g a = record { name = a.blank.name; parts = a.blank.parts }
