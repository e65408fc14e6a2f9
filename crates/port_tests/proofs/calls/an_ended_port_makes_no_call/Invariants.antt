-- The ledger is the one that the blank stands for.
use Rattle.port_tests.proofs.calls.an_ended_port_makes_no_call.Given as goal

abbrev pub ghosts-opened_closes : goal.ghosts-opened_closes
ghosts-opened_closes g a = record { name = a.blank.name; parts = a.blank.parts }
