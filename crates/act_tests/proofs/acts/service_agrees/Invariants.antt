-- The ledger is that of the blank.
use Rattle.act_tests.proofs.acts.service_agrees.Given as goal

abbrev pub ghosts-agreed : goal.ghosts-agreed
ghosts-agreed g a = record { name = a.blank.name; parts = a.blank.parts }
