-- The ledger is the one that the blank stands for.
use Rattle.refusal.proofs.main.Given as goal

abbrev pub ghosts-work_all : goal.ghosts-work_all
ghosts-work_all g a = record { name = a.blank.name; parts = a.blank.parts }
