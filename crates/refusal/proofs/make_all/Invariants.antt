-- The ledger is the one that the blank stands for.
use Rattle.refusal.proofs.make_all.Given as goal

abbrev pub ghosts-recorded_new : goal.ghosts-recorded_new
ghosts-recorded_new g a = record { name = a.blank.name; parts = a.blank.parts }

abbrev pub ghosts-with_twin : goal.ghosts-with_twin
ghosts-with_twin g a = record { name = a.blank.name; parts = a.blank.parts }

abbrev pub ghosts-locked_new : goal.ghosts-locked_new
ghosts-locked_new g a = record { name = a.blank.name; parts = a.blank.parts }

abbrev pub ghosts-workers : goal.ghosts-workers
ghosts-workers g a = record { name = a.blank.name; parts = a.blank.parts }
