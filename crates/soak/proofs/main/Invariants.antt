-- The shares have the name and the number of the blank that they are made of.
use Rattle.soak.proofs.main.Given as goal

abbrev pub ghosts-round : goal.ghosts-round
ghosts-round g a = record { name = a.blank.name; parts = a.blank.parts }
