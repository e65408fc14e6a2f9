-- The shares have the name and the number of the blank that they are made of.
use Rattle.bench_lock.proofs.main.Given as goal

abbrev pub ghosts-measure : goal.ghosts-measure
ghosts-measure g a = record { name = a.blank.name; parts = a.blank.parts }
