-- The ledger is the one that the blank stands for.
use Rattle.pump_tests.proofs.examples.three_frames_are_pumped.Given as goal

abbrev pub ghosts-example_of_pump : goal.ghosts-example_of_pump
ghosts-example_of_pump g a = record { name = a.blank.name; parts = a.blank.parts }
