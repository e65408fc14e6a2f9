-- The ledger is the one that the blank stands for.
use Rattle.pump_tests.proofs.doors.the_device_receives_the_frame.Given as goal

abbrev pub ghosts-receives : goal.ghosts-receives
ghosts-receives g a = record { name = a.blank.name; parts = a.blank.parts }
