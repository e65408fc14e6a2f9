-- The ledger is the one that the blank stands for.
use Rattle.thread_mode_tests.proofs.reports.a_device_as_it_is_made_gives_the_answers.Given as goal

abbrev pub ghosts-reported : goal.ghosts-reported
ghosts-reported g a = record { name = a.blank.name; parts = a.blank.parts }
