-- The ledger is the one that the blank stands for.
use Rattle.worker_tests.proofs.calls.the_reader_ends_with_the_pump.Given as goal

abbrev pub ghosts-seen_of_many : goal.ghosts-seen_of_many
ghosts-seen_of_many g a = record { name = a.blank.name; parts = a.blank.parts }
