-- The ledger is the one that the blank stands for.
use Rattle.port_tests.proofs.examples.the_guest_reads_what_it_wrote.Given as goal

abbrev pub ghosts-example_of_locked_port_new : goal.ghosts-example_of_locked_port_new
ghosts-example_of_locked_port_new g a = record { name = a.blank.name; parts = a.blank.parts }
