-- The ledger is the one that the blank stands for.
use Rattle.lock_tests.proofs.threads.a_port_reads_back_what_it_wrote.Given as goal

abbrev pub ghosts-reads_back : goal.ghosts-reads_back
ghosts-reads_back g a = record { name = a.blank.name; parts = a.blank.parts }
