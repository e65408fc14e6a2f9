-- The ledger is the one that the blank stands for.
use Rattle.port_tests.proofs.calls.port_reads_back.Given as goal

abbrev pub ghosts-opened_reads : goal.ghosts-opened_reads
ghosts-opened_reads g a = record { name = a.blank.name; parts = a.blank.parts }
