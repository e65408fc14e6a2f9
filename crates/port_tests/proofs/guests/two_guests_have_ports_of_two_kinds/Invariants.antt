-- The ledger is the one that the blank stands for.
use Rattle.port_tests.proofs.guests.two_guests_have_ports_of_two_kinds.Given as goal

abbrev pub ghosts-serves_two : goal.ghosts-serves_two
ghosts-serves_two g a = record { name = a.blank.name; parts = a.blank.parts }
