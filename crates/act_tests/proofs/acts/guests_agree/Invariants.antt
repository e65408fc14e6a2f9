-- The ledger is that of the blank.
use Rattle.act_tests.proofs.acts.guests_agree.Given as goal

abbrev pub ghosts-two_guests : goal.ghosts-two_guests
ghosts-two_guests g a = record { name = a.blank.name; parts = a.blank.parts }
