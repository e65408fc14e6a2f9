-- The law, by its lemmas.
use Rattle.transmit_page.proofs.Found.{found_first, found_second, found_only}
use Rattle.transmit_page.proofs.laws.each_register_is_found.Goals as goal

pub returns-clause-first : goal.returns-clause-first
returns-clause-first c = found_first

pub returns-clause-second : goal.returns-clause-second
returns-clause-second c = found_second

pub returns-clause-only : goal.returns-clause-only
returns-clause-only c = found_only
