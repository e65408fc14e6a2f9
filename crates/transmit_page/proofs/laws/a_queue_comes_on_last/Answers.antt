-- The laws, by their lemmas.
use Rattle.std.proofs.Common.{◌++◌, [], ◌∷◌}
use Rattle.transmit_page.specs.declared.words.TransmitRegister.TheVariants.{Tail}
use Rattle.transmit_page.specs.Changes.{write}
use Rattle.transmit_page.proofs.Lost.{comes_on_last}
use Rattle.transmit_page.proofs.Sections.{front}
use Rattle.transmit_page.proofs.Tails.{tail_at}
use Rattle.transmit_page.proofs.laws.a_queue_comes_on_last.Goals as goal

pub returns-clause-on : goal.returns-clause-on
returns-clause-on c = λ was now on. (front was now ++ write Tail now.tail ∷ [], comes_on_last was now on)

pub returns-clause-tail : goal.returns-clause-tail
returns-clause-tail c = tail_at
