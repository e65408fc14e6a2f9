-- It stands at none of the places so far.
use Rattle.memchr.specs.Find.{Nowhere, Passes, is_byte}
use Rattle.script.proofs.text.place.Given as goal

abbrev pub invariant-loop-at : goal.invariant-loop-at
invariant-loop-at l = Nowhere (Passes (is_byte l.byte) l.text) 0 l.at
