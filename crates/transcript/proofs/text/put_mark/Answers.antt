-- A mark is put together of its parts.
use Rattle.std.proofs.Common.{List, ℕ, ◌+◌, [], ◌∷◌, ◌++◌, ◌∙◌, sym, ap, take, arith}
use Rattle.std.specs.Prelude.{codes, decimal}
use Rattle.transcript.proofs.Marks.{mark_parts}
use Rattle.transcript.proofs.text.put_mark.Goals as goal

pub returns-clause-text : goal.returns-clause-text
returns-clause-text c =
    let set = c.bits.ensures.value in
    c.put_word.ensures.text
    ∙ (λ i. ((c.put_pool-at.ensures.text ∙ ap (λ (t : List ℕ). t ++ (decimal c.args.pool ++ codes ":")) c.put_word-at.ensures.text) i) ++ (48 + set i) ∷ [])
    ∙ mark_parts (take c.args.at c.args.room.now) c.args.pool c.args.vectors (sym c.is_empty.ensures ∙ c.if-is_empty.false) (omega (arith, set, c.bits.ensures.below))
