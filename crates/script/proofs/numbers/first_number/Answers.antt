-- The text begins with the digits, or they come after 0x.
use Rattle.std.proofs.Common.{◌-◌, drop, length, length-drop, sym, ◌∙◌, arith}
use Rattle.std.proofs.lemmas.List.{take_all}
use Rattle.std.proofs.lemmas.Option.{IfSome_then}
use Rattle.script.proofs.NumberLemmas.{marked_begins, plain_begins}
use Rattle.script.proofs.numbers.first_number.Goals as goal

pub returns-then-is_marked : goal.returns-then-is_marked
returns-then-is_marked c =
    let text = c.args.text.now in
    let digits = take_all (length text - 2) (drop 2 text) (omega (arith, length-drop 2 text)) in
    IfSome_then c.first_number_to.result c.first_number_to.ensures
    (λ r begins. marked_begins text r.0 _ r.1.now (sym c.is_marked.ensures ∙ c.if-is_marked.true) digits begins)

pub returns-else-is_marked : goal.returns-else-is_marked
returns-else-is_marked c =
    IfSome_then c.first_number_to-else-is_marked.result c.first_number_to-else-is_marked.ensures
    (λ r begins. plain_begins c.args.text.now r.0 r.1.now (sym c.is_marked.ensures ∙ c.if-is_marked.false) begins)
