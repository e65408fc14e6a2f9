-- A text is cut where its first part ends.
use Rattle.std.proofs.Common.{length, subst, arith}
use Rattle.std.proofs.lemmas.List.{take_all}
use Rattle.memchr.specs.Find.{NoneBefore, Passes, is_byte}
use Rattle.script.specs.Text.{IsWithout}
use Rattle.script.proofs.Cuts.{clear_before, is_here, parts_cut, parts_whole}
use Rattle.script.proofs.text.cut.Goals as goal

pub returns-then-at-text-clause-parts : goal.returns-then-at-text-clause-parts
returns-then-at-text-clause-parts c =
    let first : NoneBefore (Passes (is_byte c.args.byte) c.args.text.now) 0 (length c.args.text.now) c.place-at.result = record { low = omega arith; high = omega arith; before = c.place-at.ensures.before } in
    parts_cut _ _ c.place-at.result first (is_here c.args.text.now c.args.byte c.place-at.result (c.place-at.ensures.here (omega arith)))

pub returns-then-at-text-clause-clear : goal.returns-then-at-text-clause-clear
returns-then-at-text-clause-clear c = clear_before _ _ _ c.place-at.ensures.inside c.place-at.ensures.before

pub returns-else-at-text-clause-parts : goal.returns-else-at-text-clause-parts
returns-else-at-text-clause-parts c = parts_whole _ _ (λ k low less. c.place-at.ensures.before k low (omega arith))

pub returns-else-at-text-clause-clear : goal.returns-else-at-text-clause-clear
returns-else-at-text-clause-clear c =
    let all = clear_before c.args.byte c.args.text.now c.place-at.result c.place-at.ensures.inside c.place-at.ensures.before in
    subst (IsWithout c.args.byte) (take_all c.place-at.result c.args.text.now (omega arith)) all
