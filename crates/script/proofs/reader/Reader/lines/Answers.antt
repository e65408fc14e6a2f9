-- Each line leads on, or is bad.
use Rattle.std.proofs.Common.{◌≡◌, ◌+◌, subst, sym, ◌∙◌}
use Rattle.std.proofs.lemmas.Result.{err_from_is_err_and}
use Rattle.script.specs.Text.{IsWithout}
use Rattle.script.proofs.LineLemmas.{leads_on, leads_to_bad, leads_to_long, left_after}
use Rattle.script.proofs.reader.Reader.lines.Goals as goal

pub returns-in_err-line-in-Some-clause-bad : goal.returns-in_err-line-in-Some-clause-bad
returns-in_err-line-in-Some-clause-bad c =
    let p = err_from_is_err_and c.from_residual.result c.from_residual.ensures.1 in
    rw p.1 (λ n is.
    let whole = rw c.in-Some.is at c.cut.ensures.whole in
    let why = c.in_err-line-in-Some.ensures.bad n (sym p.2 ∙ is) in
    leads_to_bad c.args.text.now _ _ _ c.args.self.now _ n c.loop-after.invariant.reads whole c.cut.ensures.clear why.0 why.1)

pub loop-after-preserved : goal.loop-after-preserved
loop-after-preserved c =
    let whole = rw c.in-Some.is at c.cut.ensures.whole in
    let left = left_after c.args.text.now _ _ _ c.loop-after.invariant.rest c.loop-after.invariant.left whole in
    record {
      reads = leads_on c.args.text.now _ _ _ c.args.self.now _ _ c.loop-after.invariant.reads whole c.cut.ensures.clear c.in_ok-line-in-Some.ensures.ok;
      rest = left.0;
      left = left.1;
    }

pub returns-else-can_take-clause-bad : goal.returns-else-can_take-clause-bad
returns-else-can_take-clause-bad c = λ n is.
    let whole : c.cut.result.0.now ≡ c.loop-after.rest.now = rw c.in-None.is at c.cut.ensures.none in
    let number : n ≡ c.loop-after.self.lines + 1 = cc (sym is ∙ c.bad_line.ensures) in
    leads_to_long c.args.text.now _ c.args.self.now _ n c.loop-after.invariant.reads (subst (IsWithout 10) whole c.cut.ensures.clear) number
    (sym c.can_take.ensures ∙ c.if-can_take.false)
