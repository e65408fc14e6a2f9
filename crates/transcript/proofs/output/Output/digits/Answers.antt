-- Each turn holds the digits of a front of the bytes that are left.
use Rattle.std.proofs.Common.{sym, ◌∙◌}
use Rattle.transcript.proofs.Known.{sent_more, sent_last, began_on, on_err}
use Rattle.transcript.proofs.Tables.{digits_split, digits_none}
use Rattle.transcript.proofs.output.Output.digits.Goals as goal

pub returns-in_err-relieve-clause-err : goal.returns-in_err-relieve-clause-err
returns-in_err-relieve-clause-err g c = on_err c.from_residual.result (began_on _ _ _ _ _ _ c.loop-rest.invariant c.in_err-relieve.ensures.err)

pub loop-rest-preserved : goal.loop-rest-preserved
loop-rest-preserved g c =
    let split = c.split_at.ensures in
    sent_more _ _ _ _ _ _ _ _ _ _ (digits_split _ _ _ _ split.front split.back) c.hold_digits.ensures c.loop-rest.invariant c.in_ok-relieve.ensures.ok

pub returns-clause-ok : goal.returns-clause-ok
returns-clause-ok g c = sent_last _ _ _ _ _ (digits_none _ (sym c.is_empty.ensures ∙ c.loop-rest-test.false)) c.loop-rest.invariant
