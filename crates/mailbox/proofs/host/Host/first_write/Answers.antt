-- A register at a time.
use Rattle.mailbox.proofs.First.{turn_found, turn_goes_on}
use Rattle.mailbox.proofs.host.Host.first_write.Goals as goal

pub returns-then-place-row : goal.returns-then-place-row
returns-then-place-row c =
    turn_found c.args.self.now c.loop-register.register-index c.loop-register.place c.args.i _ c.row-row.result c.word.result
    c.loop-register-test.true c.loop-register.invariant c.row-row.ensures c.if-place-row.true c.word.ensures

pub loop-register-preserved : goal.loop-register-preserved
loop-register-preserved c =
    turn_goes_on c.args.self.now c.loop-register.register-index c.loop-register.place c.args.i _ c.row-row.result
    c.loop-register-test.true c.loop-register.invariant c.row-row.ensures c.if-place-row.false
