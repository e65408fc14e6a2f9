-- The share that was handed out is gone from the others.
use Rattle.modes.proofs.Lines.{handed_out}
use Rattle.modes.proofs.threads.seat.Goals as goal

pub returns-in_err-device-clause-ask : goal.returns-in_err-device-clause-ask
returns-in_err-device-clause-ask g c = handed_out c.args.shares.now c.port.new.self c.pool-2.result c.port.ensures.ports c.port.ensures.others.1 c.requires.ask

pub returns-clause-ask : goal.returns-clause-ask
returns-clause-ask g c = handed_out c.args.shares.now c.port.new.self c.pool-2.result c.port.ensures.ports c.port.ensures.others.1 c.requires.ask
