-- The shares are for the device's line, and so are the ports.
use Rattle.modes.proofs.Lines.{ports_as}
use Rattle.modes.proofs.threads.play_threads.Goals as goal

pub run_all-requires-clause-ports : goal.run_all-requires-clause-ports
run_all-requires-clause-ports g c κs within =
    ports_as g.P.GuestPort.meaning c.args.parts.line.line c.in_ok-recorded.shares.pump.line c.args.parts.ports.items c.in_ok-recorded.ensures.line c.requires.ports
