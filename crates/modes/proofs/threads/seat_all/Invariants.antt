-- The shares that no port has stay, and those of the ports that are left are for a device of the same line.
use Rattle.std.proofs.Common.{◌≡◌}
use Rattle.recorder.specs.Made.{AreSharesOf}
use Rattle.modes.proofs.threads.seat_all.Given as goal

abbrev pub invariant-loop-port : goal.invariant-loop-port
invariant-loop-port g l = record {
  pf : l.shares.pf ≡ l.fn.shares.pf;
  pump : l.shares.pump ≡ l.fn.shares.pump;
  service : l.shares.service ≡ l.fn.shares.service;
  ask : AreSharesOf l.shares.pump.line l.shares.ports.items;
}
