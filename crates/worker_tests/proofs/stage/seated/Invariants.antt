-- The shares of the others stay, and the seats and shares that are left are of the pump's line.
use Rattle.std.proofs.Common.{◌≡◌}
use Rattle.irq_line.specs.Line.{AreSeatsOf}
use Rattle.recorder.specs.Made.{AreSharesOf}
use Rattle.worker_tests.proofs.stage.seated.Given as goal

abbrev pub invariant-loop : goal.invariant-loop
invariant-loop g l = record {
  pf : l.shares.pf ≡ l.fn.shares.pf;
  pump : l.shares.pump ≡ l.fn.shares.pump;
  service : l.shares.service ≡ l.fn.shares.service;
  seats : AreSeatsOf l.shares.pump.line l.seats.items;
  shares : AreSharesOf l.shares.pump.line l.shares.ports.items;
}
