-- The pump's share stays, and the seats and shares that are left are of its line.
use Rattle.std.proofs.Common.{◌≡◌}
use Rattle.irq_line.specs.Line.{AreSeatsOf}
use Rattle.recorder.specs.Made.{AreSharesOf}
use Rattle.soak.proofs.crew.seat_all.Given as goal

abbrev pub invariant-loop : goal.invariant-loop
invariant-loop g l = record {
  pump : l.shares.pump ≡ l.fn.shares.pump;
  seats : AreSeatsOf l.shares.pump.line l.seats.items;
  shares : AreSharesOf l.shares.pump.line l.shares.ports.items;
}
