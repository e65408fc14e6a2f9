-- The pools below the next one have their seats.
use Rattle.std.proofs.Common.{◌≡◌, ℕ, ◌<◌, length, Some, slice_get, []}
use Rattle.std.specs.Arc.{arc_value}
use Rattle.irq_line.specs.declared.views.View.TheVariants.{Device}
use Rattle.irq_line.specs.Line.{new_guest}
use Rattle.irq_line.proofs.making.guests_of.Given as goal

abbrev pub invariant-loop-pool : goal.invariant-loop-pool
invariant-loop-pool l = record {
  line : (l.seat.table_id ≡ (arc_value l.line).shared.table_id) × (l.seat.table_id.words ≡ 64);
  next : l.seat.me ≡ (Device [] l.pool, []);
  count : length l.guests.items ≡ l.pool;
  each : (p : ℕ) → p < l.pool → slice_get l.guests.items p ≡ Some (record { line = l.seat.table_id; view = new_guest p });
}
