-- The pools so far are those to which an entry up to here gives an id that it gives the pool.
use Rattle.std.proofs.Common.{◌≡◌, ℕ, ◌<◌}
use Rattle.std.specs.List.{list_any, range_with_len}
use Rattle.wire_frame.specs.Bits.{has_bit}
use Rattle.pool_filter.proofs.ReachLemmas.{joins}
use Rattle.pool_filter.proofs.reach.with_a_vlan_of.Given as goal

abbrev pub invariant-loop-e : goal.invariant-loop-e
invariant-loop-e l = (p : ℕ) → p < 64 → has_bit l.pools p ≡ list_any (joins l.tables l.pool p) (range_with_len 0 l.e)
