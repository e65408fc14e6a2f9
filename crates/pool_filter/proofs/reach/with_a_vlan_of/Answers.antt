-- An entry that gives the pool an id joins the pools of that id, and another one changes nothing.
use Rattle.std.proofs.Common.{arith, ◌≡◌, ap, sym, ◌∙◌}
use Rattle.std.specs.List.{list_any, range_with_len}
use Rattle.wire_frame.specs.Bits.{has_bit}
use Rattle.wire_frame.proofs.BitLemmas.{has_bit_zero, joined_more}
use Rattle.pool_filter.proofs.ReachLemmas.{joins, joins-given, joins-none, joined_none, common_by_entries}
use Rattle.pool_filter.proofs.reach.with_a_vlan_of.Goals as goal
use Rattle.pool_filter.proofs.reach.with_a_vlan_of.Goals.{in-Some, in_default}

pub loop-e-init : goal.loop-e-init
loop-e-init c = λ p below. has_bit_zero p

pub loop-e-preserved : goal.loop-e-preserved
loop-e-preserved c =
    let v = c.args.tables.now in
    let q = c.args.pool in
    let e = c.loop-e.e in
    elim c.match-id_for.branch [
      | in-Some w ↦ λ p below.
          ap (λ n. has_bit n p) w.pools-is
          ∙ joined_more (joins v q p) c.loop-e.pools w.pools_of-pools.result p e (c.loop-e.invariant p below)
          (w.pools_of-pools.ensures p below ∙ joins-given v q p e w.in-Some.id (sym c.id_for.ensures ∙ w.in-Some.is))
      | in_default w ↦ λ p below.
          ap (λ n. has_bit n p) w.pools-is
          ∙ joined_none (joins v q p) c.loop-e.pools p e (c.loop-e.invariant p below) (joins-none v q p e (sym c.id_for.ensures ∙ w.in_default.is))
    ]

pub returns : goal.returns
returns c = λ p below.
    let last : c.loop-e.e ≡ 64 = omega arith in
    c.loop-e.invariant p below ∙ ap (λ n. list_any (joins c.args.tables.now c.args.pool p) (range_with_len 0 n)) last ∙ common_by_entries c.args.tables.now c.args.pool p
