-- The pools outside the group are none exactly where none outside may be reached.
use Rattle.std.proofs.Common.{arith, ap, ◌∙◌}
use Rattle.wire_frame.specs.Bits.{has_bit}
use Rattle.pool_filter.specs.Reach.{may_reach}
use Rattle.pool_filter.proofs.ReachLemmas.{none_outside}
use Rattle.pool_filter.proofs.tables.Tables.stays_within.Goals as goal

pub returns : goal.returns
returns c =
    none_outside c.bits.result c.bits-2.result c.args.group (may_reach c.args.self.now c.args.sender) (omega arith) (omega arith) c.bits-2.ensures
    (λ p below. ap (λ n. has_bit n p) c.bits.ensures ∙ c.reach.ensures p below)
