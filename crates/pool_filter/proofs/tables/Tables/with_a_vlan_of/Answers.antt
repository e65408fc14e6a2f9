-- A pool's own ids are those that the entries give it.
use Rattle.std.proofs.Common.{ap, ◌∙◌}
use Rattle.pool_filter.specs.Own.{own, rising, vlan_ids_of}
use Rattle.pool_filter.specs.Reach.{have_common}
use Rattle.pool_filter.proofs.tables.Tables.with_a_vlan_of.Goals as goal

pub returns : goal.returns
unfolding own
returns c = λ p below.
    c.with_a_vlan_of.ensures p below ∙ ap (λ s. have_common (rising (vlan_ids_of s.vlans c.args.pool)) (rising (vlan_ids_of s.vlans p))) c.self.view_is
