-- Each part is the pool's own.
use Rattle.std.proofs.Common.{ap, ◌∙◌}
use Rattle.pool_filter.specs.Own.{own, rising, addresses_of, vlan_ids_of}
use Rattle.pool_filter.proofs.tables.Tables.own.Goals as goal

pub returns : goal.returns
unfolding own
returns c = λ i. record {
  addresses = (c.put_addresses.ensures ∙ ap (λ s. rising (addresses_of s.addresses c.args.pool)) c.self.view_is) i;
  vlan_ids = (c.put_vlan_ids.ensures ∙ ap (λ s. rising (vlan_ids_of s.vlans c.args.pool)) c.self.view_is) i;
  takes_untagged = c.takes_untagged-found-inside.ensures i;
  may_receive = c.may_receive-found-inside.ensures i;
  may_transmit = c.may_transmit-found-inside.ensures i;
  checks_address = c.checks_address-found-inside.ensures i;
  checks_vlan = c.checks_vlan-found-inside.ensures i;
  port_vlan = c.port_word-found-inside.ensures i;
}
