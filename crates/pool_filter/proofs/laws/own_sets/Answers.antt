-- The law, by its lemmas.
use Rattle.pool_filter.proofs.OwnLemmas.{contains_own_addresses, contains_own_vlan_ids, addresses_rise, vlan_ids_rise}
use Rattle.pool_filter.proofs.laws.own_sets.Goals as goal

pub returns-clause-addresses : goal.returns-clause-addresses
returns-clause-addresses c = contains_own_addresses

pub returns-clause-vlan_ids : goal.returns-clause-vlan_ids
returns-clause-vlan_ids c = contains_own_vlan_ids

pub returns-clause-addresses_rise : goal.returns-clause-addresses_rise
returns-clause-addresses_rise c = addresses_rise

pub returns-clause-vlan_ids_rise : goal.returns-clause-vlan_ids_rise
returns-clause-vlan_ids_rise c = vlan_ids_rise
