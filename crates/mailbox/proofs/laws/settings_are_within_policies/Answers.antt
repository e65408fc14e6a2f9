-- The law, by its lemmas.
use Rattle.mailbox.proofs.Shown.{address_shown, address_granted, one_pool, vlan_shown, checks_on}
use Rattle.mailbox.proofs.laws.settings_are_within_policies.Goals as goal

pub returns-clause-addresses : goal.returns-clause-addresses
returns-clause-addresses c = address_shown

pub returns-clause-granted : goal.returns-clause-granted
returns-clause-granted c = address_granted

pub returns-clause-one_pool : goal.returns-clause-one_pool
returns-clause-one_pool c = one_pool

pub returns-clause-vlan_ids : goal.returns-clause-vlan_ids
returns-clause-vlan_ids c = vlan_shown

pub returns-clause-checks : goal.returns-clause-checks
returns-clause-checks c = checks_on
