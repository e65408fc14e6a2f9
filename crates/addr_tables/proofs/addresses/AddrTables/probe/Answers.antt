-- The words say of the address what the index says.
use Rattle.std.proofs.Common.{arith, ap, ◌∙◌}
use Rattle.pool_index.specs.Entries.{is_given}
use Rattle.addr_tables.specs.Addresses.{has_address, is_held}
use Rattle.addr_tables.proofs.MaskLemmas.{mask_is_zero}
use Rattle.addr_tables.proofs.addresses.AddrTables.probe.Goals as goal

pub returns-clause-pools : goal.returns-clause-pools
unfolding has_address is_given
returns-clause-pools c = λ p h. rw (← c.self.view_is) (c.probe.ensures.pools p h ∙ ap (has_address c.self.inside.table p) c.number.ensures)

pub returns-clause-none : goal.returns-clause-none
unfolding is_held
returns-clause-none c = mask_is_zero c.probe.result.0 _ (omega arith) (returns-clause-pools c)

pub returns-clause-few : goal.returns-clause-few
returns-clause-few c = c.probe.ensures.few 8 (omega arith)
