-- Every function is closed, and nothing is done to its memory.
use Rattle.std.proofs.Common.{◌≡◌, ◌∙◌, ap, map, length}
use Rattle.std.specs.Vec.{with_items}
use Rattle.std.proofs.lemmas.List.{with_items_is, length-map}
use Rattle.device.specs.Units.{closed}
use Rattle.device.proofs.Called.{all_closed, closed_kept, closed_sizes}
use Rattle.device.proofs.device.Device.reset.Goals as goal
use Rattle.device.proofs.device.Device.reset.Given as given

abbrev are_closed : (g : given.Over) (c : goal.After-self-3-1 g) → (with_items c.self.inside.units c.end_all.new.units).items ≡ map closed c.self.inside.units.items
are_closed g c =
    with_items_is c.self.inside.units c.end_all.new.units (ap length c.end_all.ensures.ended ∙ length-map c.deref_mut.result.now closed ∙ c.deref_mut.ensures.len)
    ∙ c.end_all.ensures.ended ∙ ap (map closed) c.deref_mut.ensures.value

pub returns-clause-world : goal.returns-clause-world
returns-clause-world g c = all_closed (record { profile = c.self.inside.profile; settings = c.self.inside.tables.value; resets = c.self.inside.resets; wire = c.self.inside.wire.frames; unclaimed = c.self.inside.unclaimed }) c.self.inside.units.items (with_items c.self.inside.units c.end_all.new.units).items c.args.self.now c.clear.new.self c.self.view_is (are_closed g c) c.clear.ensures

pub returns-clause-accesses : goal.returns-clause-accesses
returns-clause-accesses g c = closed_kept (record { profile = c.self.inside.profile; settings = c.self.inside.tables.value; resets = c.self.inside.resets; wire = c.self.inside.wire.frames; unclaimed = c.self.inside.unclaimed }) c.self.inside.units.items (with_items c.self.inside.units c.end_all.new.units).items c.args.self.now c.self.view_is (are_closed g c)

pub returns-clause-sizes : goal.returns-clause-sizes
returns-clause-sizes g c = closed_sizes (record { profile = c.self.inside.profile; settings = c.self.inside.tables.value; resets = c.self.inside.resets; wire = c.self.inside.wire.frames; unclaimed = c.self.inside.unclaimed }) c.self.inside.units.items (with_items c.self.inside.units c.end_all.new.units).items c.args.self.now c.self.view_is (are_closed g c)
