-- The function whose cause "other" is raised is the one of its pool.
use Rattle.std.proofs.Common.{◌∙◌, arith}
use Rattle.device.proofs.Called.{Base, own_kept, own_sizes, prompted_vectors, prompted_world}
use Rattle.device.proofs.Views.{IsHere}
use Rattle.device.proofs.device.Device.raise_other.Goals as goal
use Rattle.device.proofs.device.Device.raise_other.Given as given

abbrev base : (g : given.Over) (c : goal.After-self-1 g) → Base
base g c = record { profile = c.self.inside.profile; settings = c.self.inside.tables.value; resets = c.self.inside.resets; wire = c.self.inside.wire.frames; unclaimed = c.self.inside.unclaimed }

here : (g : given.Over) (c : goal.After-self-1 g) → IsHere c.self.inside.units.items c.from-index.result c.args.pool c.index_mut.result.now
here g c = record { place = c.from-index.ensures; below = omega (arith, c.if-index-len.false, c.len.ensures); is = c.index_mut.ensures.value }

pub returns-clause-world : goal.returns-clause-world
returns-clause-world g c = prompted_world (base g c) c.self.inside.units.items c.args.self.now c.from-index.result c.args.pool c.index_mut.result.now c.raise_other.new.self c.self.view_is (here g c) c.raise_other.ensures.function

pub returns-clause-vectors : goal.returns-clause-vectors
returns-clause-vectors g c = c.raise_other.ensures.messages ∙ prompted_vectors (base g c) c.self.inside.units.items c.args.self.now c.from-index.result c.args.pool c.index_mut.result.now c.self.view_is (here g c)

pub returns-clause-accesses : goal.returns-clause-accesses
returns-clause-accesses g c = own_kept (base g c) c.self.inside.units.items c.args.self.now c.from-index.result c.args.pool c.index_mut.result.now c.raise_other.new.self c.self.view_is (here g c) c.raise_other.ensures.accesses

pub returns-clause-sizes : goal.returns-clause-sizes
returns-clause-sizes g c = own_sizes (base g c) c.self.inside.units.items c.args.self.now c.from-index.result c.args.pool c.index_mut.result.now c.raise_other.new.self c.self.view_is (here g c) c.raise_other.ensures.size
