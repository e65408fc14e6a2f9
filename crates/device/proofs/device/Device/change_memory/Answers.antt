-- The function that has another memory is the one of its pool.
use Rattle.std.proofs.Common.{◌≡◌, ◌∙◌, ap, arith, length, refl, sym}
use Rattle.device.proofs.Called.{Base, own_exchanged, served_world}
use Rattle.device.proofs.Views.{IsHere, function_here, lengths, trace_here}
use Rattle.device.proofs.device.Device.change_memory.Goals as goal
use Rattle.device.proofs.device.Device.change_memory.Given as given
use Rattle.device.specs.Live.{TracedWorld, trace_of}
use Rattle.device.specs.World.{function_of, with_function}
use Rattle.vf_unit.specs.Guests.{moved_to}
use Rattle.vf_unit.specs.Unit.{Function}

abbrev base : (g : given.Over) (c : goal.After-self-1 g) → Base
base g c = record { profile = c.self.inside.profile; settings = c.self.inside.tables.value; resets = c.self.inside.resets; wire = c.self.inside.wire.frames; unclaimed = c.self.inside.unclaimed }

here : (g : given.Over) (c : goal.After-self-1 g) → IsHere c.self.inside.units.items c.args.index c.args.index c.index_mut.result.now
here g c = record {
  place = refl;
  below = omega (arith, c.requires.there, lengths c.self.inside.units.items, ap (λ (t : TracedWorld). length t.world.functions) c.self.view_is);
  is = c.index_mut.ensures.value;
}

pub returns-clause-world : goal.returns-clause-world
returns-clause-world g c =
    let same : function_of c.args.index c.args.self.now.world ≡ c.index_mut.result.now.function =
    ap (λ (t : TracedWorld). function_of c.args.index t.world) (sym c.self.view_is)
    ∙ function_here c.self.inside.units.items c.args.index c.args.index c.index_mut.result.now (here g c) in
    served_world (base g c) c.self.inside.units.items c.args.self.now c.args.index c.args.index c.index_mut.result.now c.replace_memory.new.self (moved_to c.index_mut.result.now.function (g.D.Dma.seen c.args.memory)) c.self.view_is (here g c) c.replace_memory.ensures.function
    ∙ ap (λ (f : Function). with_function c.args.self.now.world c.args.index (moved_to f (g.D.Dma.seen c.args.memory))) (sym same)

pub returns-clause-accesses : goal.returns-clause-accesses
returns-clause-accesses g c =
    own_exchanged c.self.inside.units.items c.args.self.now (base g c) c.args.index c.args.index c.index_mut.result.now c.replace_memory.new.self (g.D.Dma.noted c.args.memory) c.self.view_is (here g c) c.replace_memory.ensures.accesses

pub returns-clause-listed : goal.returns-clause-listed
returns-clause-listed g c =
    c.replace_memory.ensures.listed
    ∙ trace_here c.self.inside.units.items c.args.index c.args.index c.index_mut.result.now (here g c)
    ∙ ap (λ (t : TracedWorld). trace_of t.accesses c.args.index) c.self.view_is
