-- The function that is over another memory is the one of its pool.
use Rattle.std.proofs.Common.{◌∙◌, ap, arith, length, refl}
use Rattle.device.proofs.Called.{Base, own_exchanged, served_world}
use Rattle.device.proofs.Views.{IsHere, lengths, trace_here}
use Rattle.device.proofs.device.Device.exchange.Goals as goal
use Rattle.device.proofs.device.Device.exchange.Given as given
use Rattle.device.specs.Live.{TracedWorld, trace_of}
use Rattle.vf_unit.specs.Guests.{over}

abbrev base : (g : given.Over) (c : goal.After-self-1 g) → Base
base g c = record { profile = c.self.inside.profile; settings = c.self.inside.tables.value; resets = c.self.inside.resets; wire = c.self.inside.wire.frames; unclaimed = c.self.inside.unclaimed }

here : (g : given.Over) (c : goal.After-self-1 g) → IsHere c.self.inside.units.items c.args.index c.args.index c.index_mut.result.now
here g c = record {
  place = refl;
  below = omega (arith, c.requires, lengths c.self.inside.units.items, ap (λ (t : TracedWorld). length t.world.functions) c.self.view_is);
  is = c.index_mut.ensures.value;
}

pub returns-clause-world : goal.returns-clause-world
returns-clause-world g c =
    served_world (base g c) c.self.inside.units.items c.args.self.now c.args.index c.args.index c.index_mut.result.now c.exchange.new.self (over c.args.opening (g.D.Dma.seen c.args.memory)) c.self.view_is (here g c) c.exchange.ensures.function

pub returns-clause-accesses : goal.returns-clause-accesses
returns-clause-accesses g c =
    own_exchanged c.self.inside.units.items c.args.self.now (base g c) c.args.index c.args.index c.index_mut.result.now c.exchange.new.self (g.D.Dma.noted c.args.memory) c.self.view_is (here g c) c.exchange.ensures.accesses

pub returns-clause-listed : goal.returns-clause-listed
returns-clause-listed g c =
    c.exchange.ensures.listed
    ∙ trace_here c.self.inside.units.items c.args.index c.args.index c.index_mut.result.now (here g c)
    ∙ ap (λ (t : TracedWorld). trace_of t.accesses c.args.index) c.self.view_is
