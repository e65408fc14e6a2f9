-- The service of a pool's queue, where its memory answered so.
use Rattle.std.proofs.Common.{◌≡◌, ◌<◌, ◌++◌, ℕ, length, set, sym, ap, subst, ◌∙◌}
use Rattle.pool_filter.specs.Settings.{Settings}
use Rattle.pool_filter.specs.Own.{own}
use Rattle.vf_unit.specs.Unit.{met_function}
use Rattle.device.specs.Act.{Service, serve, serve_accesses}
use Rattle.device.specs.Live.{TracedWorld, told_service}
use Rattle.device.proofs.Called.{Base, own_met, own_sizes, own_listed, serve_told, served_world}
use Rattle.device.proofs.Views.{IsHere, lengths, traces_of}
use Rattle.device.proofs.device.Device.transmit.Goals as goal
use Rattle.device.proofs.device.Device.transmit.Given as given

abbrev base : (g : given.Over) (c : goal.After-self-1 g) → Base
base g c = record { profile = c.self.inside.profile; settings = c.self.inside.tables.value; resets = c.self.inside.resets; wire = c.self.inside.wire.frames; unclaimed = c.self.inside.unclaimed }

abbrev here : (g : given.Over) (c : goal.After-self-1 g) → IsHere c.self.inside.units.items c.from-index.result c.args.pool c.index_mut-unit.result.now
here g c = record {
  place = c.from-index.ensures ∙ c.get.ensures.value;
  below = subst (λ (n : ℕ). n < length c.self.inside.units.items) (sym (c.from-index.ensures ∙ c.get.ensures.value)) (subst (λ (n : ℕ). c.args.pool < n) (lengths c.self.inside.units.items) (subst (λ (d : TracedWorld). c.args.pool < length d.world.functions) (sym c.self.view_is) c.requires.there));
  is = c.index_mut-unit.ensures.value;
}

abbrev told : (g : given.Over) (c : goal.After-self-1 g)
    → serve c.self.inside.profile.limit (own c.deref.result.now c.args.pool) (met_function c.index_mut-unit.result.now c.serve_queue_live.new.unit) c.args.queue ≡ told_service c.args.self.now.accesses (traces_of (set c.self.inside.units.items c.from-index.result c.serve_queue_live.new.unit)) c.args.self.now.world c.args.pool c.args.queue
told g c =
    ap (λ (s : Settings). serve c.self.inside.profile.limit (own s c.args.pool) (met_function c.index_mut-unit.result.now c.serve_queue_live.new.unit) c.args.queue) c.deref.ensures
    ∙ serve_told (base g c) c.self.inside.units.items c.args.self.now c.from-index.result c.args.pool c.args.queue c.index_mut-unit.result.now c.serve_queue_live.new.unit c.self.view_is (here g c)

pub returns-clause-world : goal.returns-clause-world
returns-clause-world g c =
    served_world (base g c) c.self.inside.units.items c.args.self.now c.from-index.result c.args.pool c.index_mut-unit.result.now c.serve_queue_live.new.unit _ c.self.view_is (here g c) (c.serve_queue_live.ensures.function ∙ ap (λ (s : Service). s.function) (told g c))

pub returns-clause-sizes : goal.returns-clause-sizes
returns-clause-sizes g c = own_sizes (base g c) c.self.inside.units.items c.args.self.now c.from-index.result c.args.pool c.index_mut-unit.result.now c.serve_queue_live.new.unit c.self.view_is (here g c) c.serve_queue_live.ensures.size

pub returns-clause-reply : goal.returns-clause-reply
returns-clause-reply g c = λ bytes. c.serve_queue_live.ensures.reply bytes ∙ ap (λ (s : Service). s.reply) (told g c)

pub returns-clause-messages : goal.returns-clause-messages
returns-clause-messages g c = c.serve_queue_live.ensures.messages ∙ ap (λ (s : Service). s.messages) (told g c)

pub returns-clause-sent : goal.returns-clause-sent
returns-clause-sent g c = sym (ap (λ (s : Service). s.sent) (told g c)) ∙ c.serve_queue_live.ensures.sent

pub returns-clause-met : goal.returns-clause-met
returns-clause-met g c = own_met g.D.Dma.shared (base g c) c.self.inside.units.items c.args.self.now c.from-index.result c.args.pool c.index_mut-unit.result.now c.serve_queue_live.new.unit c.self.view_is (here g c) c.serve_queue_live.ensures.met

pub returns-clause-listed : goal.returns-clause-listed
returns-clause-listed g c =
    own_listed (base g c) c.self.inside.units.items c.args.self.now c.from-index.result c.args.pool c.index_mut-unit.result.now c.serve_queue_live.new.unit (λ r f. serve_accesses c.args.self.now.world.profile.limit (own c.args.self.now.world.settings r) f c.args.queue) c.self.view_is (here g c)
    (c.serve_queue_live.ensures.listed
    ∙ ap (λ (s : Settings). c.index_mut-unit.result.now.accesses ++ serve_accesses c.self.inside.profile.limit (own s c.args.pool) (met_function c.index_mut-unit.result.now c.serve_queue_live.new.unit) c.args.queue) c.deref.ensures
    ∙ ap (λ (d : TracedWorld). c.index_mut-unit.result.now.accesses ++ serve_accesses d.world.profile.limit (own d.world.settings c.args.pool) (met_function c.index_mut-unit.result.now c.serve_queue_live.new.unit) c.args.queue) c.self.view_is)
