-- Each function got what the switch gives it, with what its memory answered, and the wire the frame where it leaves.
use Rattle.std.proofs.Common.{◌≡◌, ◌≤◌, ◌<◌, ◌++◌, ◌∷◌, [], List, Bool, refl, ap, sym, ◌∙◌, subst, length, ℕ}
use Rattle.std.specs.Prelude.{if◌then◌else◌}
use Rattle.std.specs.Vec.{with_items}
use Rattle.std.proofs.lemmas.List.{with_items_is}
use Rattle.circular_buffer.specs.Buffer.{keep_last}
use Rattle.wire_frame.specs.Bits.{has_bit}
use Rattle.vf_unit.specs.Unit.{TracedFunction}
use Rattle.pool_filter.specs.Settings.{Settings}
use Rattle.local_switch.specs.Switch.{leaves, receives}
use Rattle.device.specs.World.{switched, is_unclaimed, one_more_at, place_of, all_raised, sizes_of}
use Rattle.device.specs.Accesses.{arrived_accesses}
use Rattle.device.specs.Live.{TracedWorld, told_functions, told_world, AreListed, AreMet}
use Rattle.device.proofs.Arrivals.{nobody_got, switched_as}
use Rattle.device.proofs.Called.{Base, world_with}
use Rattle.device.proofs.Deliveries.{Delivers, Receivers, came, heard, listed, met, sizes}
use Rattle.device.proofs.Views.{functions_of, traces_of}
use Rattle.device.proofs.device.Device.switch.Goals as goal
use Rattle.device.proofs.device.Device.switch.Given as given

abbrev base : (g : given.Over) (c : goal.After-self-1 g) → Base
base g c = record { profile = c.self.inside.profile; settings = c.self.inside.tables.value; resets = c.self.inside.resets; wire = c.self.inside.wire.frames; unclaimed = c.self.inside.unclaimed }

-- the functions afterwards
abbrev after : (g : given.Over) (c : goal.After-self-1 g) → List TracedFunction
after g c = (with_items c.self.inside.units c.deliver_to_all.new.units).items

abbrev delivers : (g : given.Over) (c : goal.After-self-1 g) → Delivers g.D.Dma.shared c.is_looped-loopback.result c.args.frame.bytes.now c.route_frame-route.result.local c.self.inside.units.items (after g c) c.deliver_to_all.result
delivers g c =
    subst (λ (vs : List TracedFunction). Delivers g.D.Dma.shared c.is_looped-loopback.result c.args.frame.bytes.now c.route_frame-route.result.local c.self.inside.units.items vs c.deliver_to_all.result)
    (sym (with_items_is c.self.inside.units c.deliver_to_all.new.units (c.deliver_to_all.ensures.same_length ∙ c.deref_mut.ensures.len)))
    (subst (λ (us : List TracedFunction). Delivers g.D.Dma.shared c.is_looped-loopback.result c.args.frame.bytes.now c.route_frame-route.result.local us c.deliver_to_all.new.units c.deliver_to_all.result) c.deref_mut.ensures.value
    (record {
      offers = c.deliver_to_all.ensures.offers;
      none = c.deliver_to_all.ensures.none_there;
      same_length = c.deliver_to_all.ensures.same_length;
      pools = c.deliver_to_all.ensures.pools;
      few = subst (λ (us : List TracedFunction). length us ≤ 64) (sym c.deref_mut.ensures.value) c.self.invariant.0;
    }))

abbrev receivers : (g : given.Over) (c : goal.After-self-1 g) → Receivers c.self.inside.tables.value c.args.from c.args.frame.bytes.now c.is_looped-loopback.result c.route_frame-route.result.local
receivers g c = record {
  looped = c.is_looped-loopback.ensures;
  are = subst (λ (t : Settings). (p : ℕ) → p < 64 → has_bit c.route_frame-route.result.local p ≡ receives t c.args.from c.args.frame.bytes.now p) c.deref.ensures c.route_frame-route.ensures.local;
}

-- the counts of those that nobody got
counted : (g : given.Over) (c : goal.After-self-1 g) → c.add_where.new.self ≡ (if is_unclaimed c.self.inside.tables.value c.args.from c.args.frame.bytes.now then one_more_at (place_of c.args.from) c.self.inside.unclaimed else c.self.inside.unclaimed)
counted g c =
    c.add_where.ensures
    ∙ ap (λ (nobody : Bool). if nobody then one_more_at (place_of c.args.from) c.self.inside.unclaimed else c.self.inside.unclaimed)
    (nobody_got c.self.inside.tables.value c.args.from c.args.frame.bytes.now c.route_frame-route.result.local c.route_frame-route.result.wire c.reaches_nobody.result c.reaches_nobody.ensures.fits (receivers g c).are
    (c.route_frame-route.ensures.wire ∙ ap (λ (t : Settings). leaves t c.args.from c.args.frame.bytes.now) c.deref.ensures) c.reaches_nobody.ensures.nobody)

pub returns-clause-world : goal.returns-clause-world
returns-clause-world g c =
    let s = c.self.inside.tables.value in
    let from = c.args.from in
    let frame = c.args.frame.bytes.now in
    let out = c.self.inside.wire.frames in
    let wire : c.push_where.new.self.frames ≡ (if leaves s from frame then keep_last 1024 (out ++ frame ∷ []) else out) =
    c.push_where.ensures.frames ∙ ap (λ b. if b then keep_last 1024 (out ++ frame ∷ []) else out) (c.route_frame-route.ensures.wire ∙ ap (λ t. leaves t from frame) c.deref.ensures) in
    subst (λ (d : TracedWorld). record { profile = c.self.inside.profile; settings = s; resets = c.self.inside.resets; functions = functions_of (after g c); wire = c.push_where.new.self.frames; unclaimed = c.add_where.new.self } ≡ switched (told_world d.accesses (traces_of (after g c)) d.world) from frame) c.self.view_is
    (switched_as (told_world (traces_of c.self.inside.units.items) (traces_of (after g c)) (world_with (base g c) c.self.inside.units.items)) from frame (functions_of (after g c)) c.push_where.new.self.frames c.add_where.new.self
    (came g.D.Dma.shared c.is_looped-loopback.result frame c.route_frame-route.result.local c.self.inside.units.items (after g c) c.deliver_to_all.result s from (delivers g c) (receivers g c)) wire (counted g c))

pub returns-clause-messages : goal.returns-clause-messages
returns-clause-messages g c =
    subst (λ (d : TracedWorld). c.deliver_to_all.result ≡ all_raised d.world.settings (told_functions d.accesses (traces_of (after g c)) d.world.functions) c.args.from c.args.frame.bytes.now) c.self.view_is
    (heard g.D.Dma.shared c.is_looped-loopback.result c.args.frame.bytes.now c.route_frame-route.result.local c.self.inside.units.items (after g c) c.deliver_to_all.result c.self.inside.tables.value c.args.from (delivers g c) (receivers g c))

pub returns-clause-listed : goal.returns-clause-listed
returns-clause-listed g c =
    subst (λ (d : TracedWorld). AreListed (arrived_accesses d.world.settings (told_functions d.accesses (traces_of (after g c)) d.world.functions) c.args.from c.args.frame.bytes.now) d.accesses (traces_of (after g c))) c.self.view_is
    (listed g.D.Dma.shared c.is_looped-loopback.result c.args.frame.bytes.now c.route_frame-route.result.local c.self.inside.units.items (after g c) c.deliver_to_all.result c.self.inside.tables.value c.args.from (delivers g c) (receivers g c))

pub returns-clause-met : goal.returns-clause-met
returns-clause-met g c =
    subst (λ (d : TracedWorld). AreMet g.D.Dma.shared d.accesses (traces_of (after g c)) d.world) c.self.view_is
    (met g.D.Dma.shared c.is_looped-loopback.result c.args.frame.bytes.now c.route_frame-route.result.local c.self.inside.units.items (after g c) c.deliver_to_all.result (world_with (base g c) c.self.inside.units.items) refl (delivers g c))

pub returns-clause-sizes : goal.returns-clause-sizes
returns-clause-sizes g c =
    sizes g.D.Dma.shared c.is_looped-loopback.result c.args.frame.bytes.now c.route_frame-route.result.local c.self.inside.units.items (after g c) c.deliver_to_all.result (delivers g c) ∙ ap (λ (d : TracedWorld). sizes_of d.world) c.self.view_is

pub returns-clause-left : goal.returns-clause-left
returns-clause-left g c =
    c.route_frame-route.ensures.wire ∙ ap (λ (t : Settings). leaves t c.args.from c.args.frame.bytes.now) c.deref.ensures ∙ ap (λ (d : TracedWorld). leaves d.world.settings c.args.from c.args.frame.bytes.now) c.self.view_is
