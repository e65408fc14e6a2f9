-- Two worlds that are alike but for a group stay so: at an event of the group's own in one of them, and at any other in both.
use Rattle.std.proofs.Common.{◌≡◌, ℕ, ◌<◌, ◌≤◌, Bool, true, false, List, Option, Some, None, refl, sym, ap, ◌∙◌, subst, arith, ltb, length}
use Rattle.std.proofs.lemmas.Bool.{ltb-true}
use Rattle.std.specs.Prelude.{◌==◌, if◌then◌else◌}
use Rattle.vf_unit.specs.declared.registers.Queue.{Queue}
use Rattle.pool_filter.specs.Own.{own}
use Rattle.local_switch.specs.declared.ways.Source.TheVariants.{Wire as FromWire, Pool}
use Rattle.local_switch.specs.Switch.{is_for_pool}
use Rattle.device.specs.Events.{Event}
use Rattle.device.specs.declared.event.Event.TheVariants.{Serve, PfWrite, Wire}
use Rattle.device.specs.Act.{serve}
use Rattle.device.specs.World.{World, function_of, sent_by, step}
use Rattle.device.specs.Lone.{Item, OwnEvent, Offer, Observation, Lone, lone_of, kept, kept_sent, changed_settings, seen_of}
use Rattle.device.specs.Erased.{is_groups, settings_then, AlikeOutside}
use Rattle.device.proofs.NextSettings.{settings_stepped, groups_leave_settings}
use Rattle.device.proofs.Steps.{Follows, step_follows}
use Rattle.device.proofs.Shape.{SameShape, step_shape}

-- ---- worlds that are alike but for the group

pub alike_itself : (group : ℕ → Bool) (w : World) → AlikeOutside group w w
alike_itself group w = record { profile = refl; settings = refl; count = refl; functions = λ r below there. refl }

pub alike_lone : (group : ℕ → Bool) (w v : World) → AlikeOutside group w v → (r : ℕ) → r < length w.functions → group r ≡ false → lone_of r w ≡ lone_of r v
alike_lone group w v a r below there = λ i. record { profile = a.profile i; function = a.functions r below there i; settings = own (a.settings i) r }

follow_none : (s : Lone) (seen : Option Observation) (after : Lone) (k : Option Item) → k ≡ None → Follows s seen after k → after ≡ s
follow_none s seen after k none h = (subst (Follows s seen after) none h).1

follow_same : (s : Lone) (seen seen' : Option Observation) (after after' : Lone) (k : Option Item) → Follows s seen after k → Follows s seen' after' k → after ≡ after'
follow_same s seen seen' after after' None h h' = h.1 ∙ sym h'.1
follow_same s seen seen' after after' (Some k) h h' = h.1 ∙ sym h'.1

-- after an event of the group, of which nothing is kept outside
pub alike_groups : (group : ℕ → Bool) (w v : World) (e : Event) → length w.functions ≤ 64 → AlikeOutside group w v → is_groups group e ≡ true
    → ((r : ℕ) → r < 64 → group r ≡ false → kept r w e ≡ None) → AlikeOutside group (step w e).world v
alike_groups group w v e few a is none =
    let shape : SameShape w (step w e).world = step_shape w e in
    record {
      profile = shape.profile ∙ a.profile;
      settings = settings_stepped w e ∙ groups_leave_settings group w.settings e is ∙ a.settings;
      count = shape.functions ∙ a.count;
      functions = λ r below there.
          let here : r < length w.functions = subst (λ n. r < n) shape.functions below in
          ap (λ (s : Lone). s.function) (follow_none (lone_of r w) (seen_of r e (step w e).answer) (lone_of r (step w e).world) (kept r w e) (none r (omega arith) there) (step_follows r w e here (omega arith)))
          ∙ a.functions r here there;
    }

-- ---- an event of others, in both worlds

sent_alike : (group : ℕ → Bool) (w v : World) (q : ℕ) (k : Queue) (inside : Bool) → AlikeOutside group w v → group q ≡ false → ltb q (length w.functions) ≡ inside → sent_by w (Serve q k) ≡ sent_by v (Serve q k)
sent_alike group w v q k true a there is =
    let f : function_of q w ≡ function_of q v = a.functions q (ltb-true q (length w.functions) is) there in
    rw (is, sym (ap (ltb q) a.count) ∙ is) (λ i. (serve (a.profile i).limit (own (a.settings i) q) (f i) k).sent)
sent_alike group w v q k false a there is = rw (is, sym (ap (ltb q) a.count) ∙ is) refl

kept_sent_alike : (w v : World) (q p : ℕ) (o : Option (List ℕ)) → w.settings ≡ v.settings → kept_sent w q p o ≡ kept_sent v q p o
kept_sent_alike w v q p None same = refl
kept_sent_alike w v q p (Some frame) same = ap (λ s. if is_for_pool s (Pool q) frame p then Some (Offer frame true) else None) same

pub kept_alike : (group : ℕ → Bool) (w v : World) (e : Event) (p : ℕ) → AlikeOutside group w v → is_groups group e ≡ false → kept p w e ≡ kept p v e
kept_alike group w v (Serve q k) p a is =
    ap (λ o. if q == p then Some (OwnEvent (Serve q k)) else o)
    (ap (kept_sent w q p) (sent_alike group w v q k _ a is refl) ∙ kept_sent_alike w v q p (sent_by v (Serve q k)) a.settings)
kept_alike group w v (PfWrite offset x) p a is =
    let after : (step w (PfWrite offset x)).world.settings ≡ (step v (PfWrite offset x)).world.settings =
    settings_stepped w (PfWrite offset x) ∙ ap (λ s. settings_then s (PfWrite offset x)) a.settings ∙ sym (settings_stepped v (PfWrite offset x)) in
    λ i. changed_settings (own (a.settings i) p) (own (after i) p)
kept_alike group w v (Wire frame) p a is =
    λ i. if ltb (a.profile i).limit (length frame) then None else (if is_for_pool (a.settings i) FromWire frame p then Some (Offer frame false) else None)
kept_alike group w v _ p a is = refl

pub alike_others : (group : ℕ → Bool) (w v : World) (e : Event) → length w.functions ≤ 64 → AlikeOutside group w v → is_groups group e ≡ false → AlikeOutside group (step w e).world (step v e).world
alike_others group w v e few a is =
    let shape : SameShape w (step w e).world = step_shape w e in
    let shape' : SameShape v (step v e).world = step_shape v e in
    record {
      profile = shape.profile ∙ a.profile ∙ sym shape'.profile;
      settings = settings_stepped w e ∙ ap (λ s. settings_then s e) a.settings ∙ sym (settings_stepped v e);
      count = shape.functions ∙ a.count ∙ sym shape'.functions;
      functions = λ r below there.
          let here : r < length w.functions = subst (λ n. r < n) shape.functions below in
          let here' : r < length v.functions = subst (λ n. r < n) a.count here in
          let same : lone_of r w ≡ lone_of r v = alike_lone group w v a r here there in
          let first : Follows (lone_of r w) (seen_of r e (step w e).answer) (lone_of r (step w e).world) (kept r w e) = step_follows r w e here (omega arith) in
          let second : Follows (lone_of r v) (seen_of r e (step v e).answer) (lone_of r (step v e).world) (kept r v e) = step_follows r v e here' (omega arith) in
          let second' : Follows (lone_of r w) (seen_of r e (step v e).answer) (lone_of r (step v e).world) (kept r w e) =
          subst (λ k. Follows (lone_of r w) (seen_of r e (step v e).answer) (lone_of r (step v e).world) k) (sym (kept_alike group w v e r a is))
          (subst (λ s. Follows s (seen_of r e (step v e).answer) (lone_of r (step v e).world) (kept r v e)) (sym same) second) in
          ap (λ (s : Lone). s.function) (follow_same (lone_of r w) (seen_of r e (step w e).answer) (seen_of r e (step v e).answer) (lone_of r (step w e).world) (lone_of r (step v e).world) (kept r w e) first second');
    }
