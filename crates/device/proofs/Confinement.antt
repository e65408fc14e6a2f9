-- Where the settings keep a group apart, its own events leave nothing for a function outside.
use Rattle.std.proofs.Common.{◌≡◌, ℕ, ◌<◌, ◌≤◌, Bool, true, false, ◌&&◌, List, [], ◌∷◌, Option, Some, None, is_some, refl, sym, ap, ◌∙◌, subst, arith, eqb, ltb, eqb-true, true≢false, length}
use Rattle.std.proofs.lemmas.Bool.{ltb-true}
use Rattle.std.specs.Prelude.{◌==◌, if◌then◌else◌}
use Rattle.std.specs.Option.{unwrap_or}
use Rattle.wire_frame.specs.declared.vlan.PortVlan.{PortVlan}
use Rattle.wire_frame.specs.declared.vlan.PortVlan.TheVariants.{Descriptor, Always, Never}
use Rattle.tx_desc.specs.declared.outcome.Fetched.{Fetched}
use Rattle.tx_desc.specs.declared.outcome.Fetched.TheVariants.{Idle, Frame}
use Rattle.tx_desc.proofs.PortTagsWith.{bears_port_tag_with as fetched_bears_port_tag}
use Rattle.irq_causes.specs.Causes.{Change}
use Rattle.vf_unit.specs.declared.registers.Queue.{Queue}
use Rattle.vf_unit.specs.Function.{transmit_of}
use Rattle.vf_unit.specs.Unit.{Function, Closed, Open as Opened, is_open, serviced, service_outcome}
use Rattle.pool_filter.specs.Own.{OwnSettings, own, port_vlan_of}
use Rattle.anti_spoof.specs.Permitted.{permitted}
use Rattle.local_switch.specs.declared.ways.Source.TheVariants.{Pool}
use Rattle.local_switch.specs.Switch.{is_for_pool}
use Rattle.device.specs.Events.{Event}
use Rattle.device.specs.declared.event.Event.TheVariants.{Serve, PfRead, PfWrite, PfReset, Wire}
use Rattle.device.specs.Act.{Service, serve, concluded}
use Rattle.device.specs.World.{World, function_of, sent_by, step}
use Rattle.device.specs.Lone.{OwnEvent, Offer, kept, kept_sent}
use Rattle.device.specs.Erased.{is_groups, bears_port_tag, may_send, IsApart, StaysApart, IsConfined}
use Rattle.device.proofs.NextSettings.{settings_stepped}
use Rattle.device.proofs.Owners.{owner}
use Rattle.device.proofs.Shape.{step_shape}

-- ---- a service

-- what is fetched under a port VLAN bears its tag
service_bears : (limit : ℕ) (rule : PortVlan) (f : Function) (k : Queue) (frame : List ℕ) → service_outcome limit rule f k ≡ Some (Frame frame) → bears_port_tag rule frame ≡ true
service_bears limit Descriptor f k frame is = refl
service_bears limit Never f k frame is = refl
service_bears limit (Always tag) (Closed size) k frame is = absurd (true≢false (sym (ap is_some is)))
service_bears limit (Always tag) (Opened s) k frame is =
    fetched_bears_port_tag limit tag s.offloads s.memory (transmit_of s k).ring (transmit_of s k).sending frame (ap (λ o. unwrap_or o Idle) is)

frame_unkept : (w : World) (q r : ℕ) (o : OwnSettings) (c : Change Function) (frame : List ℕ) (b : Bool) → permitted o frame ≡ b
    → (permitted o frame ≡ true → is_for_pool w.settings (Pool q) frame r ≡ false)
    → kept_sent w q r (concluded o c (Some (Frame frame))).sent ≡ None
frame_unkept w q r o c frame true is away = rw is (ap (λ b. if b then Some (Offer frame true) else None) (away is))
frame_unkept w q r o c frame false is away = rw is refl

concluded_unkept : (w : World) (q r : ℕ) (o : OwnSettings) (c : Change Function) (t : Option Fetched)
    → ((frame : List ℕ) → t ≡ Some (Frame frame) → permitted o frame ≡ true → is_for_pool w.settings (Pool q) frame r ≡ false)
    → kept_sent w q r (concluded o c t).sent ≡ None
concluded_unkept w q r o c (Some (Frame frame)) away = frame_unkept w q r o c frame _ refl (away frame refl)
concluded_unkept w q r o c _ away = refl

if_unkept : (w : World) (q r : ℕ) (b : Bool) (x y : Service) → (b ≡ true → kept_sent w q r x.sent ≡ None) → kept_sent w q r y.sent ≡ None → kept_sent w q r (if b then x else y).sent ≡ None
if_unkept w q r true x y one other = one refl
if_unkept w q r false x y one other = other

all_three : (a b c : Bool) → a ≡ true → b ≡ true → c ≡ true → (a && (b && c)) ≡ true
all_three a b c e f g = λ i. e i && (f i && g i)

serve_unkept : (w : World) (q r limit : ℕ) (o : OwnSettings) (f : Function) (k : Queue)
    → ((frame : List ℕ) → may_send o frame ≡ true → is_for_pool w.settings (Pool q) frame r ≡ false)
    → kept_sent w q r (serve limit o f k).sent ≡ None
unfolding serve
serve_unkept w q r limit o f k away =
    let rule : PortVlan = port_vlan_of o.port_vlan in
    if_unkept w q r (is_open f) _ _
    (λ opened. if_unkept w q r o.may_transmit _ _
    (λ may. concluded_unkept w q r o (serviced limit rule f k) (service_outcome limit rule f k)
    (λ frame is passes. away frame (all_three _ _ _ may passes (service_bears limit rule f k frame is))))
    refl)
    refl

sent_unkept : (group : ℕ → Bool) (w : World) (q r : ℕ) (k : Queue) (inside : Bool) → length w.functions ≤ 64 → r < 64 → ltb q (length w.functions) ≡ inside
    → group q ≡ true → group r ≡ false → IsApart group w.settings
    → kept_sent w q r (sent_by w (Serve q k)) ≡ None
sent_unkept group w q r k true few small is here there apart =
    let below : q < length w.functions = ltb-true q (length w.functions) is in
    let small' : q < 64 = omega arith in
    rw is (serve_unkept w q r w.profile.limit (own w.settings q) (function_of q w) k (λ frame may. apart q r frame small' small here there may))
sent_unkept group w q r k false few small is here there apart = rw is refl

-- ---- any event of the group's own

numbers_differ : (group : ℕ → Bool) (q r : ℕ) (same : Bool) → group q ≡ true → group r ≡ false → eqb q r ≡ same → same ≡ false
numbers_differ group q r true here there is = absurd (true≢false (sym here ∙ ap group (eqb-true q r is) ∙ there))
numbers_differ group q r false here there is = refl

not_own : (group : ℕ → Bool) (q r : ℕ) → group q ≡ true → group r ≡ false → eqb q r ≡ false
not_own group q r here there = numbers_differ group q r _ here there refl

others_unkept : (group : ℕ → Bool) (q r : ℕ) (e : Event) → group q ≡ true → group r ≡ false → (if q == r then Some (OwnEvent e) else None) ≡ None
others_unkept group q r e here there = ap (λ b. if b then Some (OwnEvent e) else None) (not_own group q r here there)

unkept : (group : ℕ → Bool) (w : World) (e : Event) (r : ℕ) → length w.functions ≤ 64 → r < 64 → is_groups group e ≡ true → group r ≡ false → IsApart group w.settings → kept r w e ≡ None
unkept group w (Serve q k) r few small is there apart =
    ap (λ b. if b then Some (OwnEvent (Serve q k)) else kept_sent w q r (sent_by w (Serve q k))) (not_own group q r is there)
    ∙ sent_unkept group w q r k _ few small refl is there apart
unkept group w (PfRead offset) r few small is there apart = absurd (true≢false (sym is))
unkept group w (PfWrite offset x) r few small is there apart = absurd (true≢false (sym is))
unkept group w PfReset r few small is there apart = absurd (true≢false (sym is))
unkept group w (Wire frame) r few small is there apart = absurd (true≢false (sym is))
unkept group w e r few small is there apart = others_unkept group (owner e) r e is there

pub confined : (group : ℕ → Bool) (w : World) (events : List Event) → length w.functions ≤ 64 → StaysApart group w.settings events → IsConfined group w events
confined group w [] few stays = stays
confined group w (e ∷ es) few stays = (
  λ is r small there. unkept group w e r few small is there (stays.0 is),
  confined group (step w e).world es (subst (λ n. n ≤ 64) (sym (step_shape w e).functions) few) (subst (λ s. StaysApart group s es) (sym (settings_stepped w e)) stays.1),
)
