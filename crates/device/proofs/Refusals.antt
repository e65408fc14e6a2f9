-- An event that is refused leaves the world as it was, and issues no message.
use Rattle.std.proofs.Common.{◌≡◌, ℕ, Bool, true, false, List, Option, Some, None, refl, sym, ap, ◌∙◌, subst, true≢false, ltb, length}
use Rattle.std.proofs.lemmas.List.{set-get_or}
use Rattle.std.specs.Prelude.{slice_set, if◌then◌else◌}
use Rattle.irq_causes.specs.Messages.{no_messages}
use Rattle.wire_frame.specs.declared.fault.Fault.{Fault}
use Rattle.tx_desc.specs.declared.outcome.Fetched.{Fetched}
use Rattle.tx_desc.specs.declared.outcome.Fetched.TheVariants.{Frame}
use Rattle.vf_unit.specs.declared.registers.Queue.{Queue}
use Rattle.irq_causes.specs.Causes.{Change}
use Rattle.vf_unit.specs.Unit.{Function, Closed, Open, serviced}
use Rattle.pool_filter.specs.Own.{OwnSettings, own, port_vlan_of}
use Rattle.anti_spoof.specs.Permitted.{permitted}
use Rattle.device.specs.Limits.{PF_SPACE}
use Rattle.device.specs.Events.{Event}
use Rattle.device.specs.declared.event.Event.TheVariants.{MemRead, Serve, Flr, PfRead, PfWrite, PfReset, Wire}
use Rattle.device.specs.Replies.{Reply, is_done}
use Rattle.device.specs.declared.event.Reply.TheVariants.{Done, Idle, Refused}
use Rattle.device.specs.Act.{Service, performed, unless_refused, refusal, act, concluded, unserved, serve, is_bad_offset}
use Rattle.device.specs.World.{World, Stepped, function_of, with_function, own_step, flagged, service, served, step}
use Rattle.device.proofs.Arrivals.{raised_nothing}
use Rattle.device.proofs.Owners.{owner}

abbrev is_refused : Reply → Bool
is_refused (Refused n) = true
is_refused _ = false

not_refused : {X : Type 0} (r : Reply) → is_refused r ≡ false → is_refused r ≡ true → X
not_refused r other is = absurd (true≢false (sym is ∙ other))

-- ---- one function's own events

performed_replies : (f : Function) (e : Event) → is_refused (performed f e).reply ≡ false
performed_replies f (MemRead p at count) = refl
performed_replies f _ = refl

unless_refused_keeps : (why : Option Fault) (f : Function) (e : Event) → is_refused (unless_refused why f e).reply ≡ true
    → ((unless_refused why f e).function ≡ f) × ((unless_refused why f e).messages ≡ 0)
unless_refused_keeps (Some fault) f e is = (refl, refl)
unless_refused_keeps None f e is = not_refused (performed f e).reply (performed_replies f e) is

act_keeps : (f : Function) (e : Event) → is_refused (act f e).reply ≡ true → ((act f e).function ≡ f) × ((act f e).messages ≡ 0)
unfolding act
act_keeps f e is = unless_refused_keeps (refusal f e) f e is

-- ---- a service: whatever came of a descriptor, it is no refusal

sent_or_dropped : (o : OwnSettings) (c : Change Function) (frame : List ℕ) (may : Bool) → permitted o frame ≡ may → is_refused (concluded o c (Some (Frame frame))).reply ≡ false
sent_or_dropped o c frame true is = rw is refl
sent_or_dropped o c frame false is = rw is refl

concluded_replies : (o : OwnSettings) (c : Change Function) (came : Fetched) → is_refused (concluded o c (Some came)).reply ≡ false
concluded_replies o c (Frame frame) = sent_or_dropped o c frame _ refl
concluded_replies o c _ = refl

-- and no more is it where the function may not transmit
attempt_replies : (may : Bool) (o : OwnSettings) (c : Change Function) (came : Fetched) (f : Function) → is_refused (if may then concluded o c (Some came) else unserved f Idle).reply ≡ false
attempt_replies true o c came f = concluded_replies o c came
attempt_replies false o c came f = refl

-- a service that is refused leaves the function as it was
record Kept (f : Function) (s : Service) : Type 0 where
  function : s.function ≡ f
  messages : s.messages ≡ 0
  sent : s.sent ≡ None

serve_keeps : (limit : ℕ) (o : OwnSettings) (f : Function) (q : Queue) → is_refused (serve limit o f q).reply ≡ true → Kept f (serve limit o f q)
unfolding serve
serve_keeps limit o (Closed size) q = λ is. record { function = refl; messages = refl; sent = refl }
serve_keeps limit o (Open s) q = not_refused (serve limit o (Open s) q).reply (attempt_replies o.may_transmit o (serviced limit (port_vlan_of o.port_vlan) (Open s) q) _ (Open s))

-- ---- the world

abbrev IsKept : World → Stepped → Type 0
IsKept w s = (s.world ≡ w) × (s.answer.raised ≡ no_messages)

-- a function put back where it was taken from
put_back : (w : World) (p : ℕ) (f : Function) → f ≡ function_of p w → with_function w p f ≡ w
put_back w p f same =
    let functions : slice_set w.functions p f ≡ w.functions = ap (slice_set w.functions p) same ∙ set-get_or w.functions p (Closed 0) in
    λ i. record { profile = w.profile; settings = w.settings; resets = w.resets; functions = functions i; wire = w.wire; unclaimed = w.unclaimed }

raised_none : (p messages : ℕ) → messages ≡ 0 → slice_set no_messages p messages ≡ no_messages
raised_none p messages none = ap (slice_set no_messages p) none ∙ raised_nothing p

own_keeps : (w : World) (p : ℕ) (e : Event) (inside : Bool) → ltb p (length w.functions) ≡ inside → is_refused (own_step w p e).answer.reply ≡ true → IsKept w (own_step w p e)
own_keeps w p e true here = rw here (λ is.
    let a : ((act (function_of p w) e).function ≡ function_of p w) × ((act (function_of p w) e).messages ≡ 0) = act_keeps (function_of p w) e is in
    (put_back w p _ a.0, raised_none p _ a.1))
own_keeps w p e false here = rw here (λ is. (refl, refl))

-- what is flagged is done, and so not refused
done_is_no_refusal : (r : Reply) → is_done r ≡ true → is_refused r ≡ false
done_is_no_refusal (Refused n) done = sym done
done_is_no_refusal _ done = refl

flagged_keeps : (w : World) (p : ℕ) (s : Stepped) (done : Bool) → is_done s.answer.reply ≡ done → (is_refused s.answer.reply ≡ true → IsKept w s)
    → is_refused (flagged p s).answer.reply ≡ true → IsKept w (flagged p s)
flagged_keeps w p s true is h = rw is (not_refused s.answer.reply (done_is_no_refusal s.answer.reply is))
flagged_keeps w p s false is h = rw is h

served_reply : (w : World) (p : ℕ) (s : Service) (sent : Option (List ℕ)) → (served w p s sent).answer.reply ≡ s.reply
served_reply w p s None = refl
served_reply w p s (Some frame) = refl

served_keeps : (w : World) (p : ℕ) (s : Service) → Kept (function_of p w) s → IsKept w (served w p s s.sent)
served_keeps w p s h = subst (λ sent. IsKept w (served w p s sent)) (sym h.sent) (put_back w p s.function h.function, raised_none p s.messages h.messages)

serve_step_keeps : (w : World) (p : ℕ) (q : Queue) (inside : Bool) → ltb p (length w.functions) ≡ inside → is_refused (step w (Serve p q)).answer.reply ≡ true → IsKept w (step w (Serve p q))
serve_step_keeps w p q true here = rw here (λ is.
    served_keeps w p (service w p q) (serve_keeps w.profile.limit (own w.settings p) (function_of p w) q (ap is_refused (sym (served_reply w p (service w p q) (service w p q).sent)) ∙ is)))
serve_step_keeps w p q false here = rw here (λ is. (refl, refl))

pf_read_keeps : (w : World) (offset : ℕ) (bad : Bool) → is_bad_offset PF_SPACE offset ≡ bad → is_refused (step w (PfRead offset)).answer.reply ≡ true → IsKept w (step w (PfRead offset))
pf_read_keeps w offset true is = rw is (λ _. (refl, refl))
pf_read_keeps w offset false is = rw is (λ _. (refl, refl))

pf_write_keeps : (w : World) (offset x : ℕ) (bad : Bool) → is_bad_offset PF_SPACE offset ≡ bad → is_refused (step w (PfWrite offset x)).answer.reply ≡ true → IsKept w (step w (PfWrite offset x))
pf_write_keeps w offset x true is = rw is (λ _. (refl, refl))
pf_write_keeps w offset x false is = rw is (not_refused Done refl)

wire_keeps : (w : World) (frame : List ℕ) (long : Bool) → ltb w.profile.limit (length frame) ≡ long → is_refused (step w (Wire frame)).answer.reply ≡ true → IsKept w (step w (Wire frame))
wire_keeps w frame true is = rw is (λ _. (refl, refl))
wire_keeps w frame false is = rw is (not_refused Done refl)

step_keeps : (w : World) (e : Event) → is_refused (step w e).answer.reply ≡ true → IsKept w (step w e)
step_keeps w (Serve p q) = serve_step_keeps w p q _ refl
step_keeps w (Flr p) = flagged_keeps w p (own_step w p (Flr p)) _ refl (own_keeps w p (Flr p) _ refl)
step_keeps w (PfRead offset) = pf_read_keeps w offset _ refl
step_keeps w (PfWrite offset x) = pf_write_keeps w offset x _ refl
step_keeps w PfReset = not_refused Done refl
step_keeps w (Wire frame) = wire_keeps w frame _ refl
step_keeps w e = own_keeps w (owner e) e _ refl

-- ---- the law

pub refused_keeps_world : (w : World) (e : Event) (n : ℕ) → (step w e).answer.reply ≡ Refused n → (step w e).world ≡ w
refused_keeps_world w e n is = (step_keeps w e (ap is_refused is)).0

pub refused_tells_nobody : (w : World) (e : Event) (n : ℕ) → (step w e).answer.reply ≡ Refused n → (step w e).answer.raised ≡ no_messages
refused_tells_nobody w e n is = (step_keeps w e (ap is_refused is)).1
