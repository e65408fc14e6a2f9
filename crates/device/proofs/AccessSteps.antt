-- The accesses of an event to a function's memory are those of the lone function that is given what is kept of the event.
use Rattle.std.proofs.Common.{◌≡◌, ◌≢◌, ◌⊎◌, inl, inr, ℕ, Bool, true, false, ◌&&◌, nat_lt, eqb, List, [], ◌++◌, Option, Some, None, length, append-nil, refl, sym, ap, ◌∙◌}
use Rattle.std.specs.Prelude.{if◌then◌else◌}
use Rattle.std.specs.List.{cons_option}
use Rattle.std.proofs.lemmas.Bool.Decides.{eqb_tells}
use Rattle.live_memory.specs.Trace.{Access}
use Rattle.vf_unit.specs.declared.registers.Queue.{Queue}
use Rattle.vf_unit.specs.Unit.{given_accesses}
use Rattle.pool_filter.specs.Settings.{Settings}
use Rattle.pool_filter.specs.Accepts.{may_receive}
use Rattle.pool_filter.specs.Own.{OwnSettings, own, same_settings}
use Rattle.local_switch.specs.declared.ways.Source.{Source}
use Rattle.local_switch.specs.declared.ways.Source.TheVariants.{Wire as FromWire, Pool}
use Rattle.local_switch.specs.Switch.{is_for_pool, receives}
use Rattle.device.specs.Events.{Event}
use Rattle.device.specs.declared.event.Event.TheVariants.{Open, MemRead, MemWrite, Serve, PfWrite, PfReset, Wire}
use Rattle.device.specs.Act.{act_accesses, serve_accesses}
use Rattle.device.specs.World.{World, function_of, is_looped, sent_by, step}
use Rattle.device.specs.Accesses.{accesses_by, arrived_accesses, sent_accesses}
use Rattle.device.specs.Lone.{Item, OwnEvent, NewSettings, Offer, Lone, lone_of, is_own, kept, kept_frame, kept_sent, changed_settings}
use Rattle.device.specs.LoneAccesses.{made_by_own, made_by, lone_made}
use Rattle.device.proofs.LiveServes.{not_for_sender}

-- what is made of what is kept, if anything is
abbrev made : Lone → Option Item → List Access
made s None = []
made s (Some k) = made_by s k

made_of : (s : Lone) (k : Option Item) → made s k ≡ lone_made s (cons_option k [])
made_of s None = refl
made_of s (Some k) = sym (append-nil (made_by s k))

flip : (p q : ℕ) → eqb p q ≡ eqb q p
flip p q = at (eqb_tells p q) (eqb_tells q p)
  where
    at : ((eqb p q ≡ true) × (p ≡ q)) ⊎ ((eqb p q ≡ false) × (p ≢ q)) → ((eqb q p ≡ true) × (q ≡ p)) ⊎ ((eqb q p ≡ false) × (q ≢ p)) → eqb p q ≡ eqb q p
    at (inl one) (inl other) = one.0 ∙ sym other.0
    at (inl one) (inr other) = absurd (other.1 (sym one.1))
    at (inr one) (inl other) = absurd (one.1 (sym other.1))
    at (inr one) (inr other) = one.0 ∙ sym other.0

-- ---- an event of a function's own

-- one that accesses no memory
quiet : (s : Lone) (e : Event) (mine : Bool) → made_by_own s e ≡ [] → [] ≡ made s (if mine then Some (OwnEvent e) else None)
quiet s e true none = sym none
quiet s e false none = refl

-- one that opens the function, or reads or writes its memory
mine_made : (s : Lone) (e : Event) (mine : Bool) → (if mine then made_by_own s e else []) ≡ made s (if mine then Some (OwnEvent e) else None)
mine_made s e true = refl
mine_made s e false = refl

-- ---- a frame that comes

own_may_receive : (s : Settings) (p : ℕ) → may_receive s p ≡ (own s p).may_receive
unfolding own
own_may_receive s p = refl

arrived_made : (p : ℕ) (w : World) (from : Source) (frame : List ℕ) → arrived_accesses w.settings w.functions from frame p ≡ made (lone_of p w) (kept_frame w from p frame)
unfolding receives
arrived_made p w from frame = by (is_for_pool w.settings from frame p)
  where
    by : (mine : Bool) → (if mine && may_receive w.settings p then given_accesses (is_looped from) frame (function_of p w) else []) ≡ made (lone_of p w) (if mine then Some (Offer frame (is_looped from)) else None)
    by true = ap (λ (b : Bool). if b then given_accesses (is_looped from) frame (function_of p w) else []) (own_may_receive w.settings p)
    by false = refl

-- ---- a service

-- the sender gets nothing of what it sent
sender_made : (w : World) (p : ℕ) (sent : Option (List ℕ)) → sent_accesses w p sent p ≡ []
sender_made w p None = refl
sender_made w p (Some frame) = ap (λ (b : Bool). if b then given_accesses true frame (function_of p w) else []) (not_for_sender w.settings p frame)

others_made : (w : World) (p q : ℕ) (sent : Option (List ℕ)) → sent_accesses w q sent p ≡ made (lone_of p w) (kept_sent w q p sent)
others_made w p q None = refl
others_made w p q (Some frame) = arrived_made p w (Pool q) frame

serve_made : (p : ℕ) (w : World) (q : ℕ) (queue : Queue) → accesses_by w (Serve q queue) p ≡ made (lone_of p w) (kept p w (Serve q queue))
serve_made p w q queue = at (eqb_tells q p)
  where
    at : ((eqb q p ≡ true) × (q ≡ p)) ⊎ ((eqb q p ≡ false) × (q ≢ p)) → accesses_by w (Serve q queue) p ≡ made (lone_of p w) (kept p w (Serve q queue))
    at (inl same) =
        ap (λ (b : Bool). (if b then serve_accesses w.profile.limit (own w.settings p) (function_of p w) queue else []) ++ sent_accesses w q (sent_by w (Serve q queue)) p) (flip p q ∙ same.0)
        ∙ ap (λ (k : ℕ). serve_accesses w.profile.limit (own w.settings p) (function_of p w) queue ++ sent_accesses w k (sent_by w (Serve q queue)) p) same.1
        ∙ ap (λ (t : List Access). serve_accesses w.profile.limit (own w.settings p) (function_of p w) queue ++ t) (sender_made w p (sent_by w (Serve q queue)))
        ∙ append-nil (serve_accesses w.profile.limit (own w.settings p) (function_of p w) queue)
        ∙ ap (λ (b : Bool). made (lone_of p w) (if b then Some (OwnEvent (Serve q queue)) else kept_sent w q p (sent_by w (Serve q queue)))) (sym same.0)
    at (inr other) =
        ap (λ (b : Bool). (if b then serve_accesses w.profile.limit (own w.settings p) (function_of p w) queue else []) ++ sent_accesses w q (sent_by w (Serve q queue)) p) (flip p q ∙ other.0)
        ∙ others_made w p q (sent_by w (Serve q queue))
        ∙ ap (λ (b : Bool). made (lone_of p w) (if b then Some (OwnEvent (Serve q queue)) else kept_sent w q p (sent_by w (Serve q queue)))) (sym other.0)

-- ---- the physical function's

settings_made : (s : Lone) (o n : OwnSettings) → [] ≡ made s (changed_settings o n)
settings_made s o n = by (same_settings o n)
  where
    by : (same : Bool) → [] ≡ made s (if same then None else Some (NewSettings n))
    by true = refl
    by false = refl

wire_made : (p : ℕ) (w : World) (frame : List ℕ) → accesses_by w (Wire frame) p ≡ made (lone_of p w) (kept p w (Wire frame))
wire_made p w frame = by (nat_lt w.profile.limit (length frame))
  where
    by : (long : Bool) → (if long then [] else arrived_accesses w.settings w.functions FromWire frame p) ≡ made (lone_of p w) (if long then None else kept_frame w FromWire p frame)
    by true = refl
    by false = arrived_made p w FromWire frame

-- ---- any event

event_made : (p : ℕ) (w : World) (e : Event) → accesses_by w e p ≡ made (lone_of p w) (kept p w e)
event_made p w (Open q) = ap (λ (b : Bool). if b then act_accesses (function_of p w) (Open q) else []) (flip p q) ∙ mine_made (lone_of p w) (Open q) (eqb q p)
event_made p w (MemRead q at count) = ap (λ (b : Bool). if b then act_accesses (function_of p w) (MemRead q at count) else []) (flip p q) ∙ mine_made (lone_of p w) (MemRead q at count) (eqb q p)
event_made p w (MemWrite q at bytes) = ap (λ (b : Bool). if b then act_accesses (function_of p w) (MemWrite q at bytes) else []) (flip p q) ∙ mine_made (lone_of p w) (MemWrite q at bytes) (eqb q p)
event_made p w (Serve q queue) = serve_made p w q queue
event_made p w (PfWrite offset x) = settings_made (lone_of p w) (own w.settings p) (own (step w (PfWrite offset x)).world.settings p)
event_made p w PfReset = refl
event_made p w (Wire frame) = wire_made p w frame
event_made p w e = quiet (lone_of p w) e (is_own p e) refl

pub accesses_follow : (p : ℕ) (w : World) (e : Event) → accesses_by w e p ≡ lone_made (lone_of p w) (cons_option (kept p w e) [])
accesses_follow p w e = event_made p w e ∙ made_of (lone_of p w) (kept p w e)
