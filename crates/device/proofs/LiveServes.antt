-- A service of a pool's queue, where memories answered so: of the sender's first, and then of those that get the frame.
use Rattle.std.proofs.Common.{◌≡◌, ◌≢◌, ◌≤◌, ◌<◌, ◌⊎◌, inl, inr, ℕ, Bool, true, false, eqb, nat_lt, List, [], ◌++◌, Option, Some, None, length, get_or, set, append-nil, arith, refl, sym, ap, subst, ◌∙◌}
use Rattle.std.proofs.lemmas.Bool.Decides.{eqb_tells}
use Rattle.std.proofs.lemmas.List.{get_or-set_other}
use Rattle.std.specs.Prelude.{if◌then◌else◌, slice_set, option_copied}
use Rattle.irq_causes.specs.Messages.{no_messages}
use Rattle.live_memory.specs.Trace.{Access}
use Rattle.vf_unit.specs.declared.registers.Queue.{Queue}
use Rattle.vf_unit.specs.Unit.{Function, Closed, IsMet, told_of, given_accesses, service_accesses}
use Rattle.pool_filter.specs.Own.{OwnSettings, own, port_vlan_of}
use Rattle.local_switch.specs.declared.ways.Source.TheVariants.{Wire as FromWire, Pool}
use Rattle.local_switch.specs.Switch.{leaves, receives, takes_from_pool}
use Rattle.pool_filter.specs.Settings.{Settings}
use Rattle.device.specs.declared.event.Event.TheVariants.{Serve, Wire}
use Rattle.device.specs.declared.event.Reply.TheVariants.{Refused}
use Rattle.device.specs.declared.response.Response.{Response}
use Rattle.device.specs.declared.room.Room.{Room}
use Rattle.device.specs.Act.{Service, serve_accesses}
use Rattle.device.specs.Accesses.{accesses_by, arrived_accesses, sent_accesses, own_service_accesses}
use Rattle.device.specs.Outcome.{reply_of, answer_of, sent_of, left_of, leaving}
use Rattle.device.specs.World.{World, Stepped, step, function_of, with_function, served, service, refused, switched, all_raised, sizes_of, sent_by, silently}
use Rattle.device.specs.Takes.{Takes}
use Rattle.device.specs.Live.{TracedWorld, trace_of, told_functions, told_world, told_service, AreMet, AreListed, TakesLive}
use Rattle.wire_frame.specs.Fault.{number_of}
use Rattle.wire_frame.specs.declared.fault.Fault.TheVariants.{NoSuchVf, BadFrame}
use Rattle.device.proofs.LiveLemmas.{length_told, get_told, sizes_told}
use Rattle.device.proofs.Called.{only_here, absent_listed}
use Rattle.device.proofs.LiveSteps.{set_told, service_told, told_service_later, told_in_turn}

-- a frame isn't for its sender
pub not_for_sender : (s : Settings) (p : ℕ) (frame : List ℕ) → receives s (Pool p) frame p ≡ false
unfolding receives takes_from_pool
not_for_sender s p frame = grind (arith)

there : (p : ℕ) (before now : List (List Access)) (w : World) → p < length w.functions → nat_lt p (length (told_functions before now w.functions)) ≡ true
there p before now w below = ap (nat_lt p) (length_told before now w.functions) ∙ grind (arith, below)

serve_step : (before now : List (List Access)) (w : World) (p : ℕ) (q : Queue) → p < length w.functions → step (told_world before now w) (Serve p q) ≡ served (told_world before now w) p (told_service before now w p q) (told_service before now w p q).sent
serve_step before now w p q below =
    ap (λ (b : Bool). if b then served (told_world before now w) p (service (told_world before now w) p q) (service (told_world before now w) p q).sent else refused (told_world before now w) NoSuchVf) (there p before now w below)
    ∙ ap (λ (s : Service). served (told_world before now w) p s s.sent) (service_told before now w p q)

sends : (before now : List (List Access)) (w : World) (p : ℕ) (q : Queue) → p < length w.functions → sent_by (told_world before now w) (Serve p q) ≡ (told_service before now w p q).sent
sends before now w p q below =
    ap (λ (b : Bool). if b then (service (told_world before now w) p q).sent else None) (there p before now w below)
    ∙ ap (λ (s : Service). s.sent) (service_told before now w p q)

-- no frame was sent
pub unsent_live : (shared : Bool) (before now : List (List Access)) (w after : World) (p : ℕ) (q : Queue) (taken : Response) (room : Room) (vectors : ℕ) → p < length w.functions
    → ((r : ℕ) → r ≢ p → trace_of now r ≡ trace_of before r) → AreMet shared before now w → after ≡ with_function w p (told_service before now w p q).function → sizes_of after ≡ sizes_of w
    → ((cells : List ℕ) → reply_of cells taken.outcome ≡ (told_service before now w p q).reply) → vectors ≡ (told_service before now w p q).messages → taken.messages ≡ slice_set no_messages p vectors
    → (told_service before now w p q).sent ≡ None → sent_of room taken ≡ None → left_of room taken ≡ None → TakesLive shared before now w (Serve p q) after taken room
unsent_live shared before now w after p q taken room vectors below others traced world sizes reply vectors_are messages sent none_sent none_left =
    record {
      takes = record {
        world = world ∙ sym (ap (λ (t : Stepped). t.world) is ∙ hidden);
        answer = (λ i. record { reply = reply room.bytes i; raised = (messages ∙ ap (slice_set no_messages p) vectors_are) i }) ∙ sym (ap (λ (t : Stepped). t.answer) is);
        sent = none_sent ∙ sym (sends before now w p q below ∙ sent);
        left = none_left ∙ sym (ap (leaving (told_world before now w) p) (sends before now w p q below ∙ sent));
        sizes = sizes ∙ sym (sizes_told shared before now w traced);
      };
      met = traced;
    }
  where
    is : step (told_world before now w) (Serve p q) ≡ served (told_world before now w) p (told_service before now w p q) None
    is = serve_step before now w p q below ∙ ap (served (told_world before now w) p (told_service before now w p q)) sent

    hidden : with_function (told_world before now w) p (told_service before now w p q).function ≡ with_function w p (told_service before now w p q).function
    hidden = ap (λ (fs : List Function). record w { functions = fs }) (set_told before now w.functions p (told_service before now w p q).function others)

-- ---- a frame was sent, and switched

two_traced : (shared : Bool) (first mid last : List (List Access)) (w : World) (p : ℕ) (f : Function) → ((r : ℕ) → r ≢ p → trace_of mid r ≡ trace_of first r) → trace_of last p ≡ trace_of mid p → AreMet shared first mid w → AreMet shared mid last (with_function w p f) → AreMet shared first last w
two_traced shared first mid last w p f others same one two = λ r. at r (eqb_tells r p)
  where
    at : (r : ℕ) → ((eqb r p ≡ true) × (r ≡ p)) ⊎ ((eqb r p ≡ false) × (r ≢ p)) → IsMet shared (function_of r w) (trace_of first r) (trace_of last r)
    at r (inl is) = subst (IsMet shared (function_of r w) (trace_of first r)) (ap (trace_of mid) is.1 ∙ sym same ∙ ap (trace_of last) (sym is.1)) (one r)
    at r (inr other) =
        subst (λ (t : List Access). IsMet shared (function_of r w) t (trace_of last r)) (others r other.1)
        (subst (λ (g : Function). IsMet shared g (trace_of mid r) (trace_of last r)) (get_or-set_other w.functions p r f (Closed 0) other.1) (two r))

pub sent_live : (shared : Bool) (first mid last : List (List Access)) (w sender after : World) (p : ℕ) (q : Queue) (frame : List ℕ) (taken : Response) (room : Room) (raised : List ℕ) (vectors : ℕ) → p < length w.functions
    → ((r : ℕ) → r ≢ p → trace_of mid r ≡ trace_of first r) → trace_of last p ≡ trace_of mid p → AreMet shared first mid w → AreMet shared mid last sender
    → sender ≡ with_function w p (told_service first mid w p q).function → after ≡ switched (told_world mid last sender) (Pool p) frame → sizes_of sender ≡ sizes_of w → sizes_of after ≡ sizes_of sender
    → ((cells : List ℕ) → reply_of cells taken.outcome ≡ (told_service first mid w p q).reply) → vectors ≡ (told_service first mid w p q).messages
    → raised ≡ all_raised sender.settings (told_functions mid last sender.functions) (Pool p) frame → taken.messages ≡ slice_set raised p vectors
    → (told_service first mid w p q).sent ≡ Some frame → sent_of room taken ≡ Some frame → left_of room taken ≡ (if leaves sender.settings (Pool p) frame then Some frame else None)
    → TakesLive shared first last w (Serve p q) after taken room
sent_live shared first mid last w sender after p q frame taken room raised vectors below others same one two world switched_is sizes_one sizes_two reply vectors_are raised_is messages sent sent_is left_is =
    record {
      takes = record {
        world = switched_is ∙ ap (λ (v : World). switched v (Pool p) frame) in_turn ∙ sym (ap (λ (t : Stepped). t.world) is);
        answer = (λ i. record { reply = (reply room.bytes ∙ ap (λ (s : Service). s.reply) (sym later)) i; raised = told_raised i }) ∙ sym (ap (λ (t : Stepped). t.answer) is);
        sent = sent_is ∙ sym (sends first last w p q below ∙ sent_later);
        left = left_is ∙ ap (λ (v : World). if leaves v.settings (Pool p) frame then Some frame else None) world ∙ sym (ap (leaving (told_world first last w) p) (sends first last w p q below ∙ sent_later));
        sizes = sizes_two ∙ sizes_one ∙ sym (sizes_told shared first last w traced);
      };
      met = traced;
    }
  where
    later : told_service first last w p q ≡ told_service first mid w p q
    later = told_service_later first mid last w p q same

    sent_later : (told_service first last w p q).sent ≡ Some frame
    sent_later = ap (λ (s : Service). s.sent) later ∙ sent

    is : step (told_world first last w) (Serve p q) ≡ served (told_world first last w) p (told_service first last w p q) (Some frame)
    is = serve_step first last w p q below ∙ ap (served (told_world first last w) p (told_service first last w p q)) sent_later

    traced : AreMet shared first last w
    traced = two_traced shared first mid last w p (told_service first mid w p q).function others same one (subst (AreMet shared mid last) world two)

    functions : told_functions mid last sender.functions ≡ set (told_functions first last w.functions) p (told_service first last w p q).function
    functions = ap (λ (v : World). told_functions mid last v.functions) world ∙ told_in_turn first mid last w.functions p (told_service first mid w p q).function same others
        ∙ ap (λ (s : Service). set (told_functions first last w.functions) p s.function) (sym later)

    in_turn : told_world mid last sender ≡ with_function (told_world first last w) p (told_service first last w p q).function
    in_turn = λ i. record { profile = (world i).profile; settings = (world i).settings; resets = (world i).resets; functions = functions i; wire = (world i).wire; unclaimed = (world i).unclaimed }

    told_raised : taken.messages ≡ slice_set (all_raised w.settings (set (told_functions first last w.functions) p (told_service first last w p q).function) (Pool p) frame) p (told_service first last w p q).messages
    told_raised = messages ∙ (λ i. slice_set (raised_is i) p ((vectors_are ∙ ap (λ (s : Service). s.messages) (sym later)) i)) ∙ (λ i. slice_set (all_raised (world i).settings (functions i) (Pool p) frame) p (told_service first last w p q).messages)

-- ---- what is accessed

-- a frame that wasn't sent goes nowhere
pub unsent_listed : (before now : List (List Access)) (w : World) (p : ℕ) (q : Queue) → p < length w.functions → (told_service before now w p q).sent ≡ None
    → AreListed (own_service_accesses (told_world before now w) p q) before now → AreListed (accesses_by (told_world before now w) (Serve p q)) before now
unsent_listed before now w p q below none own_listed = λ r.
    own_listed r ∙ sym (ap (λ (t : List Access). trace_of before r ++ t)
    (ap (λ (o : Option (List ℕ)). own_service_accesses (told_world before now w) p q r ++ sent_accesses (told_world before now w) p o r) (sends before now w p q below ∙ none) ∙ append-nil (own_service_accesses (told_world before now w) p q r)))

-- the memories of others stay while the sender's is read
pub others_kept : (first mid : List (List Access)) (w : World) (p : ℕ) (q : Queue) → AreListed (own_service_accesses w p q) first mid → (r : ℕ) → r ≢ p → trace_of mid r ≡ trace_of first r
others_kept first mid w p q own_listed r other = own_listed r ∙ ap (λ (t : List Access). trace_of first r ++ t) (only_here p r _ other) ∙ append-nil (trace_of first r)

-- and the sender's while the frame comes to others
pub sender_kept : (mid last : List (List Access)) (s : Settings) (fs : List Function) (p : ℕ) (frame : List ℕ) → AreListed (arrived_accesses s fs (Pool p) frame) mid last → trace_of last p ≡ trace_of mid p
sender_kept mid last s fs p frame all =
    all p ∙ ap (λ (b : Bool). trace_of mid p ++ (if b then given_accesses true frame (get_or fs p (Closed 0)) else [])) (not_for_sender s p frame) ∙ append-nil (trace_of mid p)

-- a frame that was sent comes to those that receive it, after the sender's memory was read
pub sent_listed : (first mid last : List (List Access)) (w sender : World) (p : ℕ) (q : Queue) (frame : List ℕ) → p < length w.functions
    → AreListed (own_service_accesses (told_world first mid w) p q) first mid → AreListed (arrived_accesses sender.settings (told_functions mid last sender.functions) (Pool p) frame) mid last
    → sender ≡ with_function w p (told_service first mid w p q).function → (told_service first mid w p q).sent ≡ Some frame → AreListed (accesses_by (told_world first last w) (Serve p q)) first last
sent_listed first mid last w sender p q frame below own_listed all world sent = λ r. at r (eqb_tells r p)
  where
    same : trace_of last p ≡ trace_of mid p
    same = sender_kept mid last sender.settings (told_functions mid last sender.functions) p frame all

    sent_later : sent_by (told_world first last w) (Serve p q) ≡ Some frame
    sent_later = sends first last w p q below ∙ ap (λ (s : Service). s.sent) (told_service_later first mid last w p q same) ∙ sent

    met_later : function_of p (told_world first mid w) ≡ function_of p (told_world first last w)
    met_later = get_told first mid w.functions p ∙ ap (λ (t : List Access). told_of (trace_of first p) t (function_of p w)) (sym same) ∙ sym (get_told first last w.functions p)

    by_sent : (r : ℕ) → accesses_by (told_world first last w) (Serve p q) r ≡ own_service_accesses (told_world first last w) p q r ++ arrived_accesses w.settings (told_functions first last w.functions) (Pool p) frame r
    by_sent r = ap (λ (o : Option (List ℕ)). own_service_accesses (told_world first last w) p q r ++ sent_accesses (told_world first last w) p o r) sent_later

    at_sender : trace_of last p ≡ trace_of first p ++ accesses_by (told_world first last w) (Serve p q) p
    at_sender =
        same ∙ own_listed p ∙ ap (λ (f : Function). trace_of first p ++ (if eqb p p then serve_accesses w.profile.limit (own w.settings p) f q else [])) met_later
        ∙ ap (λ (t : List Access). trace_of first p ++ t) (sym (by_sent p
        ∙ ap (λ (b : Bool). own_service_accesses (told_world first last w) p q p ++ (if b then given_accesses true frame (function_of p (told_world first last w)) else [])) (not_for_sender w.settings p frame)
        ∙ append-nil (own_service_accesses (told_world first last w) p q p)))

    functions : told_functions mid last sender.functions ≡ set (told_functions first last w.functions) p (told_service first mid w p q).function
    functions = ap (λ (v : World). told_functions mid last v.functions) world ∙ told_in_turn first mid last w.functions p (told_service first mid w p q).function same (others_kept first mid (told_world first mid w) p q own_listed)

    elsewhere : (r : ℕ) → r ≢ p → trace_of last r ≡ trace_of first r ++ accesses_by (told_world first last w) (Serve p q) r
    elsewhere r other =
        all r ∙ (λ i. others_kept first mid (told_world first mid w) p q own_listed r other i
        ++ (if receives (world i).settings (Pool p) frame r then given_accesses true frame ((ap (λ (fs : List Function). get_or fs r (Closed 0)) functions ∙ get_or-set_other (told_functions first last w.functions) p r (told_service first mid w p q).function (Closed 0) other) i) else []))
        ∙ ap (λ (t : List Access). trace_of first r ++ (t ++ arrived_accesses w.settings (told_functions first last w.functions) (Pool p) frame r)) (sym (only_here p r (serve_accesses w.profile.limit (own w.settings r) (function_of r (told_world first last w)) q) other))
        ∙ ap (λ (t : List Access). trace_of first r ++ t) (sym (by_sent r))

    at : (r : ℕ) → ((eqb r p ≡ true) × (r ≡ p)) ⊎ ((eqb r p ≡ false) × (r ≢ p)) → trace_of last r ≡ trace_of first r ++ accesses_by (told_world first last w) (Serve p q) r
    at r (inl is) = subst (λ (k : ℕ). trace_of last k ≡ trace_of first k ++ accesses_by (told_world first last w) (Serve p q) k) (sym is.1) at_sender
    at r (inr other) = elsewhere r other.1

-- ---- nothing is done

-- a function that isn't there is not served
pub absent_served : (t : TracedWorld) (p : ℕ) (q : Queue) → length t.world.functions ≤ p → AreListed (accesses_by (told_world t.accesses t.accesses t.world) (Serve p q)) t.accesses t.accesses
absent_served t p q past = λ r.
    absent_listed t p (λ r f. serve_accesses t.world.profile.limit (own t.world.settings r) f q) past (silent_service t.world.profile.limit (own t.world.settings p) q) r
    ∙ sym (ap (λ (s : List Access). trace_of t.accesses r ++ s)
    (ap (λ (b : Bool). own_service_accesses (told_world t.accesses t.accesses t.world) p q r ++ sent_accesses (told_world t.accesses t.accesses t.world) p (if b then (service (told_world t.accesses t.accesses t.world) p q).sent else None) r)
    (ap (nat_lt p) (length_told t.accesses t.accesses t.world.functions) ∙ gone) ∙ append-nil (own_service_accesses (told_world t.accesses t.accesses t.world) p q r)))
  where
    gone : nat_lt p (length t.world.functions) ≡ false
    gone = grind (arith, past)

    silent_service : (limit : ℕ) (o : OwnSettings) (q : Queue) → serve_accesses limit o (Closed 0) q ≡ []
    silent_service limit o q = may o.may_transmit
      where
        may : (b : Bool) → (if b then service_accesses limit (port_vlan_of o.port_vlan) (Closed 0) q else []) ≡ []
        may true = refl
        may false = refl

-- a frame that is too long comes to nobody
pub refused_listed : (t : TracedWorld) (frame : List ℕ) → t.world.profile.limit < length frame → AreListed (accesses_by (told_world t.accesses t.accesses t.world) (Wire frame)) t.accesses t.accesses
refused_listed t frame long = let is : nat_lt t.world.profile.limit (length frame) ≡ true = grind (arith, long) in λ r. rw is (sym (append-nil (trace_of t.accesses r)))

-- and one that isn't comes to those that receive it
pub taken_listed : (before now : List (List Access)) (w : World) (frame : List ℕ) → length frame ≤ w.profile.limit → AreListed (arrived_accesses w.settings (told_functions before now w.functions) FromWire frame) before now → AreListed (accesses_by (told_world before now w) (Wire frame)) before now
taken_listed before now w frame short all = let is : nat_lt w.profile.limit (length frame) ≡ false = grind (arith, short) in λ r. rw is (all r)

-- the function isn't there
pub absent_service : (w : World) (p : ℕ) (q : Queue) (taken : Response) (room : Room) → length w.functions ≤ p → answer_of room taken ≡ silently (Refused 1) → sent_of room taken ≡ None → left_of room taken ≡ None → Takes w (Serve p q) w taken room
absent_service w p q taken room past answer none_sent none_left =
    let gone : nat_lt p (length w.functions) ≡ false = grind (arith, past) in record {
      world = rw gone refl;
      answer = answer ∙ rw gone refl;
      sent = none_sent ∙ rw gone refl;
      left = none_left ∙ rw gone refl;
      sizes = refl;
    }

-- the frame is longer than the device takes
pub refused_frame : (w : World) (frame : List ℕ) → w.profile.limit < length frame → (step w (Wire frame)).world ≡ w
refused_frame w frame long = let is : nat_lt w.profile.limit (length frame) ≡ true = grind (arith, long) in rw is refl

pub refused_answer : (w : World) (frame : List ℕ) → w.profile.limit < length frame → (step w (Wire frame)).answer ≡ silently (Refused (number_of BadFrame))
refused_answer w frame long = let is : nat_lt w.profile.limit (length frame) ≡ true = grind (arith, long) in rw is refl
