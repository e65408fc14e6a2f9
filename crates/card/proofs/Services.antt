-- Events while guests write their memories are deeds: the guests' writes, and the events.
use Rattle.std.proofs.Common.{◌≡◌, ℕ, zero, suc, ◌<◌, ◌==◌, Bool, true, false, List, [], ◌∷◌, ◌++◌, Option, Some, None, length, map, refl, sym, ap, ◌∙◌, subst, arith, ltb}
use Rattle.std.specs.Prelude.{Result, Ok, Err, slice_index, slice_set, if◌then◌else◌}
use Rattle.std.specs.List.{All, range_with_len}
use Rattle.std.proofs.lemmas.Bool.{eq-eqb, eqb-true, false≢true}
use Rattle.std.proofs.lemmas.List.{get_or-replicate, get_or-set_other, get_or-set_same, length-replicate, length-set, map-append, set-get_or}
use Rattle.std.proofs.lemmas.List.Elements.{All-append, All-cons, All-head, All-map, All-nil, All-tail}
use Rattle.irq_causes.specs.Messages.{both, no_messages}
use Rattle.live_memory.specs.Trace.{Access, Read, Wrote, reads, since}
use Rattle.wire_frame.specs.declared.fault.Fault.{Fault}
use Rattle.wire_frame.specs.declared.fault.Fault.TheVariants.{NoSuchVf}
use Rattle.vf_unit.specs.Unit.{Function}
use Rattle.vf_unit.specs.declared.registers.Queue.{Queue}
use Rattle.vf_unit.specs.declared.registers.Queue.TheVariants.{Q0, Q1}
use Rattle.device.specs.Act.{act, refusal, unless_refused}
use Rattle.device.specs.Events.{Event}
use Rattle.device.specs.declared.event.Answer.{Answer}
use Rattle.device.specs.declared.event.Event.TheVariants.{MemWrite, Serve, Wire}
use Rattle.device.specs.Live.{AreMet, own_writes, told_world, trace_of, writes_of}
use Rattle.device.specs.World.{World, acted, function_of, refused, step, world_after}
use Rattle.device.proofs.Append.{world_after_append}
use Rattle.device.proofs.LiveLemmas.{length_told}
use Rattle.device.proofs.LiveWrites.{written_by_each}
use Rattle.device.proofs.Shape.{step_shape}
use Rattle.live_run.specs.Bursts.{goes_on, may_have_more, services, united}
use Rattle.live_run.specs.Frames.{FramesState}
use Rattle.live_run.specs.Live.{AllMet, Noted, last_of, live_after, live_answers, with_writes}
use Rattle.mailbox_laws.specs.Turns.{sets_registers}
use Rattle.hosted.specs.Hosted.{with_world}
use Rattle.card.specs.Card.{CardState, EndState, end_at, quiet}
use Rattle.card.specs.Life.{Deed, IsDeed, Happens, HasLived, HasServed, HaveServed, after_deed, card_after, live_deeds, over_world, with_notes, world_of}
use Rattle.card.specs.Served.{RaisedOrRefused, AreServed, IsLeft, IsServed, IsServedIfBusy, busy_of, with_busy}
use Rattle.card.proofs.Raised.{both_count, both_none, both_of_both, both_small}

-- ---- one life after another

pub life_append : (c : CardState) (xs ys : List Deed) → card_after c (xs ++ ys) ≡ card_after (card_after c xs) ys
life_append c [] ys = refl
life_append c (x ∷ xs) ys = life_append (after_deed c x) xs ys

-- ---- the writes of guests

-- of each of 64 pools there is a set of vectors
pub record AreSets (raised : List ℕ) : Type 0 where
  pub many : length raised ≡ 64
  pub small : (p : ℕ) → slice_index raised p < 8

pub both_sets : (xs ys : List ℕ) → AreSets (both xs ys)
both_sets xs ys = record { many = both_count xs ys; small = both_small xs ys }

pub none_here : (p : ℕ) → p < 64 → slice_index no_messages p ≡ 0
unfolding no_messages
none_here p below = get_or-replicate 64 p 0 0 below

-- a write of a memory raises no vector
no_vectors : (f : Function) (r at : ℕ) (bytes : List ℕ) → (act f (MemWrite r at bytes)).messages ≡ 0
unfolding act
no_vectors f r at bytes = go (refusal f (MemWrite r at bytes))
  where
    go : (o : Option Fault) → (unless_refused o f (MemWrite r at bytes)).messages ≡ 0
    go None = refl
    go (Some fault) = refl

there : (p : ℕ) → p < 64 → p < length no_messages
unfolding no_messages
there p below = below

set_none : (r x p : ℕ) → p < 64 → x ≡ 0 → slice_index (slice_set no_messages r x) p ≡ 0
set_none r x p below none = go (r == p) refl
  where
    go : (b : Bool) → (r == p) ≡ b → slice_index (slice_set no_messages r x) p ≡ 0
    go true same = subst (λ (k : ℕ). slice_index (slice_set no_messages k x) p ≡ 0) (sym (eqb-true r p same)) (get_or-set_same no_messages p x 0 (there p below) ∙ none)
    go false differ = get_or-set_other no_messages r p x 0 (λ same. false≢true (sym differ ∙ eq-eqb r p (sym same))) ∙ none_here p below

write_silent : (w : World) (r at : ℕ) (bytes : List ℕ) (p : ℕ) → p < 64 → slice_index (step w (MemWrite r at bytes)).answer.raised p ≡ 0
write_silent w r at bytes p below = go (ltb r (length w.functions))
  where
    go : (b : Bool) → slice_index (if b then acted w r (act (function_of r w) (MemWrite r at bytes)) else refused w NoSuchVf).answer.raised p ≡ 0
    go true = set_none r (act (function_of r w) (MemWrite r at bytes)).messages p below (no_vectors (function_of r w) r at bytes)
    go false = none_here p below

write_lives : (c : CardState) (r at : ℕ) (bytes : List ℕ) → AreSets c.raised → after_deed c (Happens (MemWrite r at bytes)) ≡ over_world c (step (world_of c) (MemWrite r at bytes)).world
write_lives c r at bytes sets = λ i. record {
  hosted = with_world c.hosted (step (world_of c) (MemWrite r at bytes)).world;
  ends = c.ends;
  raised = both_none c.raised (step (world_of c) (MemWrite r at bytes)).answer.raised sets.many sets.small (write_silent (world_of c) r at bytes) i;
}

-- what a memory answered, as writes of the function's own
abbrev answered : ℕ → List Access → List Event
answered r t = map (λ w. MemWrite r w.at w.bytes) (reads t)

own_lives : (c : CardState) (r : ℕ) (t : List Access) → AreSets c.raised → card_after c (map Happens (answered r t)) ≡ over_world c (world_after (world_of c) (answered r t))
unfolding reads
own_lives c r [] sets = refl
own_lives c r (Read at bytes ∷ t) sets =
    ap (λ (d : CardState). card_after d (map Happens (answered r t))) (write_lives c r at bytes sets)
    ∙ own_lives (over_world c (step (world_of c) (MemWrite r at bytes)).world) r t sets
own_lives c r (Wrote at bytes ∷ t) sets = own_lives c r t sets

writes_live : (c : CardState) (b t : Noted) (ps : List ℕ) → AreSets c.raised → card_after c (map Happens (writes_of b t ps)) ≡ over_world c (world_after (world_of c) (writes_of b t ps))
writes_live c b t [] sets = refl
writes_live c b t (p ∷ ps) sets =
    ap (card_after c) (map-append Happens (own_writes b t p) (writes_of b t ps))
    ∙ life_append c (map Happens (own_writes b t p)) (map Happens (writes_of b t ps))
    ∙ ap (λ (d : CardState). card_after d (map Happens (writes_of b t ps))) (own_lives c p (since (trace_of b p) (trace_of t p)) sets)
    ∙ writes_live (over_world c (world_after (world_of c) (own_writes b t p))) b t ps sets
    ∙ ap (over_world c) (sym (world_after_append (world_of c) (own_writes b t p) (writes_of b t ps)))

-- ---- one event

pub event_lives : (shared : Bool) (c : CardState) (b t : Noted) (e : Event) (rest : List Event) (n : ℕ) → length (world_of c).functions ≡ n → AreSets c.raised → AreMet shared b t (world_of c)
    → card_after c (map Happens (writes_of b t (range_with_len 0 n) ++ e ∷ rest)) ≡ card_after (after_deed (over_world c (told_world b t (world_of c))) (Happens e)) (map Happens rest)
event_lives shared c b t e rest n count sets met =
    ap (card_after c) (map-append Happens (writes_of b t (range_with_len 0 n)) (e ∷ rest))
    ∙ life_append c (map Happens (writes_of b t (range_with_len 0 n))) (map Happens (e ∷ rest))
    ∙ ap (λ (d : CardState). card_after d (map Happens (e ∷ rest)))
    (writes_live c b t (range_with_len 0 n) sets
    ∙ ap (over_world c) (ap (λ (k : ℕ). world_after (world_of c) (writes_of b t (range_with_len 0 k))) (sym count) ∙ written_by_each shared b t (world_of c) met))

-- ---- a frame from the wire

pub wire_lives : {X : Type 0} (shared : Bool) (old new : CardState) (frame : List ℕ) (taken : Result X Fault)
    → RaisedOrRefused taken old.raised new.raised (step (told_world old.hosted.device.accesses new.hosted.device.accesses (world_of old)) (Wire frame)).answer
    → AreMet shared old.hosted.device.accesses new.hosted.device.accesses (world_of old)
    → world_of new ≡ (step (told_world old.hosted.device.accesses new.hosted.device.accesses (world_of old)) (Wire frame)).world
    → new.hosted.host ≡ old.hosted.host → new.hosted.mailboxes ≡ old.hosted.mailboxes → new.ends ≡ old.ends → length old.raised ≡ 64 → ((p : ℕ) → slice_index old.raised p < 8)
    → HasLived (live_deeds old (Wire frame ∷ []) (new.hosted.device.accesses ∷ [])) old new
unfolding with_writes
wire_lives {X} shared old new frame taken answer met world host boxes ends many small =
    (λ i. record { hosted = record { device = record { world = world i; accesses = old.hosted.device.accesses }; host = host i; mailboxes = boxes i }; ends = ends i; raised = vectors taken answer i })
    ∙ sym (event_lives shared old old.hosted.device.accesses new.hosted.device.accesses (Wire frame) [] (length (world_of old).functions) refl (record { many = many; small = small }) met)
  where
    w : World
    w = told_world old.hosted.device.accesses new.hosted.device.accesses (world_of old)

    -- a frame that is refused raises no vector
    vectors : (r : Result X Fault) → RaisedOrRefused r old.raised new.raised (step w (Wire frame)).answer → new.raised ≡ both old.raised (step w (Wire frame)).answer.raised
    vectors (Ok x) is = is.1
    vectors (Err fault) is = is.1 ∙ sym (both_none old.raised (step w (Wire frame)).answer.raised many small (λ p below. ap (λ (a : Answer). slice_index a.raised p) is.0 ∙ none_here p below))

-- ---- services

-- the end of p after services of its queue q that were answered so
abbrev ends_of : CardState → ℕ → Queue → List Answer → List EndState
ends_of c p q [] = c.ends
ends_of c p q (a ∷ rest) = slice_set c.ends p (with_busy (end_at c p) q (may_have_more (a ∷ rest)))

with_busy_again : (e : EndState) (q : Queue) (b d : Bool) → with_busy (with_busy e q b) q d ≡ with_busy e q d
with_busy_again e Q0 b d = refl
with_busy_again e Q1 b d = refl

set_twice : {X : Type 0} (xs : List X) (p : ℕ) (x y : X) → slice_set (slice_set xs p x) p y ≡ slice_set xs p y
set_twice [] p x y = refl
set_twice (z ∷ xs) zero x y = refl
set_twice (z ∷ xs) (suc p) x y = ap (λ ys. z ∷ ys) (set_twice xs p x y)

-- after one service, and then the others
ends_more : (c : CardState) (p : ℕ) (q : Queue) (w : World) (raised : List ℕ) (a : Answer) (rest : List Answer) → p < length c.ends
    → ends_of (record { hosted = with_world c.hosted w; ends = slice_set c.ends p (with_busy (end_at c p) q (goes_on a.reply)); raised = raised }) p q rest ≡ ends_of c p q (a ∷ rest)
unfolding may_have_more
ends_more c p q w raised a [] inside = refl
ends_more c p q w raised a (b ∷ rest) inside =
    ap (λ (e : EndState). slice_set (slice_set c.ends p (with_busy (end_at c p) q (goes_on a.reply))) p (with_busy e q (may_have_more (b ∷ rest)))) (get_or-set_same c.ends p (with_busy (end_at c p) q (goes_on a.reply)) quiet inside)
    ∙ ap (slice_set (slice_set c.ends p (with_busy (end_at c p) q (goes_on a.reply))) p) (with_busy_again (end_at c p) q (goes_on a.reply) (may_have_more (b ∷ rest)))
    ∙ set_twice c.ends p (with_busy (end_at c p) q (goes_on a.reply)) (with_busy (end_at c p) q (may_have_more (b ∷ rest)))

-- the card after services, while guests write their memories
abbrev served : CardState → ℕ → Queue → Noted → List Event → List Noted → CardState
served c p q b es ts = record {
  hosted = with_world c.hosted (live_after (world_of c) b es ts);
  ends = ends_of c p q (live_answers (world_of c) b es ts);
  raised = united c.raised (live_answers (world_of c) b es ts);
}

services_live : (shared : Bool) (p : ℕ) (q : Queue) (k : ℕ) (c : CardState) (b : Noted) (ts : List Noted) (n : ℕ) → p < length c.ends → length (world_of c).functions ≡ n → AreSets c.raised
    → AllMet shared (world_of c) b (services k p q) ts → length ts ≡ length (services k p q) → card_after c (map Happens (with_writes n b (services k p q) ts)) ≡ served c p q b (services k p q) ts
unfolding with_writes live_after live_answers united AllMet
services_live shared p q zero c b ts n inside count sets met long = refl
services_live shared p q (suc k) c b [] n inside count sets met long = absurd (omega (arith, long))
services_live shared p q (suc k) c b (t ∷ ts) n inside count sets met long =
    event_lives shared c b t (Serve p q) (with_writes n t (services k p q) ts) n count sets met.0.0
    ∙ services_live shared p q k d t ts n (subst (λ (m : ℕ). p < m) (sym (length-set c.ends p (with_busy (end_at c p) q (goes_on a.reply)))) inside)
    ((step_shape told (Serve p q)).functions ∙ length_told b t (world_of c).functions ∙ count) (both_sets c.raised a.raised) met.1 (omega (arith, long))
    ∙ (λ i. record {
      hosted = with_world c.hosted (live_after (step told (Serve p q)).world t (services k p q) ts);
      ends = ends_more c p q (step told (Serve p q)).world (both c.raised a.raised) a (live_answers (step told (Serve p q)).world t (services k p q) ts) inside i;
      raised = united (both c.raised a.raised) (live_answers (step told (Serve p q)).world t (services k p q) ts);
    })
  where
    told : World
    told = told_world b t (world_of c)

    a : Answer
    a = (step told (Serve p q)).answer

    d : CardState
    d = after_deed (over_world c told) (Happens (Serve p q))

-- vectors that join those that were there, one answer after another, or all answers' at once
pub united_on : (raised more : List ℕ) (answers : List Answer) → both raised (united more answers) ≡ united (both raised more) answers
unfolding united
united_on raised more [] = refl
united_on raised more (a ∷ rest) =
    united_on raised (both more a.raised) rest
    ∙ ap (λ (r : List ℕ). united r rest) (both_of_both raised more a.raised)

-- the queue is as busy as it was, where nothing was taken
ends_same : (c : CardState) (p : ℕ) (q : Queue) (answers : List Answer) → p < length c.ends → busy_of (end_at c p) q ≡ true → slice_set c.ends p (with_busy (end_at c p) q (may_have_more answers)) ≡ ends_of c p q answers
unfolding may_have_more
ends_same c p q [] inside busy = ap (slice_set c.ends p) (still q busy) ∙ set-get_or c.ends p quiet
  where
    still : (k : Queue) → busy_of (end_at c p) k ≡ true → with_busy (end_at c p) k true ≡ end_at c p
    still Q0 is = λ i. record (end_at c p) { busy_0 = sym is i }
    still Q1 is = λ i. record (end_at c p) { busy_1 = sym is i }
ends_same c p q (a ∷ rest) inside busy = refl

served_lives : (shared : Bool) (p : ℕ) (q : Queue) (old : CardState) (room : FramesState) (new : CardState) (filled : FramesState) → p < length old.ends → AreSets old.raised → busy_of (end_at old p) q ≡ true → IsServed shared p q old room new filled → HasServed shared p q old new
served_lives shared p q old room new filled inside sets busy is = record {
  count = is.done.taken;
  noted = is.burst.run.noted;
  each = is.burst.run.each ∙ many_services is.done.taken;
  met = is.burst.run.met;
  last = is.burst.run.accesses;
  lived =
      (λ i. record {
        hosted = record { device = record { world = is.burst.run.world i; accesses = old.hosted.device.accesses }; host = is.host i; mailboxes = is.mailboxes i };
        ends = (is.ends ∙ ap (λ (b : Bool). slice_set old.ends p (with_busy (end_at old p) q b)) (is.burst.more ∙ ap may_have_more is.burst.run.answered) ∙ ends_same old p q answers inside busy) i;
        raised = (is.raised ∙ ap (both old.raised) (is.burst.raised ∙ ap (united no_messages) is.burst.run.answered) ∙ united_on old.raised no_messages answers
            ∙ ap (λ (r : List ℕ). united r answers) (both_none old.raised no_messages sets.many sets.small none_here)) i;
      })
      ∙ sym (services_live shared p q is.done.taken old old.hosted.device.accesses is.burst.run.noted (length (world_of old).functions) inside refl sets is.burst.run.met is.burst.run.each);
}
  where
    answers : List Answer
    answers = live_answers (world_of old) old.hosted.device.accesses (services is.done.taken p q) is.burst.run.noted

    many_services : (n : ℕ) → length (services n p q) ≡ n
    many_services n = length-replicate n (Serve p q)

left_lives : (shared : Bool) (p : ℕ) (q : Queue) (old : CardState) (room : FramesState) (new : CardState) (filled : FramesState) → IsLeft old room new filled → HasServed shared p q old new
unfolding with_writes AllMet last_of
left_lives shared p q old room new filled is = record { count = 0; noted = []; each = refl; met = tt; last = ap (λ (c : CardState). c.hosted.device.accesses) is.card; lived = ap (λ (c : CardState). with_notes c old.hosted.device.accesses) is.card }

-- where the queue is busy, or isn't
record Serves (shared : Bool) (p : ℕ) (q : Queue) (old new : CardState) : Type 0 where
  pub served : HasServed shared p q old new
  pub ends : length new.ends ≡ length old.ends
  pub sets : AreSets new.raised

serves : (b shared : Bool) (p : ℕ) (q : Queue) (old : CardState) (room : FramesState) (new : CardState) (filled : FramesState) → busy_of (end_at old p) q ≡ b → p < length old.ends → AreSets old.raised → IsServedIfBusy b shared p q old room new filled → Serves shared p q old new
serves true shared p q old room new filled busy inside sets is = record {
  served = served_lives shared p q old room new filled inside sets busy is;
  ends = ap length is.ends ∙ length-set old.ends p (with_busy (end_at old p) q is.done.goes_on);
  sets = subst AreSets (sym is.raised) (both_sets old.raised is.done.messages);
}
serves false shared p q old room new filled idle inside sets is = record {
  served = left_lives shared p q old room new filled is;
  ends = ap (λ (c : CardState). length c.ends) is.card;
  sets = subst (λ (c : CardState). AreSets c.raised) (sym is.card) sets;
}

pub more_lives : (shared : Bool) (p : ℕ) (old : CardState) (room : FramesState) (new : CardState) (filled : FramesState) → AreServed shared p old room new filled → p < 64 → length old.ends ≡ 64 → length old.raised ≡ 64 → ((k : ℕ) → slice_index old.raised k < 8)
    → HaveServed shared p old new
more_lives shared p old room new filled is below many raised small = record { between = is.between; first = first.served; second = second.served }
  where
    first : Serves shared p Q0 old is.between
    first = serves (end_at old p).busy_0 shared p Q0 old room is.between is.half refl (omega (arith, below, many)) (record { many = raised; small = small }) is.first

    second : Serves shared p Q1 is.between new
    second = serves (end_at is.between p).busy_1 shared p Q1 is.between is.half new filled refl (omega (arith, below, many, first.ends)) first.sets is.second

-- ---- they are deeds

-- the event changes no register of the physical function
abbrev IsSilent : Event → Type 0
IsSilent e = sets_registers e ≡ false

own_silent : (r : ℕ) (t : List Access) → All IsSilent (answered r t)
unfolding reads
own_silent r [] = All-nil IsSilent
own_silent r (Read at bytes ∷ t) = All-cons IsSilent (MemWrite r at bytes) (answered r t) refl (own_silent r t)
own_silent r (Wrote at bytes ∷ t) = own_silent r t

writes_silent : (b t : Noted) (ps : List ℕ) → All IsSilent (writes_of b t ps)
writes_silent b t [] = All-nil IsSilent
writes_silent b t (p ∷ ps) = All-append IsSilent (own_writes b t p) (writes_of b t ps) (own_silent p (since (trace_of b p) (trace_of t p))) (writes_silent b t ps)

with_silent : (n : ℕ) (b : Noted) (es : List Event) (ts : List Noted) → All IsSilent es → All IsSilent (with_writes n b es ts)
unfolding with_writes
with_silent n b [] ts all = All-nil IsSilent
with_silent n b (e ∷ es) [] all = All-nil IsSilent
with_silent n b (e ∷ es) (t ∷ ts) all =
    All-append IsSilent (writes_of b t (range_with_len 0 n)) (e ∷ with_writes n t es ts) (writes_silent b t (range_with_len 0 n))
    (All-cons IsSilent e (with_writes n t es ts) (All-head IsSilent e es all) (with_silent n t es ts (All-tail IsSilent e es all)))

pub live_are_deeds : (c : CardState) (events : List Event) (noted : List Noted) → All (λ e. sets_registers e ≡ false) events → All IsDeed (live_deeds c events noted)
live_are_deeds c events noted all =
    All-map IsDeed Happens (with_writes (length (world_of c).functions) c.hosted.device.accesses events noted) (with_silent (length (world_of c).functions) c.hosted.device.accesses events noted all)
