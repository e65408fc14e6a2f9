-- What a device replies to a port's events: what was asked for, or a refusal that is not of a full history.
use Rattle.std.proofs.Common.{arith, ◌≡◌, ◌+◌, ◌-◌, ◌≤◌, ℕ, Bool, true, false, List, Option, Some, None, length, drop, length-drop, replicate, refl, sym, ap, ◌∙◌, subst}
use Rattle.std.specs.Prelude.{not, ◌&&◌, if◌then◌else◌, nat_le, slice_range}
use Rattle.std.proofs.lemmas.Bool.{leb-true}
use Rattle.std.proofs.lemmas.List.{length-replicate, length-take-le}
use Rattle.wire_frame.specs.Fault.{number_of}
use Rattle.wire_frame.specs.declared.fault.Fault.{Fault}
use Rattle.wire_frame.specs.declared.fault.Fault.TheVariants.{NoSuchVf, NotOpen, BadOffset, BadRange, TooLong, AlreadyOpen}
use Rattle.vf_unit.specs.Unit.{Function, Closed, Open, size_of, is_open, bytes_at}
use Rattle.device.specs.Events.{Event}
use Rattle.device.specs.declared.event.Event.TheVariants.{VfRead, VfWrite, MemRead, MemWrite, Flr}
use Rattle.device.specs.declared.event.Answer.{Answer}
use Rattle.device.specs.Replies.{Reply, is_done}
use Rattle.device.specs.declared.event.Reply.TheVariants.{Refused}
use Rattle.device.specs.Act.{opens, names_bad_offset, is_too_long, passes_end, performed, unless_refused, refusal, act}
use Rattle.device.specs.World.{World, Stepped, step, function_of, own_step, flagged}
use Rattle.guest_port.specs.Calls.{CallingPort, HasCalled, IsRefusal, IsDone, IsValue, IsRead}

-- the event may be replied to so: some world's step does it
abbrev MayReply : Event → Reply → Type 0
MayReply event reply = (w : World) × (reply ≡ (step w event).answer.reply)

-- as is the reply of an answer that was kept
pub replied : (e : Event) (r : Reply) (old new : CallingPort) → HasCalled e r old new → MayReply e r
replied e r old new called = (called.given.0, sym called.told ∙ ap (λ (a : Answer). a.reply) called.given.1)

-- what holds of both branches holds of either
either : {A : Type 0} (Q : A → Type 0) (test : Bool) (x y : A) → Q x → Q y → Q (if test then x else y)
either Q true x y of_x of_y = of_x
either Q false x y of_x of_y = of_y

-- ---- refusals

abbrev IsNamed : Option Fault → Type 0
IsNamed None = Unit
IsNamed (Some fault) = IsRefusal (number_of fault)

named_if : (test : Bool) (fault : Fault) (rest : Option Fault) → IsRefusal (number_of fault) → IsNamed rest → IsNamed (if test then Some fault else rest)
named_if true fault rest named others = named
named_if false fault rest named others = others

refusal_named : (f : Function) (e : Event) → IsNamed (refusal f e)
unfolding refusal
refusal_named f e =
    let range : Option Fault = if passes_end (size_of f) e then Some BadRange else None in
    let long : Option Fault = if is_too_long e then Some TooLong else range in
    let bad : Option Fault = if names_bad_offset e then Some BadOffset else long in
    let already : Option Fault = if is_open f && opens e then Some AlreadyOpen else bad in
    named_if (not (is_open f) && not (opens e)) NotOpen already refl (named_if (is_open f && opens e) AlreadyOpen bad refl
    (named_if (names_bad_offset e) BadOffset long refl (named_if (is_too_long e) TooLong range refl
    (named_if (passes_end (size_of f) e) BadRange None refl tt))))

unless_refused_replies : (P : Reply → Type 0) (why : Option Fault) (f : Function) (e : Event)
    → ((n : ℕ) → IsRefusal n → P (Refused n)) → P (performed f e).reply → IsNamed why → P (unless_refused why f e).reply
unless_refused_replies P None f e refused done named = done
unless_refused_replies P (Some fault) f e refused done named = refused (number_of fault) named

-- ---- one function's own events

own_replies : (P : Reply → Type 0) (w : World) (p : ℕ) (e : Event)
    → ((n : ℕ) → IsRefusal n → P (Refused n)) → P (performed (function_of p w) e).reply → P (own_step w p e).answer.reply
unfolding act
own_replies P w p e refused done =
    either (λ (s : Stepped). P s.answer.reply) _ _ _
    (unless_refused_replies P (refusal (function_of p w) e) (function_of p w) e refused done (refusal_named (function_of p w) e))
    (refused (number_of NoSuchVf) refl)

flagged_reply : (p : ℕ) (s : Stepped) → (flagged p s).answer.reply ≡ s.answer.reply
flagged_reply p s = either (λ (t : Stepped). t.answer.reply ≡ s.answer.reply) (is_done s.answer.reply) _ _ refl refl

-- the bytes that are read are as many as the room for them has
length_of_read : (f : Function) (at : ℕ) (had : List ℕ) → length (bytes_at f at had) ≡ length had
unfolding bytes_at
length_of_read (Closed size) at had = refl
length_of_read (Open s) at had = in_range _ refl
  where
    in_range : (inside : Bool) → nat_le (at + length had) (length s.memory) ≡ inside
        → length (if nat_le (at + length had) (length s.memory) then slice_range s.memory at (at + length had) else had) ≡ length had
    in_range true is =
        let fits : at + length had ≤ length s.memory = leb-true (at + length had) (length s.memory) is in
        rw is (length-take-le (at + length had - at) (drop at s.memory) (omega (arith, length-drop at s.memory)) ∙ omega arith)
    in_range false is = rw is refl

-- ---- what comes of a port's events

pub value_told : (r : Reply) (p offset : ℕ) → MayReply (VfRead p offset) r → IsValue r
value_told r p offset (w, is) = subst IsValue (sym is) (own_replies IsValue w p (VfRead p offset) (λ n named. named) tt)

pub write_told : (r : Reply) (p offset x : ℕ) → MayReply (VfWrite p offset x) r → IsDone r
write_told r p offset x (w, is) = subst IsDone (sym is) (own_replies IsDone w p (VfWrite p offset x) (λ n named. named) tt)

pub written_told : (r : Reply) (p at : ℕ) (bytes : List ℕ) → MayReply (MemWrite p at bytes) r → IsDone r
written_told r p at bytes (w, is) = subst IsDone (sym is) (own_replies IsDone w p (MemWrite p at bytes) (λ n named. named) tt)

pub reset_told : (r : Reply) (p : ℕ) → MayReply (Flr p) r → IsDone r
reset_told r p (w, is) =
    subst IsDone (sym (is ∙ flagged_reply p (own_step w p (Flr p)))) (own_replies IsDone w p (Flr p) (λ n named. named) tt)

pub bytes_told_of : (r : Reply) (p at count : ℕ) → MayReply (MemRead p at count) r → IsRead count r
bytes_told_of r p at count (w, is) = subst (IsRead count) (sym is)
    (own_replies (IsRead count) w p (MemRead p at count) (λ n named. named)
    (length_of_read (function_of p w) at (replicate count 0) ∙ length-replicate count 0))

-- as many as the room has, where that many were asked for
pub room_told_of : (r : Reply) (p at count room : ℕ) → room ≡ count → MayReply (MemRead p at count) r → IsRead room r
room_told_of r p at count room same may = subst (λ (n : ℕ). IsRead n r) (sym same) (bytes_told_of r p at count may)
