-- What a device makes of what a call wants, and reads of more bytes than an entry names.
use Rattle.std.proofs.Common.{◌≡◌, ℕ, zero, suc, ◌+◌, ◌≤◌, Bool, true, false, true≢false, nat_le, nat_lt, List, length, replicate, slice_range, Option, Some, None, refl, sym, ap, subst, ◌∙◌, arith}
use Rattle.std.specs.Prelude.{if◌then◌else◌, Result, Ok, Err, OnErr}
use Rattle.std.proofs.lemmas.Bool.Decides.{nat_tests}
use Rattle.irq_causes.specs.Messages.{no_messages}
use Rattle.wire_frame.specs.declared.fault.Fault.{Fault}
use Rattle.wire_frame.specs.declared.fault.Fault.TheVariants.{NoSuchVf}
use Rattle.offload.proofs.Parts.{length-slice}
use Rattle.vf_unit.specs.Unit.{Function, Closed, Open as Opened, is_open, bytes_at}
use Rattle.device.specs.Events.{Event}
use Rattle.device.specs.declared.event.Answer.{Answer}
use Rattle.device.specs.declared.event.Event.TheVariants.{MemRead}
use Rattle.device.specs.declared.response.Response.{Response}
use Rattle.device.specs.declared.room.Room.{Room}
use Rattle.device.specs.Accesses.{accesses_by}
use Rattle.device.specs.Act.{act, refusal, unless_refused}
use Rattle.device.specs.Outcome.{answer_of, bytes_or_refused, left_by, left_of}
use Rattle.device.specs.Replies.{Reply}
use Rattle.device.specs.Takes.{Takes}
use Rattle.device.specs.World.{World, Stepped, step, function_of, acted, refused, silently}
use Rattle.vfdev_c.specs.declared.handed.Handed.{Handed}
use Rattle.vfdev_c.specs.declared.wanted.Wanted.{Wanted}
use Rattle.vfdev_c.specs.declared.wanted.Wanted.TheVariants.{Read, Other}
use Rattle.vfdev_c.specs.Handle.{bytes_shown, frame_in, length_in, shown}
use Rattle.vfdev_c.specs.Recorded.{is_mem_read, kept_as}
use Rattle.vfdev_c.specs.Wanted.{event_in, HandsOver, HasBytes, IsWanted}

-- ---- reads of more bytes than an entry names

is_alike : (f : Function) (p at count : ℕ) (live : Bool) → is_open f ≡ live → nat_lt 2048 count ≡ true
    → act f (MemRead p at 65535) ≡ act f (MemRead p at count)
unfolding act refusal
is_alike f p at count true is long = rw (is, long) refl
is_alike f p at count false is long = rw is refl

read_alike : (w : World) (p at count : ℕ) (within : Bool) → nat_le count 65535 ≡ within
    → step w (MemRead p at (if within then count else 65535)) ≡ step w (MemRead p at count)
read_alike w p at count true is = refl
read_alike w p at count false is =
    let long : nat_lt 2048 count ≡ true = grind (arith, nat_tests) in
    ap (λ a. if nat_lt p (length w.functions) then acted w p a else refused w NoSuchVf) (is_alike (function_of p w) p at count (is_open (function_of p w)) refl long)

listed_long : (w : World) (p at count : ℕ) (within : Bool) (r : ℕ) → nat_le count 65535 ≡ within
    → accesses_by w (MemRead p at (if within then count else 65535)) r ≡ accesses_by w (MemRead p at count) r
listed_long w p at count true r is = refl
listed_long w p at count false r is =
    let long : nat_lt 2048 count ≡ true = grind (arith, nat_tests) in rw long refl

-- any event but a read is kept as it is
pub kept_itself : (e : Event) → is_mem_read e ≡ false → kept_as e ≡ e
kept_itself (MemRead p at count) not = absurd (true≢false not)
kept_itself e not = refl

-- the device does the same by the event that a call is kept as, sends the same, and accesses the same
pub record Alike (w : World) (e : Event) : Type 0 where
  pub does : step w (kept_as e) ≡ step w e
  pub leaves : left_by w (kept_as e) ≡ left_by w e
  pub lists : accesses_by w (kept_as e) ≡ accesses_by w e

pub alike : (w : World) (wanted : Wanted) → IsWanted wanted → Alike w (event_in wanted)
alike w (Read p at count) wants = record {
  does = read_alike w p at count (nat_le count 65535) refl;
  leaves = refl;
  lists = λ i r. listed_long w p at count (nat_le count 65535) r refl i;
}
alike w (Other request) not =
    let same = kept_itself (event_in (Other request)) not in
    record { does = ap (step w) same; leaves = ap (left_by w) same; lists = ap (accesses_by w) same }

-- ---- bytes that are read

length_found : (memory had : List ℕ) (at : ℕ) (within : Bool) → nat_le (at + length had) (length memory) ≡ within
    → length (if within then slice_range memory at (at + length had) else had) ≡ length had
length_found memory had at true is =
    let inside : at + length had ≤ length memory = grind (arith, nat_tests) in
    length-slice at (at + length had) memory (omega arith) inside ∙ omega arith
length_found memory had at false is = refl

length_at : (f : Function) (at : ℕ) (had : List ℕ) → length (bytes_at f at had) ≡ length had
unfolding bytes_at
length_at (Closed size) at had = refl
length_at (Opened s) at had = length_found s.memory had at (nat_le (at + length had) (length s.memory)) refl

zeros : (n : ℕ) → length (replicate {A = ℕ} n 0) ≡ n
zeros zero = refl
zeros (suc n) = ap suc (zeros n)

has_unless : (why : Option Fault) (f : Function) (p at n : ℕ) → HasBytes (unless_refused why f (MemRead p at n)).reply n
has_unless (Some fault) f p at n = tt
has_unless None f p at n = length_at f at (replicate n 0) ∙ zeros n

has_acted : (f : Function) (p at n : ℕ) → HasBytes (act f (MemRead p at n)).reply n
unfolding act
has_acted f p at n = has_unless (refusal f (MemRead p at n)) f p at n

-- a read that is done has as many bytes as were asked for
read_has : (w : World) (p at n : ℕ) → HasBytes (step w (MemRead p at n)).answer.reply n
read_has w p at n = there (nat_lt p (length w.functions))
  where
    there : (is : Bool) → HasBytes (if is then acted w p (act (function_of p w) (MemRead p at n)) else refused w NoSuchVf).answer.reply n
    there true = has_acted (function_of p w) p at n
    there false = tt

-- ---- what comes of what was wanted

-- what a device in that world makes of the event, and what is handed to the caller
pub record Comes (w : World) (e : Event) (new : World) (handed : Handed) (before after : List ℕ) : Type 0 where
  pub world : new ≡ (step w e).world
  pub replied : handed.reply ≡ shown (step w e).answer.reply
  pub raises : handed.messages ≡ (step w e).answer.raised
  pub left : handed.left ≡ length_in (left_by w e)
  pub frame : 9018 ≤ length before → after ≡ frame_in (left_by w e) before
  pub bytes : (p at : ℕ) → e ≡ MemRead p at (length before) → after ≡ bytes_shown (step w e).answer.reply before

pub comes_of : (w new : World) (wanted : Wanted) (d : Event) (response : Response) (room : Room) (handed : Handed) (before after : List ℕ) → IsWanted wanted → d ≡ kept_as (event_in wanted)
    → Takes w d new response room → HandsOver response room handed before after → Comes w (event_in wanted) new handed before after
comes_of w new wanted d response room handed before after wants so takes over =
    let e = event_in wanted in
    let same : step w d ≡ step w e = ap (step w) so ∙ (alike w wanted wants).does in
    let answer : answer_of room response ≡ (step w e).answer = takes.answer ∙ ap (λ (s : Stepped). s.answer) same in
    let gone : left_of room response ≡ left_by w e = takes.left ∙ ap (left_by w) so ∙ (alike w wanted wants).leaves in
    record {
      world = takes.world ∙ ap (λ (s : Stepped). s.world) same;
      replied = over.replied ∙ ap (λ (a : Answer). shown a.reply) answer;
      raises = over.raises ∙ ap (λ (a : Answer). a.raised) answer;
      left = over.left ∙ ap length_in gone;
      frame = λ long. over.frame long ∙ ap (λ (left : Option (List ℕ)). frame_in left before) gone;
      bytes = λ p at is.
          over.bytes (gone ∙ ap (left_by w) is)
          (subst (λ (r : Reply). HasBytes r (length before)) (sym (ap (λ (a : Answer). a.reply) answer ∙ ap (λ e. (step w e).answer.reply) is)) (read_has w p at (length before)))
          ∙ ap (λ (a : Answer). bytes_shown a.reply before) answer;
    }

-- what was read stands where it was wanted, and of a read that is refused nothing does
bytes_put : (done : Result (Unit {0}) Fault) (before after : List ℕ) → OnErr done (after ≡ before) → after ≡ bytes_shown (bytes_or_refused done after) before
bytes_put (Ok _) before after stays = refl
bytes_put (Err fault) before after stays = stays

-- a guest's memory is read straight into the caller's bytes, which are no more than one access may name
pub read_comes : (w new : World) (p at : ℕ) (done : Result (Unit {0}) Fault) (handed : Handed) (before after : List ℕ) → length before ≤ 2048
    → new ≡ (step w (MemRead p at (length before))).world → silently (bytes_or_refused done after) ≡ (step w (MemRead p at (length before))).answer → OnErr done (after ≡ before)
    → handed.reply ≡ shown (bytes_or_refused done after) → handed.messages ≡ no_messages → handed.left ≡ 0 → Comes w (MemRead p at (length before)) new handed before after
read_comes w new p at done handed before after few world answer unchanged replied silent none = record {
  world = world;
  replied = replied ∙ ap (λ (a : Answer). shown a.reply) answer;
  raises = silent ∙ ap (λ (a : Answer). a.raised) answer;
  left = none;
  frame = λ long. absurd (omega (arith, long, few));
  bytes = λ q from same. bytes_put done before after unchanged ∙ ap (λ (a : Answer). bytes_shown a.reply before) answer;
}
