-- A read of a function's memory by what the memory answers then.
use Rattle.std.proofs.Common.{◌≡◌, ◌≤◌, ◌<◌, ◌+◌, ℕ, Bool, true, false, nat_le, nat_lt, arith, List, [], ◌++◌, Some, None, length, set, replicate, append-nil, refl, sym, ap, ◌∙◌}
use Rattle.std.proofs.lemmas.Option.{none-some}
use Rattle.std.specs.Prelude.{slice_set, if◌then◌else◌}
use Rattle.irq_causes.specs.Messages.{no_messages}
use Rattle.wire_frame.specs.declared.fault.Fault.TheVariants.{NoSuchVf, NotOpen, TooLong}
use Rattle.wire_frame.specs.Fault.{number_of}
use Rattle.wire_frame.specs.declared.fault.Fault.{Fault}
use Rattle.live_memory.specs.Trace.{Access, since, ReadOnce}
use Rattle.vf_unit.specs.Unit.{Function, TracedFunction, Closed, Open, is_open, size_of, has_range, bytes_at, told_of, met_function, load_accesses}
use Rattle.vf_unit.proofs.Told.{told_nothing, open_told, size_told}
use Rattle.device.specs.Events.{Event}
use Rattle.device.specs.declared.event.Event.TheVariants.{MemRead}
use Rattle.device.specs.declared.event.Reply.TheVariants.{Bytes, Refused}
use Rattle.device.specs.Act.{Acted, quietly, refusal, act, act_accesses}
use Rattle.device.specs.Replies.{Reply}
use Rattle.device.specs.World.{World, function_of, own_step, acted, refused, silently}
use Rattle.device.specs.Live.{trace_of, told_world}
use Rattle.device.proofs.Arrivals.{raised_nothing}
use Rattle.device.proofs.Inside.{read_over_zeros}
use Rattle.device.proofs.LiveSteps.{own_step_told}

refusal_told : (before now : List Access) (f : Function) (e : Event) → ReadOnce (size_of f) (since before now) → refusal (told_of before now f) e ≡ refusal f e
unfolding refusal
refusal_told before now f e once = rw (open_told before now f) (rw (size_told before now f once) refl)

range_told : (before now : List Access) (f : Function) (at n : ℕ) → ReadOnce (size_of f) (since before now) → has_range (told_of before now f) at n ≡ has_range f at n
unfolding told_of
range_told before now (Closed size) at n once = refl
range_told before now (Open s) at n once = ap (nat_le (at + n)) (size_told before now (Open s) once)

-- it is refused
pub refused_read : (trace : List Access) (f : Function) (p at count : ℕ) (fault : Fault) → refusal f (MemRead p at count) ≡ Some fault → act (told_of trace trace f) (MemRead p at count) ≡ quietly f (Refused (number_of fault))
unfolding act
refused_read trace f p at count fault is = rw (told_nothing trace f) (rw is refl)

-- it is done, and the function is as the read left it
pub done_read : (before now : List Access) (f after : Function) (p at count : ℕ) → after ≡ told_of before now f → ReadOnce (size_of f) (since before now) → refusal f (MemRead p at count) ≡ None
    → act (told_of before now f) (MemRead p at count) ≡ quietly after (Bytes (bytes_at after at (replicate count 0)))
unfolding act
done_read before now f after p at count is once allowed = rw (refusal_told before now f (MemRead p at count) once ∙ allowed) (ap (λ (g : Function). quietly g (Bytes (bytes_at g at (replicate count 0)))) (sym is))

-- more bytes are asked for than one access may name
pub too_long : (f : Function) (p at count : ℕ) (fault : Fault) → 2048 < count → fault ≡ (if is_open f then TooLong else NotOpen) → refusal f (MemRead p at count) ≡ Some fault
unfolding refusal
too_long (Closed size) p at count fault long is = ap Some (sym is)
too_long (Open s) p at count fault long is = let test : nat_lt 2048 count ≡ true = grind (arith, long) in rw test (ap Some (sym is))

-- what was read is what stands there then
pub held : (before now : List Access) (f after : Function) (at : ℕ) (read had : List ℕ) → after ≡ told_of before now f → ReadOnce (size_of f) (since before now) → has_range f at (length had) ≡ true → read ≡ bytes_at after at had
    → bytes_at after at (replicate (length had) 0) ≡ read
held before now f after at read had is once within stands =
    sym (stands ∙ read_over_zeros after at had (ap (λ (g : Function). has_range g at (length had)) is ∙ range_told before now f at (length had) once ∙ within))

-- ---- of a device

pub absent_step : (w : World) (p : ℕ) (e : Event) → length w.functions ≤ p → own_step w p e ≡ refused w NoSuchVf
absent_step w p e past = let gone : nat_lt p (length w.functions) ≡ false = grind (arith, past) in rw gone refl

pub there_step : (before now : List (List Access)) (w : World) (p : ℕ) (e : Event) (trace mine : List Access) → p < length w.functions → p < length before → trace ≡ trace_of before p → now ≡ set before p mine → own_step (told_world before now w) p e ≡ acted w p (act (told_of trace mine (function_of p w)) e)
there_step before now w p e trace mine below within begun became =
    let there : nat_lt p (length w.functions) ≡ true = grind (arith, below) in
    own_step_told before now w p e trace mine within begun became ∙ rw there refl

-- the answer is that of the function
pub answer_is : (w : World) (p : ℕ) (reply : Reply) (a : Acted) → a.reply ≡ reply → a.messages ≡ 0 → silently reply ≡ (acted w p a).answer
answer_is w p reply a replied silent = λ i. record {
  reply = sym replied i;
  raised = (sym (raised_nothing p) ∙ ap (slice_set no_messages p) (sym silent)) i;
}

-- ---- the accesses

pub few_listed : (f : Function) (p at count : ℕ) → count ≤ 2048 → act_accesses f (MemRead p at count) ≡ load_accesses f at count
few_listed f p at count few = let test : nat_lt 2048 count ≡ false = grind (arith, few) in rw test refl

-- a read that is refused makes none
pub refused_listed : (u : TracedFunction) (p at count : ℕ) (fault : Fault) → refusal u.function (MemRead p at count) ≡ Some fault → u.accesses ≡ u.accesses ++ act_accesses (met_function u u) (MemRead p at count)
unfolding refusal
refused_listed u p at count fault is =
    sym (append-nil u.accesses) ∙ ap (λ (t : List Access). u.accesses ++ t)
    (sym (ap (λ (f : Function). act_accesses f (MemRead p at count)) (told_nothing u.accesses u.function) ∙ none u.function is))
  where
    none : (f : Function) → refusal f (MemRead p at count) ≡ Some fault → act_accesses f (MemRead p at count) ≡ []
    none f why = long f why (nat_lt 2048 count) refl
      where
        long : (f : Function) → refusal f (MemRead p at count) ≡ Some fault → (b : Bool) → nat_lt 2048 count ≡ b → act_accesses f (MemRead p at count) ≡ []
        long f why true is = rw is refl
        long (Closed size) why false is = rw is refl
        long (Open s) why false is = past (nat_lt (length s.memory) (at + count)) refl
          where
            past : (b : Bool) → nat_lt (length s.memory) (at + count) ≡ b → act_accesses (Open s) (MemRead p at count) ≡ []
            past true over = let outside : nat_le (at + count) (length s.memory) ≡ false = grind (arith, over) in rw (is, outside) refl
            past false within =
                let open_to : refusal (Open s) (MemRead p at count) ≡ None = rw (is, within) refl in absurd (none-some fault (sym open_to ∙ why))

pub closed_listed : (size p at count : ℕ) → act_accesses (Closed size) (MemRead p at count) ≡ []
closed_listed size p at count = at_most (nat_lt 2048 count) refl
  where
    at_most : (b : Bool) → nat_lt 2048 count ≡ b → act_accesses (Closed size) (MemRead p at count) ≡ []
    at_most true is = rw is refl
    at_most false is = rw is refl
