-- One more kept call.
use Rattle.std.proofs.Common.{◌≡◌, ℕ, ◌+◌, zero, suc, ◌-◌, ◌≤◌, true, false, List, [], ◌∷◌, ◌++◌, length, refl, sym, ◌∙◌, arith}
use Rattle.std.specs.Prelude.{slice_index}
use Rattle.std.proofs.Math.Nat.{suc-ne-zero}
use Rattle.std.specs.Int.{bit_at}
use Rattle.std.proofs.lemmas.Nat.Bits.{bit_at-lt}
use Rattle.std.proofs.lemmas.List.Sums.{sum_by_push, sum_by-cons}
use Rattle.std.proofs.lemmas.List.Elements.{All-append, All-cons, All-nil}
use Rattle.device.specs.Events.{Event}
use Rattle.device.specs.declared.event.Answer.{Answer}
use Rattle.device.specs.World.{World, world_after}
use Rattle.history.specs.declared.caller.Caller.{Caller}
use Rattle.history.specs.Entries.{Entry, entry, events, is_cap}
use Rattle.recorder.specs.Callers.{may}
use Rattle.recorder.specs.Legal.{AreAllowed, kept_raises}

-- ---- one more

pub allowed_none : AreAllowed []
allowed_none = All-nil (λ (call : Entry). may call.caller call.event ≡ true)

pub allowed_more : (calls : List Entry) (c : Caller) (e : Event) (a : Answer) → AreAllowed calls → may c e ≡ true → AreAllowed (calls ++ entry c e a ∷ [])
allowed_more calls c e a are ok = All-append P calls (entry c e a ∷ []) are (All-cons P (entry c e a) [] ok (All-nil P))
  where
    P : Entry → Type 0
    P call = may call.caller call.event ≡ true

-- ---- the counts

-- the raises that no kept call issued, after one call more that is kept
pub beside_kept : (r k b r' k' : ℕ) → r' ≡ r + b → k' ≡ k + b → r' - k' ≡ r - k
beside_kept r k b r' k' one two = rw (one, two) (omega arith)

pub kept_raises_more : (p v : ℕ) (calls : List Entry) (call : Entry) → kept_raises p v (calls ++ call ∷ []) ≡ kept_raises p v calls + bit_at (slice_index call.answer.raised p) v
kept_raises_more p v calls call = sum_by_push (λ (x : Entry). bit_at (slice_index x.answer.raised p) v) calls call

-- a call issues a vector to a pool once at most
pub kept_raises_few : (p v : ℕ) (calls : List Entry) → kept_raises p v calls ≤ length calls
kept_raises_few p v [] = omega arith
kept_raises_few p v (call ∷ calls) =
    omega (arith, kept_raises_few p v calls, bit_at-lt (slice_index call.answer.raised p) v, sum_by-cons (λ (x : Entry). bit_at (slice_index x.answer.raised p) v) call calls)

-- where nothing was kept, the base is the live world
pub nothing_kept : (calls : List Entry) (base live z : World) → length calls ≡ 0 → world_after base (events calls) ≡ live → base ≡ z → live ≡ z
nothing_kept [] base live z none is same = sym is ∙ same
nothing_kept (call ∷ calls) base live z none is same = absurd (suc-ne-zero _ none)

-- ---- how many may be kept

pub cap_some : (n : ℕ) → (is_cap n ≡ false → ⊥) → 1 ≤ n
cap_some zero not = absurd (not refl)
cap_some (suc n) not = omega arith
