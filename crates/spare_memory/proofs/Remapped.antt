-- A memory that comes back into its place.
use Rattle.std.proofs.Common.{◌≡◌, ◌≢◌, ℕ, zero, suc, ◌<◌, Bool, true, false, List, [], ◌∷◌, Option, Some, None, length, set, get_or, nat_le, true≢false, refl, sym, ap, ◌∙◌, subst, arith}
use Rattle.std.proofs.lemmas.Bool.{eq-eqb}
use Rattle.std.proofs.lemmas.Bool.Decides.{nat_tests}
use Rattle.std.proofs.lemmas.List.{get_or-set_other, get_or-set_same, length-set, set-get_or}
use Rattle.std.specs.Prelude.{not, ◌==◌, if◌then◌else◌}
use Rattle.wire_frame.specs.declared.fault.Fault.{Fault}
use Rattle.wire_frame.specs.declared.fault.Fault.TheVariants.{NoSuchVf, BadMake}
use Rattle.vf_unit.specs.Guests.{IsFormer, moved_to}
use Rattle.vf_unit.specs.Unit.{Function, Closed, Open, size_of}
use Rattle.live_memory.specs.Trace.{Access}
use Rattle.device.specs.Guests.{over_memory, replace_refusal}
use Rattle.device.specs.Live.{trace_of}
use Rattle.device.specs.World.{World, function_of, with_function}
use Rattle.card.specs.Card.{CardState}
use Rattle.spare_memory.specs.Spares.{IsOver, IsRemapped}
use Rattle.spare_memory.proofs.Exchanged.{set_set}

moved_back : (f : Function) (a b : List ℕ) → IsFormer f b → moved_to (moved_to f a) b ≡ f
moved_back (Closed size) a b former = refl
moved_back (Open s) a b former = ap (λ (m : List ℕ). Open (record s { memory = m })) former

pub over_back : (w : World) (p : ℕ) (a b : List ℕ) → p < length w.functions → IsFormer (function_of p w) b → over_memory (over_memory w p a) p b ≡ w
over_back w p a b inside former =
    ap (λ (f : Function). with_function (over_memory w p a) p (moved_to f b)) (get_or-set_same w.functions p (moved_to (function_of p w) a) (Closed 0) inside)
    ∙ ap (λ (fs : List Function). record w { functions = fs })
    (set_set w.functions p (moved_to (function_of p w) a) (moved_to (moved_to (function_of p w) a) b)
    ∙ ap (set w.functions p) (moved_back (function_of p w) a b former)
    ∙ set-get_or w.functions p (Closed 0))

-- what it has for so many bytes can be taken out again
taken_size : (f : Function) (a : List ℕ) (n : ℕ) → (size_of f == length a) ≡ true → n ≡ length a → (size_of (moved_to f a) == n) ≡ true
taken_size (Closed size) a n same many = subst (λ (k : ℕ). (size == k) ≡ true) (sym many) same
taken_size (Open s) a n same many = eq-eqb (length a) n (sym many)

abbrev refusal_by : (past same : Bool) → Option Fault
refusal_by past same = if past then Some NoSuchVf else (if not same then Some BadMake else None)

abbrev is_none_of : Option Fault → Bool
is_none_of None = true
is_none_of (Some f) = false

both_ways : (past same : Bool) → refusal_by past same ≡ None → (past ≡ false) × (same ≡ true)
both_ways true same none = absurd (true≢false (sym (ap is_none_of none)))
both_ways false true none = (refl, refl)
both_ways false false none = absurd (true≢false (sym (ap is_none_of none)))

-- a function that isn't refused another memory is there
pub there : (w : World) (p n : ℕ) → replace_refusal w p n ≡ None → p < length w.functions
there w p n taken = let (inside, same) = both_ways (nat_le (length w.functions) p) (size_of (function_of p w) == n) taken in grind (arith, nat_tests)

pub stays_there : (w v : World) (p : ℕ) (a b : List ℕ) → replace_refusal w p (length a) ≡ None → v ≡ over_memory w p a → length b ≡ length a → replace_refusal v p (length b) ≡ None
stays_there w v p a b taken is many = go (both_ways (nat_le (length w.functions) p) (size_of (function_of p w) == length a) taken)
  where
    go : (nat_le (length w.functions) p ≡ false) × ((size_of (function_of p w) == length a) ≡ true) → replace_refusal v p (length b) ≡ None
    go (inside, same) =
        ap (λ (past : Bool). refusal_by past (size_of (function_of p v) == length b))
        (ap (λ (u : World). nat_le (length u.functions) p) is ∙ ap (λ (n : ℕ). nat_le n p) (length-set w.functions p (moved_to (function_of p w) a)) ∙ inside)
        ∙ ap (refusal_by false)
        (ap (λ (u : World). size_of (function_of p u) == length b) is
        ∙ ap (λ (f : Function). size_of f == length b) (get_or-set_same w.functions p (moved_to (function_of p w) a) (Closed 0) (there w p (length a) taken))
        ∙ taken_size (function_of p w) a (length b) same many)

-- nothing is another once the memory is back that was taken out
pub back_again : (p n : ℕ) (old mid new : CardState) (a b e : List ℕ) → replace_refusal old.hosted.device.world p n ≡ None → IsFormer (function_of p old.hosted.device.world) b
    → e ≡ b → IsOver p old a mid → IsOver p mid e new → IsRemapped p old new
back_again p n old mid new a b e taken former same out back = record {
  world =
      back.world ∙ (λ i. over_memory (out.world i) p (same i))
      ∙ over_back old.hosted.device.world p a b (there old.hosted.device.world p n taken) former;
  host = back.host ∙ out.host;
  mailboxes = back.mailboxes ∙ out.mailboxes;
  ends = back.ends ∙ out.ends;
  raised = back.raised ∙ out.raised;
  elsewhere = λ q other. back.elsewhere q other ∙ out.elsewhere q other;
}

-- where one memory's accesses are others, each other memory's are as they were
pub not_touched : (p : ℕ) (old new : List (List Access)) (noted : List Access) → new ≡ set old p noted → (q : ℕ) → q ≢ p → trace_of new q ≡ trace_of old q
not_touched p old new noted is q other = ap (λ (all : List (List Access)). trace_of all q) is ∙ get_or-set_other old p q noted [] other
