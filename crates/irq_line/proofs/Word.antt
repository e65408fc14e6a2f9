-- One word of the line: each kind of step leaves it as its rule says.
use Rattle.std.proofs.Common.{◌≡◌, ◌≢◌, ℕ, ◌+◌, ◌-◌, ◌<◌, ◌≤◌, List, [], ◌∷◌, ◌++◌, refl, ◌∙◌, arith, bit_or, eq-eqb, ne_eqb, le_refl}
use Rattle.std.specs.Int.{bit_at}
use Rattle.std.proofs.lemmas.List.Sums.{sum_by_push}
use Rattle.std.proofs.lemmas.Nat.{or_lt}
use Rattle.std.proofs.lemmas.Nat.Bits.{bit_at_or, bit_at-lt, bit_at-zero}
use Rattle.std.proofs.Math.Nat.{sub-add-eq-max, max_comm}
use mathlib.Core.Logic.{dite}
use native.Mathlib.Decide.{dec_le}
use Rattle.irq_line.specs.declared.views.Raise.{Raise}
use Rattle.irq_line.specs.declared.views.GuestRecord.{GuestRecord}
use Rattle.irq_line.specs.Line.{raise_of, bit_for, raised, landed, Raising, Taking, Peeking, raises_for, IsWord, idle_guest, after_take, after_peek}
use Rattle.irq_line.proofs.Story.{story_raised, story_spared, story_taken, story_peeked, story_begins}

bit_here : (p v m : ℕ) → bit_for p v p m ≡ bit_at m v
bit_here p v m = rw (eq-eqb p p refl) refl

bit_elsewhere : (p v q m : ℕ) → q ≢ p → bit_for p v q m ≡ 0
bit_elsewhere p v q m apart = rw (ne_eqb q p apart) refl

-- one more raise
raised_push : (p v : ℕ) (raises : List Raise) (q m found : ℕ) → raised p v (raises ++ raise_of q m found ∷ []) ≡ raised p v raises + bit_for p v q m
raised_push p v raises q m found = sum_by_push (λ (r : Raise). bit_for p v r.pool r.mask) raises (raise_of q m found)

landed_push : (p v : ℕ) (raises : List Raise) (q m found : ℕ) → landed p v (raises ++ raise_of q m found ∷ []) ≡ landed p v raises + (bit_for p v q m - bit_at found v)
landed_push p v raises q m found = sum_by_push (λ (r : Raise). bit_for p v r.pool r.mask - bit_at r.found v) raises (raise_of q m found)

bit_gained : (w m v : ℕ) → bit_at (bit_or w m) v ≡ bit_at w v + (bit_at m v - bit_at w v)
bit_gained w m v = let e = sub-add-eq-max (bit_at m v) (bit_at w v) in let c = max_comm (bit_at w v) (bit_at m v) in let o = bit_at_or w m v in omega arith

-- the raise of a mask for the pool
pub word_raised : (p w m : ℕ) (raises : List Raise) (g : GuestRecord) → m < 8 → IsWord p w raises g → IsWord p (bit_or w m) (raises ++ raise_of p m w ∷ []) g
word_raised p w m raises g small h = record {
  below = or_lt 3 w m h.below small;
  story = h.story ++ Raising (raise_of p m w) ∷ [];
  told = story_raised p w m raises g h.story h.told;
  balance = λ v. let b = h.balance v in let t = new v in omega arith;
  at_most = λ v. let a = h.at_most v in let t = new v in omega arith;
  at_least = λ v some. dite (dec_le 1 (raised p v raises))
      (λ (before : 1 ≤ raised p v raises). let a = h.at_least v before in let t = new v in omega arith)
      (λ first. let b = h.balance v in let t = new v in let l = bit_at-lt m v in omega arith);
  peeked = λ v. let a = h.peeked v in let t = new v in omega arith;
}
  where
    new : (v : ℕ) → (raised p v (raises ++ raise_of p m w ∷ []) ≡ raised p v raises + bit_at m v) × (landed p v (raises ++ raise_of p m w ∷ []) ≡ landed p v raises + (bit_at m v - bit_at w v)) × (bit_at (bit_or w m) v ≡ bit_at w v + (bit_at m v - bit_at w v))
    new v = let e = bit_here p v m in (omega (arith, raised_push p v raises p m w), omega (arith, landed_push p v raises p m w), bit_gained w m v)

-- a raise for another pool
pub word_spared : (p w q m found : ℕ) (raises : List Raise) (g : GuestRecord) → q ≢ p → IsWord p w raises g → IsWord p w (raises ++ raise_of q m found ∷ []) g
word_spared p w q m found raises g apart h = record {
  below = h.below;
  story = h.story;
  told = story_spared p w q m found raises g h.story apart h.told;
  balance = λ v. (same v).1 ∙ h.balance v;
  at_most = λ v. let a = h.at_most v in let t = same v in omega arith;
  at_least = λ v some. let t = same v in let before : 0 < raised p v raises = omega arith in let a = h.at_least v before in omega arith;
  peeked = h.peeked;
}
  where
    same : (v : ℕ) → (raised p v (raises ++ raise_of q m found ∷ []) ≡ raised p v raises) × (landed p v (raises ++ raise_of q m found ∷ []) ≡ landed p v raises)
    same v = let none = bit_elsewhere p v q m apart in (omega (arith, raised_push p v raises q m found), omega (arith, landed_push p v raises q m found))

pub word_taken : (p w : ℕ) (raises : List Raise) (g : GuestRecord) → IsWord p w raises g → IsWord p 0 raises (record { did = after_take g.did w; seen = raises_for p raises })
word_taken p w raises g h = record {
  below = omega arith;
  story = h.story ++ Taking w ∷ [];
  told = story_taken p w raises g h.story h.told;
  balance = λ v. let b = h.balance v in let none = bit_at-zero v in omega (arith, sum_by_push (λ (answer : ℕ). bit_at answer v) g.did.takes w);
  at_most = h.at_most;
  at_least = h.at_least;
  peeked = λ v. le_refl _;
}

pub word_peeked : (p w : ℕ) (raises : List Raise) (g : GuestRecord) → IsWord p w raises g → IsWord p w raises (record g { did = after_peek g.did w })
word_peeked p w raises g h = record {
  below = h.below;
  story = h.story ++ Peeking w ∷ [];
  told = story_peeked p w raises g h.story h.told;
  balance = h.balance;
  at_most = h.at_most;
  at_least = h.at_least;
  peeked = λ v. let a = h.peeked v in let e = bit_gained g.did.peeked w v in omega arith;
}

pub word_made : (p w : ℕ) → w ≡ 0 → IsWord p w [] (idle_guest p)
word_made p w clear = rw clear record {
  below = omega arith;
  story = [];
  told = story_begins p;
  balance = λ v. let none = bit_at-zero v in omega arith;
  at_most = λ v. le_refl 0;
  at_least = λ v some. absurd (omega arith);
  peeked = λ v. le_refl _;
}
