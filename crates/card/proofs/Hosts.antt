-- A function's own settings are by its own slot, and by what is the same for all.
use Rattle.std.proofs.Common.{◌≡◌, ◌≢◌, ℕ, zero, suc, ◌<◌, ◌≤◌, ◌==◌, Bool, true, false, List, length, refl, sym, ap, ◌∙◌, subst, arith}
use Rattle.std.proofs.lemmas.Bool.{eqb-true, eq-eqb, false≢true}
use Rattle.std.proofs.lemmas.List.{ext_get_or, get_or-set_same, get_or-set_other, length-set}
use Rattle.pool_filter.specs.Own.{own}
use Rattle.mailbox.specs.declared.slot.Slot.{Slot}
use Rattle.mailbox.specs.declared.slot.Slot.TheVariants.{Absent}
use Rattle.mailbox.specs.State.{HostState, slot_at, with_slot}
use Rattle.mailbox.specs.Words.{settings_of}
use Rattle.mailbox.proofs.Others.{others_alike}

-- two hosts in which function p, and what is the same for all, are the same
pub record HostsAlike (p : ℕ) (h k : HostState) : Type 0 where
  pub slot : slot_at h p ≡ slot_at k p
  pub ids : h.ids ≡ k.ids
  pub pool : h.default_pool ≡ k.default_pool
  pub limit : h.limit ≡ k.limit
  pub many : length h.slots ≡ 64
  pub also_many : length k.slots ≡ 64
  pub few : length h.ids ≤ 64

-- host h, in which functions below n but p are as in host k
abbrev put : Bool → HostState → ℕ → Slot → HostState
put true h n s = h
put false h n s = with_slot h n s

abbrev over : ℕ → HostState → HostState → ℕ → HostState
over p h k zero = h
over p h k (suc n) = put (n == p) (over p h k n) n (slot_at k n)

-- of each of them: the ids, the pool and the limit of h
put_ids : (b : Bool) (h : HostState) (n : ℕ) (s : Slot) → (put b h n s).ids ≡ h.ids
put_ids true h n s = refl
put_ids false h n s = refl

put_many : (b : Bool) (h : HostState) (n : ℕ) (s : Slot) → length (put b h n s).slots ≡ length h.slots
put_many true h n s = refl
put_many false h n s = length-set h.slots n s

put_rest : (b : Bool) (h : HostState) (n : ℕ) (s : Slot) → put b h n s ≡ record h { slots = (put b h n s).slots }
put_rest true h n s = refl
put_rest false h n s = refl

over_ids : (p : ℕ) (h k : HostState) (n : ℕ) → (over p h k n).ids ≡ h.ids
over_ids p h k zero = refl
over_ids p h k (suc n) = put_ids (n == p) (over p h k n) n (slot_at k n) ∙ over_ids p h k n

over_many : (p : ℕ) (h k : HostState) (n : ℕ) → length (over p h k n).slots ≡ length h.slots
over_many p h k zero = refl
over_many p h k (suc n) = put_many (n == p) (over p h k n) n (slot_at k n) ∙ over_many p h k n

over_rest : (p : ℕ) (h k : HostState) (n : ℕ) → over p h k n ≡ record h { slots = (over p h k n).slots }
over_rest p h k zero = refl
over_rest p h k (suc n) =
    put_rest (n == p) (over p h k n) n (slot_at k n)
    ∙ ap (λ (g : HostState). record g { slots = (put (n == p) (over p h k n) n (slot_at k n)).slots }) (over_rest p h k n)

-- function p's own settings stay
put_own : (p n : ℕ) (b : Bool) (h : HostState) (s : Slot) → (n == p) ≡ b → n < 64 → p < 64 → length h.ids ≤ 64 → own (settings_of h) p ≡ own (settings_of (put b h n s)) p
put_own p n true h s is small below few = refl
put_own p n false h s is small below few =
    let same : (p ≡ n) → (n == p) ≡ true = λ e. eq-eqb n p (sym e) in
    (others_alike h n p s small few below (λ e. false≢true (sym is ∙ same e))).settings

over_own : (p : ℕ) (h k : HostState) (n : ℕ) → n ≤ 64 → p < 64 → length h.ids ≤ 64 → own (settings_of h) p ≡ own (settings_of (over p h k n)) p
over_own p h k zero small below few = refl
over_own p h k (suc n) small below few =
    over_own p h k n (omega (arith, small)) below few
    ∙ put_own p n (n == p) (over p h k n) (slot_at k n) refl (omega (arith, small)) below (subst (λ (is : List ℕ). length is ≤ 64) (sym (over_ids p h k n)) few)

-- below n each function but p is as in k, and p is as in h
put_here : (p n q : ℕ) (b : Bool) (h k : HostState) → (n == p) ≡ b → n < length h.slots → q ≢ p → q ≡ n → slot_at (put b h n (slot_at k n)) q ≡ slot_at k q
put_here p n q true h k is small other at = absurd (other (at ∙ eqb-true n p is))
put_here p n q false h k is small other at = subst (λ (r : ℕ). slot_at (with_slot h n (slot_at k n)) r ≡ slot_at k r) (sym at) (get_or-set_same h.slots n (slot_at k n) Absent small)

put_there : (n q : ℕ) (b : Bool) (h : HostState) (s : Slot) → q ≢ n → slot_at (put b h n s) q ≡ slot_at h q
put_there n q true h s other = refl
put_there n q false h s other = get_or-set_other h.slots n q s Absent other

over_here : (p q : ℕ) (h k : HostState) (n : ℕ) → n ≤ length h.slots → q < n → q ≢ p → slot_at (over p h k n) q ≡ slot_at k q
over_here p q h k zero small inside other = absurd (omega (arith, inside))
over_here p q h k (suc n) small inside other = go (q == n) refl (λ less. over_here p q h k n (omega (arith, small)) less other)
  where
    go : (b : Bool) → (q == n) ≡ b → (q < n → slot_at (over p h k n) q ≡ slot_at k q) → slot_at (over p h k (suc n)) q ≡ slot_at k q
    go true is below = put_here p n q (n == p) (over p h k n) k refl (omega (arith, small, over_many p h k n)) other (eqb-true q n is)
    go false is below =
        let differ : q ≢ n = λ e. false≢true (sym is ∙ eq-eqb q n e) in
        put_there n q (n == p) (over p h k n) (slot_at k n) differ ∙ below (omega (arith, inside, differ))

put_own_slot : (p n : ℕ) (b : Bool) (h : HostState) (s : Slot) → (n == p) ≡ b → slot_at (put b h n s) p ≡ slot_at h p
put_own_slot p n true h s is = refl
put_own_slot p n false h s is = get_or-set_other h.slots n p s Absent (λ e. false≢true (sym is ∙ eq-eqb n p (sym e)))

over_own_slot : (p : ℕ) (h k : HostState) (n : ℕ) → slot_at (over p h k n) p ≡ slot_at h p
over_own_slot p h k zero = refl
over_own_slot p h k (suc n) = put_own_slot p n (n == p) (over p h k n) (slot_at k n) refl ∙ over_own_slot p h k n

-- with all of them, it is k
over_slots : (p : ℕ) (h k : HostState) → HostsAlike p h k → (over p h k (length h.slots)).slots ≡ k.slots
over_slots p h k is = ext_get_or Absent (over p h k n).slots k.slots (over_many p h k n ∙ is.many ∙ sym is.also_many) each
  where
    n : ℕ
    n = length h.slots

    each : (q : ℕ) → q < length (over p h k n).slots → slot_at (over p h k n) q ≡ slot_at k q
    each q inside = go (q == p) refl
      where
        go : (b : Bool) → (q == p) ≡ b → slot_at (over p h k n) q ≡ slot_at k q
        go true same = subst (λ (r : ℕ). slot_at (over p h k n) r ≡ slot_at k r) (sym (eqb-true q p same)) (over_own_slot p h k n ∙ is.slot)
        go false differ = over_here p q h k n (omega arith) (omega (arith, inside, over_many p h k n)) (λ e. false≢true (sym differ ∙ eq-eqb q p e))

over_all : (p : ℕ) (h k : HostState) → HostsAlike p h k → over p h k (length h.slots) ≡ k
over_all p h k is =
    over_rest p h k (length h.slots)
    ∙ (λ i. record { slots = over_slots p h k is i; ids = is.ids i; default_pool = is.pool i; limit = is.limit i })

pub own_alike : (p : ℕ) (h k : HostState) → p < 64 → HostsAlike p h k → own (settings_of h) p ≡ own (settings_of k) p
own_alike p h k below is =
    over_own p h k (length h.slots) (omega (arith, is.many)) below is.few
    ∙ ap (λ (g : HostState). own (settings_of g) p) (over_all p h k is)
