-- What the words of a host say of one pool.
use Rattle.std.proofs.Common.{arith, ◌≡◌, ℕ, ◌+◌, ◌*◌, ◌/◌, ◌%◌, ◌^◌, ◌<◌, ◌≤◌, Bool, true, false, cond, ◌&&◌, List, [], ◌∷◌, length, get_or, refl, sym, ap, ◌∙◌, eqb, eqb-true, ltb, ⊎_elim}
use Rattle.std.specs.Int.{bit_at}
use Rattle.std.proofs.lemmas.Bool.{eqb-false, cases_lt}
use Rattle.std.proofs.lemmas.Bool.Decides.{nat_tests}
use Rattle.std.proofs.lemmas.Nat.Bits.{bit_at-pow_same, bit_at-pow_other}
use Rattle.std.proofs.lemmas.List.FromFn.{get_or-map-range_with_len}
use Rattle.wire_frame.specs.Bits.{has_bit, has_bit_in, two_words}
use Rattle.wire_frame.proofs.BitLemmas.{has_bit_zero}
use Rattle.mailbox.specs.State.{HostState}
use Rattle.mailbox.specs.Words.{table, mask_from, pool_word, joined_at, member_word, up_at, up_word}
use Rattle.mailbox.proofs.Masks.{has_bit_mask}

-- a word of a table is the one of its place
pub table_at : (word : ℕ → ℕ) (n i : ℕ) → i < n → get_or (table n word) i 0 ≡ word i
table_at word n i h = get_or-map-range_with_len word 0 n i i 0 h (omega arith)

pub has_bit_pow : (k i : ℕ) → has_bit (2 ^ k) i ≡ eqb k i
unfolding has_bit
has_bit_pow k i = go (eqb k i) refl
  where
    go : (b : Bool) → eqb k i ≡ b → eqb (bit_at (2 ^ k) i) 1 ≡ b
    go true is = let same : k ≡ i = eqb-true k i is in rw (← same) (ap (λ v. eqb v 1) (bit_at-pow_same k))
    go false is = ap (λ v. eqb v 1) (bit_at-pow_other k i (λ same. eqb-false k i is (sym same)))

-- the word of a half that has the bit of pool a alone, if a is of that half
half_bit : (a q half : ℕ) → q / 32 ≡ half → has_bit (cond (eqb (a / 32) half) (2 ^ (a % 32)) 0) (q % 32) ≡ eqb a q
half_bit a q half is = go (eqb (a / 32) half) refl
  where
    go : (b : Bool) → eqb (a / 32) half ≡ b → has_bit (cond b (2 ^ (a % 32)) 0) (q % 32) ≡ eqb a q
    go true here = let same = eqb-true (a / 32) half here in has_bit_pow (a % 32) (q % 32) ∙ grind (arith, nat_tests, same, is)
    go false there = has_bit_zero (q % 32) ∙ grind (arith, nat_tests, there, is)

-- the two words of an entry, as words of their table
pub two_words_at : (ws : List ℕ) (k q : ℕ) → q < 64 → has_bit_in (two_words ws k) q ≡ has_bit (get_or ws (2 * k + q / 32) 0) (q % 32)
two_words_at ws k q below = ⊎_elim low high (cases_lt q 32)
  where
    low : q < 32 → has_bit_in (two_words ws k) q ≡ has_bit (get_or ws (2 * k + q / 32) 0) (q % 32)
    low small =
        let half : q / 32 ≡ 0 = omega arith in
        let place : 2 * k ≡ 2 * k + q / 32 = omega arith in
        ap (λ n. has_bit (get_or (get_or ws (2 * k) 0 ∷ get_or ws (2 * k + 1) 0 ∷ []) n 0) (q % 32)) half ∙ ap (λ n. has_bit (get_or ws n 0) (q % 32)) place

    high : 32 ≤ q → has_bit_in (two_words ws k) q ≡ has_bit (get_or ws (2 * k + q / 32) 0) (q % 32)
    high large =
        let half : q / 32 ≡ 1 = omega arith in
        let place : 2 * k + 1 ≡ 2 * k + q / 32 = omega arith in
        ap (λ n. has_bit (get_or (get_or ws (2 * k) 0 ∷ get_or ws (2 * k + 1) 0 ∷ []) n 0) (q % 32)) half ∙ ap (λ n. has_bit (get_or ws n 0) (q % 32)) place

-- an entry has its own pool alone
pub entry_pool : (e q : ℕ) → e < 128 → q < 64 → has_bit_in (two_words (table 256 pool_word) e) q ≡ eqb (e % 64) q
entry_pool e q h below =
    let at_entry : (2 * e + q / 32) / 2 ≡ e = omega arith in
    let part : (2 * e + q / 32) % 2 ≡ q / 32 = omega arith in
    two_words_at (table 256 pool_word) e q below
    ∙ ap (λ w. has_bit w (q % 32)) (table_at pool_word 256 (2 * e + q / 32) (omega arith))
    ∙ (λ i. has_bit (cond (eqb (at_entry i % 64 / 32) (part i)) (2 ^ (at_entry i % 64 % 32)) 0) (q % 32))
    ∙ half_bit (e % 64) q (q / 32) refl

pub mask_or_none : (b : Bool) (t : ℕ → Bool) (half q : ℕ) → 32 * half + q % 32 ≡ q → has_bit (cond b (mask_from t (32 * half) 32) 0) (q % 32) ≡ (b && t q)
mask_or_none true t half q is = has_bit_mask t (32 * half) 32 (q % 32) (omega arith) ∙ ap t is
mask_or_none false t half q is = has_bit_zero (q % 32)

-- a VLAN entry has the pools that joined
pub entry_member : (h : HostState) (k q : ℕ) → k < 64 → q < 64 → has_bit_in (two_words (table 128 (member_word h)) k) q ≡ (ltb (2 * k + q / 32) (2 * length h.ids) && joined_at h k q)
entry_member h k q small below =
    let at_entry : (2 * k + q / 32) / 2 ≡ k = omega arith in
    let part : (2 * k + q / 32) % 2 ≡ q / 32 = omega arith in
    let place : 32 * (q / 32) + q % 32 ≡ q = omega arith in
    two_words_at (table 128 (member_word h)) k q below
    ∙ ap (λ w. has_bit w (q % 32)) (table_at (member_word h) 128 (2 * k + q / 32) (omega arith))
    ∙ (λ i. has_bit (cond (ltb (2 * k + q / 32) (2 * length h.ids)) (mask_from (joined_at h (at_entry i)) (32 * part i) 32) 0) (q % 32))
    ∙ mask_or_none (ltb (2 * k + q / 32) (2 * length h.ids)) (joined_at h k) (q / 32) q place

-- the pools that may receive and transmit are those whose functions are up
pub up_bit : (h : HostState) (q : ℕ) → q < 64 → has_bit_in (table 2 (up_word h)) q ≡ up_at h q
up_bit h q below =
    let place : 32 * (q / 32) + q % 32 ≡ q = omega arith in
    ap (λ w. has_bit w (q % 32)) (table_at (up_word h) 2 (q / 32) (omega arith))
    ∙ has_bit_mask (up_at h) (32 * (q / 32)) 32 (q % 32) (omega arith) ∙ ap (up_at h) place
