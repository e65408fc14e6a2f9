-- Bytes read before a descriptor and behind it, and its own between.
use Rattle.std.proofs.Common.{◌≡◌, ℕ, ◌+◌, ◌-◌, min, ◌<◌, ◌≤◌, inl, inr, List, ◌++◌, length, get_or, slice_range, sym, ap, ◌∙◌, arith}
use Rattle.std.proofs.lemmas.List.{places, same_lists}
use Rattle.guest_memory.specs.Memory.{overwrite, two_words}
use Rattle.live_memory.proofs.Written.{size_written, written_there, kept_apart}

pub length_two_words : (low high : ℕ) → length (two_words low high) ≡ 16
unfolding two_words
length_two_words low high = grind arith

slice_join : (m : List ℕ) (a b c : ℕ) → a ≤ b → b ≤ c → c ≤ length m → slice_range m a b ++ slice_range m b c ≡ slice_range m a c
slice_join m a b c h k l = same_lists _ _ (grind (arith, places)) (λ i d x. grind (arith, places))

own_there : (m own : List ℕ) (s skip n : ℕ) → own ≡ slice_range m s (s + 16) → skip + n ≤ 16 → s + 16 ≤ length m → slice_range own skip (skip + n) ≡ slice_range m (s + skip) (s + skip + n)
own_there m own s skip n e within inside = rw e (same_lists _ _ (grind (arith, places)) (λ i d x. grind (arith, places)))

-- how the bytes from b on lie around the 16 from s on, in a memory of n: up to `low` before them, from `high` on behind them, and
-- between from their place `skip` on
pub record Ways (n b s size low high skip : ℕ) : Type 0 where
  pub before : low ≤ high
  pub behind : high ≤ size
  pub middle : s + skip ≡ b + low
  pub within : skip + (high - low) ≤ 16
  pub inside : b + size ≤ n
  pub own : s + 16 ≤ n
  pub first : b + low ≤ s + 16
  pub high_place : b + high ≤ s + 16
  pub low_part : 0 < low → b + low ≤ s
  pub high_part : high < size → b + high ≡ s + 16
  pub last : s + 16 + (size - high) ≤ n

pub ways : (n b s size low high skip rest : ℕ) → low ≡ s - b → skip ≡ b - s → rest ≡ s + 16 - b → high ≡ min rest size → b + size ≤ n → s + 16 ≤ n → s < b + size → b < s + 16 → Ways n b s size low high skip
ways n b s size low high skip rest e1 e2 e3 e4 inside own over under = record {
  before = omega arith;
  behind = omega arith;
  middle = omega arith;
  within = omega arith;
  inside = inside;
  own = own;
  first = omega arith;
  high_place = omega arith;
  low_part = λ some. omega (arith, some);
  high_part = λ some. omega (arith, some);
  last = omega arith;
}

module _ (n b s size low high skip : ℕ) (xs own zs m : List ℕ) (w : Ways n b s size low high skip) (len : length m ≡ n) (low_len : length xs ≡ low) (high_len : length zs ≡ size - high) (is : own ≡ slice_range m s (s + 16)) where
  once : List ℕ
  once = overwrite b xs m

  twice : List ℕ
  twice = overwrite (s + 16) zs (overwrite b xs m)

  size_once : length (overwrite b xs m) ≡ n
  size_once = size_written b xs m (omega (arith, w.inside, w.before, w.behind, low_len, len)) ∙ len

  size_twice : length (overwrite (s + 16) zs (overwrite b xs m)) ≡ n
  size_twice = size_written (s + 16) zs (overwrite b xs m) (omega (arith, w.last, size_once, high_len)) ∙ size_once

  part_one : slice_range (overwrite (s + 16) zs (overwrite b xs m)) b (b + low) ≡ xs
  part_one =
      kept_apart (s + 16) (size - high) b low zs (overwrite b xs m) high_len (omega (arith, w.last, size_once)) (inr w.first)
      ∙ written_there b low xs m low_len (omega (arith, w.inside, w.before, w.behind, len))

  part_two : slice_range (overwrite (s + 16) zs (overwrite b xs m)) (b + low) (b + low + (high - low)) ≡ slice_range own skip (skip + (high - low))
  part_two =
      kept_apart (s + 16) (size - high) (b + low) (high - low) zs (overwrite b xs m) high_len (omega (arith, w.last, size_once)) (inr (omega (arith, w.high_place, w.before)))
      ∙ kept_apart b low (b + low) (high - low) xs m low_len (omega (arith, w.inside, w.before, w.behind, len)) (inl (omega arith))
      ∙ ap (λ (i : ℕ). slice_range m i (i + (high - low))) (sym w.middle)
      ∙ sym (own_there m own s skip (high - low) is w.within (omega (arith, w.own, len)))

  part_three_at : b + high ≡ s + 16 → slice_range (overwrite (s + 16) zs (overwrite b xs m)) (b + high) (b + high + (size - high)) ≡ zs
  part_three_at at =
      ap (λ (i : ℕ). slice_range (overwrite (s + 16) zs (overwrite b xs m)) i (i + (size - high))) at
      ∙ written_there (s + 16) (size - high) zs (overwrite b xs m) high_len (omega (arith, w.last, size_once))

  part_three : slice_range (overwrite (s + 16) zs (overwrite b xs m)) (b + high) (b + high + (size - high)) ≡ zs
  part_three =
      let inside : b + high + (size - high) ≤ length (overwrite (s + 16) zs (overwrite b xs m)) = omega (arith, size_twice, w.inside, w.behind) in
      same_lists _ _ (grind (arith, places, inside, high_len)) (λ k d h. ap (λ (l : List ℕ). get_or l k d) (part_three_at (w.high_part (grind (arith, places, inside, h)))))

  -- what is read and what is taken from the descriptor are the bytes that stand there then
  pub around : xs ++ (slice_range own skip (skip + (high - low)) ++ zs) ≡ slice_range (overwrite (s + 16) zs (overwrite b xs m)) b (b + size)
  around =
      let to_high : b + low + (high - low) ≡ b + high = omega (arith, w.before) in
      let to_end : b + high + (size - high) ≡ b + size = omega (arith, w.behind) in
      let M : List ℕ = overwrite (s + 16) zs (overwrite b xs m) in
      let two : slice_range M (b + low) (b + high) ≡ slice_range own skip (skip + (high - low)) = ap (slice_range M (b + low)) (sym to_high) ∙ part_two in
      let three : slice_range M (b + high) (b + size) ≡ zs = ap (slice_range M (b + high)) (sym to_end) ∙ part_three in
      (λ i. sym part_one i ++ (sym two i ++ sym three i))
      ∙ ap (λ (l : List ℕ). slice_range M b (b + low) ++ l) (slice_join M (b + low) (b + high) (b + size) (omega (arith, w.before)) (omega (arith, w.behind)) (omega (arith, w.inside, size_twice)))
      ∙ slice_join M b (b + low) (b + size) (omega arith) (omega (arith, w.before, w.behind)) (omega (arith, w.inside, size_twice))
