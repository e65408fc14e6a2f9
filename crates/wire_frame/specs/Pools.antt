-- Sets of pools as words: bit p is 1 where pool p is in the set.
use Rattle.std.specs.Prelude.{ℕ, ◌≡◌, ◌≢◌, ◌<◌, Option}
use Rattle.std.specs.Option.{MatchOption}
use Rattle.std.specs.Int.{bit_at}

-- the pool is the lowest of the set, and what is left is the set without it
pub record IsLowestTaken (before pool after : ℕ) : Type 0 where
  pub below : pool < 64
  pub there : bit_at before pool ≡ 1
  pub lowest : (k : ℕ) → k < pool → bit_at before k ≡ 0
  pub gone : bit_at after pool ≡ 0
  pub others : (k : ℕ) → k ≢ pool → bit_at after k ≡ bit_at before k
  pub fewer : after < before

-- one turn over the pools of a set: the lowest, or none of an empty set
abbrev pub TakesLowest : ℕ → Option ℕ → ℕ → Type 0
TakesLowest before found after = MatchOption found ((before ≡ 0) × (after ≡ 0)) (λ pool. IsLowestTaken before pool after)
