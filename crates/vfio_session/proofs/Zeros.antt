-- The first of many zeros are zeros.
use Rattle.std.proofs.Common.{◌≡◌, ℕ, ◌≤◌, take, replicate}
use Rattle.std.proofs.lemmas.List.{take-replicate}

pub first_zeros : (n : ℕ) → n ≤ 4096 → take n (replicate {A = ℕ} 4096 0) ≡ replicate n 0
first_zeros n few = take-replicate n 4096 0 few
