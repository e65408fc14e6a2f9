-- Behind the space nothing is written, and nothing resets the function.
use Rattle.std.proofs.Common.{◌≡◌, ℕ, suc, ◌≤◌, List, [], ◌∷◌, length, false, refl, ap, ◌∙◌, arith}
use Rattle.std.proofs.lemmas.List.{set_past}
use Rattle.pci_function.specs.Space.{with_byte, with_bytes, resets}

pub nothing_written : (k : ℕ) (xs space : List ℕ) → length space ≡ 256 → 256 ≤ k → with_bytes k xs space ≡ space
unfolding with_bytes with_byte
nothing_written k [] space whole behind = refl
nothing_written k (x ∷ xs) space whole behind =
    let same : with_byte space k x ≡ space = set_past space k _ (omega (arith, whole, behind)) in
    ap (with_bytes (suc k) xs) same ∙ nothing_written (suc k) xs space whole (omega (arith, behind))

pub nothing_reset : (k : ℕ) (xs : List ℕ) → 256 ≤ k → resets k xs ≡ false
unfolding resets
nothing_reset k [] behind = refl
nothing_reset k (x ∷ xs) behind = grind (arith, nothing_reset (suc k) xs (omega (arith, behind)))
