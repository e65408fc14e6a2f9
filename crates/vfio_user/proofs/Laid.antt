-- Parts, laid one behind the other.
use Rattle.std.proofs.Common.{◌≡◌, ℕ, ◌+◌, ◌≤◌, List, ◌++◌, length, take, drop, arith, rules}
use Rattle.std.proofs.lemmas.List.{places, same_lists}

-- one part more
pub laid_on : (r done f one : List ℕ) (n m : ℕ) → n ≡ length done → m ≡ n + length f → m ≤ length r → one ≡ done ++ drop n r → take n one ++ (f ++ drop m one) ≡ (done ++ f) ++ drop m r
laid_on r done f one n m nn mm few is = same_lists _ _ (search (rules, places)) (λ k d h. grind (arith, places))
