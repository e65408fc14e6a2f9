-- What a memory answers that turns: so many bytes of those that come next, or zeros where more are asked.
use Rattle.std.proofs.Common.{◌≡◌, ℕ, Bool, true, false, nat_le, List, length, take, replicate, refl, arith}
use Rattle.std.specs.Prelude.{if◌then◌else◌}
use Rattle.std.proofs.lemmas.List.{length-take-le, length-replicate}

abbrev pub turned : ℕ → List ℕ → List ℕ
turned count next = if nat_le count 64 then take count next else replicate count 0

pub length_turned : (count : ℕ) (next : List ℕ) → length next ≡ 64 → length (turned count next) ≡ count
length_turned count next long = at (nat_le count 64) refl
  where
    at : (few : Bool) → nat_le count 64 ≡ few → length (turned count next) ≡ count
    at true is = rw is (length-take-le count next (grind (arith, is, long)))
    at false is = rw is (length-replicate count 0)
