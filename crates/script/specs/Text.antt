-- Texts in parts.
use Rattle.std.specs.Prelude.{◌≡◌, ℕ, false, ◌==◌, List, [], Option, Some, None}
use Rattle.std.specs.List.{All, slice_split}

-- the parts of a text between the places where a byte stands
abbrev pub parts : ℕ → List ℕ → List (List ℕ)
parts byte text = slice_split (λ b. b == byte) text

-- the parts of what comes after that byte, where it stands in a text
abbrev pub parts_after : ℕ → Option (List ℕ) → List (List ℕ)
parts_after byte None = []
parts_after byte (Some rest) = parts byte rest

-- the byte doesn't stand in a text
abbrev pub IsWithout : ℕ → List ℕ → Type 0
IsWithout byte text = All (λ b. (b == byte) ≡ false) text
