-- Bytes that are laid out in a room where they are read.
use Rattle.std.specs.Prelude.{◌≡◌, ℕ, ◌+◌, ◌-◌, ◌≤◌, ◌++◌, List, Option, Some, None, MatchOption, option_and_then, length, take}
use Rattle.script.specs.Bytes.{few}

-- so many bytes stand at the start of the room, which are those that were read; or none were, or more than it has room for
abbrev pub Laid : Option (List ℕ) → Option ℕ → ℕ → List ℕ → Type 0
Laid read result size room =
    MatchOption result (option_and_then (few size) read ≡ None) (λ count. (count ≤ size) × (read ≡ Some (take count room)))

-- the bytes that were read, from a place of the room on
pub record Stand (read : Option (List ℕ)) (at end : ℕ) (old new : List ℕ) : Type 0 where
  pub bytes : List ℕ
  pub is : read ≡ Some bytes
  pub room : take end new ≡ take at old ++ bytes
  pub sum : end ≡ at + length bytes
  pub inside : end ≤ length new

-- they stand from a place on up to another; or none were read, or more than there is room for
abbrev pub LaidAt : Option (List ℕ) → ℕ → Option ℕ → List ℕ → List ℕ → Type 0
LaidAt read at result old new =
    MatchOption result (option_and_then (few (length old - at)) read ≡ None) (λ end. Stand read at end old new)
