-- What a sweep over notes of ports does.
use Rattle.std.specs.Prelude.{◌≡◌, ℕ, true, false, Bool, not, List, [], ◌∷◌, ◌++◌, filter, map}
use Rattle.std.specs.List.{All, Contains}
use Rattle.device.specs.Events.{Event}
use Rattle.device.specs.declared.event.Event.TheVariants.{End}
use Rattle.recorder.specs.Held.{HasAsked, CallerLog}
use Rattle.guest_port.specs.Notes.{Known, knows}

-- whether a note, which stands beside its pool, knows of its port's end, and whether it doesn't
abbrev pub is_ended : ℕ × Known → Bool
is_ended note = knows note.1

abbrev pub is_live : ℕ × Known → Bool
is_live note = not (knows note.1)

-- the end that a note stands for, as an event
abbrev pub end_of : ℕ × Known → Event
end_of note = End note.0

-- a note before and after somebody looked at it: it is of the same pool and the same port, it was told as much, and what it had
-- found it has found still
pub record IsLooked (before after : ℕ × Known) : Type 0 where
  pub pool : after.0 ≡ before.0
  pub port : after.1.port ≡ before.1.port
  pub told : after.1.told ≡ before.1.told
  pub found : before.1.found ≡ true → after.1.found ≡ true

-- the same of each note of a list, in order
abbrev pub AreLooked : List (ℕ × Known) → List (ℕ × Known) → Type 0
AreLooked [] [] = Unit
AreLooked (n ∷ before) (m ∷ after) = IsLooked n m × AreLooked before after
AreLooked _ _ = ⊥

-- a sweep came past the first notes, and the rest of them are left: of those that it came past, the ones that knew of their ports'
-- ends are gone, and the share asked exactly their ends, in order; the others stay, in order
pub record IsSwept (before after : List (ℕ × Known)) (old new : CallerLog) : Type 0 where
  pub passed : List (ℕ × Known)
  pub rest : List (ℕ × Known)
  pub looked : AreLooked before (passed ++ rest)
  pub asked : HasAsked (map end_of (filter is_ended passed)) old new
  pub stay : after ≡ filter is_live passed ++ rest

-- the same where the notes that are gone were put behind others, as they were when they were taken out
abbrev pub IsSweptInto : List (ℕ × Known) → List (ℕ × Known) → List (ℕ × Known) → List (ℕ × Known) → CallerLog → CallerLog → Type 0
IsSweptInto before after had has old new = (swept : IsSwept before after old new) × (has ≡ had ++ filter is_ended swept.passed)

-- none of the notes knows of an end
abbrev pub NoneEnded : List (ℕ × Known) → Type 0
NoneEnded notes = All (λ (note : ℕ × Known). knows note.1 ≡ false) notes

-- the event is the end of a pool, by one of the notes, which knows of it
pub record IsEndOfOne (event : Event) (notes : List (ℕ × Known)) : Type 0 where
  pub note : ℕ × Known
  pub among : Contains notes note
  pub ended : knows note.1 ≡ true
  pub is : event ≡ End note.0
