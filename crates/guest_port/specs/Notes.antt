-- What a note of a port's end knows.
use Rattle.std.specs.Prelude.{ℕ, Bool, true, false, ◌||◌}

pub record Known : Type 0 where
  -- which port it is of: the notes of one port have one number, and those of another have another
  pub port : ℕ
  -- it has found the end where the port sets it
  pub found : Bool
  -- another note of the port told it of the end
  pub told : Bool

-- whether the note knows that its port has ended
abbrev pub knows : Known → Bool
knows note = note.found || note.told

-- a note that has not looked yet
abbrev pub new_note : ℕ → Known
new_note port = record { port = port; found = false; told = false }

-- the note once it has found the end
abbrev pub having_found : Known → Known
having_found note = record note { found = true }
