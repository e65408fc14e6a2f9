-- A memory whose bytes are all made zero.
use Rattle.std.specs.Prelude.{ℕ, Bool, ◌==◌, List, [], ◌∷◌, ◌++◌, replicate, if◌then◌else◌}
use Rattle.live_memory.specs.Trace.{Access, Wrote}

-- zero is written over n bytes, which are all: one access, if there is a byte
abbrev pub clearing : ℕ → List Access
clearing n = if n == 0 then [] else Wrote 0 (replicate n 0) ∷ []

-- what a memory notes with that: it notes what is done with it, if others write it
abbrev pub with_clearing : Bool → List Access → ℕ → List Access
with_clearing shared before n = if shared then before ++ clearing n else before
