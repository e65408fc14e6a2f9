-- The bytes of a script's events, which stand in a pool as they are, or as a word that writes them.
use Rattle.std.specs.Prelude.{◌≡◌, ℕ, ◌+◌, ◌≤◌, true, List, [], Option, Some, None, length, take, drop, if◌then◌else◌}
use Rattle.script.specs.Bytes.{bytes_of}
use Rattle.script.specs.declared.store.Stored.{Stored}

-- what a span has of the pool
abbrev pub part : List ℕ → Stored → List ℕ
part pool span = take span.count (drop span.at pool)

-- the bytes that were read, and none where nothing was
abbrev pub or_none : Option (List ℕ) → List ℕ
or_none None = []
or_none (Some bytes) = bytes

-- the bytes of a span: what it has of the pool, or what that writes as a word
abbrev pub bytes_at : List ℕ → Stored → List ℕ
bytes_at pool span = if span.is_word then or_none (bytes_of (part pool span)) else part pool span

-- the span lies inside, and a word in it writes bytes
pub record Lies (pool : List ℕ) (span : Stored) : Type 0 where
  pub inside : span.at + span.count ≤ length pool
  pub reads : span.is_word ≡ true → bytes_of (part pool span) ≡ Some (bytes_at pool span)

-- what was kept stays, and more may stand behind it
abbrev pub Grows : List ℕ → List ℕ → Type 0
Grows old new = take (length old) new ≡ old
