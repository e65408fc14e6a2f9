-- How much is held at most of what is on its way to a writer.
use Rattle.std.specs.Prelude.{ℕ}

-- 65536 bytes, and the longest line, which offers a frame of 9018: 20 digits of its number, 9 characters, two digits
-- for each byte, and its end
abbrev pub MOST_HELD : ℕ
MOST_HELD = 83602
