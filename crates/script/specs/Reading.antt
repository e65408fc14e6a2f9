-- What the text of a script says, line by line.
use Rattle.std.specs.Prelude.{ℕ, ◌+◌, Bool, ◌&&◌, is_none, ◌==◌, List, [], ◌∷◌, ◌++◌, Option, Some, None, Result, Ok, Err, length, slice_index, codes, nat_le, nat_lt, ok_or, if◌then◌else◌}
use Rattle.std.specs.Option.{option_map}
use Rattle.std.specs.Str.{bytes_eq}
use Rattle.guest_memory.specs.Memory.{is_memory_size}
use Rattle.device.specs.Events.{Event}
use Rattle.device.specs.World.{is_frame_limit}
use Rattle.script.specs.Numbers.{number_of}
use Rattle.script.specs.Text.{parts}
use Rattle.script.specs.Kinds.{kind_of}
use Rattle.script.specs.Words.{at_most, none_of, two_or_three_of, words_of}
use Rattle.script.specs.Lines.{event_by, ◌>>=◌}

-- ---- the device

-- how many virtual functions, the size of the memory of each, and how long frames may be
pub record DeviceShape : Type 0 where
  pub functions : ℕ
  pub memory_size : ℕ
  pub limit : ℕ

abbrev pub asked : ℕ → ℕ → ℕ → Option DeviceShape
asked functions size limit =
    if nat_le 1 functions && is_memory_size size
    then Some (record { functions = functions; memory_size = size; limit = limit }) else None

-- how long frames may be: 1518 bytes, or as many as a word says
abbrev pub limit_in : Option ℕ → Option ℕ
limit_in None = None
limit_in (Some n) = if is_frame_limit n then Some n else None

abbrev pub limit_of : Option (List ℕ) → Option ℕ
limit_of None = Some 1518
limit_of (Some word) = limit_in (number_of word)

-- the device that the words after `vfs` ask for
abbrev pub device_of : List (List ℕ) → Option DeviceShape
device_of words = do
  (functions, (size, limit)) ← two_or_three_of words
  n ← at_most 64 (number_of functions)
  bytes ← number_of size
  most ← limit_of limit
  asked n bytes most

-- ---- a line

-- what the lines so far have said
pub record Reading : Type 0 where
  -- how many they are
  pub lines : ℕ
  pub device : Option DeviceShape
  -- a line `go` was among them, after so many events
  pub go : Option ℕ
  pub events : List Event

abbrev pub at_first : Reading
at_first = record { lines = 0; device = None; go = None; events = [] }

-- a line with words, after the device was asked for: one `go`, or one of at most 60,000 events
abbrev pub said_then : Reading → DeviceShape → List ℕ → List (List ℕ) → Option Reading
said_then r device name words =
    if bytes_eq name (codes "go") && is_none r.go then option_map (λ _. record r { go = Some (length r.events) }) (none_of words) else
    if nat_lt (length r.events) 60000 then (do
      kind ← kind_of name
      event ← event_by device.limit kind words
      Some (record r { events = r.events ++ event ∷ [] })) else None

-- a line with words: the first one asks for the device
abbrev pub said_by : Reading → Option DeviceShape → List ℕ → List (List ℕ) → Option Reading
said_by r None name words =
    if bytes_eq name (codes "vfs") then option_map (λ device. record r { device = Some device }) (device_of words) else None
said_by r (Some device) name words = said_then r device name words

-- a line without words says nothing
abbrev pub said : Reading → List (List ℕ) → Option Reading
said r [] = Some r
said r (name ∷ words) = said_by r r.device name words

-- a line that begins with `#` says nothing
abbrev pub is_comment : List ℕ → Bool
is_comment line = nat_le 1 (length line) && slice_index line 0 == 35

abbrev pub heard : Reading → List ℕ → Option Reading
heard r line = if is_comment line then Some r else said r (words_of line)

abbrev pub counted : Reading → Reading
counted r = record r { lines = r.lines + 1 }

-- one of at most 100,000 lines, of at most 40,000 bytes
unfoldable pub line_after : Reading → List ℕ → Option Reading
line_after r line =
    if nat_lt r.lines 100000 && nat_le (length line) 40000 then option_map counted (heard r line) else None

-- ---- a text

-- the lines of a text; one that nothing follows isn't there where it is empty
abbrev pub ended : List (List ℕ) → List (List ℕ)
ended [] = []
ended (line ∷ []) = if nat_le 1 (length line) then line ∷ [] else []
ended (line ∷ next ∷ rest) = line ∷ ended (next ∷ rest)

abbrev pub lines_of : List ℕ → List (List ℕ)
lines_of text = ended (parts 10 text)

-- what follows, where there was no bad line
abbrev pub ok_then : {A B : Type 0} → Result A ℕ → (A → Result B ℕ) → Result B ℕ
ok_then (Ok read) next = next read
ok_then (Err line) next = Err line

-- what lines say after others, or the number of the first bad one
abbrev pub read_on : List (List ℕ) → Reading → Result Reading ℕ
read_on [] r = Ok r
read_on (line ∷ rest) r = ok_then (ok_or (line_after r line) (r.lines + 1)) (read_on rest)

-- what a script says: the device that it asks for, the events that it gives to it, and how many of them come before its
-- line `go`, if it has one
pub record Meaning : Type 0 where
  pub device : DeviceShape
  pub go : Option ℕ
  pub events : List Event

abbrev pub meant : Option ℕ → List Event → DeviceShape → Meaning
meant go events device = record { device = device; go = go; events = events }

-- a script that asks for no device is bad at its first line
abbrev pub finished : Reading → Result Meaning ℕ
finished r = ok_or (option_map (meant r.go r.events) r.device) 1

-- what a script says, or the number of its first bad line
abbrev pub script_of : List ℕ → Result Meaning ℕ
script_of text = ok_then (read_on (lines_of text) at_first) finished
