-- To each function of a device, a script's run is as if the function were alone: in its answers, in the lines that are written of
-- them, and in what it leaves behind.
use Rattle.std.specs.Prelude.{◌≡◌, ℕ, ◌<◌, List, ◌++◌, Option, length}
use Rattle.std.specs.Io.KnownBytes.{Appends}
use Rattle.device.specs.declared.event.Answer.{Answer}
use Rattle.device.specs.World.{World, answers, world_after}
use Rattle.device.specs.Lone.{Item, keep, lone_of, lone_seen, lone_after, seen_by}
use Rattle.script.specs.Reading.{Meaning}
use Rattle.transcript.specs.Known.{Began, Sent}
use Rattle.transcript.specs.Lines.{if_any, lines, frame_lines, lone_text, cut_text, numbered, present}
use Rattle.transcript.specs.Text.{item_line}
use Rattle.modes.specs.declared.mode.Mode.{Mode}
use Rattle.modes.specs.declared.mode.Task.{Task}
use Rattle.modes.specs.declared.mode.Task.TheVariants.{Run, Keep, Lone}
use Rattle.modes.specs.Program.{alone_of, device_of, task_of, Says}

-- ---- of a function among others

-- what function p sees of the answers is what is seen of it alone, where it is given no more than is kept for it of the events
abbrev pub SeesAsAlone : Meaning → List Answer → ℕ → Type 0
SeesAsAlone said given p = seen_by p said.events given ≡ lone_seen (alone_of said.device) (keep p (device_of said.device) said.events)

-- and the lines of the answers, cut down to the events of p and the marks of p, are the lines of what is seen of it alone
abbrev pub ReadsAsAlone : Meaning → List Answer → ℕ → Type 0
ReadsAsAlone said given p = cut_text p said.events given ≡ lone_text p (alone_of said.device) (device_of said.device) said.events

-- there is one answer to each event, and they are so for each function of the device
abbrev pub AreIsolated : Meaning → List Answer → Type 0
AreIsolated said given =
    (length given ≡ length said.events) × ((p : ℕ) → p < said.device.functions → SeesAsAlone said given p × ReadsAsAlone said given p)

-- each function and its own settings are what the function alone becomes
abbrev pub AreLeftAsAlone : Meaning → World → Type 0
AreLeftAsAlone said after =
    (p : ℕ) → p < said.device.functions → lone_of p after ≡ lone_after (alone_of said.device) (keep p (device_of said.device) said.events)

-- ---- of what is written

-- behind what was held before, the lines of such answers, numbered from 1, and then of these frames, and nothing else
abbrev pub SentIsolated : Meaning → List (List ℕ) → Option (List ℕ) → Option (List ℕ) → List ℕ → List ℕ → Type 0
SentIsolated said frames old new before held =
    (given : List Answer) × AreIsolated said given × Sent old new (before ++ (lines 1 given ++ frame_lines frames)) held

-- the text of `run` is the lines of such answers and then of the frames that are kept of those that left; the text of `keep` is the
-- lines of what the function alone is given, each with the number of an event; and the text of `lone` is the lines of the answers,
-- cut down to the function
abbrev pub IsIsolatedText : Task → Meaning → List ℕ → Type 0
IsIsolatedText Run said text =
    (given : List Answer) × AreIsolated said given × (text ≡ lines 1 given ++ frame_lines (world_after (device_of said.device) said.events).wire)
IsIsolatedText (Keep p) said text =
    (items : List (Option Item)) × (present items ≡ keep p (device_of said.device) said.events) × (text ≡ numbered (if_any item_line) 1 items)
IsIsolatedText (Lone p) said text = text ≡ cut_text p said.events (answers (device_of said.device) said.events)

-- by the input, such a text of the mode went to a writer whose bytes are known
abbrev pub WroteIsolated : Mode → Option (List ℕ) → Option (List ℕ) → Option (List ℕ) → Type 0
WroteIsolated mode input old new =
    (said : Meaning) × Says input said × (text : List ℕ) × IsIsolatedText (task_of mode) said text × Appends old new text

-- a beginning of one went there
abbrev pub BeganIsolated : Mode → Option (List ℕ) → Option (List ℕ) → Option (List ℕ) → Type 0
BeganIsolated mode input old new =
    (said : Meaning) × Says input said × (text : List ℕ) × IsIsolatedText (task_of mode) said text × Began old new text
