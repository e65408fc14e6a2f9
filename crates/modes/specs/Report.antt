-- What the mode `threads` reports of a recorded device.
use Rattle.std.specs.Prelude.{◌≡◌, ℕ, ◌+◌, ◌<◌, ◌==◌, Bool, IsTrue, ◌↔◌, List, [], ◌++◌, length, slice_index, Option, codes, decimal, if◌then◌else◌}
use Rattle.std.specs.Io.KnownBytes.{Appends}
use Rattle.device.specs.World.{World, answers}
use Rattle.history.specs.Callers.{caller_of}
use Rattle.history.specs.declared.caller.Caller.{Caller}
use Rattle.history.specs.declared.caller.Caller.TheVariants.{Port, Driver, Pump, Service}
use Rattle.history.specs.Entries.{events, given}
use Rattle.recorder.specs.Legal.{calls_of}
use Rattle.recorder.specs.Held.{Held}
use Rattle.transcript.specs.Known.{Began}
use Rattle.transcript.specs.Lines.{numbered}
use Rattle.modes.specs.declared.report.Report.{Report}

-- ---- what is told

-- how many calls are kept, how many each of the 67 callers made, with those that were folded away, and whether the other device
-- gives the kept answers
pub record Tells (held : Held) (other : World) (report : Report) : Type 0 where
  pub kept : report.kept ≡ length held.kept
  pub callers : length report.calls ≡ 67
  pub calls : (c : ℕ) → c < 67 → slice_index report.calls c ≡ slice_index held.tallies c + calls_of c held.kept
  pub replays : IsTrue report.replays ↔ (answers other (events held.kept) ≡ given held.kept)

-- ---- its text

-- a number after a space, and the end of the line
unfoldable pub number_end : ℕ → List ℕ
number_end n = codes " " ++ (decimal n ++ codes "\n")

-- the name of a caller: a port has its pool's number
unfoldable pub caller_name : Caller → List ℕ
caller_name (Port p) = codes "port" ++ decimal p
caller_name Driver = codes "pf"
caller_name Pump = codes "pump"
caller_name Service = codes "service"

-- the line of a caller with the number of its calls; none where it made no call
unfoldable pub caller_line : Caller → ℕ → List ℕ
caller_line c count = if count == 0 then [] else codes "caller " ++ (caller_name c ++ number_end count)

-- that of the caller of a number
abbrev pub line_of : ℕ → ℕ → List ℕ
line_of n count = caller_line (caller_of n) count

unfoldable pub replay_line : Bool → List ℕ
replay_line replays = if replays then codes "replay ok\n" else codes "replay differs\n"

-- the line of the history, those of the callers by their numbers, from 0 on, and the line of the replay
unfoldable pub report_text : Report → List ℕ
report_text r = codes "history" ++ (number_end r.kept ++ (numbered line_of 0 r.calls ++ replay_line r.replays))

-- ---- what is written

-- the text of what is so went to a writer whose bytes are known
abbrev pub Reported : Held → World → Option (List ℕ) → Option (List ℕ) → Type 0
Reported held other old new = (report : Report) × Tells held other report × Appends old new (report_text report)

-- a beginning of it went there
abbrev pub BeganToReport : Held → World → Option (List ℕ) → Option (List ℕ) → Type 0
BeganToReport held other old new = (report : Report) × Tells held other report × Began old new (report_text report)
