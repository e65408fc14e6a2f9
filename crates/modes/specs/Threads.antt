-- What the mode `threads` writes: the report of a recording of the script's device, whose calls are the script's, each caller's in order.
use Rattle.std.specs.Prelude.{◌≡◌, ℕ, ◌<◌, ◌++◌, Bool, true, false, List, [], ◌∷◌, length, map, slice_index, Option, None, Some, Err, IfSome, if◌then◌else◌}
use Rattle.std.specs.List.{All}
use Rattle.std.specs.Io.KnownBytes.{Appends}
use Rattle.device.specs.Events.{Event}
use Rattle.device.specs.declared.event.Event.TheVariants.{End}
use Rattle.history.specs.Callers.{caller_of}
use Rattle.history.specs.declared.caller.Caller.{Caller}
use Rattle.history.specs.declared.caller.Caller.TheVariants.{Port, Driver, Pump, Service}
use Rattle.history.specs.Entries.{Entry, events}
use Rattle.recorder.specs.Legal.{Legal, calls_of}
use Rattle.recorder.specs.Held.{Held}
use Rattle.script.specs.Reading.{Meaning, script_of}
use Rattle.transcript.specs.Known.{Began}
use Rattle.workers.specs.Callers.{caller_before}
use Rattle.workers.specs.Counts.{made_by}
use Rattle.workers.specs.Opens.{all_closed, opened_after, pools_from}
use Rattle.workers.specs.Plans.{Planned, events_before, own_events, planned}
use Rattle.modes.specs.declared.fault.Fault.{Fault}
use Rattle.modes.specs.declared.fault.Fault.TheVariants.{BadScript, NoSuchVf, Usage, Io, NoMemory, HistoryFull}
use Rattle.modes.specs.Program.{device_of, Says}
use Rattle.modes.specs.Report.{report_text}

-- ---- what a caller asks

abbrev pub is_end : Event → Bool
is_end (End p) = true
is_end _ = false

-- a port makes no call from its first end on
abbrev pub until_end : List Event → List Event
until_end [] = []
until_end (e ∷ events) = if is_end e then [] else e ∷ until_end events

-- what a caller asks after `go`, in order: its own events; and the service at the end the end of each pool that has a port
abbrev pub asks_after : Planned → Caller → List Event
asks_after plan (Port p) = until_end (own_events plan (Port p))
asks_after plan Driver = own_events plan Driver
asks_after plan Pump = own_events plan Pump
asks_after plan Service = own_events plan Service ++ map End (pools_from 0 plan.ports)

-- ---- the calls of a recording

-- the pools that have a port: those that the calls before `go` leave open by their answers, and none where there is no `go`
abbrev pub ports_at : Option ℕ → List Entry → List Bool
ports_at None first = all_closed
ports_at (Some go) first = opened_after first all_closed

abbrev pub ports_after : Meaning → List Entry → List Bool
ports_after script first = ports_at script.go first

-- a call is of one of the 67 callers: the ports of the 64 pools, the driver, the pump and the service
abbrev pub IsOfCaller : Entry → Type 0
IsOfCaller call = (n : ℕ) × (n < 67) × (call.caller ≡ caller_of n)

-- the calls are the script's: first the events before `go`, in order, each by its caller; and behind them of each of the 67 callers just
-- what it is to ask, in order, and of nobody else
pub record AreOfScript (script : Meaning) (calls : List Entry) : Type 0 where
  pub first : List Entry
  pub rest : List Entry
  pub all : calls ≡ first ++ rest
  pub before : events first ≡ events_before script
  pub callers : All (λ (call : Entry). call.caller ≡ caller_before call.event) first
  pub known : All IsOfCaller rest
  pub each : (n : ℕ) → n < 67 → events (made_by (caller_of n) rest) ≡ asks_after (planned script (ports_after script first)) (caller_of n)

-- ---- what is written

-- a recording of the script's device: it begins at the device as it is made, its calls lead from there to the live device by the
-- answers that it keeps, each is one that its caller may make, and they are the script's
pub record IsRecordingOf (script : Meaning) (held : Held) : Type 0 where
  pub base : held.base ≡ device_of script.device
  pub legal : Legal held.base held.kept held.live
  pub calls : AreOfScript script held.kept

-- a text is the report of a recorded device: how many calls it keeps, how many of them are each caller's, and that they replay
pub record IsReportOn (held : Held) (text : List ℕ) : Type 0 where
  pub calls : List ℕ
  pub callers : length calls ≡ 67
  pub each : (n : ℕ) → n < 67 → slice_index calls n ≡ calls_of n held.kept
  pub is : text ≡ report_text (record { kept = length held.kept; calls = calls; replays = true })

-- the report of a recording of the script's device went to a writer whose bytes are known
abbrev pub WroteReport : Meaning → Option (List ℕ) → Option (List ℕ) → Type 0
WroteReport script old new = (held : Held) × IsRecordingOf script held × (text : List ℕ) × IsReportOn held text × Appends old new text

-- a beginning of it went there
abbrev pub BeganReport : Meaning → Option (List ℕ) → Option (List ℕ) → Type 0
BeganReport script old new = (held : Held) × IsRecordingOf script held × (text : List ℕ) × IsReportOn held text × Began old new text

-- so it was by the input, which says a script where its bytes are known
abbrev pub WroteThreads : Option (List ℕ) → Option (List ℕ) → Option (List ℕ) → Type 0
WroteThreads input old new = (script : Meaning) × Says input script × WroteReport script old new

abbrev pub BeganThreads : Option (List ℕ) → Option (List ℕ) → Option (List ℕ) → Type 0
BeganThreads input old new = (script : Meaning) × Says input script × BeganReport script old new

-- ---- why it stops

-- faults that may come once the script is read
abbrev pub is_of_run : Fault → Bool
is_of_run Io = true
is_of_run NoMemory = true
is_of_run HistoryFull = true
is_of_run (BadScript n) = false
is_of_run NoSuchVf = false
is_of_run Usage = false

-- what a fault tells of the input
abbrev pub StopsFor : Option (List ℕ) → Fault → Type 0
StopsFor input (BadScript n) = IfSome input (λ text. script_of text ≡ Err n)
StopsFor input HistoryFull = (script : Meaning) × Says input script
StopsFor input Io = Unit
StopsFor input NoMemory = Unit
StopsFor input NoSuchVf = ⊥
StopsFor input Usage = ⊥
