-- What the program writes, by what it is asked for and what the script says.
use Rattle.std.specs.Prelude.{◌≡◌, ℕ, ◌<◌, List, Option, Ok, Err, IfSome, replicate}
use Rattle.std.specs.Io.KnownBytes.{Appends}
use Rattle.device.specs.World.{World, fresh}
use Rattle.device.specs.Lone.{Lone as LoneFunction, alone}
use Rattle.script.specs.Reading.{DeviceShape, Meaning, script_of}
use Rattle.transcript.specs.Known.{Began}
use Rattle.transcript.specs.Lines.{run_text, keep_text, lone_text}
use Rattle.modes.specs.declared.fault.Fault.{Fault}
use Rattle.modes.specs.declared.fault.Fault.TheVariants.{BadScript, NoSuchVf, Usage, Io, NoMemory, HistoryFull}
use Rattle.modes.specs.declared.mode.Mode.{Mode}
use Rattle.modes.specs.declared.mode.Mode.TheVariants.{Run, Keep, Lone}
use Rattle.modes.specs.declared.mode.Task.{Task}
use Rattle.modes.specs.declared.mode.Task.TheVariants.{Run, Keep, Lone}

-- ---- what a script asks for

-- the sizes of the memories
abbrev pub sizes_of : DeviceShape → List ℕ
sizes_of device = replicate device.functions device.memory_size

-- the device as it is made
abbrev pub device_of : DeviceShape → World
device_of device = fresh device.limit (sizes_of device)

-- one of its functions by itself
abbrev pub alone_of : DeviceShape → LoneFunction
alone_of device = alone device.limit device.memory_size

-- ---- what the program is asked for

-- the task of a mode, whose pool is there
abbrev pub task_of : Mode → Task
task_of Run = Run
task_of (Keep p) = Keep p
task_of (Lone p) = Lone p

-- the pool that a task names, if it names one, is below that
abbrev pub NamesBelow : ℕ → Task → Type 0
NamesBelow n Run = Unit
NamesBelow n (Keep p) = p < n
NamesBelow n (Lone p) = p < n

-- ---- what it writes

-- what is written of what a script says
abbrev pub text_of : Task → Meaning → List ℕ
text_of Run said = run_text (device_of said.device) said.events
text_of (Keep p) said = keep_text p (device_of said.device) said.events
text_of (Lone p) said = lone_text p (alone_of said.device) (device_of said.device) said.events

-- what a reader's bytes say, where they are known
abbrev pub Says : Option (List ℕ) → Meaning → Type 0
Says input said = IfSome input (λ text. script_of text ≡ Ok said)

-- by the input, the text of the mode went to a writer whose bytes are known
abbrev pub Wrote : Mode → Option (List ℕ) → Option (List ℕ) → Option (List ℕ) → Type 0
Wrote mode input old new =
    (said : Meaning) × Says input said × NamesBelow said.device.functions (task_of mode) × Appends old new (text_of (task_of mode) said)

-- a beginning of it went there
abbrev pub BeganToWrite : Mode → Option (List ℕ) → Option (List ℕ) → Option (List ℕ) → Type 0
BeganToWrite mode input old new =
    (said : Meaning) × Says input said × NamesBelow said.device.functions (task_of mode) × Began old new (text_of (task_of mode) said)

-- ---- why it stops

-- the script is good, and the pool of the mode isn't there
abbrev pub LacksPool : Mode → Option (List ℕ) → Type 0
LacksPool mode input = (said : Meaning) × Says input said × (NamesBelow said.device.functions (task_of mode) → ⊥)

-- what a fault tells of the script
abbrev pub Tells : Mode → Option (List ℕ) → Fault → Type 0
Tells mode input (BadScript n) = IfSome input (λ text. script_of text ≡ Err n)
Tells mode input NoSuchVf = LacksPool mode input
Tells mode input Io = Unit
Tells mode input NoMemory = Unit
Tells mode input Usage = ⊥
Tells mode input HistoryFull = ⊥

-- the fault of a script whose first bad line has that number, if reading comes so far
abbrev pub StopsAt : ℕ → Fault → Type 0
StopsAt n (BadScript line) = line ≡ n
StopsAt n Io = Unit
StopsAt n NoMemory = Unit
StopsAt n NoSuchVf = ⊥
StopsAt n Usage = ⊥
StopsAt n HistoryFull = ⊥
