-- Guests that come to a function and go.
use Rattle.std.specs.Prelude.{◌≡◌, ℕ, List, length, Option, Some, None}
use Rattle.offload.specs.declared.offloads.Offloads.{Offloads}
use Rattle.vf_unit.specs.Function.{initial_with}
use Rattle.vf_unit.specs.Unit.{Function, Closed, Open}

-- over a memory as it is: closed, or open with every register initial and these offloads
abbrev pub over : Option Offloads → List ℕ → Function
over None memory = Closed (length memory)
over (Some offloads) memory = Open (initial_with offloads memory)

-- the bytes are those of the function's memory; of a closed function it is said how many they are
abbrev pub IsFormer : Function → List ℕ → Type 0
IsFormer (Closed size) bytes = length bytes ≡ size
IsFormer (Open s) bytes = bytes ≡ s.memory

-- the same function over other bytes, as many as before; of a closed function it isn't said what its bytes are
abbrev pub moved_to : Function → List ℕ → Function
moved_to (Closed size) memory = Closed size
moved_to (Open s) memory = Open (record s { memory = memory })
