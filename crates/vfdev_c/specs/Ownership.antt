-- What C hands over or holds: the bytes of a block, and the box of what a handle leads to.
use base.Fml.{Fml, ftrue, fex}
use base.Stored.{Coded}
use base.Fraction.{full_share}
use denote.Array.{Array}
use denote.Builtin.{u8}
use denote.RattleType.{RattleType}
use denote.RawPtr.{Ptr, lies_at}
use Rattle.std.specs.Prelude.{Option, Some, None, ℕ, List}
use Rattle.std.specs.Coded.{coded_option}
use Rattle.std.specs.Box.Ownership.{box_owns}
use Rattle.std.specs.Global.{Global}
use Rattle.std_heap.specs.contracts.GlobalAllocator.TheImpl.{ghosts}
use Rattle.vfdev_c.specs.contracts.handle_state.HandleState as state

-- what a handle leads to, as a type
abbrev pub state_row : RattleType
state_row = state.the_row

-- the block of it that is at the pointer, with the right to free it, or nothing
abbrev pub state_owns : Ptr → Option state_row.Denot → Fml
state_owns at (Some held) = fex Global (λ heap. box_owns (ghosts.dealloc_token heap) state_row at held)
state_owns at None = ftrue

abbrev pub state_coded : Coded (Option state_row.Denot)
state_coded = coded_option state_row.coded

-- what a block owns: all of its bytes
abbrev pub block_owns : Ptr → ℕ → List ℕ → Fml
block_owns at len bytes = lies_at (Array u8 len) full_share at bytes
