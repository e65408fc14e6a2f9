-- What C holds may go to another thread: it holds nothing of a thread's own.
use mir.Raw.{raw}
use base.Shift.{Keyless}
use denote.Memory.{lone}
use denote.RawPtr.{Ptr}
use denote.Struct.Struct.{exits_of}
use denote.Struct.Owning.{shape, fields, to}
use denote.Param.Send.{IsSend, AllSend, owning_send, struct_send, sendable}
use Rattle.std.specs.Prelude.{Option, Some, None}
use Rattle.std.proofs.Crossing as heap
use Rattle.std_alloc.proofs.SendSync.{quiet, lies}
use Rattle.vfdev_c.specs.Ownership.{state_row, state_owns}
use Rattle.vfdev_c.proofs.handle_state.HandleState.TheSendSync as state
use Rattle.vfdev_c.specs.contracts.owner.Owner.{the_row, the_type}

state_send : IsSend state_row
state_send = state.the_send

owned : (at : Ptr) (held : Option state_row.Denot) → Keyless (state_owns at held)
owned at (Some world) = λ allocator. (lies state_row state_send at world, heap.frees.frees allocator (raw (lone state_row.mir)) at)
owned at None = tt

pub send : IsSend the_row
send =
    let all : AllSend (fields the_type) = (search sendable, tt) in
    owning_send the_type all (λ d. owned d.at d.held)
    (λ k. quiet (to the_type) (exits_of k (fields the_type)) ((struct_send (shape the_type) all).leaving k))
