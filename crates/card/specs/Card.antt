-- A card: a device with its host, and the end of each function's connection.
use Rattle.std.specs.Prelude.{◌≡◌, ◌≢◌, ℕ, Bool, false, List, replicate, slice_index, slice_index_or, slice_set}
use Rattle.irq_causes.specs.Messages.{no_messages}
use Rattle.offload.specs.declared.offloads.Offloads.{Offloads}
use Rattle.mailbox.specs.State.{HostState}
use Rattle.vfio_session.specs.Sessions.{SessionState, fresh, offering}
use Rattle.hosted.specs.Hosted.{HostedState, IsBegun, LeavesOthers}

-- the session, and of each transmit queue whether it may have descriptors that were not taken yet
pub record EndState : Type 0 where
  pub session : SessionState
  pub busy_0 : Bool
  pub busy_1 : Bool

-- nothing was said, nothing is offered, and no queue is busy
abbrev pub quiet : EndState
quiet = record { session = fresh; busy_0 = false; busy_1 = false }

-- the device with its host, the ends by their pools, and of each pool the vectors that were raised and not handed out yet
pub record CardState : Type 0 where
  pub hosted : HostedState
  pub ends : List EndState
  pub raised : List ℕ

abbrev pub end_at : CardState → ℕ → EndState
end_at c p = slice_index_or c.ends p quiet

abbrev pub with_end : CardState → ℕ → EndState → CardState
with_end c p e = record c { ends = slice_set c.ends p e }

-- in the session of pool p an area is offered to its client, and all else is as it was
abbrev pub with_offer : CardState → ℕ → CardState
with_offer c p = with_end c p (record (end_at c p) { session = offering (end_at c p).session })

-- the end of pool p as a new one, with nothing raised
abbrev pub cleared : CardState → ℕ → CardState
cleared c p = record c { ends = slice_set c.ends p quiet; raised = slice_set c.raised p 0 }

-- as it is made, with these offloads
pub record IsMade (begins : HostState) (offloads : Offloads) (sizes : List ℕ) (c : CardState) : Type 0 where
  pub hosted : IsBegun begins offloads sizes c.hosted
  pub ends : c.ends ≡ replicate 64 quiet
  pub raised : c.raised ≡ no_messages

-- every function but p's is as it was: in the device, at the host, its mailbox, its session, its busy queues, and what was raised
pub record LeavesAlone (p : ℕ) (old new : CardState) : Type 0 where
  pub hosted : LeavesOthers p old.hosted new.hosted
  pub ends : (q : ℕ) → q ≢ p → end_at new q ≡ end_at old q
  pub raised : (q : ℕ) → q ≢ p → slice_index new.raised q ≡ slice_index old.raised q
