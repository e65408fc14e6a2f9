-- The pools that the events before `go` leave open, by the answers that were kept.
use Rattle.std.specs.Prelude.{◌≡◌, ℕ, ◌+◌, Bool, true, false, List, [], ◌∷◌, MatchOption, replicate, slice_set, nat_lt, if◌then◌else◌}
use Rattle.device.specs.Events.{Event}
use Rattle.device.specs.declared.event.Event.TheVariants.{Open, End, PfReset}
use Rattle.device.specs.Replies.{Reply}
use Rattle.device.specs.declared.event.Reply.TheVariants.{Done}
use Rattle.history.specs.Entries.{Entry, events}
use Rattle.recorder.specs.declared.shares.Shares.{Shares}
use Rattle.script.specs.Reading.{Meaning}
use Rattle.workers.specs.Counts.{HaveKept}
use Rattle.workers.specs.Plans.{events_before}

-- no pool is open
abbrev pub all_closed : List Bool
all_closed = replicate 64 false

-- one pool is, or isn't
abbrev pub with_pool : ℕ → Bool → List Bool → List Bool
with_pool p is_open pools = if nat_lt p 64 then slice_set pools p is_open else pools

-- for each pool whether it is open after an event that was done
abbrev pub opened_by : Event → List Bool → List Bool
opened_by (Open p) pools = with_pool p true pools
opened_by (End p) pools = with_pool p false pools
opened_by PfReset pools = all_closed
opened_by _ pools = pools

-- and after an event, by its reply
abbrev pub opened : Event → Reply → List Bool → List Bool
opened event Done pools = opened_by event pools
opened event _ pools = pools

-- and after calls, in order, by the answers that were kept
abbrev pub opened_after : List Entry → List Bool → List Bool
opened_after [] pools = pools
opened_after (call ∷ calls) pools = opened_after calls (opened call.event call.answer.reply pools)

-- events before `go` are recorded, and these are the pools that the kept answers leave open
pub record HaveLeft {L : Type 0} (first : List Event) (pools : List Bool) (old new : Shares L) : Type 0 where
  pub calls : List Entry
  pub asked : events calls ≡ first
  pub kept : HaveKept calls old new
  pub left : pools ≡ opened_after calls all_closed

-- the pools that are open, by their numbers from one on
abbrev pub pools_from : ℕ → List Bool → List ℕ
pools_from p [] = []
pools_from p (is_open ∷ rest) = if is_open then p ∷ pools_from (p + 1) rest else pools_from (p + 1) rest

-- the events before `go` are recorded, and the pools that are open there are these, rising: none where there is no `go`
pub record IsPrepared {L : Type 0} (script : Meaning) (pools : List ℕ) (old new : Shares L) : Type 0 where
  pub calls : List Entry
  pub asked : events calls ≡ events_before script
  pub kept : HaveKept calls old new
  pub left : MatchOption script.go (pools ≡ []) (λ go. pools ≡ pools_from 0 (opened_after calls all_closed))
