-- The set stands in the array of each pool that is not left.
use Rattle.std.proofs.Common.{◌≡◌, ℕ, ◌<◌, length, get_or}
use Rattle.std.specs.Int.{bit_at}
use Rattle.irq_causes.proofs.messages.Messages.to_masks.Given as goal

abbrev pub invariant-loop-pool : goal.invariant-loop-pool
invariant-loop-pool l =
    (length l.masks ≡ 64) × ((k : ℕ) → k < 64 → bit_at l.pool-iterator k ≡ 0 → get_or l.masks k 0 ≡ get_or l.self k 0)
