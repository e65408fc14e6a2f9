-- No caller so far has a turn left.
use Rattle.std.proofs.Common.{◌≡◌, ℕ, ◌<◌, length}
use Rattle.std.specs.Prelude.{slice_index}
use Rattle.history.specs.Callers.{caller_of}
use Rattle.modes.specs.Threads.{asks_after}
use Rattle.modes.proofs.of_script.are_done.Given as goal

abbrev pub invariant-loop-number : goal.invariant-loop-number
invariant-loop-number l = (n : ℕ) → n < l.number → slice_index l.turns n ≡ length (asks_after l.plan (caller_of n))
