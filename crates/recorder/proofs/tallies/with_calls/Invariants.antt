-- The calls so far are counted.
use Rattle.std.proofs.Common.{◌≡◌, ℕ, ◌+◌, ◌<◌, length, take, sum}
use Rattle.std.specs.Prelude.{slice_index}
use Rattle.recorder.specs.Legal.{calls_of}
use Rattle.recorder.proofs.tallies.with_calls.Given as goal

abbrev pub invariant-loop-index : goal.invariant-loop-index
invariant-loop-index l = record {
  long : length l.tallies ≡ 67;
  each : (c : ℕ) → c < 67 → slice_index l.tallies c ≡ slice_index l.fn.tallies c + calls_of c (take l.index l.history.entries);
  all : sum l.tallies ≡ sum l.fn.tallies + l.index;
}
