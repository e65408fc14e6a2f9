-- What is written, and the marks of the pools that are left, are the whole.
use Rattle.std.proofs.Common.{◌≡◌, ◌≤◌, ◌++◌, length, take}
use Rattle.transcript.specs.Text.{marks_text}
use Rattle.transcript.proofs.Marks.{marks_of}
use Rattle.transcript.proofs.text.put_marks.Given as goal

abbrev pub invariant-loop-pool : goal.invariant-loop-pool
invariant-loop-pool l = record {
  inside : l.end ≤ length l.room;
  whole : take l.end l.room ++ marks_of l.pool-iterator 0 l.messages ≡ take l.fn.at l.fn.room ++ marks_text 0 l.messages;
}
