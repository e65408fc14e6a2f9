-- The bytes that are laid stand before what the chunks that are left write.
use Rattle.std.proofs.Common.{◌≡◌, ◌≤◌, Some, length, take}
use Rattle.script.specs.Bytes.{chunks_of, joined}
use Rattle.script.specs.Text.{parts}
use Rattle.script.proofs.chunks.lay_chunks.Given as goal

abbrev pub invariant-loop-rest : goal.invariant-loop-rest
invariant-loop-rest l = record {
  bytes : joined (Some (take l.end l.room)) (chunks_of (parts 46 l.rest)) ≡ chunks_of (parts 46 l.word);
  inside : l.end ≤ length l.room;
  len : length l.room ≡ length l.initial.room;
}

abbrev pub decreases-loop-rest : goal.decreases-loop-rest
decreases-loop-rest l = length l.rest
