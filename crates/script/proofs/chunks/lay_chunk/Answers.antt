-- Digits that are no pairs, or too many; and those that are laid.
use Rattle.std.proofs.Common.{◌/◌, length, take, sym, ◌∙◌, arith, rules}
use Rattle.script.specs.Bytes.{chunk_of}
use Rattle.script.proofs.ChunkLemmas.{laid_part}
use Rattle.script.proofs.Pairs.{pairs_bad}
use Rattle.script.proofs.chunks.lay_chunk.Goals as goal
use Rattle.script.proofs.chunks.lay_chunk.Goals.{then-count-lt1-2-via-then-count-lt1-2, then-count-lt1-2-via-else-count-lt1-2+then-count-left-2, then-count-lt1-2-via-else-count-lt1-2+else-count-left-2+then-chunk-ne0}

pub returns-then-count-lt1-2-clause-bytes : goal.returns-then-count-lt1-2-clause-bytes
returns-then-count-lt1-2-clause-bytes c = pairs_bad _ _ (sym c.has_count.ensures ∙ c.if-has_count.false) (λ bytes two one.
    elim c.then-count-lt1-2.branch [
      | then-count-lt1-2-via-then-count-lt1-2 w ↦ omega (arith, two)
      | then-count-lt1-2-via-else-count-lt1-2+then-count-left-2 w ↦ omega (arith, two)
      | then-count-lt1-2-via-else-count-lt1-2+else-count-left-2+then-chunk-ne0 w ↦ omega (arith, two)
    ])

pub returns-clause-bytes : goal.returns-clause-bytes
unfolding chunk_of
returns-clause-bytes c = record {
  bytes = c.decode.new.out;
  is = search rules;
  room = laid_part (take c.args.at c.args.room.now) c.decode.new.out _ c.args.at (length c.args.chunk.now / 2) (search rules) (search rules);
  sum = search rules;
  inside = search rules;
}
