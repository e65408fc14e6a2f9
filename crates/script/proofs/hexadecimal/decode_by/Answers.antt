-- Each pair of digits adds its byte.
use Rattle.std.proofs.Common.{arith}
use Rattle.script.proofs.Pairs.{pair_more, pairs_done, pairs_left}
use Rattle.script.proofs.hexadecimal.decode_by.Goals as goal

pub loop-byte-preserved : goal.loop-byte-preserved
loop-byte-preserved c = record {
  left = pairs_left _ _ c.loop-byte.byte-index _ c.in-len2-up.len_at_least c.loop-byte.invariant.left;
  bytes = pair_more _ _ c.loop-byte.byte-index _ _ _ _ _ _ (omega arith) c.in-len2-up.len_at_least c.value_by-high.ensures c.value_by-low.ensures
      c.max.ensures c.max-greatest.ensures c.loop-byte.invariant.bytes;
}

pub returns : goal.returns
returns c = pairs_done _ _ c.loop-byte.byte-index _ _ (omega arith) (omega arith) c.loop-byte.invariant.bytes
