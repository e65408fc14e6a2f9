-- The writes that are left fit, and lead from the memory now to the one that all writes give. What was written and what is left are all accesses.
use Rattle.std.proofs.Common.{◌≡◌, ◌++◌, length, false}
use Rattle.rx_desc.specs.Receive.{cut, zip_writes, passes_end}
use Rattle.rx_desc.specs.Parts.{text_of}
use Rattle.live_memory.specs.Trace.{wrotes}
use Rattle.guest_memory.specs.Memory.{write_all}
use Rattle.rx_desc.proofs.Pieces.{rest_writes}
use Rattle.rx_desc.proofs.placing.write_pieces.Given as goal

abbrev pub invariant-loop-i : goal.invariant-loop-i
invariant-loop-i g l =
    let now = g.D.Dma.seen l.memory.memory in
    let first = g.D.Dma.seen l.initial.memory.memory in
    record {
      size : length now ≡ length first;
      fits : passes_end (length first) (rest_writes l.addresses l.size l.count l.i (text_of l.rest)) ≡ false;
      written : write_all (rest_writes l.addresses l.size l.count l.i (text_of l.rest)) now ≡ write_all (zip_writes l.addresses (cut l.size l.count (text_of l.source))) first;
      listed : l.memory.accesses ++ wrotes (rest_writes l.addresses l.size l.count l.i (text_of l.rest)) ≡ l.initial.memory.accesses ++ wrotes (zip_writes l.addresses (cut l.size l.count (text_of l.source)));
    }
