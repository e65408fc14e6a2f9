-- The write-backs that are left lead from the memory now to the one that all write-backs give. What was written and what is left are all accesses.
use Rattle.std.proofs.Common.{◌≡◌, ◌≤◌, ◌++◌, length}
use Rattle.rx_desc.specs.Receive.{cut, slots, zip_writes, back_writes}
use Rattle.rx_desc.specs.Parts.{text_of}
use Rattle.live_memory.specs.Trace.{wrotes}
use Rattle.guest_memory.specs.Memory.{write_all}
use Rattle.rx_desc.proofs.Pieces.{rest_backs}
use Rattle.rx_desc.proofs.placing.write_back.Given as goal

abbrev pub invariant-loop-i : goal.invariant-loop-i
invariant-loop-i g l =
    let now = g.D.Dma.seen l.memory.memory in
    let first = g.D.Dma.seen l.initial.memory.memory in
    record {
      size : length now ≡ length first;
      short : length (text_of l.rest) ≤ 9018;
      written : write_all (rest_backs l.back (slots l.ring) l.addresses l.size l.count l.i (text_of l.rest)) now ≡ write_all (back_writes l.back (slots l.ring) (zip_writes l.addresses (cut l.size l.count (text_of l.source)))) first;
      listed : l.memory.accesses ++ wrotes (rest_backs l.back (slots l.ring) l.addresses l.size l.count l.i (text_of l.rest)) ≡ l.initial.memory.accesses ++ wrotes (back_writes l.back (slots l.ring) (zip_writes l.addresses (cut l.size l.count (text_of l.source))));
    }
