-- The words at the slots so far were read, and for any addresses that begin with them, whether the writes that are left pass the end says it of all, and how many descriptors are read for them.
use Rattle.std.proofs.Common.{◌≡◌, ◌+◌, ◌≤◌, ℕ, List, length, take}
use Rattle.rx_desc.specs.Receive.{cut, slots, zip_writes, passes_end}
use Rattle.rx_desc.specs.Accesses.{descriptors_read}
use Rattle.rx_desc.specs.Parts.{text_of}
use Rattle.rx_desc.proofs.Pieces.{rest_writes}
use Rattle.rx_desc.proofs.WordsRead.{WordsRead}
use Rattle.rx_desc.proofs.placing.buffers.Given as goal

abbrev pub invariant-loop-i : goal.invariant-loop-i
invariant-loop-i g l =
    let first = g.D.Dma.seen l.initial.memory.memory in
    record {
      nine : length l.addresses ≡ 9;
      read : WordsRead g.D.Dma.shared (slots l.ring) l.i l.initial.memory.accesses l.memory.accesses first (g.D.Dma.seen l.memory.memory) l.addresses;
      passes : (words : List ℕ) → l.count ≤ length words → take l.i l.addresses ≡ take l.i words → passes_end (length first) (rest_writes words l.size l.count l.i (text_of l.rest)) ≡ passes_end (length first) (zip_writes words (cut l.size l.count (text_of l.source)));
      counts : (words : List ℕ) → l.count ≤ length words → take l.i l.addresses ≡ take l.i words → l.i + descriptors_read (length first) (rest_writes words l.size l.count l.i (text_of l.rest)) ≡ descriptors_read (length first) (zip_writes words (cut l.size l.count (text_of l.source)));
    }
