-- The addresses so far are the words at the slots, and whether the writes that are left pass the end says it of all.
use Rattle.std.proofs.Common.{◌≡◌, length, take}
use Rattle.rx_desc.specs.Receive.{cut, slots, zip_writes, passes_end}
use Rattle.rx_desc.specs.Parts.{text_of}
use Rattle.rx_desc.proofs.Pieces.{rest_writes, words_at}
use Rattle.rx_desc.proofs.any_memory.buffers.Given as goal

abbrev pub invariant-loop-i : goal.invariant-loop-i
invariant-loop-i g l =
    let now = (goal.GuestMem-dyn g l.memory.now).bytes l.memory.now.1 in
    let words = words_at (slots l.ring) now in
    record {
      nine : length l.addresses ≡ 9;
      filled : take l.i l.addresses ≡ take l.i words;
      passes : passes_end (length now) (rest_writes words l.size l.count l.i (text_of l.rest)) ≡ passes_end (length now) (zip_writes words (cut l.size l.count (text_of l.source)));
    }
