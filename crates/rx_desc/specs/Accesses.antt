-- The accesses that placing a frame makes, in order, in the memory that it meets.
use Rattle.std.specs.Prelude.{ℕ, suc, ◌+◌, List, [], ◌∷◌, ◌++◌, take, length, Bool, nat_lt, if◌then◌else◌}
use Rattle.guest_memory.specs.Memory.{Write, word_at, word_bytes}
use Rattle.live_memory.specs.Trace.{Access, Read, wrotes}
use Rattle.rings.specs.Ring.{RingState, owned}
use Rattle.rx_desc.specs.declared.placing.RxConfig.{RxConfig}
use Rattle.rx_desc.specs.declared.write_back.WriteBack.{WriteBack}
use Rattle.rx_desc.specs.Receive.{back_of, data_of, pieces, slots, data_writes, back_writes, passes_end}

-- how many descriptors are read: all, or those up to the first whose piece would pass the end of n bytes
unfoldable pub descriptors_read : ℕ → List Write → ℕ
descriptors_read n [] = 0
descriptors_read n (w ∷ ws) = if nat_lt n (w.at + length w.bytes) then 1 else suc (descriptors_read n ws)

-- the first word of each descriptor, read by one access
unfoldable pub words_read : List ℕ → List ℕ → List Access
words_read [] memory = []
words_read (s ∷ places) memory = Read s (word_bytes (word_at s memory)) ∷ words_read places memory

-- pieces placed: nothing where there are too few descriptors; else the descriptors are read, and where no piece would pass the end
-- of the memory, the pieces are written in order, and then the descriptors are written back in order
unfoldable pub pieces_accesses : WriteBack → List (List ℕ) → List ℕ → RingState → List Access
pieces_accesses back ps memory ring = let ws = data_writes (slots ring) ps memory in
    if nat_lt (length (owned ring)) (length ps)
    then []
    else words_read (take (descriptors_read (length memory) ws) (slots ring)) memory
    ++ (if passes_end (length memory) ws then [] else wrotes ws ++ wrotes (back_writes back (slots ring) ws))

-- a frame placed by a queue that is on; a queue that is off accesses nothing
unfoldable pub deliver_accesses : RxConfig → Bool → List ℕ → List ℕ → RingState → List Access
deliver_accesses config loopback frame memory ring = if ring.enabled
    then pieces_accesses (back_of config loopback frame) (pieces config.buffer_size (data_of config.strip_tag frame)) memory ring
    else []
