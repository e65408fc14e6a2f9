-- Flags of a word, and the pools that a flag has.
use Rattle.std.specs.Prelude.{◌≡◌, ℕ, ◌<◌, Bool, ◌==◌, List, bit_and, slice_index}
use Rattle.wire_frame.specs.Bits.{has_bit}

-- the word has all bits of the flags
abbrev pub has_flags : ℕ → ℕ → Bool
has_flags word flags = bit_and word flags == flags

-- the mask has exactly the pools whose word has the bit, of one word a pool
abbrev pub IsFlagMask : ℕ → ℕ → List ℕ → Type 0
IsFlagMask bit mask words = (p : ℕ) → p < 64 → has_bit mask p ≡ has_bit (slice_index words p) bit
