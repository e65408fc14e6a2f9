-- Receive addresses and the multicast table: their words by offset, which pools have an address, and which addresses the
-- multicast table has.
use Rattle.std.specs.Prelude.{ℕ, ◌+◌, ◌*◌, ◌%◌, ◌^◌, Bool, ◌&&◌, ◌==◌, List, [], ◌∷◌, Option, replicate, slice_index}
use Rattle.std.specs.List.{list_any, range_with_len}
use Rattle.addr_tables.specs.Registers.{RAL, RAH, VALID, MPSAR, MTA, MCSTCTRL, MCSTCTRL_KEPT, MFE, HASH_SIZE}
use Rattle.wire_frame.specs.Row.{◌or◌, word_at, words_after, one_at, one_after}
use Rattle.wire_frame.specs.Bits.{has_bit, has_bit_in, two_words, field}
use Rattle.pool_index.specs.Entries.{Entries}

-- the words of RAL, RAH, MPSAR, MTA and MCSTCTRL
pub record Addresses : Type 0 where
  pub low : List ℕ
  pub high : List ℕ
  pub pools : List ℕ
  pub hashes : List ℕ
  pub control : ℕ

unfoldable pub initial_addresses : Addresses
initial_addresses = record { low = replicate 128 0; high = replicate 128 0; pools = replicate 256 0; hashes = replicate 128 0; control = 0 }

-- ---- the words by their offsets

-- what a read of the offset gives, if it names one of these words
unfoldable pub addresses_at : Addresses → ℕ → Option ℕ
addresses_at a offset = word_at RAL a.low offset
    or word_at RAH a.high offset
    or word_at MPSAR a.pools offset
    or word_at MTA a.hashes offset
    or one_at MCSTCTRL a.control offset

-- the words after a write of x
unfoldable pub addresses_after : Addresses → ℕ → ℕ → Addresses
addresses_after a offset x = record {
  low = words_after RAL a.low offset x;
  high = words_after RAH a.high offset x;
  pools = words_after MPSAR a.pools offset x;
  hashes = words_after MTA a.hashes offset x;
  control = one_after MCSTCTRL MCSTCTRL_KEPT a.control offset x;
}

-- ---- receive addresses

-- the address of entry e: 32 bits in its low word, 16 in its high word
abbrev pub entry_address : Addresses → ℕ → ℕ
entry_address a e = slice_index a.low e + 2 ^ 32 * (slice_index a.high e % 2 ^ 16)

-- entry e is valid and has the pool's bit
abbrev pub entry_has_pool : Addresses → ℕ → ℕ → Bool
entry_has_pool a pool e = has_bit (slice_index a.high e) VALID && has_bit_in (two_words a.pools e) pool

-- entry e gives the pool the address
abbrev pub entry_gives : Addresses → ℕ → ℕ → ℕ → Bool
entry_gives a pool address e = entry_has_pool a pool e && (entry_address a e == address)

-- the pool has the address: some entry gives it
unfoldable pub has_address : Addresses → ℕ → ℕ → Bool
has_address a pool address = list_any (entry_gives a pool address) (range_with_len 0 128)

-- some pool has the address
unfoldable pub is_held : Addresses → ℕ → Bool
is_held a address = list_any (λ pool. has_address a pool address) (range_with_len 0 64)

-- the entries as they are kept in an index: by their addresses
abbrev pub address_entries : Addresses → Entries
address_entries a = record { is_valid = λ e. has_bit (slice_index a.high e) VALID; key = entry_address a; has_pool = λ pool e. has_bit_in (two_words a.pools e) pool }

-- ---- the multicast table

-- the lowest of the 12 bits of the address that are its hash: bits 47:36, 46:35, 45:34 or 43:32
abbrev pub hash_low : ℕ → ℕ
hash_low offset = slice_index (36 ∷ 35 ∷ 34 ∷ 32 ∷ []) offset

-- the table is on and has the bit of the address's hash
unfoldable pub multicast_hit : Addresses → ℕ → Bool
multicast_hit a address = has_bit a.control MFE && has_bit_in a.hashes (field address (hash_low (a.control % 4)) HASH_SIZE)
