-- VLAN entries and the VLAN table: their words by offset, and which pools have an id.
use Rattle.std.specs.Prelude.{ℕ, ◌%◌, Bool, ◌&&◌, ◌==◌, List, Option, replicate, slice_index}
use Rattle.std.specs.List.{list_any, range_with_len}
use Rattle.vlan_table.specs.Registers.{VLNCTRL, VLNCTRL_KEPT, VFE, VFTA, VLVF, VLVFB, VALID}
use Rattle.wire_frame.specs.Row.{◌or◌, word_at, words_after, one_at, one_after}
use Rattle.wire_frame.specs.Bits.{has_bit, has_bit_in, two_words}
use Rattle.pool_index.specs.Entries.{Entries}

-- the words of VLNCTRL, VFTA, VLVF and VLVFB
pub record Vlans : Type 0 where
  pub control : ℕ
  pub table : List ℕ
  pub entries : List ℕ
  pub pools : List ℕ

unfoldable pub initial_vlans : Vlans
initial_vlans = record { control = 0; table = replicate 128 0; entries = replicate 64 0; pools = replicate 128 0 }

-- ---- the words by their offsets

-- what a read of the offset gives, if it names one of these words
unfoldable pub vlans_at : Vlans → ℕ → Option ℕ
vlans_at v offset = one_at VLNCTRL v.control offset
    or word_at VFTA v.table offset
    or word_at VLVF v.entries offset
    or word_at VLVFB v.pools offset

-- the words after a write of x
unfoldable pub vlans_after : Vlans → ℕ → ℕ → Vlans
vlans_after v offset x = record {
  control = one_after VLNCTRL VLNCTRL_KEPT v.control offset x;
  table = words_after VFTA v.table offset x;
  entries = words_after VLVF v.entries offset x;
  pools = words_after VLVFB v.pools offset x;
}

-- ---- what they say

-- VLANs are filtered
unfoldable pub is_filtering : Vlans → Bool
is_filtering v = has_bit v.control VFE

-- the id of entry e
abbrev pub entry_id : Vlans → ℕ → ℕ
entry_id v e = slice_index v.entries e % 4096

-- entry e is valid and has the pool's bit
abbrev pub entry_has_pool : Vlans → ℕ → ℕ → Bool
entry_has_pool v pool e = has_bit (slice_index v.entries e) VALID && has_bit_in (two_words v.pools e) pool

-- entry e gives the pool the id
abbrev pub entry_gives : Vlans → ℕ → ℕ → ℕ → Bool
entry_gives v pool id e = entry_has_pool v pool e && (entry_id v e == id)

-- some entry gives the pool the id
unfoldable pub is_in_entries : Vlans → ℕ → ℕ → Bool
is_in_entries v pool id = list_any (entry_gives v pool id) (range_with_len 0 64)

-- the pool has the id: the VLAN table has it, and some entry gives it
unfoldable pub has_vlan : Vlans → ℕ → ℕ → Bool
has_vlan v pool id = has_bit_in v.table id && is_in_entries v pool id

-- the entries as they are kept in an index: by their ids
abbrev pub vlan_entries : Vlans → Entries
vlan_entries v = record { is_valid = λ e. has_bit (slice_index v.entries e) VALID; key = entry_id v; has_pool = λ pool e. has_bit_in (two_words v.pools e) pool }
