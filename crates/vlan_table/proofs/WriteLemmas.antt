-- What a write leaves of the entries.
use Rattle.std.proofs.Common.{◌≡◌, ◌≢◌, ℕ, ◌/◌, ◌%◌, true, Option, Some, slice_index, ap}
use Rattle.wire_frame.specs.Row.{is_in, place, words_after}
use Rattle.wire_frame.specs.Bits.{has_bit, has_bit_in, two_words}
use Rattle.pool_index.specs.Entries.{SaySame}
use Rattle.pool_index.proofs.WordLemmas.{one_word_stays, two_words_stay}
use Rattle.vlan_table.specs.Registers.{VLVF, VLVFB}
use Rattle.vlan_table.specs.Vlans.{Vlans, vlans_after, vlan_entries}

-- no word of another entry than this stands at the offset
abbrev pub NamesEntry : ℕ → Option ℕ → Type 0
NamesEntry offset named =
    (is_in VLVF offset ≡ true → named ≡ Some (place VLVF offset))
    × (is_in VLVFB offset ≡ true → named ≡ Some (place VLVFB offset / 2))

-- an entry that the offset does not name says what it said
pub entry_stays : (v : Vlans) (offset x : ℕ) (named : Option ℕ) → NamesEntry offset named → (e : ℕ) → named ≢ Some e → SaySame (vlan_entries v) (vlan_entries (vlans_after v offset x)) e
unfolding vlans_after
entry_stays v offset x named names e other =
    let word : slice_index v.entries e ≡ slice_index (words_after VLVF v.entries offset x) e = one_word_stays VLVF v.entries offset x named names.0 e other in
    let pools : two_words v.pools e ≡ two_words (words_after VLVFB v.pools offset x) e = two_words_stay VLVFB v.pools offset x named names.1 e other in
    record {
      valid = ap (λ w. has_bit w 31) word;
      keys = ap (λ w. w % 4096) word;
      pools = λ p i. has_bit_in (pools i) p;
    }
