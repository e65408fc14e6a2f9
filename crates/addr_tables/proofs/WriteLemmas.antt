-- What a write leaves of the entries.
use Rattle.std.proofs.Common.{◌≡◌, ◌≢◌, ℕ, ◌+◌, ◌*◌, ◌/◌, ◌%◌, ◌^◌, true, Option, Some, slice_index, ap}
use Rattle.wire_frame.specs.Row.{is_in, place, words_after}
use Rattle.wire_frame.specs.Bits.{has_bit, has_bit_in, two_words}
use Rattle.pool_index.specs.Entries.{SaySame}
use Rattle.pool_index.proofs.WordLemmas.{one_word_stays, two_words_stay}
use Rattle.addr_tables.specs.Registers.{RAL, RAH, MPSAR}
use Rattle.addr_tables.specs.Addresses.{Addresses, addresses_after, address_entries}

-- no word of another entry than this stands at the offset
abbrev pub NamesEntry : ℕ → Option ℕ → Type 0
NamesEntry offset named =
    (is_in RAL offset ≡ true → named ≡ Some (place RAL offset))
    × (is_in RAH offset ≡ true → named ≡ Some (place RAH offset))
    × (is_in MPSAR offset ≡ true → named ≡ Some (place MPSAR offset / 2))

-- an entry that the offset does not name says what it said
pub entry_stays : (a : Addresses) (offset x : ℕ) (named : Option ℕ) → NamesEntry offset named → (e : ℕ) → named ≢ Some e → SaySame (address_entries a) (address_entries (addresses_after a offset x)) e
unfolding addresses_after
entry_stays a offset x named names e other =
    let low : slice_index a.low e ≡ slice_index (words_after RAL a.low offset x) e = one_word_stays RAL a.low offset x named names.0 e other in
    let high : slice_index a.high e ≡ slice_index (words_after RAH a.high offset x) e = one_word_stays RAH a.high offset x named names.1 e other in
    let pools : two_words a.pools e ≡ two_words (words_after MPSAR a.pools offset x) e = two_words_stay MPSAR a.pools offset x named names.2 e other in
    record {
      valid = ap (λ w. has_bit w 31) high;
      keys = λ i. low i + 2 ^ 32 * (high i % 2 ^ 16);
      pools = λ p i. has_bit_in (pools i) p;
    }
