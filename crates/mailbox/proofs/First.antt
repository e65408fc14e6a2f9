-- The first writes make the settings of a host, whatever the registers were.
use Rattle.std.proofs.Common.{arith, ◌≡◌, ℕ, ◌+◌, ◌*◌, ◌<◌, ◌≤◌, Bool, true, List, [], ◌∷◌, ◌++◌, zero, suc, ◌-◌, length, set, eqb, cond, false, Some, take, drop, get_or, refl, sym, ap, ◌∙◌, bit_and, append_assoc, ◌&&◌}
use Rattle.wire_frame.specs.declared.row.Row.{Row}
use Rattle.addr_tables.specs.Registers.{RAL, RAH, MPSAR, MTA, MCSTCTRL, MCSTCTRL_KEPT}
use Rattle.vlan_table.specs.Registers.{VFTA, VLVF, VLVFB, VLNCTRL, VLNCTRL_KEPT}
use Rattle.pool_filter.specs.Registers.{PFVFRE, PFVFTE, VMVIR, PFVFSPOOF, VMOLR, PF_VT_CTL, PFDTXGSWC, PFDTXGSWC_KEPT}
use Rattle.pool_filter.specs.Map.{one_row}
use Rattle.pool_filter.specs.Settings.{Settings, initial_settings, settings_after}
use Rattle.addr_tables.specs.Addresses.{initial_addresses, addresses_after}
use Rattle.vlan_table.specs.Vlans.{initial_vlans, vlans_after}
use Rattle.mailbox.specs.declared.start.Register.{Register}
use Rattle.mailbox.specs.declared.start.Register.TheVariants.{SourceChecks, LowAddress, HighAddress, AddressPools, MulticastTable, MulticastControl, VlanControl, VlanTable, VlanIds, VlanPools, PoolControl, PortVlans, Loopback, PoolFlags, ReceiveEnable, TransmitEnable}
use Rattle.mailbox.specs.State.{HostState, slot_at}
use Rattle.mailbox.specs.Start.{registers, row_of, word_of, register_writes, writes_to, first_writes, IsWhole}
use Rattle.mailbox.specs.Words.{table, up_at, control_word, addresses_of, vlans_of, settings_of}
use Rattle.std.specs.List.{slice_get}
use Rattle.std.proofs.Math.Seq.{drop-cons}
use Rattle.std.proofs.lemmas.Bool.Decides.{nat_tests}
use Rattle.std.proofs.lemmas.List.{length-append, length-set}
use Rattle.wire_frame.specs.Row.{is_in, place, words_after}
use Rattle.mailbox.specs.declared.writes.Write.{Write}
use Rattle.mailbox.specs.Writes.{write_at, writes_where, after_writes}
use Rattle.pool_filter.specs.Own.{contains}
use Rattle.mailbox.proofs.Kept.{kept_low, kept_high, kept_flags, kept_port, kept_mask, kept_members, kept_id, kept_pools, kept_control}
use Rattle.mailbox.proofs.Rows.{row_after, row_after-append, word_after, word_after-append, table_same, table_of, Part, writes_in, AllFit, all_far, each_far, row_spared, word_spared, within, part_makes}
use Rattle.mailbox.proofs.Settle.{kept_of, control_of, rows_after, by_rows}

-- ---- all words of registers, as parts

abbrev pub register_part : HostState → Register → Part
register_part h r = record { test = λ i. true; row = row_of r; word = word_of h r; from = 0; count = (row_of r).count }

abbrev pub register_parts : HostState → List Register → List Part
register_parts h [] = []
register_parts h (r ∷ rs) = register_part h r ∷ register_parts h rs

split : (h : HostState) (before : List Register) (r : Register) (after : List Register) → writes_in (register_parts h (before ++ r ∷ after)) ≡ writes_in (register_parts h before) ++ (register_writes h r ++ writes_in (register_parts h after))
split h [] r after = refl
split h (b ∷ bs) r after = ap (λ l. register_writes h b ++ l) (split h bs r after) ∙ sym (append_assoc (register_writes h b) (writes_in (register_parts h bs)) (register_writes h r ++ writes_in (register_parts h after)))

pub in_parts : (h : HostState) (rs : List Register) → writes_to h rs ≡ writes_in (register_parts h rs)
in_parts h [] = refl
in_parts h (r ∷ rs) = ap (λ l. register_writes h r ++ l) (in_parts h rs)

strides : (r : Register) → 0 < (row_of r).stride
strides SourceChecks = omega arith
strides LowAddress = omega arith
strides HighAddress = omega arith
strides AddressPools = omega arith
strides MulticastTable = omega arith
strides MulticastControl = omega arith
strides VlanControl = omega arith
strides VlanTable = omega arith
strides VlanIds = omega arith
strides VlanPools = omega arith
strides PoolControl = omega arith
strides PortVlans = omega arith
strides Loopback = omega arith
strides PoolFlags = omega arith
strides ReceiveEnable = omega arith
strides TransmitEnable = omega arith

pub all_fit : (h : HostState) (rs : List Register) → AllFit (register_parts h rs)
all_fit h [] = tt
all_fit h (r ∷ rs) = ((strides r, omega arith), all_fit h rs)

-- ---- one register among the others

made : (h : HostState) (r : Register) (before after : List Register) (words : List ℕ) → all_far (row_of r) (register_parts h before) ≡ true → all_far (row_of r) (register_parts h after) ≡ true
    → ((j : ℕ) → bit_and (word_of h r j) (row_of r).mask ≡ word_of h r j) → length words ≡ (row_of r).count
    → row_after (row_of r) words (writes_in (register_parts h (before ++ r ∷ after))) ≡ table (row_of r).count (word_of h r)
made h r before after words far_before far_after kept long =
    (λ i. row_after (row_of r) (table_of (row_of r).count words long i) (split h before r after i))
    ∙ row_after-append (row_of r) words_now (writes_in (register_parts h before)) (register_writes h r ++ writes_in (register_parts h after))
    ∙ ap (λ v. row_after (row_of r) v (register_writes h r ++ writes_in (register_parts h after))) (row_spared (row_of r) words_now (writes_in (register_parts h before)) (each_far (row_of r) (register_parts h before) far_before (all_fit h before)))
    ∙ row_after-append (row_of r) words_now (register_writes h r) (writes_in (register_parts h after))
    ∙ ap (λ v. row_after (row_of r) v (writes_in (register_parts h after))) (part_makes (row_of r) (λ j. get_or words j 0) (word_of h r) (λ j. true) 0 (row_of r).count (strides r) (omega arith) kept ∙ table_same (row_of r).count _ (word_of h r) whole)
    ∙ row_spared (row_of r) (table (row_of r).count (word_of h r)) (writes_in (register_parts h after)) (each_far (row_of r) (register_parts h after) far_after (all_fit h after))
  where
    words_now : List ℕ
    words_now = table (row_of r).count (λ j. get_or words j 0)

    whole : (j : ℕ) → j < (row_of r).count → cond (within 0 (row_of r).count j && true) (word_of h r j) (get_or words j 0) ≡ word_of h r j
    whole j below = let is : within 0 (row_of r).count j ≡ true = grind (arith, nat_tests, below) in ap (λ b. cond (b && true) (word_of h r j) (get_or words j 0)) is

kept_one : (h : HostState) (r : Register) (first : ℕ) (keep : ℕ → ℕ) (word : ℕ) (before after : List Register) → row_of r ≡ one_row first → all_far (one_row first) (register_parts h before) ≡ true → all_far (one_row first) (register_parts h after) ≡ true
    → word_after first keep word (writes_in (register_parts h (before ++ r ∷ after))) ≡ keep (word_of h r 0)
kept_one h r first keep word before after is far_before far_after =
    ap (word_after first keep word) (split h before r after)
    ∙ word_after-append first keep word (writes_in (register_parts h before)) (register_writes h r ++ writes_in (register_parts h after))
    ∙ ap (λ v. word_after first keep v (register_writes h r ++ writes_in (register_parts h after))) (word_spared first keep word (writes_in (register_parts h before)) (each_far (one_row first) (register_parts h before) far_before (all_fit h before)))
    ∙ ap (λ row. word_after first keep word (writes_where (λ j. true) row (word_of h r) 0 row.count ++ writes_in (register_parts h after))) is
    ∙ ap (λ b. word_after first keep (cond b (keep (word_of h r 0)) word) (writes_in (register_parts h after))) here
    ∙ word_spared first keep (keep (word_of h r 0)) (writes_in (register_parts h after)) (each_far (one_row first) (register_parts h after) far_after (all_fit h after))
  where
    here : eqb (first + 4 * 0) first ≡ true
    here = grind (arith, nat_tests)

-- ---- all registers

rows_first : (h : HostState) (s : Settings) → IsWhole s → rows_after s (writes_in (register_parts h registers)) ≡ settings_of h
unfolding settings_of addresses_of vlans_of
rows_first h s whole = λ i. record {
  addresses = record {
    low = made h LowAddress (take 1 registers) (drop 2 registers) s.addresses.low refl refl (kept_low h) whole.low i;
    high = made h HighAddress (take 2 registers) (drop 3 registers) s.addresses.high refl refl (kept_high h) whole.high i;
    pools = made h AddressPools (take 3 registers) (drop 4 registers) s.addresses.pools refl refl kept_pools whole.address_pools i;
    hashes = made h MulticastTable (take 4 registers) (drop 5 registers) s.addresses.hashes refl refl (λ j. refl) whole.hashes i;
    control = kept_one h MulticastControl MCSTCTRL (kept_of MCSTCTRL_KEPT) s.addresses.control (take 5 registers) (drop 6 registers) refl refl refl i;
  };
  vlans = record {
    control = kept_one h VlanControl VLNCTRL (kept_of VLNCTRL_KEPT) s.vlans.control (take 6 registers) (drop 7 registers) refl refl refl i;
    table = made h VlanTable (take 7 registers) (drop 8 registers) s.vlans.table refl refl (λ j. kept_mask (contains h.ids) (32 * j)) whole.vlan_table i;
    entries = made h VlanIds (take 8 registers) (drop 9 registers) s.vlans.entries refl refl (kept_id h) whole.vlan_entries i;
    pools = made h VlanPools (take 9 registers) (drop 10 registers) s.vlans.pools refl refl (kept_members h) whole.vlan_pools i;
  };
  pool_control = controls i;
  receive_enable = made h ReceiveEnable (take 14 registers) (drop 15 registers) s.receive_enable refl refl (λ j. kept_mask (up_at h) (32 * j)) whole.receive_enable i;
  transmit_enable = made h TransmitEnable (take 15 registers) (drop 16 registers) s.transmit_enable refl refl (λ j. kept_mask (up_at h) (32 * j)) whole.transmit_enable i;
  port_vlans = made h PortVlans (take 11 registers) (drop 12 registers) s.port_vlans refl refl (λ j. kept_port h.ids (slot_at h j)) whole.port_vlans i;
  sender_checks = made h SourceChecks (take 0 registers) (drop 1 registers) s.sender_checks refl refl (λ j. refl) whole.sender_checks i;
  loopback = kept_one h Loopback PFDTXGSWC (kept_of PFDTXGSWC_KEPT) s.loopback (take 12 registers) (drop 13 registers) refl refl refl i;
  pool_flags = made h PoolFlags (take 13 registers) (drop 14 registers) s.pool_flags refl refl (λ j. kept_flags (slot_at h j)) whole.pool_flags i;
}
  where
    controls : word_after PF_VT_CTL control_of s.pool_control (writes_in (register_parts h registers)) ≡ control_word h.default_pool
    controls = kept_one h PoolControl PF_VT_CTL control_of s.pool_control (take 10 registers) (drop 11 registers) refl refl refl ∙ kept_control h.default_pool

pub first_settled : (h : HostState) (s : Settings) → IsWhole s → after_writes s (first_writes h) ≡ settings_of h
unfolding first_writes
first_settled h s whole =
    by_rows s (writes_to h registers)
    ∙ ap (rows_after s) (in_parts h registers)
    ∙ rows_first h s whole

-- ---- how many there are, and which is which

length_from : (row : Row) (word : ℕ → ℕ) (i n : ℕ) → length (writes_where (λ j. true) row word i n) ≡ n
length_from row word i zero = refl
length_from row word i (suc n) = ap suc (length_from row word (suc i) n)

pub length_of : (h : HostState) (r : Register) → length (register_writes h r) ≡ (row_of r).count
length_of h r = length_from (row_of r) (word_of h r) 0 (row_of r).count

counts : (h : HostState) (rs : List Register) → ℕ
counts h [] = 0
counts h (r ∷ rs) = (row_of r).count + counts h rs

length_to : (h : HostState) (rs : List Register) → length (writes_to h rs) ≡ counts h rs
unfolding counts
length_to h [] = refl
length_to h (r ∷ rs) = length-append (register_writes h r) (writes_to h rs) ∙ (λ i. length_of h r i + length_to h rs i)

pub first_count : (h : HostState) → length (first_writes h) ≡ 1104
unfolding first_writes counts
first_count h = length_to h registers

get_front : (xs ys : List Write) (i : ℕ) → i < length xs → slice_get (xs ++ ys) i ≡ slice_get xs i
get_front [] ys i small = absurd (omega (arith, small))
get_front (x ∷ xs) ys zero small = refl
get_front (x ∷ xs) ys (suc i) small = get_front xs ys i (omega (arith, small))

get_back : (xs ys : List Write) (i : ℕ) → length xs ≤ i → slice_get (xs ++ ys) i ≡ slice_get ys (i - length xs)
get_back [] ys i past = let same : i ≡ i - 0 = omega arith in ap (slice_get ys) same
get_back (x ∷ xs) ys zero past = absurd (omega (arith, past))
get_back (x ∷ xs) ys (suc i) past =
    let same : i - length xs ≡ suc i - suc (length xs) = omega arith in
    get_back xs ys i (omega (arith, past)) ∙ ap (slice_get ys) same

get_from : (row : Row) (word : ℕ → ℕ) (from n i : ℕ) → i < n → slice_get (writes_where (λ j. true) row word from n) i ≡ Some (write_at row (from + i) (word (from + i)))
get_from row word from zero i small = absurd (omega (arith, small))
get_from row word from (suc n) zero small = let same : from ≡ from + 0 = omega arith in ap (λ j. Some (write_at row j (word j))) same
get_from row word from (suc n) (suc i) small =
    let same : suc from + i ≡ from + suc i = omega arith in
    get_from row word (suc from) n i (omega (arith, small)) ∙ ap (λ j. Some (write_at row j (word j))) same

-- a place of the first register
pub turn_here : (h : HostState) (r : Register) (rest : List Register) (at : ℕ) → at < (row_of r).count → slice_get (writes_to h (r ∷ rest)) at ≡ Some (write_at (row_of r) at (word_of h r at))
turn_here h r rest at small =
    let same : 0 + at ≡ at = omega arith in
    get_front (register_writes h r) (writes_to h rest) at (omega (arith, small, length_of h r))
    ∙ get_from (row_of r) (word_of h r) 0 (row_of r).count at small
    ∙ ap (λ j. Some (write_at (row_of r) j (word_of h r j))) same

-- a place past it
pub turn_next : (h : HostState) (r : Register) (rest : List Register) (at : ℕ) → (row_of r).count ≤ at → slice_get (writes_to h (r ∷ rest)) at ≡ slice_get (writes_to h rest) (at - (row_of r).count)
turn_next h r rest at past =
    get_back (register_writes h r) (writes_to h rest) at (omega (arith, past, length_of h r))
    ∙ ap (λ n. slice_get (writes_to h rest) (at - n)) (length_of h r)

-- ---- tables are whole

pub whole_at_first : IsWhole initial_settings
unfolding initial_settings initial_addresses initial_vlans
whole_at_first = record {
  low = refl;
  high = refl;
  address_pools = refl;
  hashes = refl;
  vlan_table = refl;
  vlan_entries = refl;
  vlan_pools = refl;
  receive_enable = refl;
  transmit_enable = refl;
  port_vlans = refl;
  sender_checks = refl;
  pool_flags = refl;
}

length_after : (row : Row) (words : List ℕ) (offset x : ℕ) → length (words_after row words offset x) ≡ length words
unfolding words_after
length_after row words offset x = go (is_in row offset)
  where
    go : (b : Bool) → length (cond b (set words (place row offset) (bit_and x row.mask)) words) ≡ length words
    go true = length-set words (place row offset) (bit_and x row.mask)
    go false = refl

pub whole_after : (s : Settings) (offset value : ℕ) → IsWhole s → IsWhole (settings_after s offset value)
unfolding settings_after addresses_after vlans_after
whole_after s offset x whole = record {
  low = length_after RAL s.addresses.low offset x ∙ whole.low;
  high = length_after RAH s.addresses.high offset x ∙ whole.high;
  address_pools = length_after MPSAR s.addresses.pools offset x ∙ whole.address_pools;
  hashes = length_after MTA s.addresses.hashes offset x ∙ whole.hashes;
  vlan_table = length_after VFTA s.vlans.table offset x ∙ whole.vlan_table;
  vlan_entries = length_after VLVF s.vlans.entries offset x ∙ whole.vlan_entries;
  vlan_pools = length_after VLVFB s.vlans.pools offset x ∙ whole.vlan_pools;
  receive_enable = length_after PFVFRE s.receive_enable offset x ∙ whole.receive_enable;
  transmit_enable = length_after PFVFTE s.transmit_enable offset x ∙ whole.transmit_enable;
  port_vlans = length_after VMVIR s.port_vlans offset x ∙ whole.port_vlans;
  sender_checks = length_after PFVFSPOOF s.sender_checks offset x ∙ whole.sender_checks;
  pool_flags = length_after VMOLR s.pool_flags offset x ∙ whole.pool_flags;
}

-- ---- a loop over the registers

next : (k : ℕ) (d : Register) → k < 16 → drop k registers ≡ get_or registers k d ∷ drop (k + 1) registers
next k d small = let more : suc k ≡ k + 1 = omega arith in drop-cons registers k d small ∙ ap (λ n. get_or registers k d ∷ drop n registers) more

pub turn_found : (h : HostState) (k at i : ℕ) (d : Register) (row : Row) (value : ℕ) → k < 16 → slice_get (writes_to h (drop k registers)) at ≡ slice_get (writes_to h registers) i
    → row ≡ row_of (get_or registers k d) → at < row.count → value ≡ word_of h (get_or registers k d) at
    → Some (record { offset = row.first + row.stride * at; value = value }) ≡ slice_get (first_writes h) i
unfolding first_writes
turn_found h k at i d row value small before is below word =
    (λ j. Some (record { offset = (is j).first + (is j).stride * at; value = word j }))
    ∙ sym (turn_here h (get_or registers k d) (drop (k + 1) registers) at (omega (arith, below, ap (λ r. r.count) is)))
    ∙ ap (λ rs. slice_get (writes_to h rs) at) (sym (next k d small))
    ∙ before

pub turn_goes_on : (h : HostState) (k at i : ℕ) (d : Register) (row : Row) → k < 16 → slice_get (writes_to h (drop k registers)) at ≡ slice_get (writes_to h registers) i
    → row ≡ row_of (get_or registers k d) → row.count ≤ at
    → slice_get (writes_to h (drop (k + 1) registers)) (at - row.count) ≡ slice_get (writes_to h registers) i
turn_goes_on h k at i d row small before is past =
    ap (λ r. slice_get (writes_to h (drop (k + 1) registers)) (at - r.count)) is
    ∙ sym (turn_next h (get_or registers k d) (drop (k + 1) registers) at (omega (arith, past, ap (λ r. r.count) is)))
    ∙ ap (λ rs. slice_get (writes_to h rs) at) (sym (next k d small))
    ∙ before
