-- A write to one offset leaves what every other offset reads.
use Rattle.std.proofs.Common.{arith, ◌≡◌, ◌≢◌, ℕ, ◌+◌, ◌-◌, ◌*◌, ◌%◌, ◌≤◌, Bool, true, false, ◌&&◌, List, Some, refl, sym, ap, ◌∙◌, eqb, eqb-true, leb, ltb, bit_and}
use Rattle.std.specs.Option.{unwrap_or}
use Rattle.std.proofs.lemmas.Bool.{and_parts, leb-true}
use Rattle.std.proofs.Math.Nat.{div-add-mod}
use Rattle.std.proofs.lemmas.List.{get_or-set_other}
use Rattle.wire_frame.specs.declared.row.Row.{Row}
use Rattle.wire_frame.specs.Row.{is_in, place, word_at, words_after, one_at, one_after, ◌or◌}
use Rattle.addr_tables.specs.Registers.{RAL, RAH, MPSAR, MTA, MCSTCTRL, MCSTCTRL_KEPT}
use Rattle.vlan_table.specs.Registers.{VLNCTRL, VLNCTRL_KEPT, VFTA, VLVF, VLVFB}
use Rattle.pool_filter.specs.Registers.{PF_VT_CTL, PFVFRE, PFVFTE, VMVIR, PFVFSPOOF, PFDTXGSWC, PFDTXGSWC_KEPT, VMOLR}
use Rattle.addr_tables.specs.Addresses.{addresses_at, addresses_after}
use Rattle.vlan_table.specs.Vlans.{vlans_at, vlans_after}
use Rattle.pool_filter.specs.Settings.{Settings, settings_at, settings_after, pools_at, pool_control_after}

-- an offset of the row is its place's number of strides past its first
offset_of : (row : Row) (offset : ℕ) → is_in row offset ≡ true → offset ≡ row.first + row.stride * place row offset
offset_of row offset e =
    let a : (leb row.first offset ≡ true) × ((eqb ((offset - row.first) % row.stride) 0 && ltb (place row offset) row.count) ≡ true) = and_parts (leb row.first offset) _ e in
    let b : (eqb ((offset - row.first) % row.stride) 0 ≡ true) × (ltb (place row offset) row.count ≡ true) = and_parts (eqb ((offset - row.first) % row.stride) 0) _ a.1 in
    let past : row.first ≤ offset = leb-true row.first offset a.0 in
    let whole : (offset - row.first) % row.stride ≡ 0 = eqb-true _ 0 b.0 in
    omega (arith, div-add-mod (offset - row.first) row.stride, past, whole)

-- so two offsets of the row have two places
places_differ : (row : Row) (offset other : ℕ) → is_in row offset ≡ true → is_in row other ≡ true → other ≢ offset → place row other ≢ place row offset
places_differ row offset other here there differ = λ same. differ (offset_of row other there ∙ ap (λ n. row.first + row.stride * n) same ∙ sym (offset_of row offset here))

word_at-other : (row : Row) (words : List ℕ) (offset x other : ℕ) → other ≢ offset → word_at row (words_after row words offset x) other ≡ word_at row words other
unfolding word_at words_after
word_at-other row words offset x other differ = go (is_in row offset) refl (is_in row other) refl
  where
    go : (a : Bool) → is_in row offset ≡ a → (b : Bool) → is_in row other ≡ b → word_at row (words_after row words offset x) other ≡ word_at row words other
    go true here true there = rw (here, there) (ap Some (get_or-set_other words (place row offset) (place row other) (bit_and x row.mask) 0 (places_differ row offset other here there differ)))
    go true here false there = rw there refl
    go false here b there = rw here refl

one_at-other : (first mask word offset x other : ℕ) → other ≢ offset → one_at first (one_after first mask word offset x) other ≡ one_at first word other
unfolding one_at one_after
one_at-other first mask word offset x other differ = go (eqb offset first) refl (eqb other first) refl
  where
    go : (a : Bool) → eqb offset first ≡ a → (b : Bool) → eqb other first ≡ b → one_at first (one_after first mask word offset x) other ≡ one_at first word other
    go true here true there = absurd (differ (eqb-true other first there ∙ sym (eqb-true offset first here)))
    go true here false there = rw there refl
    go false here b there = rw here refl

pool_control-other : (word offset x other : ℕ) → other ≢ offset → one_at PF_VT_CTL (pool_control_after word offset x) other ≡ one_at PF_VT_CTL word other
unfolding one_at pool_control_after
pool_control-other word offset x other differ = go (eqb offset PF_VT_CTL) refl (eqb other PF_VT_CTL) refl
  where
    go : (a : Bool) → eqb offset PF_VT_CTL ≡ a → (b : Bool) → eqb other PF_VT_CTL ≡ b → one_at PF_VT_CTL (pool_control_after word offset x) other ≡ one_at PF_VT_CTL word other
    go true here true there = absurd (differ (eqb-true other PF_VT_CTL there ∙ sym (eqb-true offset PF_VT_CTL here)))
    go true here false there = rw there refl
    go false here b there = rw here refl

pub settings_at-other : (s : Settings) (offset x other : ℕ) → other ≢ offset → settings_at (settings_after s offset x) other ≡ settings_at s other
unfolding settings_at settings_after pools_at addresses_at addresses_after vlans_at vlans_after
settings_at-other s offset x other differ = λ i. unwrap_or (
    (word RAL s.addresses.low i or word RAH s.addresses.high i or word MPSAR s.addresses.pools i
    or word MTA s.addresses.hashes i or one MCSTCTRL MCSTCTRL_KEPT s.addresses.control i)
    or (one VLNCTRL VLNCTRL_KEPT s.vlans.control i or word VFTA s.vlans.table i
    or word VLVF s.vlans.entries i or word VLVFB s.vlans.pools i)
    or (pool_control-other s.pool_control offset x other differ i or word PFVFRE s.receive_enable i
    or word PFVFTE s.transmit_enable i or word VMVIR s.port_vlans i or word PFVFSPOOF s.sender_checks i
    or one PFDTXGSWC PFDTXGSWC_KEPT s.loopback i or word VMOLR s.pool_flags i)) 0
  where
    word : (row : Row) (words : List ℕ) → word_at row (words_after row words offset x) other ≡ word_at row words other
    word row words = word_at-other row words offset x other differ

    one : (first mask kept : ℕ) → one_at first (one_after first mask kept offset x) other ≡ one_at first kept other
    one first mask kept = one_at-other first mask kept offset x other differ
