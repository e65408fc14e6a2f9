-- A pool's own addresses and ids are those that it has, in lists that strictly rise.
use Rattle.std.proofs.Common.{arith, map, ◌&&◌, ◌||◌, ◌≡◌, ℕ, zero, suc, ◌+◌, ◌/◌, ◌%◌, get_or, replicate, Bool, true, false, List, [], ◌∷◌, refl, ap, subst, ◌∙◌, eqb}
use Rattle.std.proofs.lemmas.Bool.Decides.{nat_tests, Decides-and, Decides-like, Decides-eqb}
use Rattle.std.specs.Bool.{Decides}
use Rattle.std.specs.Cmp.{booleans_Decides}
use Rattle.std.specs.Cmp.Lexicographic.{bytes_decides}
use Rattle.std.specs.List.{list_any, range_with_len, filter}
use Rattle.std.specs.List.Sorted.{IsStrictlyIncreasing}
use Rattle.wire_frame.specs.Bits.{has_bit, has_bit_in}
use Rattle.wire_frame.proofs.BitLemmas.{has_bit_zero}
use Rattle.addr_tables.specs.Addresses.{initial_addresses, has_address, entry_address, entry_has_pool as address_has_pool}
use Rattle.vlan_table.specs.Vlans.{Vlans, initial_vlans, has_vlan, is_in_entries, entry_id, entry_has_pool as vlan_has_pool}
use Rattle.pool_filter.specs.Settings.{Settings, initial_settings}
use Rattle.pool_filter.specs.Own.{OwnSettings, own, contains, rising, addresses_of, vlan_ids_of, no_settings, same_settings, SaysSame}
use Rattle.pool_filter.proofs.RisingLemmas.{contains-rising, IsRising-rising, IsStrictlyIncreasing-from_rising, equal_from_same_set}

contains-map-filter : (f : ℕ → ℕ) (t : ℕ → Bool) (q : ℕ) (xs : List ℕ) → contains (map f (filter t xs)) q ≡ list_any (λ x. t x && eqb (f x) q) xs
contains-map-filter f t q [] = refl
contains-map-filter f t q (x ∷ xs) = go (t x) refl (contains-map-filter f t q xs)
  where
    go : (b : Bool) → t x ≡ b → contains (map f (filter t xs)) q ≡ list_any (λ x. t x && eqb (f x) q) xs → contains (map f (filter t (x ∷ xs))) q ≡ list_any (λ x. t x && eqb (f x) q) (x ∷ xs)
    go true e rest = rw e (ap (λ b. eqb (f x) q || b) rest)
    go false e rest = rw e rest

contains-filter : (t : ℕ → Bool) (q : ℕ) (xs : List ℕ) → contains (filter t xs) q ≡ (t q && contains xs q)
contains-filter t q [] = grind (arith, nat_tests)
contains-filter t q (x ∷ xs) = go (t x) refl (contains-filter t q xs)
  where
    go : (b : Bool) → t x ≡ b → contains (filter t xs) q ≡ (t q && contains xs q) → contains (filter t (x ∷ xs)) q ≡ (t q && contains (x ∷ xs) q)
    go true e rest = rw e (grind (arith, nat_tests, rest, e))
    go false e rest = rw e (grind (arith, nat_tests, rest, e))

pub contains_own_addresses : (s : Settings) (p address : ℕ) → contains (own s p).addresses address ≡ has_address s.addresses p address
unfolding own has_address
contains_own_addresses s p address = contains-rising (addresses_of s.addresses p) address ∙ contains-map-filter (entry_address s.addresses) (address_has_pool s.addresses p) address (range_with_len 0 128)

pub contains_vlan_ids : (v : Vlans) (p id : ℕ) → contains (rising (vlan_ids_of v p)) id ≡ has_vlan v p id
unfolding has_vlan is_in_entries
contains_vlan_ids v p id =
    contains-rising (vlan_ids_of v p) id
    ∙ contains-filter (has_bit_in v.table) id (map (entry_id v) (filter (vlan_has_pool v p) (range_with_len 0 64)))
    ∙ ap (λ b. has_bit_in v.table id && b) (contains-map-filter (entry_id v) (vlan_has_pool v p) id (range_with_len 0 64))

pub contains_own_vlan_ids : (s : Settings) (p id : ℕ) → contains (own s p).vlan_ids id ≡ has_vlan s.vlans p id
unfolding own
contains_own_vlan_ids s p id = contains_vlan_ids s.vlans p id

pub addresses_rise : (s : Settings) (p : ℕ) → IsStrictlyIncreasing (own s p).addresses
unfolding own
addresses_rise s p = IsStrictlyIncreasing-from_rising (rising (addresses_of s.addresses p)) (IsRising-rising (addresses_of s.addresses p))

pub vlan_ids_rise : (s : Settings) (p : ℕ) → IsStrictlyIncreasing (own s p).vlan_ids
unfolding own
vlan_ids_rise s p = IsStrictlyIncreasing-from_rising (rising (vlan_ids_of s.vlans p)) (IsRising-rising (vlan_ids_of s.vlans p))

-- ---- equal own settings

pub equal_say_same : (o n : OwnSettings) → o ≡ n → SaysSame o n
equal_say_same o n same = record {
  addresses = λ q. ap (λ s. contains s.addresses q) same;
  vlan_ids = λ q. ap (λ s. contains s.vlan_ids q) same;
  takes_untagged = ap (λ s. s.takes_untagged) same;
  may_receive = ap (λ s. s.may_receive) same;
  may_transmit = ap (λ s. s.may_transmit) same;
  checks_address = ap (λ s. s.checks_address) same;
  checks_vlan = ap (λ s. s.checks_vlan) same;
  port_vlan = ap (λ s. s.port_vlan) same;
}

same_addresses : (s t : Settings) (p q : ℕ) → SaysSame (own s p) (own t q) → (own s p).addresses ≡ (own t q).addresses
unfolding own
same_addresses s t p q same = equal_from_same_set (rising (addresses_of s.addresses p)) (rising (addresses_of t.addresses q)) (IsRising-rising (addresses_of s.addresses p)) (IsRising-rising (addresses_of t.addresses q)) same.addresses

same_vlan_ids : (s t : Settings) (p q : ℕ) → SaysSame (own s p) (own t q) → (own s p).vlan_ids ≡ (own t q).vlan_ids
unfolding own
same_vlan_ids s t p q same = equal_from_same_set (rising (vlan_ids_of s.vlans p)) (rising (vlan_ids_of t.vlans q)) (IsRising-rising (vlan_ids_of s.vlans p)) (IsRising-rising (vlan_ids_of t.vlans q)) same.vlan_ids

pub same_are_equal : (s t : Settings) (p q : ℕ) → SaysSame (own s p) (own t q) → own s p ≡ own t q
same_are_equal s t p q same = λ i. record {
  addresses = same_addresses s t p q same i;
  vlan_ids = same_vlan_ids s t p q same i;
  takes_untagged = same.takes_untagged i;
  may_receive = same.may_receive i;
  may_transmit = same.may_transmit i;
  checks_address = same.checks_address i;
  checks_vlan = same.checks_vlan i;
  port_vlan = same.port_vlan i;
}

-- the fields, one by one
abbrev AreEqual : OwnSettings → OwnSettings → Type 0
AreEqual o n = (o.addresses ≡ n.addresses) × ((o.vlan_ids ≡ n.vlan_ids) × ((o.takes_untagged ≡ n.takes_untagged) × ((o.may_receive ≡ n.may_receive)
    × ((o.may_transmit ≡ n.may_transmit) × ((o.checks_address ≡ n.checks_address) × ((o.checks_vlan ≡ n.checks_vlan) × (o.port_vlan ≡ n.port_vlan)))))))

fields_decide : (o n : OwnSettings) → Decides (same_settings o n) (AreEqual o n)
fields_decide o n =
    Decides-and _ _ (bytes_decides o.addresses n.addresses) (Decides-and _ _ (bytes_decides o.vlan_ids n.vlan_ids)
    (Decides-and _ _ (booleans_Decides o.takes_untagged n.takes_untagged) (Decides-and _ _ (booleans_Decides o.may_receive n.may_receive)
    (Decides-and _ _ (booleans_Decides o.may_transmit n.may_transmit) (Decides-and _ _ (booleans_Decides o.checks_address n.checks_address)
    (Decides-and _ _ (booleans_Decides o.checks_vlan n.checks_vlan) (Decides-eqb o.port_vlan n.port_vlan)))))))

-- the test finds no difference exactly where there is none
pub same_settings_decides : (o n : OwnSettings) → Decides (same_settings o n) (o ≡ n)
same_settings_decides o n =
    Decides-like (same_settings o n)
    (λ h i. record {
      addresses = h.0 i;
      vlan_ids = h.1.0 i;
      takes_untagged = h.1.1.0 i;
      may_receive = h.1.1.1.0 i;
      may_transmit = h.1.1.1.1.0 i;
      checks_address = h.1.1.1.1.1.0 i;
      checks_vlan = h.1.1.1.1.1.1.0 i;
      port_vlan = h.1.1.1.1.1.1.1 i;
    })
    (λ e. subst (AreEqual o) e (refl, (refl, (refl, (refl, (refl, (refl, (refl, refl)))))))) (fields_decide o n)

-- ---- a device as it is made

get_or-zeros : (n p : ℕ) → get_or (replicate {A = ℕ} n 0) p 0 ≡ 0
get_or-zeros zero p = refl
get_or-zeros (suc n) zero = refl
get_or-zeros (suc n) (suc p) = get_or-zeros n p

no_bit : (n p i : ℕ) → has_bit (get_or (replicate {A = ℕ} n 0) p 0) i ≡ false
no_bit n p i = ap (λ word. has_bit word i) (get_or-zeros n p) ∙ has_bit_zero i

pub own_initial : (p : ℕ) → own initial_settings p ≡ no_settings
unfolding own initial_settings initial_addresses initial_vlans has_bit
own_initial p = λ i. record {
  addresses = [];
  vlan_ids = [];
  takes_untagged = no_bit 64 p 24 i;
  may_receive = no_bit 2 (p / 32) (p % 32) i;
  may_transmit = no_bit 2 (p / 32) (p % 32) i;
  checks_address = no_bit 8 (p / 8) (p % 8) i;
  checks_vlan = no_bit 8 (p / 8) (8 + p % 8) i;
  port_vlan = get_or-zeros 64 p i;
}
