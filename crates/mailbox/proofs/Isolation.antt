-- Settings that agree at one pool's words are the same for the pool.
use Rattle.std.proofs.Common.{arith, ◌≡◌, ◌≢◌, ℕ, ◌+◌, ◌-◌, ◌*◌, ◌/◌, ◌%◌, ◌^◌, ◌<◌, Bool, true, false, cond, not, ◌&&◌, ◌||◌, List, get_or, map, refl, sym, ap, ◌∙◌, eqb, eqb-true, ltb}
use Rattle.std.specs.List.{filter, range_with_len}
use Rattle.std.proofs.lemmas.Bool.{and_parts, ltb-true, ltb-false}
use Rattle.std.proofs.lemmas.List.{get_or-set_other}
use Rattle.byteorder.specs.Endian.{little_number}
use Rattle.wire_frame.specs.declared.address.AddressKind.{AddressKind}
use Rattle.wire_frame.specs.declared.address.AddressKind.TheVariants.{Broadcast, Multicast, Unicast}
use Rattle.wire_frame.specs.Address.{kind_of}
use Rattle.wire_frame.specs.Bits.{has_bit, has_bit_in, two_words}
use Rattle.wire_frame.specs.Frame.{destination, is_tagged, vlan_id}
use Rattle.addr_tables.specs.Addresses.{entry_address, entry_has_pool as address_has_pool, has_address, multicast_hit}
use Rattle.vlan_table.specs.Vlans.{entry_id, entry_has_pool as vlan_has_pool, has_vlan}
use Rattle.pool_filter.specs.Settings.{Settings}
use Rattle.pool_filter.specs.Own.{addresses_of as own_addresses, vlan_ids_of as own_ids, rising, contains, own}
use Rattle.pool_filter.specs.Accepts.{flags_of, takes_kind, takes_group, is_in_vlan, accepts}
use Rattle.pool_filter.proofs.OwnLemmas.{contains_own_addresses, contains_own_vlan_ids}
use Rattle.anti_spoof.specs.Permitted.{permitted}
use Rattle.mailbox.specs.declared.slot.Slot.{Slot}
use Rattle.mailbox.specs.declared.slot.Slot.TheVariants.{Absent}
use Rattle.mailbox.specs.Slot.{own_address, second_address}
use Rattle.mailbox.specs.State.{HostState, slot_at, with_slot}
use Rattle.mailbox.specs.Words.{entry}
use Rattle.mailbox.specs.Isolation.{IsSameFor, IsSameForAll}
use Rattle.mailbox.proofs.Alike.{filtered_alike}

-- ---- what other functions were, they are

pub slot_stays : (h : HostState) (p q : ℕ) (f : Slot) → q ≢ p → slot_at (with_slot h p f) q ≡ slot_at h q
slot_stays h p q f other = get_or-set_other h.slots p q f Absent other

-- an entry of pool q holds what it held
pub entry_stays : (h : HostState) (p q e : ℕ) (f : Slot) → q ≢ p → e < 128 → e % 64 ≡ q → entry (with_slot h p f) e ≡ entry h e
entry_stays h p q e f other below is = go (ltb e 64) refl
  where
    k : HostState
    k = with_slot h p f

    go : (b : Bool) → ltb e 64 ≡ b → cond b (own_address (slot_at k e)) (second_address (slot_at k (e - 64))) ≡ cond b (own_address (slot_at h e)) (second_address (slot_at h (e - 64)))
    go true here = let past = ltb-true e 64 here in ap own_address (slot_stays h p e f (λ same. other (omega (arith, is, same, past))))
    go false there = let past = ltb-false e 64 there in ap second_address (slot_stays h p (e - 64) f (λ same. other (omega (arith, is, same, past))))

-- ---- settings that agree at the words of a pool

pub record Agrees (s t : Settings) (q : ℕ) : Type 0 where
  -- entry e is pool e % 64's alone in both, and the pool's entries are the same
  pub mine : (e : ℕ) → e < 128 → has_bit_in (two_words s.addresses.pools e) q ≡ eqb (e % 64) q
  pub also_mine : (e : ℕ) → e < 128 → has_bit_in (two_words t.addresses.pools e) q ≡ eqb (e % 64) q
  pub low : (e : ℕ) → e < 128 → e % 64 ≡ q → get_or s.addresses.low e 0 ≡ get_or t.addresses.low e 0
  pub high : (e : ℕ) → e < 128 → e % 64 ≡ q → get_or s.addresses.high e 0 ≡ get_or t.addresses.high e 0
  -- the ids are the same, and the pool's joins
  pub entries : s.vlans.entries ≡ t.vlans.entries
  pub table : s.vlans.table ≡ t.vlans.table
  pub members : (k : ℕ) → k < 64 → has_bit_in (two_words s.vlans.pools k) q ≡ has_bit_in (two_words t.vlans.pools k) q
  pub receives : has_bit_in s.receive_enable q ≡ has_bit_in t.receive_enable q
  pub transmits : has_bit_in s.transmit_enable q ≡ has_bit_in t.transmit_enable q
  pub port : get_or s.port_vlans q 0 ≡ get_or t.port_vlans q 0
  pub checks : s.sender_checks ≡ t.sender_checks
  pub flags : flags_of s q ≡ flags_of t q
  pub all : IsSameForAll s t

pub and_no : (b : Bool) → (b && false) ≡ false
and_no true = refl
and_no false = refl

gives_alike : (s t : Settings) (q e : ℕ) → Agrees s t q → e < 128 → address_has_pool s.addresses q e ≡ address_has_pool t.addresses q e
gives_alike s t q e a below =
    ap (λ b. has_bit (get_or s.addresses.high e 0) 31 && b) (a.mine e below)
    ∙ go (eqb (e % 64) q) refl
    ∙ sym (ap (λ b. has_bit (get_or t.addresses.high e 0) 31 && b) (a.also_mine e below))
  where
    go : (b : Bool) → eqb (e % 64) q ≡ b → (has_bit (get_or s.addresses.high e 0) 31 && eqb (e % 64) q) ≡ (has_bit (get_or t.addresses.high e 0) 31 && eqb (e % 64) q)
    go true is = ap (λ w. has_bit w 31 && eqb (e % 64) q) (a.high e below (eqb-true (e % 64) q is))
    go false is = ap (λ b. has_bit (get_or s.addresses.high e 0) 31 && b) is ∙ and_no (has_bit (get_or s.addresses.high e 0) 31) ∙ sym (and_no (has_bit (get_or t.addresses.high e 0) 31)) ∙ sym (ap (λ b. has_bit (get_or t.addresses.high e 0) 31 && b) is)

address_alike : (s t : Settings) (q e : ℕ) → Agrees s t q → e < 128 → address_has_pool t.addresses q e ≡ true → entry_address s.addresses e ≡ entry_address t.addresses e
address_alike s t q e a below gives =
    λ i. a.low e below is i + 2 ^ 32 * (a.high e below is i % 2 ^ 16)
  where
    parts : (has_bit (get_or t.addresses.high e 0) 31 ≡ true) × (has_bit_in (two_words t.addresses.pools e) q ≡ true)
    parts = and_parts (has_bit (get_or t.addresses.high e 0) 31) (has_bit_in (two_words t.addresses.pools e) q) gives

    is : e % 64 ≡ q
    is = eqb-true (e % 64) q (sym (a.also_mine e below) ∙ parts.1)

addresses_alike : (s t : Settings) (q : ℕ) → Agrees s t q → own_addresses s.addresses q ≡ own_addresses t.addresses q
addresses_alike s t q a =
    filtered_alike (entry_address s.addresses) (entry_address t.addresses) (address_has_pool s.addresses q) (address_has_pool t.addresses q) 0 128
    (λ e past under. gives_alike s t q e a (omega arith))
    (λ e past under gives. address_alike s t q e a (omega arith) gives)

ids_alike : (s t : Settings) (q : ℕ) → Agrees s t q → own_ids s.vlans q ≡ own_ids t.vlans q
ids_alike s t q a = λ i. filter (has_bit_in (a.table i)) (listed i)
  where
    listed : map (entry_id s.vlans) (filter (vlan_has_pool s.vlans q) (range_with_len 0 64)) ≡ map (entry_id t.vlans) (filter (vlan_has_pool t.vlans q) (range_with_len 0 64))
    listed =
        filtered_alike (entry_id s.vlans) (entry_id t.vlans) (vlan_has_pool s.vlans q) (vlan_has_pool t.vlans q) 0 64
        (λ e past under. λ i. has_bit (get_or (a.entries i) e 0) 31 && a.members e (omega arith) i)
        (λ e past under gives. ap (λ xs. get_or xs e 0 % 4096) a.entries)

own_alike : (s t : Settings) (q : ℕ) → Agrees s t q → own s q ≡ own t q
unfolding own
own_alike s t q a = λ i. record {
  addresses = rising (addresses_alike s t q a i);
  vlan_ids = rising (ids_alike s t q a i);
  takes_untagged = has_bit (a.flags i) 24;
  may_receive = a.receives i;
  may_transmit = a.transmits i;
  checks_address = has_bit (get_or (a.checks i) (q / 8) 0) (q % 8);
  checks_vlan = has_bit (get_or (a.checks i) (q / 8) 0) (8 + q % 8);
  port_vlan = a.port i;
}

-- ---- which frames are accepted, by what is a pool's own and what is the same for all

kind_alike : (s t : Settings) (q address : ℕ) (kind : AddressKind) → flags_of s q ≡ flags_of t q → multicast_hit s.addresses address ≡ multicast_hit t.addresses address → takes_kind s q address kind ≡ takes_kind t q address kind
kind_alike s t q address Broadcast flags hit = ap (λ w. has_bit w 27) flags
kind_alike s t q address Multicast flags hit = λ i. has_bit (flags i) 28 || (has_bit (flags i) 25 && hit i)
kind_alike s t q address Unicast flags hit = refl

group_alike : (s t : Settings) (q : ℕ) (address : List ℕ) → flags_of s q ≡ flags_of t q → IsSameForAll s t → takes_group s q address ≡ takes_group t q address
unfolding takes_group
group_alike s t q address flags all = kind_alike s t q (little_number 6 address) (kind_of address) flags (all.multicast (little_number 6 address))

vlan_alike : (s t : Settings) (q : ℕ) (frame : List ℕ) → own s q ≡ own t q → flags_of s q ≡ flags_of t q → IsSameForAll s t → is_in_vlan s q frame ≡ is_in_vlan t q frame
unfolding is_in_vlan
vlan_alike s t q frame owns flags all = λ i. not (all.filtering i) || cond (is_tagged frame) (has i) (has_bit (flags i) 24)
  where
    has : has_vlan s.vlans q (vlan_id frame) ≡ has_vlan t.vlans q (vlan_id frame)
    has = sym (contains_own_vlan_ids s q (vlan_id frame)) ∙ ap (λ o. contains o.vlan_ids (vlan_id frame)) owns ∙ contains_own_vlan_ids t q (vlan_id frame)

accepts_alike : (s t : Settings) (q : ℕ) (frame : List ℕ) → own s q ≡ own t q → flags_of s q ≡ flags_of t q → IsSameForAll s t → accepts s q frame ≡ accepts t q frame
unfolding accepts
accepts_alike s t q frame owns flags all = λ i. (has i || group_alike s t q (destination frame) flags all i) && vlan_alike s t q frame owns flags all i
  where
    has : has_address s.addresses q (little_number 6 (destination frame)) ≡ has_address t.addresses q (little_number 6 (destination frame))
    has = sym (contains_own_addresses s q (little_number 6 (destination frame))) ∙ ap (λ o. contains o.addresses (little_number 6 (destination frame))) owns ∙ contains_own_addresses t q (little_number 6 (destination frame))

-- ---- the theorem

pub agrees_same : (s t : Settings) (q : ℕ) → Agrees s t q → IsSameFor s t q
agrees_same s t q a = record {
  settings = owns;
  accepts = λ frame. accepts_alike s t q frame owns a.flags a.all;
  permitted = λ frame. ap (λ o. permitted o frame) owns;
}
  where
    owns : own s q ≡ own t q
    owns = own_alike s t q a
