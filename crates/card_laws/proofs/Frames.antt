-- What a pool's settings are, and which frames it accepts, is by its own function and by what is the same for all.
use Rattle.std.proofs.Common.{arith, ◌≡◌, ℕ, ◌+◌, ◌-◌, ◌*◌, ◌/◌, ◌%◌, ◌^◌, ◌<◌, Bool, true, false, cond, ◌&&◌, length, get_or, refl, sym, ap, ◌∙◌, subst, ltb}
use Rattle.std.proofs.lemmas.Bool.{ltb-true, ltb-false}
use Rattle.addr_tables.specs.Addresses.{multicast_hit}
use Rattle.vlan_table.specs.Vlans.{is_filtering}
use Rattle.pool_filter.specs.Accepts.{default_pool}
use Rattle.pool_filter.specs.Own.{contains}
use Rattle.mailbox.specs.Address.{low_part}
use Rattle.mailbox.specs.Isolation.{IsSameFor, IsSameForAll}
use Rattle.mailbox.specs.Slot.{has_joined, is_on, own_address, second_address}
use Rattle.mailbox.specs.State.{HostState, slot_at}
use Rattle.mailbox.specs.Words.{addresses_of, control_word, entry, flags_word, high_word, low_word, mask_from, port_word, settings_of, table, valid, vlans_of}
use Rattle.mailbox.proofs.Entries.{entry_member, entry_pool, table_at, up_bit}
use Rattle.mailbox.proofs.Isolation.{Agrees, agrees_same}

-- an entry of pool q is the same
entry_alike : (h k : HostState) (q e : ℕ) → slot_at h q ≡ slot_at k q → e < 128 → e % 64 ≡ q → entry h e ≡ entry k e
entry_alike h k q e same below is = go (ltb e 64) refl
  where
    go : (b : Bool) → ltb e 64 ≡ b → cond b (own_address (slot_at h e)) (second_address (slot_at h (e - 64))) ≡ cond b (own_address (slot_at k e)) (second_address (slot_at k (e - 64)))
    go true here =
        let past = ltb-true e 64 here in
        let at : q ≡ e = omega (arith, is, past) in
        ap own_address (subst (λ (n : ℕ). slot_at h n ≡ slot_at k n) at same)
    go false there =
        let past = ltb-false e 64 there in
        let at : q ≡ e - 64 = omega (arith, is, past, below) in
        ap second_address (subst (λ (n : ℕ). slot_at h n ≡ slot_at k n) at same)

agrees : (h k : HostState) (q : ℕ) → q < 64 → slot_at h q ≡ slot_at k q → h.ids ≡ k.ids → h.default_pool ≡ k.default_pool → Agrees (settings_of h) (settings_of k) q
unfolding settings_of addresses_of vlans_of is_filtering multicast_hit
agrees h k q small slot ids pool = record {
  mine = λ e below. entry_pool e q below small;
  also_mine = λ e below. entry_pool e q below small;
  low = λ e below at. table_at (low_word h) 128 e below ∙ ap low_part (entry_alike h k q e slot below at) ∙ sym (table_at (low_word k) 128 e below);
  high = λ e below at. table_at (high_word h) 128 e below ∙ ap valid (entry_alike h k q e slot below at) ∙ sym (table_at (high_word k) 128 e below);
  entries = λ i. table 64 (λ n. cond (ltb n (length (ids i))) (2 ^ 31 + get_or (ids i) n 0 % 2 ^ 12) 0);
  table = λ i. table 128 (λ n. mask_from (contains (ids i)) (32 * n) 32);
  members = λ n below. entry_member h n q below small ∙ (λ i. ltb (2 * n + q / 32) (2 * length (ids i)) && has_joined (slot i) n) ∙ sym (entry_member k n q below small);
  receives = up_bit h q small ∙ ap is_on slot ∙ sym (up_bit k q small);
  transmits = up_bit h q small ∙ ap is_on slot ∙ sym (up_bit k q small);
  port = table_at (λ p. port_word h.ids (slot_at h p)) 64 q small ∙ (λ i. port_word (ids i) (slot i)) ∙ sym (table_at (λ p. port_word k.ids (slot_at k p)) 64 q small);
  checks = refl;
  flags = table_at (λ p. flags_word (slot_at h p)) 64 q small ∙ ap flags_word slot ∙ sym (table_at (λ p. flags_word (slot_at k p)) 64 q small);
  all = record {
    loopback = refl;
    filtering = refl;
    default_pool = λ i. default_pool (record (settings_of h) { pool_control = control_word (pool i) });
    multicast = λ address. refl;
  };
}

pub same_for : (h k : HostState) (q : ℕ) → q < 64 → slot_at h q ≡ slot_at k q → h.ids ≡ k.ids → h.default_pool ≡ k.default_pool → IsSameFor (settings_of h) (settings_of k) q
same_for h k q small slot ids pool = agrees_same (settings_of h) (settings_of k) q (agrees h k q small slot ids pool)

pub same_for_all : (h k : HostState) (q : ℕ) → q < 64 → slot_at h q ≡ slot_at k q → h.ids ≡ k.ids → h.default_pool ≡ k.default_pool → IsSameForAll (settings_of h) (settings_of k)
same_for_all h k q small slot ids pool = (agrees h k q small slot ids pool).all
