-- While the writes of one pool are done, every other pool has what it had.
use Rattle.std.proofs.Common.{arith, ◌≡◌, ◌≢◌, ℕ, ◌+◌, ◌*◌, ◌/◌, ◌%◌, ◌^◌, ◌<◌, ◌≤◌, Bool, true, cond, ◌&&◌, List, [], ◌∷◌, ◌++◌, length, replicate, get_or, Option, Some, None, refl, sym, ap, subst, ◌∙◌, ltb, bit_and}
use Rattle.std.proofs.lemmas.List.{append-nil}
use Rattle.wire_frame.specs.declared.row.Row.{Row}
use Rattle.wire_frame.specs.Bits.{has_bit, has_bit_in, two_words}
use Rattle.addr_tables.specs.Registers.{RAL, RAH, MPSAR, MTA, MCSTCTRL, MCSTCTRL_KEPT}
use Rattle.vlan_table.specs.Registers.{VLNCTRL, VLNCTRL_KEPT, VFTA, VLVF, VLVFB}
use Rattle.pool_filter.specs.Registers.{PF_VT_CTL, PFVFRE, PFVFTE, VMVIR, PFVFSPOOF, PFDTXGSWC, PFDTXGSWC_KEPT, VMOLR}
use Rattle.addr_tables.specs.Addresses.{multicast_hit}
use Rattle.vlan_table.specs.Vlans.{is_filtering}
use Rattle.pool_filter.specs.Map.{one_row}
use Rattle.pool_filter.specs.Settings.{Settings}
use Rattle.mailbox.specs.declared.slot.Slot.{Slot}
use Rattle.mailbox.specs.declared.message.Message.{Message}
use Rattle.mailbox.specs.declared.writes.Write.{Write}
use Rattle.mailbox.specs.Slot.{is_on, has_joined, with_guest}
use Rattle.mailbox.specs.State.{HostState, slot_at, with_slot}
use Rattle.mailbox.specs.Host.{slot_after, host_after, host_without}
use Rattle.mailbox.specs.Isolation.{IsSameFor, IsSameForAll}
use Rattle.mailbox.specs.Words.{table, low_word, high_word, pool_word, table_word, id_word, member_word, joined_at, up_at, up_word, flags_word, port_word, control_word, addresses_of, vlans_of, settings_of}
use Rattle.mailbox.specs.Writes.{writes_of, after_writes, writes_after, writes_without}
use Rattle.mailbox.proofs.Entries.{table_at, entry_pool, two_words_at, mask_or_none}
use Rattle.mailbox.proofs.Isolation.{slot_stays, Agrees, agrees_same}
use Rattle.mailbox.proofs.Kept.{kept_mask, kept_members}
use Rattle.mailbox.proofs.Masks.{has_bit_mask}
use Rattle.mailbox.proofs.Rows.{row_after, word_after, writes_in, AllFit, all_far, Among, Each, each_front, each_far, Spares, row_spared, word_spared, Gives, Giving, parts_give, row_holds}
use Rattle.mailbox.proofs.Settle.{kept_of, control_of, rows_after, by_rows, parts, parts_fit, in_parts, settled}

-- ---- what the words of pool q are at every moment

-- an entry of pool q, a word of pool q, its bit of a word of pools, and its bit of a word of joins
abbrev pub HoldsEntry : HostState → (HostState → ℕ → ℕ) → ℕ → ℕ → ℕ → Type 0
HoldsEntry h word q j x = j < 128 → j % 64 ≡ q → x ≡ word h j

abbrev pub HoldsWord : ℕ → ℕ → ℕ → ℕ → Type 0
HoldsWord word q j x = j ≡ q → x ≡ word

abbrev pub HoldsBit : Bool → ℕ → ℕ → ℕ → Type 0
HoldsBit b q j x = j ≡ q / 32 → has_bit x (q % 32) ≡ b

abbrev pub HoldsJoin : HostState → ℕ → ℕ → ℕ → Type 0
HoldsJoin h q j x = j < 128 → j % 2 ≡ q / 32 → has_bit x (q % 32) ≡ (ltb j (2 * length h.ids) && joined_at h (j / 2) q)

member_bit : (h : HostState) (q j : ℕ) → q < 64 → j % 2 ≡ q / 32 → has_bit (member_word h j) (q % 32) ≡ (ltb j (2 * length h.ids) && joined_at h (j / 2) q)
member_bit h q j small half =
    let place : 32 * (j % 2) + q % 32 ≡ q = omega (arith, half) in
    mask_or_none (ltb j (2 * length h.ids)) (joined_at h (j / 2)) (j % 2) q place

up_word_bit : (h : HostState) (q j : ℕ) → q < 64 → j ≡ q / 32 → has_bit (up_word h j) (q % 32) ≡ up_at h q
up_word_bit h q j small half =
    let place : 32 * j + q % 32 ≡ q = omega (arith, half) in
    has_bit_mask (up_at h) (32 * j) 32 (q % 32) (omega arith) ∙ ap (up_at h) place

-- ---- what all pools have

all_from : (s t : Settings) → s.loopback ≡ t.loopback → s.vlans.control ≡ t.vlans.control → s.pool_control ≡ t.pool_control → s.addresses.hashes ≡ t.addresses.hashes → s.addresses.control ≡ t.addresses.control → IsSameForAll s t
unfolding is_filtering multicast_hit
all_from s t loopback filtering pool hashes control = record {
  loopback = ap (λ w. has_bit w 0) loopback;
  filtering = ap (λ w. has_bit w 30) filtering;
  default_pool = ap (λ w. cond (has_bit w 29) None (Some (w / 2 ^ 7 % 2 ^ 6))) pool;
  multicast = λ address. λ i. has_bit (control i) 2 && has_bit_in (hashes i) (address / 2 ^ get_or (36 ∷ 35 ∷ 34 ∷ 32 ∷ []) (control i % 4) 0 % 2 ^ 12);
}

-- ---- the pool's words after some of the writes

meanwhile : (h : HostState) (p q : ℕ) (f : Slot) (done left : List Write) → p < 64 → length h.ids ≤ 64 → q < 64 → q ≢ p → done ++ left ≡ writes_in (parts (with_slot h p f) p (slot_at h p)) → Agrees (settings_of h) (rows_after (settings_of h) done) q
unfolding settings_of addresses_of vlans_of
meanwhile h p q f done left small few q_small other is = record {
  mine = λ e below. entry_pool e q below q_small;
  also_mine = λ e below. ap (λ ws. has_bit_in (two_words ws e) q) (spared MPSAR (table 256 pool_word) refl) ∙ entry_pool e q below q_small;
  low = λ e below at. table_at (low_word h) 128 e below ∙ sym (lows e below at);
  high = λ e below at. table_at (high_word h) 128 e below ∙ sym (highs e below at);
  entries = sym (spared VLVF (table 64 (id_word h)) refl);
  table = sym (spared VFTA (table 128 (table_word h)) refl);
  members = λ m below. joins m below;
  receives = up_bits (table 2 (up_word h)) (old_up (q / 32) refl) ∙ sym (receive_bits (q / 32) refl);
  transmits = up_bits (table 2 (up_word h)) (old_up (q / 32) refl) ∙ sym (transmit_bits (q / 32) refl);
  port = table_at (λ n. port_word h.ids (slot_at h n)) 64 q q_small ∙ sym (ports q refl);
  checks = sym (spared PFVFSPOOF (replicate 8 0xFFFF) refl);
  flags = table_at (λ n. flags_word (slot_at h n)) 64 q q_small ∙ sym (flag_words q refl);
  all = all_from (settings_of h) (rows_after (settings_of h) done)
      (sym (word_spare PFDTXGSWC (kept_of PFDTXGSWC_KEPT) 1 refl))
      (sym (word_spare VLNCTRL (kept_of VLNCTRL_KEPT) (2 ^ 30) refl))
      (sym (word_spare PF_VT_CTL control_of (control_word h.default_pool) refl))
      (sym (spared MTA (replicate 128 0) refl))
      (sym (word_spare MCSTCTRL (kept_of MCSTCTRL_KEPT) 0 refl));
}
  where
    k : HostState
    k = with_slot h p f

    fit : AllFit (parts k p (slot_at h p))
    fit = parts_fit k p (slot_at h p) small few

    front : (P : Write → Type 0) → Each P (writes_in (parts k p (slot_at h p))) → Each P done
    front P each = each_front P done left (subst (Each P) (sym is) each)

    spared : (row : Row) (words : List ℕ) → all_far row (parts k p (slot_at h p)) ≡ true → row_after row words done ≡ words
    spared row words far = row_spared row words done (front (Spares row) (each_far row (parts k p (slot_at h p)) far fit))

    word_spare : (first : ℕ) (keep : ℕ → ℕ) (word : ℕ) → all_far (one_row first) (parts k p (slot_at h p)) ≡ true → word_after first keep word done ≡ word
    word_spare first keep word far = word_spared first keep word done (front (Spares (one_row first)) (each_far (one_row first) (parts k p (slot_at h p)) far fit))

    -- what holds of the words of a row, and of those that are written, holds of them at every moment
    holds_on : (row : Row) (P : ℕ → ℕ → Type 0) (words : List ℕ) → ((j : ℕ) → P j (get_or words j 0)) → Among row (Giving row P) (parts k p (slot_at h p)) → (j : ℕ) → P j (get_or (row_after row words done) j 0)
    holds_on row P words old among = row_holds row P words done old (front (Gives row P) (parts_give row P (parts k p (slot_at h p)) among fit))

    -- p's own entries are none of q's, and its words neither
    first_out : (word : HostState → ℕ → ℕ) (j x : ℕ) → p ≤ j → j < p + 1 → HoldsEntry h word q j x
    first_out word j x past below small_j at = absurd (other (omega (arith, past, below, at, small)))

    second_out : (word : HostState → ℕ → ℕ) (j x : ℕ) → 64 + p ≤ j → j < 64 + p + 1 → HoldsEntry h word q j x
    second_out word j x past below small_j at = absurd (other (omega (arith, past, below, at, small)))

    word_out : (word j x : ℕ) → p ≤ j → j < p + 1 → HoldsWord word q j x
    word_out word j x past below at = absurd (other (omega (arith, past, below, at)))

    same : slot_at k q ≡ slot_at h q
    same = slot_stays h p q f other

    lows : (e : ℕ) → HoldsEntry h low_word q e (get_or (row_after RAL (table 128 (low_word h)) done) e 0)
    lows = holds_on RAL (HoldsEntry h low_word q) (table 128 (low_word h)) (λ e below at. table_at (low_word h) 128 e below)
        (refl, ((refl, λ j. first_out low_word j _), (refl, (refl, ((refl, λ j. second_out low_word j _), (refl, (refl, (refl, (refl, (refl, (refl, tt)))))))))))

    highs : (e : ℕ) → HoldsEntry h high_word q e (get_or (row_after RAH (table 128 (high_word h)) done) e 0)
    highs = holds_on RAH (HoldsEntry h high_word q) (table 128 (high_word h)) (λ e below at. table_at (high_word h) 128 e below)
        ((refl, λ j. first_out high_word j _), (refl, ((refl, λ j. first_out high_word j _), ((refl, λ j. second_out high_word j _), (refl, ((refl, λ j. second_out high_word j _), (refl, (refl, (refl, (refl, (refl, tt)))))))))))

    flag_words : (j : ℕ) → HoldsWord (flags_word (slot_at h q)) q j (get_or (row_after VMOLR (table 64 (λ n. flags_word (slot_at h n))) done) j 0)
    flag_words = holds_on VMOLR (HoldsWord (flags_word (slot_at h q)) q) (table 64 (λ n. flags_word (slot_at h n)))
        (λ j at. table_at (λ n. flags_word (slot_at h n)) 64 j (omega (arith, at, q_small)) ∙ ap (λ n. flags_word (slot_at h n)) at)
        (refl, (refl, (refl, (refl, (refl, (refl, ((refl, λ j. word_out (flags_word (slot_at h q)) j _), (refl, (refl, (refl, (refl, tt)))))))))))

    ports : (j : ℕ) → HoldsWord (port_word h.ids (slot_at h q)) q j (get_or (row_after VMVIR (table 64 (λ n. port_word h.ids (slot_at h n))) done) j 0)
    ports = holds_on VMVIR (HoldsWord (port_word h.ids (slot_at h q)) q) (table 64 (λ n. port_word h.ids (slot_at h n)))
        (λ j at. table_at (λ n. port_word h.ids (slot_at h n)) 64 j (omega (arith, at, q_small)) ∙ ap (λ n. port_word h.ids (slot_at h n)) at)
        (refl, (refl, (refl, (refl, (refl, (refl, (refl, ((refl, λ j. word_out (port_word h.ids (slot_at h q)) j _), (refl, (refl, (refl, tt)))))))))))

    -- the bit of q in a word of pools
    old_up : (j : ℕ) → HoldsBit (up_at h q) q j (get_or (table 2 (up_word h)) j 0)
    old_up j half = ap (λ w. has_bit w (q % 32)) (table_at (up_word h) 2 j (omega (arith, half, q_small))) ∙ up_word_bit h q j q_small half

    new_up : (j : ℕ) → HoldsBit (up_at h q) q j (bit_and (up_word k j) 0xFFFFFFFF)
    new_up j half = ap (λ w. has_bit w (q % 32)) (kept_mask (up_at k) (32 * j)) ∙ up_word_bit k q j q_small half ∙ ap (λ g. (is_on g)) same

    up_bits : (words : List ℕ) → has_bit (get_or words (q / 32) 0) (q % 32) ≡ up_at h q → has_bit_in words q ≡ up_at h q
    up_bits words bit = bit

    receive_bits : (j : ℕ) → HoldsBit (up_at h q) q j (get_or (row_after PFVFRE (table 2 (up_word h)) done) j 0)
    receive_bits = holds_on PFVFRE (HoldsBit (up_at h q) q) (table 2 (up_word h)) old_up
        (refl, (refl, (refl, (refl, (refl, (refl, (refl, (refl, ((refl, λ j past below. new_up j), (refl, (refl, tt)))))))))))

    transmit_bits : (j : ℕ) → HoldsBit (up_at h q) q j (get_or (row_after PFVFTE (table 2 (up_word h)) done) j 0)
    transmit_bits = holds_on PFVFTE (HoldsBit (up_at h q) q) (table 2 (up_word h)) old_up
        (refl, (refl, (refl, (refl, (refl, (refl, (refl, (refl, (refl, ((refl, λ j past below. new_up j), (refl, tt)))))))))))

    new_join : (j : ℕ) → HoldsJoin h q j (bit_and (member_word k j) 0xFFFFFFFF)
    new_join j below half =
        ap (λ w. has_bit w (q % 32)) (kept_members k j) ∙ member_bit k q j q_small half
        ∙ ap (λ g. ltb j (2 * length h.ids) && has_joined g (j / 2)) same

    join_bits : (j : ℕ) → HoldsJoin h q j (get_or (row_after VLVFB (table 128 (member_word h)) done) j 0)
    join_bits = holds_on VLVFB (HoldsJoin h q) (table 128 (member_word h))
        (λ j below half. ap (λ w. has_bit w (q % 32)) (table_at (member_word h) 128 j below) ∙ member_bit h q j q_small half)
        (refl, (refl, (refl, (refl, (refl, (refl, (refl, (refl, (refl, (refl, ((refl, λ j past below. new_join j), tt)))))))))))

    joins : (m : ℕ) → m < 64 → has_bit_in (two_words (table 128 (member_word h)) m) q ≡ has_bit_in (two_words (row_after VLVFB (table 128 (member_word h)) done) m) q
    joins m below =
        two_words_at (table 128 (member_word h)) m q q_small
        ∙ ap (λ w. has_bit w (q % 32)) (table_at (member_word h) 128 (2 * m + q / 32) (omega (arith, below, q_small)))
        ∙ member_bit h q (2 * m + q / 32) q_small half
        ∙ sym (join_bits (2 * m + q / 32) (omega (arith, below, q_small)) half)
        ∙ sym (two_words_at (row_after VLVFB (table 128 (member_word h)) done) m q q_small)
      where
        half : (2 * m + q / 32) % 2 ≡ q / 32
        half = omega (arith, q_small)

-- ---- the theorem

pub others_meanwhile : (h : HostState) (p q : ℕ) (f : Slot) (done left : List Write) → p < 64 → length h.ids ≤ 64 → q < 64 → q ≢ p → done ++ left ≡ writes_of (with_slot h p f) p (slot_at h p) → IsSameFor (settings_of h) (after_writes (settings_of h) done) q
others_meanwhile h p q f done left small few q_small other is =
    subst (λ (t : Settings). IsSameFor (settings_of h) t q) (sym (by_rows (settings_of h) done))
    (agrees_same (settings_of h) (rows_after (settings_of h) done) q (meanwhile h p q f done left small few q_small other (is ∙ in_parts (with_slot h p f) p (slot_at h p))))

-- after all of them
pub others_alike : (h : HostState) (p q : ℕ) (f : Slot) → p < 64 → length h.ids ≤ 64 → q < 64 → q ≢ p → IsSameFor (settings_of h) (settings_of (with_slot h p f)) q
others_alike h p q f small few q_small other =
    subst (λ (t : Settings). IsSameFor (settings_of h) t q) (settled h p f small few)
    (others_meanwhile h p q f (writes_of (with_slot h p f) p (slot_at h p)) [] small few q_small other (append-nil (writes_of (with_slot h p f) p (slot_at h p))))

-- a message
pub message_meanwhile : (h : HostState) (p q : ℕ) (message : Message) (done left : List Write) → p < 64 → length h.ids ≤ 64 → q < 64 → q ≢ p → done ++ left ≡ writes_after h p message → IsSameFor (settings_of h) (after_writes (settings_of h) done) q
unfolding writes_after host_after
message_meanwhile h p q message done left small few q_small other is = others_meanwhile h p q (slot_after h p message) done left small few q_small other is

-- a reset
pub reset_meanwhile : (h : HostState) (p q : ℕ) (done left : List Write) → p < 64 → length h.ids ≤ 64 → q < 64 → q ≢ p → done ++ left ≡ writes_without h p → IsSameFor (settings_of h) (after_writes (settings_of h) done) q
unfolding writes_without host_without
reset_meanwhile h p q done left small few q_small other is = others_meanwhile h p q (with_guest (slot_at h p) None) done left small few q_small other is

-- ---- what is the same for all

pub all_alike : (h : HostState) (p : ℕ) (f : Slot) → IsSameForAll (settings_of h) (settings_of (with_slot h p f))
unfolding settings_of addresses_of vlans_of is_filtering multicast_hit
all_alike h p f = record { loopback = refl; filtering = refl; default_pool = refl; multicast = λ address. refl }
