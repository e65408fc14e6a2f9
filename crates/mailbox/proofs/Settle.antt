-- The writes of one pool make the settings of a host into those of the host with another function there.
use Rattle.std.proofs.Common.{arith, ◌≡◌, ℕ, ◌+◌, ◌*◌, ◌/◌, ◌%◌, ◌^◌, ◌<◌, ◌≤◌, ◌≢◌, not, ◌&&◌, is_some, append_assoc, true≢false, ◌-◌, length, refl, sym, ap, ◌∙◌, Bool, true, false, cond, Option, Some, None, List, [], ◌∷◌, ◌++◌, replicate, eqb, eqb-true, ltb, bit_and, bit_or}
use Rattle.std.proofs.lemmas.Bool.{eqb-false}
use Rattle.std.proofs.lemmas.Bool.Decides.{nat_tests}
use Rattle.std.proofs.lemmas.List.{append-nil}
use Rattle.addr_tables.specs.Registers.{RAL, RAH, MPSAR, MTA, MCSTCTRL, MCSTCTRL_KEPT}
use Rattle.vlan_table.specs.Registers.{VLNCTRL, VLNCTRL_KEPT, VFTA, VLVF, VLVFB}
use Rattle.pool_filter.specs.Registers.{PF_VT_CTL, PF_VT_CTL_KEPT, PF_VT_CTL_SET, PFVFRE, PFVFTE, VMVIR, PFVFSPOOF, PFDTXGSWC, PFDTXGSWC_KEPT, VMOLR}
use Rattle.addr_tables.specs.Addresses.{addresses_after}
use Rattle.vlan_table.specs.Vlans.{vlans_after}
use Rattle.pool_filter.specs.Settings.{Settings, settings_after, pool_control_after}
use Rattle.wire_frame.specs.declared.row.Row.{Row}
use Rattle.wire_frame.specs.Row.{one_after}
use Rattle.pool_filter.specs.Map.{one_row}
use Rattle.mailbox.specs.declared.slot.Slot.{Slot}
use Rattle.mailbox.specs.declared.writes.Write.{Write}
use Rattle.mailbox.specs.State.{HostState, slot_at, with_slot}
use Rattle.mailbox.specs.Address.{low_part}
use Rattle.mailbox.specs.Slot.{is_on, own_address, second_address, has_joined}
use Rattle.mailbox.specs.Words.{table, mask_from, entry, low_word, valid, high_word, pool_word, table_word, id_word, control_word, member_word, joined_at, up_at, up_word, flags_word, port_word, addresses_of, vlans_of, settings_of}
use Rattle.mailbox.specs.Writes.{changes, turns, moves, joins_or_leaves, writes_of, after_writes}
use Rattle.mailbox.proofs.Isolation.{slot_stays, entry_stays}
use Rattle.mailbox.proofs.Rows.{row_after, word_after, table_same, Part, writes_in, AllFit, all_far, each_far, row_spared, word_spared, within, parts_make}
use Rattle.mailbox.proofs.Kept.{low_kept, valid_kept, kept_flags, kept_port, kept_mask, kept_members}
use Rattle.mailbox.proofs.Masks.{mask_same}

-- ---- each row by itself

abbrev pub kept_of : ℕ → ℕ → ℕ
kept_of mask x = bit_and x mask

abbrev pub control_of : ℕ → ℕ
control_of x = bit_or (bit_and x PF_VT_CTL_KEPT) PF_VT_CTL_SET

abbrev pub rows_after : Settings → List Write → Settings
rows_after s ws = record {
  addresses = record {
    low = row_after RAL s.addresses.low ws;
    high = row_after RAH s.addresses.high ws;
    pools = row_after MPSAR s.addresses.pools ws;
    hashes = row_after MTA s.addresses.hashes ws;
    control = word_after MCSTCTRL (kept_of MCSTCTRL_KEPT) s.addresses.control ws;
  };
  vlans = record {
    control = word_after VLNCTRL (kept_of VLNCTRL_KEPT) s.vlans.control ws;
    table = row_after VFTA s.vlans.table ws;
    entries = row_after VLVF s.vlans.entries ws;
    pools = row_after VLVFB s.vlans.pools ws;
  };
  pool_control = word_after PF_VT_CTL control_of s.pool_control ws;
  receive_enable = row_after PFVFRE s.receive_enable ws;
  transmit_enable = row_after PFVFTE s.transmit_enable ws;
  port_vlans = row_after VMVIR s.port_vlans ws;
  sender_checks = row_after PFVFSPOOF s.sender_checks ws;
  loopback = word_after PFDTXGSWC (kept_of PFDTXGSWC_KEPT) s.loopback ws;
  pool_flags = row_after VMOLR s.pool_flags ws;
}

pub by_rows : (s : Settings) (ws : List Write) → after_writes s ws ≡ rows_after s ws
unfolding settings_after addresses_after vlans_after pool_control_after one_after
by_rows s [] = refl
by_rows s (w ∷ ws) = by_rows (settings_after s w.offset w.value) ws

-- ---- the writes of a pool, in parts

abbrev pub entry_parts : ℕ → Option ℕ → Option ℕ → List Part
entry_parts e old new =
    record { test = λ i. moves old new && is_some old; row = RAH; word = λ i. 0; from = e; count = 1 }
    ∷ record { test = λ i. changes (low_part old) (low_part new); row = RAL; word = λ i. low_part new; from = e; count = 1 }
    ∷ record { test = λ i. moves old new && is_some new; row = RAH; word = λ i. valid new; from = e; count = 1 }
    ∷ []

abbrev pub pool_parts : HostState → ℕ → Slot → Slot → List Part
pool_parts k p old new =
    record { test = λ i. changes (flags_word old) (flags_word new); row = VMOLR; word = λ i. flags_word new; from = p; count = 1 }
    ∷ record { test = λ i. changes (port_word k.ids old) (port_word k.ids new); row = VMVIR; word = λ i. port_word k.ids new; from = p; count = 1 }
    ∷ []

abbrev pub shared_parts : HostState → ℕ → Slot → Slot → List Part
shared_parts k p old new =
    record { test = λ i. turns (is_on old) (is_on new); row = PFVFRE; word = up_word k; from = p / 32; count = 1 }
    ∷ record { test = λ i. turns (is_on old) (is_on new); row = PFVFTE; word = up_word k; from = p / 32; count = 1 }
    ∷ record { test = joins_or_leaves p old new; row = VLVFB; word = member_word k; from = 0; count = 2 * length k.ids }
    ∷ []

abbrev pub parts : HostState → ℕ → Slot → List Part
parts k p old =
    entry_parts p (own_address old) (own_address (slot_at k p))
    ++ entry_parts (64 + p) (second_address old) (second_address (slot_at k p))
    ++ pool_parts k p old (slot_at k p)
    ++ shared_parts k p old (slot_at k p)

pub in_parts : (k : HostState) (p : ℕ) (old : Slot) → writes_of k p old ≡ writes_in (parts k p old)
unfolding writes_of
in_parts k p old = simp (append_assoc, append-nil)

pub parts_fit : (k : HostState) (p : ℕ) (old : Slot) → p < 64 → length k.ids ≤ 64 → AllFit (parts k p old)
parts_fit k p old small few = (
  here p (omega arith),
  (
    here p (omega arith),
    (
      here p (omega arith),
      (
        here (64 + p) (omega arith),
        (
          here (64 + p) (omega arith),
          (
            here (64 + p) (omega arith),
            ((omega arith, omega arith), ((omega arith, omega arith), ((omega arith, omega arith), ((omega arith, omega arith), ((omega arith, omega arith), tt))))),
          ),
        ),
      ),
    ),
  ),
)
  where
    here : (e : ℕ) → e < 128 → (0 < 8) × (e + 1 ≤ 128)
    here e below = (omega arith, omega arith)

-- ---- what they make of a word

one_place : (e j : ℕ) → within e 1 j ≡ eqb j e
one_place e j = grind (arith, nat_tests)

changed_is : (x y : ℕ) → cond (changes x y) y x ≡ y
changed_is x y = go (eqb x y) refl
  where
    go : (b : Bool) → eqb x y ≡ b → cond (not b) y x ≡ y
    go true is = eqb-true x y is
    go false is = refl

moved_is : (a b : Option ℕ) → cond (moves a b && is_some b) (valid b) (cond (moves a b && is_some a) 0 (valid a)) ≡ valid b
moved_is None None = refl
moved_is None (Some b) = refl
moved_is (Some a) None = refl
moved_is (Some a) (Some b) = go (eqb b a) refl
  where
    go : (c : Bool) → eqb b a ≡ c → cond (not c && true) (valid (Some b)) (cond (not c && true) 0 (valid (Some a))) ≡ valid (Some b)
    go true is = ap (λ n. valid (Some n)) (sym (eqb-true b a is))
    go false is = refl

-- a row of receive address entries, by what the writes of an entry make of its word
entries_settle : (h : HostState) (p : ℕ) (f : Slot) (word : Option ℕ → ℕ) (made : Bool → Option ℕ → Option ℕ → ℕ → ℕ) (j : ℕ) → p < 64 → j < 128
    → ((a b : Option ℕ) (x : ℕ) → made false a b x ≡ x) → ((a b : Option ℕ) → made true a b (word a) ≡ word b)
    → made (within (64 + p) 1 j) (second_address (slot_at h p)) (second_address (slot_at (with_slot h p f) p)) (made (within p 1 j) (own_address (slot_at h p)) (own_address (slot_at (with_slot h p f) p)) (word (entry h j)))
    ≡ word (entry (with_slot h p f) j)
entries_settle h p f word made j small below stays makes =
    (λ i. made (one_place (64 + p) j i) (second_address old) (second_address new) (made (one_place p j i) (own_address old) (own_address new) (word (entry h j))))
    ∙ go (eqb j (64 + p)) refl (eqb j p) refl
  where
    k : HostState
    k = with_slot h p f

    old : Slot
    old = slot_at h p

    new : Slot
    new = slot_at k p

    first : (g : HostState) → j ≡ p → entry g j ≡ (own_address (slot_at g p))
    first g at = let is : ltb j 64 ≡ true = grind (arith, nat_tests, at, small) in ap (λ b. cond b (own_address (slot_at g j)) (second_address (slot_at g (j - 64)))) is ∙ ap (λ n. (own_address (slot_at g n))) at

    second : (g : HostState) → j ≡ 64 + p → entry g j ≡ (second_address (slot_at g p))
    second g at =
        let is : ltb j 64 ≡ false = grind (arith, nat_tests, at) in
        let place : j - 64 ≡ p = omega (arith, at) in
        ap (λ b. cond b (own_address (slot_at g j)) (second_address (slot_at g (j - 64)))) is ∙ ap (λ n. (second_address (slot_at g n))) place

    go : (b : Bool) → eqb j (64 + p) ≡ b → (c : Bool) → eqb j p ≡ c → made b (second_address old) (second_address new) (made c (own_address old) (own_address new) (word (entry h j))) ≡ word (entry k j)
    go true is true also = absurd (omega (arith, eqb-true j (64 + p) is, eqb-true j p also))
    go true is false also =
        let at : j ≡ 64 + p = eqb-true j (64 + p) is in
        ap (made true (second_address old) (second_address new)) (stays (own_address old) (own_address new) (word (entry h j)) ∙ ap word (second h at)) ∙ makes (second_address old) (second_address new) ∙ ap word (sym (second k at))
    go false is true also =
        let at : j ≡ p = eqb-true j p also in
        stays (second_address old) (second_address new) _ ∙ ap (λ o. made true (own_address old) (own_address new) (word o)) (first h at) ∙ makes (own_address old) (own_address new) ∙ ap word (sym (first k at))
    go false is false also =
        stays (second_address old) (second_address new) _ ∙ stays (own_address old) (own_address new) _
        ∙ ap word (sym (entry_stays h p (j % 64) j f (λ same. grind (arith, nat_tests, is, also, same, small, below)) below refl))

-- a row with a word for each pool
pool_settles : (h : HostState) (p : ℕ) (f : Slot) (word : Slot → ℕ) (j : ℕ)
    → cond (within p 1 j && changes (word (slot_at h p)) (word (slot_at (with_slot h p f) p))) (word (slot_at (with_slot h p f) p)) (word (slot_at h j)) ≡ word (slot_at (with_slot h p f) j)
pool_settles h p f word j = ap (λ b. cond (b && changes (word (slot_at h p)) (word (slot_at k p))) (word (slot_at k p)) (word (slot_at h j))) (one_place p j) ∙ go (eqb j p) refl
  where
    k : HostState
    k = with_slot h p f

    go : (b : Bool) → eqb j p ≡ b → cond (b && changes (word (slot_at h p)) (word (slot_at k p))) (word (slot_at k p)) (word (slot_at h j)) ≡ word (slot_at k j)
    go true is =
        let at : j ≡ p = eqb-true j p is in
        ap (λ n. cond (changes (word (slot_at h p)) (word (slot_at k p))) (word (slot_at k p)) (word (slot_at h n))) at
        ∙ changed_is (word (slot_at h p)) (word (slot_at k p)) ∙ ap (λ n. word (slot_at k n)) (sym at)
    go false is = ap word (sym (slot_stays h p j f (eqb-false j p is)))

-- a word of 32 pools, of which p alone may have turned
half_settles : (t u : ℕ → Bool) (p half : ℕ) → ((q : ℕ) → q ≢ p → t q ≡ u q) → cond (eqb half (p / 32) && turns (t p) (u p)) (mask_from u (32 * half) 32) (mask_from t (32 * half) 32) ≡ mask_from u (32 * half) 32
half_settles t u p half others = go (eqb half (p / 32)) refl (turns (t p) (u p)) refl
  where
    turned : (a b : Bool) → turns a b ≡ false → a ≡ b
    turned true true is = refl
    turned true false is = absurd (true≢false is)
    turned false true is = absurd (true≢false is)
    turned false false is = refl

    one : ((q : ℕ) → q / 32 ≡ half → q ≡ p → t q ≡ u q) → mask_from t (32 * half) 32 ≡ mask_from u (32 * half) 32
    one at = mask_same t u (32 * half) 32 (λ i small. by (32 * half + i) (omega (arith, small)) (eqb (32 * half + i) p) refl)
      where
        by : (q : ℕ) → q / 32 ≡ half → (b : Bool) → eqb q p ≡ b → t q ≡ u q
        by q in_half true is = at q in_half (eqb-true q p is)
        by q in_half false is = others q (eqb-false q p is)

    go : (b : Bool) → eqb half (p / 32) ≡ b → (c : Bool) → turns (t p) (u p) ≡ c → cond (b && c) (mask_from u (32 * half) 32) (mask_from t (32 * half) 32) ≡ mask_from u (32 * half) 32
    go true is true also = refl
    go true is false also = one (λ q in_half at. ap t at ∙ turned (t p) (u p) also ∙ ap u (sym at))
    go false is c also = one (λ q in_half at. absurd (eqb-false half (p / 32) is (sym in_half ∙ ap (λ n. n / 32) at)))

-- ---- all rows

rows_settle : (h : HostState) (p : ℕ) (f : Slot) → p < 64 → length h.ids ≤ 64 → rows_after (settings_of h) (writes_in (parts (with_slot h p f) p (slot_at h p))) ≡ settings_of (with_slot h p f)
unfolding settings_of addresses_of vlans_of
rows_settle h p f small few = λ i. record {
  addresses = record {
    low = lows i;
    high = highs i;
    pools = skipped MPSAR (table 256 pool_word) refl i;
    hashes = skipped MTA (replicate 128 0) refl i;
    control = spared MCSTCTRL (kept_of MCSTCTRL_KEPT) 0 refl i;
  };
  vlans = record {
    control = spared VLNCTRL (kept_of VLNCTRL_KEPT) (2 ^ 30) refl i;
    table = skipped VFTA (table 128 (table_word h)) refl i;
    entries = skipped VLVF (table 64 (id_word h)) refl i;
    pools = member_words i;
  };
  pool_control = spared PF_VT_CTL control_of (control_word h.default_pool) refl i;
  receive_enable = receives i;
  transmit_enable = transmits i;
  port_vlans = ports i;
  sender_checks = skipped PFVFSPOOF (replicate 8 0xFFFF) refl i;
  loopback = spared PFDTXGSWC (kept_of PFDTXGSWC_KEPT) 1 refl i;
  pool_flags = flag_words i;
}
  where
    k : HostState
    k = with_slot h p f

    old : Slot
    old = slot_at h p

    new : Slot
    new = slot_at k p

    fit : AllFit (parts k p old)
    fit = parts_fit k p old small few

    skipped : (row : Row) (words : List ℕ) → all_far row (parts k p old) ≡ true → row_after row words (writes_in (parts k p old)) ≡ words
    skipped row words far = row_spared row words (writes_in (parts k p old)) (each_far row (parts k p old) far fit)

    spared : (first : ℕ) (keep : ℕ → ℕ) (word : ℕ) → all_far (one_row first) (parts k p old) ≡ true → word_after first keep word (writes_in (parts k p old)) ≡ word
    spared first keep word far = word_spared first keep word (writes_in (parts k p old)) (each_far (one_row first) (parts k p old) far fit)

    lows : row_after RAL (table 128 (low_word h)) (writes_in (parts k p old)) ≡ table 128 (low_word k)
    lows =
        parts_make RAL (low_word h) (parts k p old)
        (refl, ((refl, λ j. low_kept (own_address new)), (refl, (refl, ((refl, λ j. low_kept (second_address new)), (refl, (refl, (refl, (refl, (refl, (refl, tt))))))))))) fit
        ∙ table_same 128 _ (low_word k) (λ j below. entries_settle h p f low_part (λ b o n x. cond (b && changes (low_part o) (low_part n)) (low_part n) x) j small below (λ a b x. refl) (λ a b. changed_is (low_part a) (low_part b)))

    highs : row_after RAH (table 128 (high_word h)) (writes_in (parts k p old)) ≡ table 128 (high_word k)
    highs =
        parts_make RAH (high_word h) (parts k p old)
        ((refl, λ j. refl), (refl, ((refl, λ j. valid_kept (own_address new)), ((refl, λ j. refl), (refl, ((refl, λ j. valid_kept (second_address new)), (refl, (refl, (refl, (refl, (refl, tt))))))))))) fit
        ∙ table_same 128 _ (high_word k) (λ j below. entries_settle h p f valid (λ b o n x. cond (b && (moves o n && is_some n)) (valid n) (cond (b && (moves o n && is_some o)) 0 x)) j small below (λ a b x. refl) moved_is)

    flag_words : row_after VMOLR (table 64 (λ q. flags_word (slot_at h q))) (writes_in (parts k p old)) ≡ table 64 (λ q. flags_word (slot_at k q))
    flag_words =
        parts_make VMOLR (λ q. flags_word (slot_at h q)) (parts k p old)
        (refl, (refl, (refl, (refl, (refl, (refl, ((refl, λ j. kept_flags new), (refl, (refl, (refl, (refl, tt))))))))))) fit
        ∙ table_same 64 _ (λ q. flags_word (slot_at k q)) (λ j below. pool_settles h p f flags_word j)

    ports : row_after VMVIR (table 64 (λ q. port_word h.ids (slot_at h q))) (writes_in (parts k p old)) ≡ table 64 (λ q. port_word k.ids (slot_at k q))
    ports =
        parts_make VMVIR (λ q. port_word h.ids (slot_at h q)) (parts k p old)
        (refl, (refl, (refl, (refl, (refl, (refl, (refl, ((refl, λ j. kept_port h.ids new), (refl, (refl, (refl, tt))))))))))) fit
        ∙ table_same 64 _ (λ q. port_word k.ids (slot_at k q)) (λ j below. pool_settles h p f (port_word h.ids) j)

    ups_stay : (q : ℕ) → q ≢ p → up_at h q ≡ up_at k q
    ups_stay q other = ap (λ g. (is_on g)) (sym (slot_stays h p q f other))

    up_settles : (j : ℕ) → cond (within (p / 32) 1 j && turns (is_on old) (is_on new)) (up_word k j) (up_word h j) ≡ up_word k j
    up_settles j = ap (λ b. cond (b && turns (is_on old) (is_on new)) (up_word k j) (up_word h j)) (one_place (p / 32) j) ∙ half_settles (up_at h) (up_at k) p j ups_stay

    receives : row_after PFVFRE (table 2 (up_word h)) (writes_in (parts k p old)) ≡ table 2 (up_word k)
    receives =
        parts_make PFVFRE (up_word h) (parts k p old)
        (refl, (refl, (refl, (refl, (refl, (refl, (refl, (refl, ((refl, λ j. kept_mask (up_at k) (32 * j)), (refl, (refl, tt))))))))))) fit
        ∙ table_same 2 _ (up_word k) (λ j below. up_settles j)

    transmits : row_after PFVFTE (table 2 (up_word h)) (writes_in (parts k p old)) ≡ table 2 (up_word k)
    transmits =
        parts_make PFVFTE (up_word h) (parts k p old)
        (refl, (refl, (refl, (refl, (refl, (refl, (refl, (refl, (refl, ((refl, λ j. kept_mask (up_at k) (32 * j)), (refl, tt))))))))))) fit
        ∙ table_same 2 _ (up_word k) (λ j below. up_settles j)

    joins_stay : (n q : ℕ) → q ≢ p → joined_at h n q ≡ joined_at k n q
    joins_stay n q other = ap (λ g. has_joined g n) (sym (slot_stays h p q f other))

    member_settles : (j : ℕ) → cond (within 0 (2 * length h.ids) j && joins_or_leaves p old new j) (member_word k j) (member_word h j) ≡ member_word k j
    member_settles j = ap (λ b. cond (b && joins_or_leaves p old new j) (member_word k j) (member_word h j)) first ∙ go (ltb j (2 * length h.ids))
      where
        first : within 0 (2 * length h.ids) j ≡ ltb j (2 * length h.ids)
        first = grind (arith, nat_tests)

        go : (b : Bool) → cond (b && joins_or_leaves p old new j) (cond b (mask_from (joined_at k (j / 2)) (32 * (j % 2)) 32) 0) (cond b (mask_from (joined_at h (j / 2)) (32 * (j % 2)) 32) 0) ≡ cond b (mask_from (joined_at k (j / 2)) (32 * (j % 2)) 32) 0
        go true = half_settles (joined_at h (j / 2)) (joined_at k (j / 2)) p (j % 2) (joins_stay (j / 2))
        go false = refl

    member_words : row_after VLVFB (table 128 (member_word h)) (writes_in (parts k p old)) ≡ table 128 (member_word k)
    member_words =
        parts_make VLVFB (member_word h) (parts k p old)
        (refl, (refl, (refl, (refl, (refl, (refl, (refl, (refl, (refl, (refl, ((refl, kept_members k), tt))))))))))) fit
        ∙ table_same 128 _ (member_word k) (λ j below. member_settles j)

pub settled : (h : HostState) (p : ℕ) (f : Slot) → p < 64 → length h.ids ≤ 64 → after_writes (settings_of h) (writes_of (with_slot h p f) p (slot_at h p)) ≡ settings_of (with_slot h p f)
settled h p f small few =
    by_rows (settings_of h) (writes_of (with_slot h p f) p (slot_at h p))
    ∙ ap (rows_after (settings_of h)) (in_parts (with_slot h p f) p (slot_at h p))
    ∙ rows_settle h p f small few
