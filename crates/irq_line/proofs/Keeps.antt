-- Each kind of step keeps the rule of the line, and so does each seat that is handed out, put into another, or taken out of it again.
use Rattle.std.proofs.Common.{◌≡◌, ◌≢◌, ℕ, ◌+◌, ◌<◌, ◌≤◌, Bool, cond, ⊎_elim, replicate, List, [], ◌∷◌, ◌++◌, flat_map, length, refl, sym, ap, ◌∙◌, subst, arith, append-nil, length-set, length-append, get_or-set_same, get_or-set_other, bit_or, le_refl, eq-eqb, ne_eqb}
use Rattle.std.specs.Prelude.{slice_index, slice_set}
use Rattle.std.proofs.lemmas.List.{get_or-replicate, get_or_append_left, get_or_past, set_comm, set-get_or}
use Rattle.std.proofs.Math.Seq.{get_or-append_seam}
use Rattle.std.proofs.lemmas.Bool.{cases_lt}
use mathlib.Core.Option.{none, some}
use mathlib.Core.Logic.{dite}
use native.Mathlib.Decide.{ℕ_discrete}
use lib.ListN.{get_elem?}
use Rattle.atomic_table.specs.Table.{step, keeps, stepped, opening, Allows, Splits, Joins}
use Rattle.atomic_table.proofs.Lists.{set_else, set_again}
use Rattle.irq_line.specs.declared.views.Raise.{Raise}
use Rattle.irq_line.specs.declared.views.GuestRecord.{GuestRecord}
use Rattle.irq_line.specs.declared.views.View.{View}
use Rattle.irq_line.specs.declared.views.View.TheVariants.{Device, Guest, Both, Spent}
use Rattle.irq_line.specs.Line.{raise_of, raises_of, guest_in, guest_of, record_of, idle_guest, device_in, guest_for, raises_for, after_take, after_peek, one_more_seated, next_guest, joined, device_alone, guest_alone, IsWord, IsLine, IsRaise, IsTake, IsPeek, IsBeside, SeatState, LineState}
use Rattle.irq_line.proofs.Places.{not_none, only_one, from_none, as_before, one_more}
use Rattle.irq_line.proofs.Word.{word_raised, word_spared, word_taken, word_peeked, word_made}

-- ---- who knows what

mine_here : (p : ℕ) (g : GuestRecord) → g.did.pool ≡ p → guest_for p (Guest g) ≡ g ∷ []
mine_here p g own = ap (λ (b : Bool). cond b (g ∷ []) []) (eq-eqb g.did.pool p own)

not_mine : (p : ℕ) (g : GuestRecord) → g.did.pool ≢ p → guest_for p (Guest g) ≡ []
not_mine p g apart = ap (λ (b : Bool). cond b (g ∷ []) []) (ne_eqb g.did.pool p apart)

-- a seat that is the device's knows all raises
device_own : (line : LineState) (h : IsLine line) (id : ℕ) (v : View) (raises : List Raise) (seated : ℕ) → device_in v ≡ (raises, seated) ∷ [] → get_elem? line.views id ≡ some v
    → (raises ≡ h.raises) × (seated ≡ length h.guests)
device_own line h id v raises seated has at =
    let same = (only_one device_in line.views id v v (raises, seated) (h.raises, length h.guests) at has h.device).0 in
    (ap (λ (x : List Raise × ℕ). x.0) same, ap (λ (x : List Raise × ℕ). x.1) same)

-- a seat that is the guest's of pool p knows what that guest knows
guest_own : (line : LineState) (h : IsLine line) (id p : ℕ) (v : View) (g : GuestRecord) → guest_for p v ≡ g ∷ [] → get_elem? line.views id ≡ some v
    → (p < length h.guests) × (guest_of h.guests p ≡ g)
guest_own line h id p v g has at = ⊎_elim
    (λ (within : p < length h.guests). (within, sym (only_one (guest_for p) line.views id v v g (guest_of h.guests p) at has (h.seats p within)).0))
    (λ (past : length h.guests ≤ p). absurd (not_none (guest_for p) line.views id v g at has (h.no_more p past)))
    (cases_lt p (length h.guests))

-- ---- the line after a step
raise_keeps : (line : LineState) (h : IsLine line) (id p m : ℕ) → get_elem? line.views id ≡ some (Device h.raises (length h.guests)) → p < 64 → m < 8
    → IsLine (stepped line p (bit_or (slice_index line.words p) m) id [] (Device (h.raises ++ raise_of p m (slice_index line.words p) ∷ []) (length h.guests)) keeps)
raise_keeps line h id p m at low small =
    let was : View = Device h.raises (length h.guests) in
    let now : View = Device (h.raises ++ raise_of p m (slice_index line.words p) ∷ []) (length h.guests) in
    record {
      raises = h.raises ++ raise_of p m (slice_index line.words p) ∷ [];
      guests = h.guests;
      device = (only_one device_in line.views id was now (h.raises, length h.guests) (h.raises, length h.guests) at refl h.device).1;
      seats = λ q within. as_before (guest_for q) line.views id was now at refl ∙ h.seats q within;
      no_more = λ q past. as_before (guest_for q) line.views id was now at refl ∙ h.no_more q past;
      pools = h.pools;
      size = length-set line.words p (bit_or (slice_index line.words p) m) ∙ h.size;
      words = word;
    }
  where
    word : (q : ℕ) → q < 64 → IsWord q (slice_index (slice_set line.words p (bit_or (slice_index line.words p) m)) q) (h.raises ++ raise_of p m (slice_index line.words p) ∷ []) (guest_of h.guests q)
    word q within = dite (ℕ_discrete q p)
        (λ is. rw (is, get_or-set_same line.words p (bit_or (slice_index line.words p) m) 0 (let e = h.size in omega arith))
        (word_raised p (slice_index line.words p) m h.raises (guest_of h.guests p) small (h.words p low)))
        (λ other. rw (get_or-set_other line.words p q (bit_or (slice_index line.words p) m) 0 other)
        (word_spared q (slice_index line.words q) p m (slice_index line.words p) h.raises (guest_of h.guests q) (λ e. other (sym e)) (h.words q within)))

-- the guest of pool k goes on to know g, and its word to n
guest_keeps : (line : LineState) (h : IsLine line) (id k n : ℕ) (was g : GuestRecord) → get_elem? line.views id ≡ some (Guest was) → was.did.pool ≡ k → g.did.pool ≡ k
    → k < length h.guests → k < 64 → IsWord k n h.raises g
    → IsLine (stepped line k n id [] (Guest g) keeps)
guest_keeps line h id k n was g at own pool there low mine = record {
  raises = h.raises;
  guests = slice_set h.guests k g;
  device = rw (length-set h.guests k g) (as_before device_in line.views id (Guest was) (Guest g) at refl ∙ h.device);
  seats = seats;
  no_more = no_more;
  pools = pools;
  size = length-set line.words k n ∙ h.size;
  words = word;
}
  where
    spared : (q : ℕ) → q ≢ k → flat_map (guest_for q) (slice_set line.views id (Guest g)) ≡ flat_map (guest_for q) line.views
    spared q other = as_before (guest_for q) line.views id (Guest was) (Guest g) at
        (not_mine q g (λ e. other (sym e ∙ pool)) ∙ sym (not_mine q was (λ e. other (sym e ∙ own))))

    moved : flat_map (guest_for k) (slice_set line.views id (Guest g)) ≡ g ∷ []
    moved = (only_one (guest_for k) line.views id (Guest was) (Guest g) was (guest_of h.guests k) at (mine_here k was own) (h.seats k there)).1 ∙ mine_here k g pool

    seats : (q : ℕ) → q < length (slice_set h.guests k g) → flat_map (guest_for q) (slice_set line.views id (Guest g)) ≡ guest_of (slice_set h.guests k g) q ∷ []
    seats q within = dite (ℕ_discrete q k)
        (λ is. rw (is, get_or-set_same h.guests k g (idle_guest k) there) moved)
        (λ other. rw (get_or-set_other h.guests k q g (idle_guest q) other) (spared q other ∙ h.seats q (subst (λ (n : ℕ). q < n) (length-set h.guests k g) within)))

    no_more : (q : ℕ) → length (slice_set h.guests k g) ≤ q → flat_map (guest_for q) (slice_set line.views id (Guest g)) ≡ []
    no_more q past =
        let beyond : length h.guests ≤ q = subst (λ (n : ℕ). n ≤ q) (length-set h.guests k g) past in
        spared q (λ is. omega arith) ∙ h.no_more q beyond

    pools : (q : ℕ) → (guest_of (slice_set h.guests k g) q).did.pool ≡ q
    pools q = dite (ℕ_discrete q k)
        (λ is. rw (is, get_or-set_same h.guests k g (idle_guest k) there) pool)
        (λ other. rw (get_or-set_other h.guests k q g (idle_guest q) other) (h.pools q))

    word : (q : ℕ) → q < 64 → IsWord q (slice_index (slice_set line.words k n) q) h.raises (guest_of (slice_set h.guests k g) q)
    word q within = dite (ℕ_discrete q k)
        (λ is. rw (is, get_or-set_same line.words k n 0 (let e = h.size in omega arith), get_or-set_same h.guests k g (idle_guest k) there) mine)
        (λ other. rw (get_or-set_other line.words k q n 0 other, get_or-set_other h.guests k q g (idle_guest q) other) (h.words q within))

-- ---- what each step asks
pub raise_allowed : (slots id : ℕ) (me : SeatState) (p m : ℕ) → me ≡ (Device (raises_of me.0) 64, []) → p < 64 → m < 8
    → Allows IsLine slots id me p (λ n. bit_or n m) (IsRaise (step slots p m 0 none) me)
raise_allowed slots id me p m is low small = rw is (go (raises_of me.0) 64)
  where
    go : (raises : List Raise) (seated : ℕ) → Allows IsLine slots id (Device raises seated, []) p (λ n. bit_or n m) (IsRaise (step slots p m 0 none) (Device raises seated, []))
    go raises seated line h _ there _ =
        let own = device_own line h id (Device raises seated) raises seated refl there in
        let at : get_elem? line.views id ≡ some (Device h.raises (length h.guests)) = there ∙ ap (λ (rs : List Raise). some (Device rs seated)) own.0 ∙ ap (λ (k : ℕ). some (Device h.raises k)) own.1 in (
          Device (raises ++ raise_of p m (slice_index line.words p) ∷ []) seated,
          keeps,
          tt,
          rw (own.0, own.1) (raise_keeps line h id p m at low small),
          ((h.words p low).below, refl),
        )

-- a guest takes: by then all raises so far were made
take_at : (slots id p : ℕ) (g : GuestRecord) → g.did.pool ≡ p → p < 64 → Allows IsLine slots id (Guest g, []) p (λ n. 0) (IsTake (step slots p 0 0 none) (Guest g, []))
take_at slots id p g own low line h _ there _ =
    let found : ℕ = slice_index line.words p in
    let who = guest_own line h id p (Guest g) g (mine_here p g own) there in
    let mine : IsWord p found h.raises g = rw (← who.1) (h.words p low) in
    let now : GuestRecord = record_of (after_take g.did found) (raises_for p h.raises) in (
      Guest now,
      keeps,
      tt,
      guest_keeps line h id p 0 g now there own own who.0 low (word_taken p found h.raises g mine),
      (mine.below, mine.peeked, (raises_for p h.raises, refl)),
    )

peek_at : (slots id p : ℕ) (g : GuestRecord) → g.did.pool ≡ p → p < 64 → Allows IsLine slots id (Guest g, []) p (λ n. n) (IsPeek (step slots p 0 0 none) (Guest g, []))
peek_at slots id p g own low line h _ there _ =
    let found : ℕ = slice_index line.words p in
    let who = guest_own line h id p (Guest g) g (mine_here p g own) there in
    let mine : IsWord p found h.raises g = rw (← who.1) (h.words p low) in
    let now : GuestRecord = record g { did = after_peek g.did found } in (
      Guest now,
      keeps,
      tt,
      guest_keeps line h id p found g now there own own who.0 low (word_peeked p found h.raises g mine),
      (mine.below, mine.peeked, refl),
    )

pub take_allowed : (slots id : ℕ) (me : SeatState) (p : ℕ) → me ≡ (Guest (guest_in me.0), []) → (guest_in me.0).did.pool ≡ p → p < 64
    → Allows IsLine slots id me p (λ n. 0) (IsTake (step slots p 0 0 none) me)
take_allowed slots id me p is own low = rw is (take_at slots id p (guest_in me.0) own low)

pub peek_allowed : (slots id : ℕ) (me : SeatState) (p : ℕ) → me ≡ (Guest (guest_in me.0), []) → (guest_in me.0).did.pool ≡ p → p < 64
    → Allows IsLine slots id me p (λ n. n) (IsPeek (step slots p 0 0 none) me)
peek_allowed slots id me p is own low = rw is (peek_at slots id p (guest_in me.0) own low)

-- ---- the seats at the start
pub begins : IsLine (opening (replicate 64 0) [] (Device [] 0))
begins = record {
  raises = [];
  guests = [];
  device = refl;
  seats = λ p within. absurd (omega arith);
  no_more = λ p past. refl;
  pools = λ p. refl;
  size = refl;
  words = λ p low. word_made p (slice_index (replicate 64 0) p) (get_or-replicate 64 p 0 0 low);
}

-- a guest that gets a seat has done nothing, as before
guest_joins : (guests : List GuestRecord) (q : ℕ) → guest_of (guests ++ idle_guest (length guests) ∷ []) q ≡ guest_of guests q
guest_joins guests q = ⊎_elim
    (λ (within : q < length guests). get_or_append_left guests (idle_guest (length guests) ∷ []) (idle_guest q) q within)
    (λ (past : length guests ≤ q). dite (ℕ_discrete q (length guests))
    (λ here. rw here (get_or-append_seam guests (idle_guest (length guests)) [] (idle_guest (length guests)) ∙ sym (get_or_past guests (length guests) (idle_guest (length guests)) (le_refl _))))
    (λ beyond. get_or_past (guests ++ idle_guest (length guests) ∷ []) q (idle_guest q) (omega (arith, length-append guests (idle_guest (length guests) ∷ []))) ∙ sym (get_or_past guests q (idle_guest q) past)))
    (cases_lt q (length guests))

seat_joins : (line : LineState) (h : IsLine line) (id : ℕ) → get_elem? line.views id ≡ some (Device h.raises (length h.guests))
    → IsLine record { words = line.words; homes = line.homes; views = slice_set line.views id (Device h.raises (length h.guests + 1)) ++ Guest (idle_guest (length h.guests)) ∷ [] }
seat_joins line h id at = record {
  raises = h.raises;
  guests = h.guests ++ idle_guest (length h.guests) ∷ [];
  device = rw (length-append h.guests (idle_guest (length h.guests) ∷ []))
      (one_more device_in (slice_set line.views id (Device h.raises (length h.guests + 1))) (Guest (idle_guest (length h.guests)))
      ∙ append-nil (flat_map device_in (slice_set line.views id (Device h.raises (length h.guests + 1))))
      ∙ (only_one device_in line.views id (Device h.raises (length h.guests)) (Device h.raises (length h.guests + 1)) (h.raises, length h.guests) (h.raises, length h.guests) at refl h.device).1);
  seats = λ q within. rw (guest_joins h.guests q) (seats q (let n = length-append h.guests (idle_guest (length h.guests) ∷ []) in omega arith));
  no_more = λ q past. let n = length-append h.guests (idle_guest (length h.guests) ∷ []) in no_more q (omega arith);
  pools = λ q. rw (guest_joins h.guests q) (h.pools q);
  size = h.size;
  words = λ q low. rw (guest_joins h.guests q) (h.words q low);
}
  where
    all : (q : ℕ) → flat_map (guest_for q) (slice_set line.views id (Device h.raises (length h.guests + 1)) ++ Guest (idle_guest (length h.guests)) ∷ []) ≡ flat_map (guest_for q) line.views ++ guest_for q (Guest (idle_guest (length h.guests)))
    all q = one_more (guest_for q) (slice_set line.views id (Device h.raises (length h.guests + 1))) (Guest (idle_guest (length h.guests)))
        ∙ ap (λ (gs : List GuestRecord). gs ++ guest_for q (Guest (idle_guest (length h.guests)))) (as_before (guest_for q) line.views id (Device h.raises (length h.guests)) (Device h.raises (length h.guests + 1)) at refl)

    seats : (q : ℕ) → q < length h.guests + 1 → flat_map (guest_for q) (slice_set line.views id (Device h.raises (length h.guests + 1)) ++ Guest (idle_guest (length h.guests)) ∷ []) ≡ guest_of h.guests q ∷ []
    seats q within = dite (ℕ_discrete q (length h.guests))
        (λ (is : q ≡ length h.guests).
        let past : length h.guests ≤ q = omega arith in
        all q
        ∙ ap (λ (gs : List GuestRecord). gs ++ guest_for q (Guest (idle_guest (length h.guests)))) (h.no_more q past)
        ∙ mine_here q (idle_guest (length h.guests)) (sym is)
        ∙ ap (λ (k : ℕ). idle_guest k ∷ []) (sym is)
        ∙ ap (λ (g : GuestRecord). g ∷ []) (sym (get_or_past h.guests q (idle_guest q) past)))
        (λ (other : q ≢ length h.guests).
        let before : q < length h.guests = omega arith in
        all q
        ∙ ap (λ (gs : List GuestRecord). gs ++ guest_for q (Guest (idle_guest (length h.guests)))) (h.seats q before)
        ∙ ap (λ (gs : List GuestRecord). guest_of h.guests q ∷ gs) (not_mine q (idle_guest (length h.guests)) (λ e. other (sym e))))

    no_more : (q : ℕ) → length h.guests < q → flat_map (guest_for q) (slice_set line.views id (Device h.raises (length h.guests + 1)) ++ Guest (idle_guest (length h.guests)) ∷ []) ≡ []
    no_more q past =
        all q
        ∙ ap (λ (gs : List GuestRecord). gs ++ guest_for q (Guest (idle_guest (length h.guests)))) (h.no_more q (omega arith))
        ∙ not_mine q (idle_guest (length h.guests)) (λ (e : length h.guests ≡ q). omega arith)

seats_guest : (id : ℕ) (raises : List Raise) (n : ℕ) → Splits IsLine id (Device raises n) (Device raises (n + 1)) (Guest (idle_guest n))
seats_guest id raises n line h there =
    let own = device_own line h id (Device raises n) raises n refl there in
    let at : get_elem? line.views id ≡ some (Device h.raises (length h.guests)) = there ∙ ap (λ (rs : List Raise). some (Device rs n)) own.0 ∙ ap (λ (k : ℕ). some (Device h.raises k)) own.1 in
    rw (own.0, own.1) (seat_joins line h id at)

pub guest_seated : (id : ℕ) (v : View) (n : ℕ) → v ≡ Device [] n → Splits IsLine id v (one_more_seated v) (next_guest v)
guest_seated id v n is = rw is (seats_guest id [] n)

-- ---- two seats in one

-- the rule speaks of what the seats know together, and not of which seat knows it
reseated : (line : LineState) (h : IsLine line) (views : List View) → flat_map device_in views ≡ flat_map device_in line.views
    → ((q : ℕ) → flat_map (guest_for q) views ≡ flat_map (guest_for q) line.views)
    → IsLine record { words = line.words; homes = line.homes; views = views }
reseated line h views devices guests = record {
  raises = h.raises;
  guests = h.guests;
  device = devices ∙ h.device;
  seats = λ q within. guests q ∙ h.seats q within;
  no_more = λ q past. guests q ∙ h.no_more q past;
  pools = h.pools;
  size = h.size;
  words = h.words;
}

join_at : (id : ℕ) (raises : List Raise) (seated other : ℕ) (g : GuestRecord) → Joins IsLine id (Device raises seated) other (Guest g) (Both raises seated g) Spent
join_at id raises seated other g line h there apart at = reseated line h (slice_set (slice_set line.views id (Both raises seated g)) other Spent)
    (as_before device_in (slice_set line.views id (Both raises seated g)) other (Guest g) Spent at refl ∙ as_before device_in line.views id (Device raises seated) (Both raises seated g) there refl)
    guests
  where
    at_other : get_elem? line.views other ≡ some (Guest g)
    at_other = sym (set_else line.views id other (Both raises seated g) apart) ∙ at

    guests : (q : ℕ) → flat_map (guest_for q) (slice_set (slice_set line.views id (Both raises seated g)) other Spent) ≡ flat_map (guest_for q) line.views
    guests q = dite (ℕ_discrete g.did.pool q)
        (λ (own : g.did.pool ≡ q).
        let who = guest_own line h other q (Guest g) g (mine_here q g own) at_other in
        let alone = only_one (guest_for q) line.views other (Guest g) Spent g (guest_of h.guests q) at_other (mine_here q g own) (h.seats q who.0) in
        ap (λ (views : List View). flat_map (guest_for q) views) (set_comm line.views id other (Both raises seated g) Spent (λ e. apart (sym e)))
        ∙ from_none (guest_for q) (slice_set line.views other Spent) id (Device raises seated) (Both raises seated g) (set_else line.views other id Spent (λ e. apart (sym e)) ∙ there) alone.1
        ∙ mine_here q g own
        ∙ ap (λ (x : GuestRecord). x ∷ []) alone.0
        ∙ sym (h.seats q who.0))
        (λ (no : g.did.pool ≢ q).
        as_before (guest_for q) (slice_set line.views id (Both raises seated g)) other (Guest g) Spent at (sym (not_mine q g no))
        ∙ as_before (guest_for q) line.views id (Device raises seated) (Both raises seated g) there (not_mine q g no))

pub join_allowed : (id : ℕ) (me : SeatState) (other : ℕ) (its : SeatState) → me ≡ (Device (raises_of me.0) 64, []) → its ≡ (Guest (guest_in its.0), [])
    → Joins IsLine id me.0 other its.0 (joined me.0 its.0) Spent
join_allowed id me other its is is_other = rw (is, is_other) (join_at id (raises_of me.0) 64 other (guest_in its.0))

part_at : (id : ℕ) (raises : List Raise) (seated : ℕ) (g : GuestRecord) → Splits IsLine id (Both raises seated g) (Device raises seated) (Guest g)
part_at id raises seated g line h there = reseated line h (slice_set line.views id (Device raises seated) ++ Guest g ∷ [])
    (one_more device_in (slice_set line.views id (Device raises seated)) (Guest g)
    ∙ append-nil (flat_map device_in (slice_set line.views id (Device raises seated)))
    ∙ as_before device_in line.views id (Both raises seated g) (Device raises seated) there refl)
    guests
  where
    guests : (q : ℕ) → flat_map (guest_for q) (slice_set line.views id (Device raises seated) ++ Guest g ∷ []) ≡ flat_map (guest_for q) line.views
    guests q = one_more (guest_for q) (slice_set line.views id (Device raises seated)) (Guest g) ∙ dite (ℕ_discrete g.did.pool q)
        (λ (own : g.did.pool ≡ q).
        let who = guest_own line h id q (Both raises seated g) g (mine_here q g own) there in
        let alone = only_one (guest_for q) line.views id (Both raises seated g) (Device raises seated) g (guest_of h.guests q) there (mine_here q g own) (h.seats q who.0) in
        ap (λ (gs : List GuestRecord). gs ++ guest_for q (Guest g)) alone.1
        ∙ mine_here q g own
        ∙ ap (λ (x : GuestRecord). x ∷ []) alone.0
        ∙ sym (h.seats q who.0))
        (λ (no : g.did.pool ≢ q).
        ap (λ (gs : List GuestRecord). flat_map (guest_for q) (slice_set line.views id (Device raises seated)) ++ gs) (not_mine q g no)
        ∙ append-nil (flat_map (guest_for q) (slice_set line.views id (Device raises seated)))
        ∙ as_before (guest_for q) line.views id (Both raises seated g) (Device raises seated) there (sym (not_mine q g no)))

beside_at : (slots id p : ℕ) (raises : List Raise) (seated : ℕ) (g : GuestRecord) → g.did.pool ≡ p → p < 64
    → Allows IsLine slots id (Both raises seated g, []) p (λ n. n) (IsBeside (step slots p 0 0 none) (Both raises seated g, []))
beside_at slots id p raises seated g own low line h _ there _ =
    let device = device_own line h id (Both raises seated g) raises seated refl there in
    let guest = guest_own line h id p (Both raises seated g) g (mine_here p g own) there in
    let found : ℕ = slice_index line.words p in
    let word : IsWord p found raises (guest_of h.guests p) = subst (λ (rs : List Raise). IsWord p found rs (guest_of h.guests p)) (sym device.0) (h.words p low) in (
      Both raises seated g,
      keeps,
      tt,
      rw (set-get_or line.words p 0, set_again line.views id (Both raises seated g) there) h,
      (refl, subst (λ (x : GuestRecord). IsWord p found raises x) guest.1 word),
    )

-- the view of the device's seat once it took in the guest's
in_one : (me mine its : SeatState) → mine ≡ (Device (raises_of mine.0) 64, []) → me ≡ (joined mine.0 its.0, mine.1) → me ≡ (Both (raises_of mine.0) 64 (guest_in its.0), [])
in_one me mine its is is_both = let both : SeatState → SeatState = λ m. (joined m.0 its.0, m.1) in is_both ∙ ap both is

pub beside_allowed : (slots id p : ℕ) (me mine its : SeatState) → mine ≡ (Device (raises_of mine.0) 64, []) → me ≡ (joined mine.0 its.0, mine.1)
    → (guest_in its.0).did.pool ≡ p → p < 64 → Allows IsLine slots id me p (λ n. n) (IsBeside (step slots p 0 0 none) me)
beside_allowed slots id p me mine its is is_both own low = rw (in_one me mine its is is_both) (beside_at slots id p (raises_of mine.0) 64 (guest_in its.0) own low)

pub part_allowed : (id : ℕ) (now me mine its : SeatState) → mine ≡ (Device (raises_of mine.0) 64, []) → me ≡ (joined mine.0 its.0, mine.1) → now ≡ me
    → Splits IsLine id now.0 (device_alone now.0) (guest_alone now.0)
part_allowed id now me mine its is is_both same = rw (same ∙ in_one me mine its is is_both) (part_at id (raises_of mine.0) 64 (guest_in its.0))
