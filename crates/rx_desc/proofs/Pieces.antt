-- The loops over the pieces of a frame, one piece at a time.
use Rattle.std.proofs.Common.{◌≡◌, ℕ, zero, suc, ◌+◌, ◌-◌, ◌*◌, ◌/◌, ◌<◌, ◌≤◌, min, List, [], ◌∷◌, length, take, drop, set, get_or, map, None, Bool, true, false, nat_lt, ◌||◌, refl, sym, ◌∙◌, ap, arith, eqb, inl, inr}
use Rattle.std.proofs.lemmas.List.{drop_more, take_more, take_more_set, take_min, drop_min, take_all, get_or-map, length-map}
use Rattle.std.proofs.lemmas.Nat.{div-mul-add}
use Rattle.std.proofs.lemmas.Bool.{ltb-false, lt-ltb, le-ltb, cases_eq, eq-eqb, ne_eqb}
use Rattle.guest_memory.specs.Memory.{Write, overwrite, write_all, two_words, word_at}
use Rattle.rings.specs.Ring.{RingState, owned, head_after}
use Rattle.receive_checksum.specs.declared.check.Checks.{Checks}
use Rattle.rx_desc.specs.declared.placing.Placed.TheVariants.{Put, NoRoom, Faulted}
use Rattle.rx_desc.specs.declared.placing.RxConfig.{RxConfig}
use Rattle.rx_desc.specs.declared.write_back.WriteBack.{WriteBack}
use Rattle.rx_desc.specs.Receive.{deliver, deliver_pieces, sums_of, pieces, slots, data_writes, is_nil, cut, zip_writes, back_writes, words_back, first_word, passes_end, status}

-- the writes from the piece at i on; xs is what is left of the data
pub rest_writes : List ℕ → ℕ → ℕ → ℕ → List ℕ → List Write
rest_writes places b n i xs = zip_writes (drop i places) (cut b (n - i) xs)

pub rest_writes-none : (places : List ℕ) (b n : ℕ) (xs : List ℕ) → rest_writes places b n 0 xs ≡ zip_writes places (cut b n xs)
unfolding rest_writes
rest_writes-none places b n xs = let e : n - 0 ≡ n = omega arith in ap (λ (k : ℕ). zip_writes places (cut b k xs)) e

zip_writes-nil : (places : List ℕ) → zip_writes places [] ≡ []
unfolding zip_writes
zip_writes-nil [] = refl
zip_writes-nil (a ∷ places) = refl

pub rest_writes-all : (places : List ℕ) (b n i : ℕ) (xs : List ℕ) → n ≤ i → rest_writes places b n i xs ≡ []
unfolding rest_writes cut
rest_writes-all places b n i xs h = let e : n - i ≡ 0 = omega arith in ap (λ (k : ℕ). zip_writes (drop i places) (cut b k xs)) e ∙ zip_writes-nil (drop i places)

rest_writes-more : (places : List ℕ) (b n i : ℕ) (xs : List ℕ) → i < n → i < length places → rest_writes places b n i xs ≡ record { at = get_or places i 0; bytes = take b xs } ∷ rest_writes places b n (i + 1) (drop b xs)
unfolding rest_writes cut zip_writes
rest_writes-more places b n i xs h k =
    let e : n - i ≡ suc (n - (i + 1)) = omega arith in
    ap (λ (k : ℕ). zip_writes (drop i places) (cut b k xs)) e ∙ ap (λ (d : List ℕ). zip_writes d (cut b (suc (n - (i + 1))) xs)) (drop_more places i 0 k)

pub write_all-none : (ws : List Write) (m : List ℕ) → ws ≡ [] → write_all ws m ≡ m
unfolding write_all
write_all-none ws m e = rw e refl

pub write_all-more : (ws rest : List Write) (a : ℕ) (p m : List ℕ) → ws ≡ record { at = a; bytes = p } ∷ rest → write_all ws m ≡ write_all rest (overwrite a p m)
unfolding write_all
write_all-more ws rest a p m e = rw e refl

pub passes_end-none : (n : ℕ) (ws : List Write) → ws ≡ [] → passes_end n ws ≡ false
unfolding passes_end
passes_end-none n ws e = rw e refl

passes_end-more : (n : ℕ) (ws rest : List Write) (a : ℕ) (p : List ℕ) → ws ≡ record { at = a; bytes = p } ∷ rest → passes_end n ws ≡ (nat_lt n (a + length p) || passes_end n rest)
unfolding passes_end
passes_end-more n ws rest a p e = rw e refl

-- what a loop that has the writes from i on left knows of the piece at i and the pieces after it
pub record StepsOn (places : List ℕ) (b n i : ℕ) (xs piece tail m m' : List ℕ) (a end : ℕ) : Type 0 where
  pub first : rest_writes places b n i xs ≡ record { at = a; bytes = piece } ∷ rest_writes places b n (i + 1) tail
  pub written : write_all (rest_writes places b n (i + 1) tail) m' ≡ write_all (rest_writes places b n i xs) m
  pub passes : passes_end end (rest_writes places b n i xs) ≡ (nat_lt end (a + length piece) || passes_end end (rest_writes places b n (i + 1) tail))

pub steps_on : (places : List ℕ) (b n i mid : ℕ) (xs piece tail m : List ℕ) (a end : ℕ) → i < n → i < length places → a ≡ get_or places i 0 → mid ≡ min b (length xs) → piece ≡ take mid xs → tail ≡ drop mid xs → StepsOn places b n i xs piece tail m (overwrite a piece m) a end
steps_on places b n i mid xs piece tail m a end h k at middle front back =
    let p : piece ≡ take b xs = front ∙ ap (λ (k : ℕ). take k xs) middle ∙ take_min b xs in
    let t : tail ≡ drop b xs = back ∙ ap (λ (k : ℕ). drop k xs) middle ∙ drop_min b xs in
    let more = rest_writes-more places b n i xs h k in
    record {
      first = rw (p, t, at) more;
      written = rw (p, t, at) (sym (write_all-more _ _ _ _ m more));
      passes = rw (p, t, at) (passes_end-more end _ _ _ _ more);
    }

pub or_false : (x y : Bool) → (x || y) ≡ false → (x ≡ false) × (y ≡ false)
or_false true y e = cc
or_false false y e = (refl, e)

-- a write that does not pass the end, and those after it
pub record FitsOn (places : List ℕ) (b n i : ℕ) (piece tail : List ℕ) (a end : ℕ) : Type 0 where
  pub here : a + length piece ≤ end
  pub after : passes_end end (rest_writes places b n (i + 1) tail) ≡ false

pub fits_on : (places : List ℕ) (b n i : ℕ) (xs piece tail m m' : List ℕ) (a end : ℕ) → StepsOn places b n i xs piece tail m m' a end → passes_end end (rest_writes places b n i xs) ≡ false → FitsOn places b n i piece tail a end
fits_on places b n i xs piece tail m m' a end s e =
    let both = or_false _ _ (sym s.passes ∙ e) in record { here = ltb-false end (a + length piece) both.0; after = both.1 }

-- the write-backs from the piece at i on; the buffers stand at the words, and xs is what is left of the data
pub rest_backs : WriteBack → List ℕ → List ℕ → ℕ → ℕ → ℕ → List ℕ → List Write
rest_backs back places words b n i xs = back_writes back (drop i places) (rest_writes words b n i xs)

pub rest_backs-none : (back : WriteBack) (places words : List ℕ) (b n : ℕ) (xs : List ℕ) → rest_backs back places words b n 0 xs ≡ back_writes back places (zip_writes words (cut b n xs))
unfolding rest_backs
rest_backs-none back places words b n xs = ap (back_writes back places) (rest_writes-none words b n xs)

back_writes-nil : (back : WriteBack) (places : List ℕ) → back_writes back places [] ≡ []
unfolding back_writes
back_writes-nil back [] = refl
back_writes-nil back (a ∷ places) = refl

pub rest_backs-all : (back : WriteBack) (places words : List ℕ) (b n i : ℕ) (xs : List ℕ) → n ≤ i → rest_backs back places words b n i xs ≡ []
unfolding rest_backs
rest_backs-all back places words b n i xs h = ap (back_writes back (drop i places)) (rest_writes-all words b n i xs h) ∙ back_writes-nil back (drop i places)

-- no write is left behind the last piece
is_nil-rest : (words : List ℕ) (b n i : ℕ) (xs : List ℕ) → i < n → n ≤ length words → is_nil (rest_writes words b n (i + 1) xs) ≡ eqb (i + 1) n
is_nil-rest words b n i xs h enough =
    elim (cases_eq (i + 1) n) [
      | inl e ↦ ap is_nil (rest_writes-all words b n (i + 1) xs (omega arith)) ∙ sym (eq-eqb (i + 1) n e)
      | inr e ↦ ap is_nil (rest_writes-more words b n (i + 1) xs (omega arith) (omega arith)) ∙ sym (ne_eqb (i + 1) n e)
    ]

rest_backs-more : (back : WriteBack) (places words : List ℕ) (b n i : ℕ) (xs : List ℕ) → i < n → i < length places → n ≤ length words → rest_backs back places words b n i xs ≡ record { at = get_or places i 0; bytes = words_back back (eqb (i + 1) n) (record { at = get_or words i 0; bytes = take b xs }) } ∷ rest_backs back places words b n (i + 1) (drop b xs)
unfolding rest_backs back_writes
rest_backs-more back places words b n i xs h k enough =
    let first = rest_writes-more words b n i xs h (omega arith) in
    let last = is_nil-rest words b n i (drop b xs) h enough in
    ap (back_writes back (drop i places)) first ∙ ap (λ (d : List ℕ). back_writes back d (record { at = get_or words i 0; bytes = take b xs } ∷ rest_writes words b n (i + 1) (drop b xs))) (drop_more places i 0 k) ∙ rw last refl

-- the two words of a descriptor, each by itself
back_is : (back : WriteBack) (last : Bool) (a low high : ℕ) (piece : List ℕ) → low ≡ first_word back.format a → high ≡ status back last (length piece) → two_words low high ≡ words_back back last (record { at = a; bytes = piece })
unfolding words_back
back_is back last a low high piece first second = rw (first, second) refl

pub back_step : (back : WriteBack) (places words : List ℕ) (b n i mid : ℕ) (xs piece tail : List ℕ) (s low high : ℕ) → i < n → i < length places → n ≤ length words → s ≡ get_or places i 0 → low ≡ first_word back.format (get_or words i 0) → mid ≡ min b (length xs) → piece ≡ take mid xs → tail ≡ drop mid xs → high ≡ status back (eqb (i + 1) n) (length piece) → rest_backs back places words b n i xs ≡ record { at = s; bytes = two_words low high } ∷ rest_backs back places words b n (i + 1) tail
back_step back places words b n i mid xs piece tail s low high h k enough at first middle front rest second =
    let p : piece ≡ take b xs = front ∙ ap (λ (k : ℕ). take k xs) middle ∙ take_min b xs in
    let t : tail ≡ drop b xs = rest ∙ ap (λ (k : ℕ). drop k xs) middle ∙ drop_min b xs in
    rw (back_is back (eqb (i + 1) n) (get_or words i 0) low high piece first second, p, t, at) (rest_backs-more back places words b n i xs h k enough)

pub back_on : (back : WriteBack) (places words : List ℕ) (b n i mid : ℕ) (xs piece tail m : List ℕ) (s low high : ℕ) → i < n → i < length places → n ≤ length words → s ≡ get_or places i 0 → low ≡ first_word back.format (get_or words i 0) → mid ≡ min b (length xs) → piece ≡ take mid xs → tail ≡ drop mid xs → high ≡ status back (eqb (i + 1) n) (length piece) → write_all (rest_backs back places words b n (i + 1) tail) (overwrite s (two_words low high) m) ≡ write_all (rest_backs back places words b n i xs) m
back_on back places words b n i mid xs piece tail m s low high h k enough at first middle front rest second =
    sym (write_all-more _ _ _ _ m (back_step back places words b n i mid xs piece tail s low high h k enough at first middle front rest second))

-- where the descriptor at i stands
pub get_or-slots : (r : RingState) (i : ℕ) → i < length (owned r) → get_or (slots r) i 0 ≡ r.base + 16 * get_or (owned r) i 0
get_or-slots r i h = get_or-map (λ (place : ℕ). r.base + 16 * place) (owned r) i 0 0 h

pub length-slots : (r : RingState) → length (slots r) ≡ length (owned r)
length-slots r = length-map (owned r) (λ (place : ℕ). r.base + 16 * place)

-- only as many addresses as pieces count
pub zip_writes-take : (places : List ℕ) (b n : ℕ) (xs : List ℕ) → zip_writes (take n places) (cut b n xs) ≡ zip_writes places (cut b n xs)
unfolding zip_writes cut
zip_writes-take places b zero xs = sym (zip_writes-nil places)
zip_writes-take [] b (suc n) xs = refl
zip_writes-take (a ∷ places) b (suc n) xs = ap (λ (ws : List Write). record { at = a; bytes = take b xs } ∷ ws) (zip_writes-take places b n (drop b xs))

-- the words that stand at the places
unfoldable pub words_at : List ℕ → List ℕ → List ℕ
words_at places m = map (λ s. word_at s m) places

pub words_at-is : (places m : List ℕ) (b n : ℕ) (xs : List ℕ) → zip_writes (words_at places m) (cut b n xs) ≡ data_writes places (cut b n xs) m
unfolding words_at
words_at-is places m b n xs = refl

pub passes_words : (end n : ℕ) (places m : List ℕ) (b count : ℕ) (xs : List ℕ) → end ≡ n → passes_end n (zip_writes (words_at places m) (cut b count xs)) ≡ passes_end end (data_writes places (cut b count xs) m)
passes_words end n places m b count xs same = ap (passes_end n) (words_at-is places m b count xs) ∙ ap (λ (k : ℕ). passes_end k (data_writes places (cut b count xs) m)) (sym same)

pub length-words_at : (places m : List ℕ) → length (words_at places m) ≡ length places
unfolding words_at
length-words_at places m = length-map places (λ (s : ℕ). word_at s m)

pub get_or-words_at : (places m : List ℕ) (i : ℕ) → i < length places → get_or (words_at places m) i 0 ≡ word_at (get_or places i 0) m
unfolding words_at
get_or-words_at places m i h = get_or-map (λ (s : ℕ). word_at s m) places i 0 0 h

-- the words stay at places where the word does
pub same_words : (row m k : List ℕ) (i : ℕ) → ((j : ℕ) → j < i → j < length row → word_at (get_or row j 0) m ≡ word_at (get_or row j 0) k) → take i (words_at row m) ≡ take i (words_at row k)
unfolding words_at
same_words [] m k i same = refl
same_words (p ∷ row) m k zero same = refl
same_words (p ∷ row) m k (suc i) same =
    ap (λ (w : ℕ). w ∷ take i (words_at row m)) (same 0 (omega arith) (omega arith))
    ∙ ap (λ (ws : List ℕ). word_at p k ∷ ws) (same_words row m k i (λ j less there. same (suc j) (omega (arith, less)) (omega (arith, there))))

-- one more address read
pub filled_on : (kept words : List ℕ) (i a : ℕ) → i < length kept → i < length words → a ≡ get_or words i 0 → take i kept ≡ take i words → take (i + 1) (set kept i a) ≡ take (i + 1) words
filled_on kept words i a h k e before =
    take_more_set kept i a h ∙ rw (e, before) (sym (take_more words i 0 k))

-- a write that passes the end
pub passes_here : (places : List ℕ) (b n i : ℕ) (xs piece tail m m' : List ℕ) (a end : ℕ) → StepsOn places b n i xs piece tail m m' a end → end < a + length piece → passes_end end (rest_writes places b n i xs) ≡ true
passes_here places b n i xs piece tail m m' a end s h = s.passes ∙ rw (lt-ltb end (a + length piece) h) refl

-- a write that does not
pub passes_later : (places : List ℕ) (b n i : ℕ) (xs piece tail m m' : List ℕ) (a end : ℕ) → StepsOn places b n i xs piece tail m m' a end → a + length piece ≤ end → passes_end end (rest_writes places b n (i + 1) tail) ≡ passes_end end (rest_writes places b n i xs)
passes_later places b n i xs piece tail m m' a end s h = sym (s.passes ∙ rw (le-ltb end (a + length piece) h) refl)

pub length-cut : (b k : ℕ) (xs : List ℕ) → length (cut b k xs) ≡ k
unfolding cut
length-cut b zero xs = refl
length-cut b (suc k) xs = let e = length-cut b k (drop b xs) in omega (arith, e)

-- the number of pieces of b bytes, the last of which may be shorter
abbrev pub count_of : ℕ → List ℕ → ℕ
count_of b xs = (length xs + b - 1) / b

-- too few descriptors for the pieces, whose number has a name
pub deliver-no_room : (b n : ℕ) (back : WriteBack) (xs m : List ℕ) (r : RingState) → n ≡ count_of b xs → length (owned r) < n → deliver_pieces back (pieces b xs) m r ≡ record { placed = NoRoom; memory = m; ring = r }
unfolding deliver_pieces
deliver-no_room b n back xs m r count h =
    let test : nat_lt (length (owned r)) (length (pieces b xs)) ≡ true = rw length-cut (lt-ltb _ _ (omega (arith, count))) in
    rw test refl

-- n pieces, for which there are enough

pub deliver-faulted : (b n : ℕ) (back : WriteBack) (xs m : List ℕ) (r : RingState) → n ≤ length (owned r) → passes_end (length m) (data_writes (slots r) (cut b n xs) m) ≡ true → deliver_pieces back (cut b n xs) m r ≡ record { placed = Faulted; memory = m; ring = record r { enabled = false } }
unfolding deliver_pieces
deliver-faulted b n back xs m r h e =
    let test : nat_lt (length (owned r)) (length (cut b n xs)) ≡ false = rw length-cut (le-ltb _ _ h) in
    rw (test, e) refl

pub deliver-put : (b n : ℕ) (back : WriteBack) (xs m : List ℕ) (r : RingState) → n ≤ length (owned r) → passes_end (length m) (data_writes (slots r) (cut b n xs) m) ≡ false → deliver_pieces back (cut b n xs) m r ≡ record { placed = Put; memory = write_all (back_writes back (slots r) (data_writes (slots r) (cut b n xs) m)) (write_all (data_writes (slots r) (cut b n xs) m) m); ring = record r { head = head_after n r } }
unfolding deliver_pieces
deliver-put b n back xs m r h e =
    let test : nat_lt (length (owned r)) (length (cut b n xs)) ≡ false = rw length-cut (le-ltb _ _ h) in
    let count : length (cut b n xs) ≡ n = length-cut b n xs in
    rw (test, e, count) refl

-- a text that is no longer than a buffer is one piece

pub cut-one : (b : ℕ) (xs : List ℕ) → length xs ≤ b → cut b 1 xs ≡ xs ∷ []
unfolding cut
cut-one b xs h = ap (λ (p : List ℕ). p ∷ []) (take_all b xs h)

pub pieces-one : (b : ℕ) (xs : List ℕ) → 1 ≤ length xs → length xs ≤ b → pieces b xs ≡ xs ∷ []
pieces-one b xs some few =
    let sum : length xs + b - 1 ≡ 1 * b + (length xs - 1) = omega arith in
    let count : count_of b xs ≡ 1 = ap (λ (n : ℕ). n / b) sum ∙ div-mul-add 1 b (length xs - 1) (omega arith) in
    ap (λ (k : ℕ). cut b k xs) count ∙ cut-one b xs few

-- a frame that is placed with its tag and fits one buffer is one piece
pub deliver-whole : (config : RxConfig) (lb : Bool) (frame xs m : List ℕ) (sums : Checks) (r : RingState) → sums ≡ sums_of config.check_sums frame → r.enabled ≡ true → config.strip_tag ≡ false → 1 ≤ length frame → length xs ≤ config.buffer_size → xs ≡ frame → deliver config lb frame m r ≡ deliver_pieces (record { format = config.format; loopback = lb; tag = None; sums = sums }) (xs ∷ []) m r
unfolding deliver
deliver-whole config lb frame xs m sums r found on plain some fits same = rw (found, on, plain, sym same, pieces-one config.buffer_size xs (omega (arith, some, ap length same)) fits) refl

-- what one piece is written as, and its write-back
pub record One (back : WriteBack) (places xs m : List ℕ) (s a low high : ℕ) : Type 0 where
  pub writes : data_writes places (xs ∷ []) m ≡ record { at = a; bytes = xs } ∷ []
  pub backs : back_writes back places (data_writes places (xs ∷ []) m) ≡ record { at = s; bytes = two_words low high } ∷ []

pub one_piece : (back : WriteBack) (places xs m : List ℕ) (s a low high : ℕ) → 0 < length places → s ≡ get_or places 0 0 → a ≡ word_at s m → low ≡ first_word back.format a → high ≡ status back true (length xs) → One back places xs m s a low high
unfolding zip_writes back_writes words_at
one_piece back [] xs m s a low high h at word first second = absurd (omega (arith, h))
one_piece back (q ∷ places) xs m s a low high h at word first second =
    let there : word_at q m ≡ a = ap (λ (k : ℕ). word_at k m) (sym at) ∙ sym word in
    let writes : data_writes (q ∷ places) (xs ∷ []) m ≡ record { at = a; bytes = xs } ∷ [] =
    ap (λ (ws : List Write). record { at = word_at q m; bytes = xs } ∷ ws) (zip_writes-nil (words_at places m)) ∙ ap (λ (k : ℕ). record { at = k; bytes = xs } ∷ []) there in
    record {
      writes = writes;
      backs = ap (back_writes back (q ∷ places)) writes ∙ rw (back_writes-nil back places, back_is back true a low high xs first second, sym at) refl;
    }

-- the ends of one piece: no descriptor is owned, or it passes the memory's end, or it is written

pub one-no_room : (back : WriteBack) (xs m : List ℕ) (r : RingState) → length (owned r) ≡ 0 → deliver_pieces back (xs ∷ []) m r ≡ record { placed = NoRoom; memory = m; ring = r }
unfolding deliver_pieces
one-no_room back xs m r none =
    let test : nat_lt (length (owned r)) 1 ≡ true = lt-ltb _ _ (omega (arith, none)) in
    rw test refl

pub one-faulted : (back : WriteBack) (xs m : List ℕ) (r : RingState) (s a : ℕ) → 0 < length (owned r) → s ≡ get_or (slots r) 0 0 → a ≡ word_at s m → length m < a + length xs → deliver_pieces back (xs ∷ []) m r ≡ record { placed = Faulted; memory = m; ring = record r { enabled = false } }
unfolding deliver_pieces
one-faulted back xs m r s a h first at past =
    let one = one_piece back (slots r) xs m s a _ _ (omega (arith, length-slots r)) first at refl refl in
    let test : nat_lt (length (owned r)) 1 ≡ false = le-ltb _ _ h in
    let passes : passes_end (length m) (data_writes (slots r) (xs ∷ []) m) ≡ true = passes_end-more (length m) _ [] a xs one.writes ∙ rw (lt-ltb (length m) (a + length xs) past) refl in
    rw (test, passes) refl

pub one-put : (back : WriteBack) (xs m : List ℕ) (r : RingState) (s a low high : ℕ) → 0 < length (owned r) → s ≡ get_or (slots r) 0 0 → a ≡ word_at s m → a + length xs ≤ length m → low ≡ first_word back.format a → high ≡ status back true (length xs) → deliver_pieces back (xs ∷ []) m r ≡ record { placed = Put; memory = overwrite s (two_words low high) (overwrite a xs m); ring = record r { head = head_after 1 r } }
unfolding deliver_pieces write_all
one-put back xs m r s a low high h first at fits is_low is_high =
    let one = one_piece back (slots r) xs m s a low high (omega (arith, length-slots r)) first at is_low is_high in
    let test : nat_lt (length (owned r)) 1 ≡ false = le-ltb _ _ h in
    let passes : passes_end (length m) (data_writes (slots r) (xs ∷ []) m) ≡ false = passes_end-more (length m) _ [] a xs one.writes ∙ rw (le-ltb (length m) (a + length xs) fits) (passes_end-none (length m) [] refl) in
    rw (test, passes, one.backs, one.writes) refl
