-- The accesses of a placing are the definition's list.
use Rattle.std.proofs.Common.{◌≡◌, ℕ, suc, ◌+◌, ◌<◌, ◌≤◌, List, [], ◌∷◌, ◌++◌, length, take, get_or, None, Bool, true, false, nat_lt, refl, sym, ◌∙◌, ap, arith, append_assoc, append-nil}
use Rattle.std.proofs.lemmas.Bool.{ltb-false, lt-ltb, le-ltb}
use Rattle.guest_memory.specs.Memory.{Write, word_at, word_bytes, two_words}
use Rattle.live_memory.specs.Trace.{Access, Read, Wrote, wrotes, reads, NotRead, ReadOnce}
use Rattle.live_memory.proofs.Accesses.{reads_append, reads_wrotes}
use Rattle.live_memory.proofs.Once.{not_read_none, once_append, later_none}
use Rattle.rings.specs.Ring.{RingState, owned}
use Rattle.receive_checksum.specs.declared.check.Checks.{Checks}
use Rattle.rx_desc.specs.declared.placing.RxConfig.{RxConfig}
use Rattle.rx_desc.specs.declared.write_back.WriteBack.{WriteBack}
use Rattle.rx_desc.specs.Receive.{sums_of, slots, first_word, status, cut, zip_writes, data_writes, back_writes, words_back, passes_end}
use Rattle.rx_desc.specs.Accesses.{descriptors_read, words_read, pieces_accesses, deliver_accesses}
use Rattle.rx_desc.proofs.Pieces.{one_piece, or_false, length-cut, length-slots, StepsOn, rest_writes, words_at, words_at-is, pieces-one}

pub length-two_words : (low high : ℕ) → length (two_words low high) ≡ 16
unfolding two_words
length-two_words low high = refl

pub length-word_bytes : (word : ℕ) → length (word_bytes word) ≡ 8
unfolding word_bytes
length-word_bytes word = refl

-- ---- writes

-- a step of a loop that writes: what was done and what is left stay the same
pub wrotes_on : (done now : List Access) (ws rest : List Write) (a : ℕ) (p : List ℕ) → ws ≡ record { at = a; bytes = p } ∷ rest → now ≡ done ++ Wrote a p ∷ [] → now ++ wrotes rest ≡ done ++ wrotes ws
unfolding wrotes
wrotes_on done now ws rest a p is one =
    ap (λ (t : List Access). t ++ wrotes rest) one ∙ append_assoc done (Wrote a p ∷ []) (wrotes rest) ∙ ap (λ (vs : List Write). done ++ wrotes vs) (sym is)

-- and nothing is left
pub wrotes_all : (done : List Access) (ws : List Write) → ws ≡ [] → done ≡ done ++ wrotes ws
unfolding wrotes
wrotes_all done ws none = sym (append-nil done) ∙ ap (λ (vs : List Write). done ++ wrotes vs) (sym none)

-- writes inside a memory
pub wrotes_once : (n : ℕ) (ws : List Write) → passes_end n ws ≡ false → ReadOnce n (wrotes ws)
unfolding ReadOnce NotRead wrotes passes_end
wrotes_once n [] fits = tt
wrotes_once n (w ∷ ws) fits =
    let both = or_false (nat_lt n (w.at + length w.bytes)) (passes_end n ws) fits in
    (ltb-false n (w.at + length w.bytes) both.0, (not_read_none w.at (length w.bytes) (wrotes ws) (reads_wrotes ws), wrotes_once n ws both.1))

-- write-backs inside a memory
pub backs_fit : (n : ℕ) (back : WriteBack) (places : List ℕ) (ws : List Write) → ((j : ℕ) → j < length places → get_or places j 0 + 16 ≤ n) → passes_end n (back_writes back places ws) ≡ false
unfolding passes_end back_writes words_back
backs_fit n back [] ws inside = refl
backs_fit n back (s ∷ places) [] inside = refl
backs_fit n back (s ∷ places) (w ∷ ws) inside =
    let first : s + 16 ≤ n = inside 0 (omega arith) in
    let all = backs_fit n back places ws (λ j less. inside (suc j) (omega (arith, less))) in
    rw (length-two_words, le-ltb n (s + 16) first, all) refl

-- two rows of writes, one after the other
pub record WritesOnce (n : ℕ) (ws vs : List Write) : Type 0 where
  pub unread : reads (wrotes ws ++ wrotes vs) ≡ []
  pub once : ReadOnce n (wrotes ws ++ wrotes vs)

pub writes_once : (n : ℕ) (ws vs : List Write) → passes_end n ws ≡ false → passes_end n vs ≡ false → WritesOnce n ws vs
writes_once n ws vs first second = record {
  unread = reads_append (wrotes ws) (wrotes vs) ∙ rw (reads_wrotes ws, reads_wrotes vs) refl;
  once = once_append n (wrotes ws) (wrotes vs) (wrotes_once n ws first) (wrotes_once n vs second) (later_none (wrotes ws) (wrotes vs) (reads_wrotes vs));
}

-- ---- how many descriptors are read

pub read_here : (places : List ℕ) (b n i : ℕ) (xs piece tail m m' : List ℕ) (a end : ℕ) → StepsOn places b n i xs piece tail m m' a end → end < a + length piece → descriptors_read end (rest_writes places b n i xs) ≡ 1
unfolding descriptors_read
read_here places b n i xs piece tail m m' a end s past = ap (descriptors_read end) s.first ∙ rw (lt-ltb end (a + length piece) past) refl

pub read_later : (places : List ℕ) (b n i : ℕ) (xs piece tail m m' : List ℕ) (a end : ℕ) → StepsOn places b n i xs piece tail m m' a end → a + length piece ≤ end → descriptors_read end (rest_writes places b n i xs) ≡ suc (descriptors_read end (rest_writes places b n (i + 1) tail))
unfolding descriptors_read
read_later places b n i xs piece tail m m' a end s fits = ap (descriptors_read end) s.first ∙ rw (le-ltb end (a + length piece) fits) refl

pub read_none : (end : ℕ) (ws : List Write) → ws ≡ [] → descriptors_read end ws ≡ 0
unfolding descriptors_read
read_none end ws none = rw none refl

pub counts_words : (end n : ℕ) (places m : List ℕ) (b count : ℕ) (xs : List ℕ) → end ≡ n → descriptors_read n (zip_writes (words_at places m) (cut b count xs)) ≡ descriptors_read end (data_writes places (cut b count xs) m)
counts_words end n places m b count xs same = ap (descriptors_read n) (words_at-is places m b count xs) ∙ ap (λ (k : ℕ). descriptors_read k (data_writes places (cut b count xs) m)) (sym same)

-- ---- the ends of a placing

pub few_accesses : (back : WriteBack) (ps : List (List ℕ)) (m : List ℕ) (r : RingState) (before : List Access) → length (owned r) < length ps → before ≡ before ++ pieces_accesses back ps m r
unfolding pieces_accesses
few_accesses back ps m r before few = rw (lt-ltb (length (owned r)) (length ps) few) (sym (append-nil before))

pub past_accesses : (b n : ℕ) (back : WriteBack) (xs m : List ℕ) (r : RingState) → n ≤ length (owned r) → passes_end (length m) (data_writes (slots r) (cut b n xs) m) ≡ true → words_read (take (descriptors_read (length m) (data_writes (slots r) (cut b n xs) m)) (slots r)) m ≡ pieces_accesses back (cut b n xs) m r
unfolding pieces_accesses
past_accesses b n back xs m r room past =
    let test : nat_lt (length (owned r)) (length (cut b n xs)) ≡ false = rw length-cut (le-ltb _ _ room) in
    rw (test, past) (sym (append-nil (words_read (take (descriptors_read (length m) (data_writes (slots r) (cut b n xs) m)) (slots r)) m)))

pub put_accesses : (b n : ℕ) (back : WriteBack) (xs m : List ℕ) (r : RingState) → n ≤ length (owned r) → passes_end (length m) (data_writes (slots r) (cut b n xs) m) ≡ false → words_read (take (descriptors_read (length m) (data_writes (slots r) (cut b n xs) m)) (slots r)) m ++ (wrotes (data_writes (slots r) (cut b n xs) m) ++ wrotes (back_writes back (slots r) (data_writes (slots r) (cut b n xs) m))) ≡ pieces_accesses back (cut b n xs) m r
unfolding pieces_accesses
put_accesses b n back xs m r room fits =
    let test : nat_lt (length (owned r)) (length (cut b n xs)) ≡ false = rw length-cut (le-ltb _ _ room) in
    rw (test, fits) refl

-- a frame that is placed with its tag and fits one buffer is one piece
pub whole_accesses : (config : RxConfig) (lb : Bool) (frame xs m : List ℕ) (sums : Checks) (r : RingState) → sums ≡ sums_of config.check_sums frame → r.enabled ≡ true → config.strip_tag ≡ false → 1 ≤ length frame → length xs ≤ config.buffer_size → xs ≡ frame → deliver_accesses config lb frame m r ≡ pieces_accesses (record { format = config.format; loopback = lb; tag = None; sums = sums }) (xs ∷ []) m r
unfolding deliver_accesses
whole_accesses config lb frame xs m sums r found on plain some fits same = rw (found, on, plain, sym same, pieces-one config.buffer_size xs (omega (arith, some, ap length same)) fits) refl

-- ---- one piece

first_read : (places m : List ℕ) (s a : ℕ) → 0 < length places → s ≡ get_or places 0 0 → a ≡ word_at s m → words_read (take 1 places) m ≡ Read s (word_bytes a) ∷ []
unfolding words_read
first_read [] m s a some first at = absurd (omega (arith, some))
first_read (q ∷ places) m s a some first at = rw (sym first, sym at) refl

one_read_past : (n a : ℕ) (xs : List ℕ) → descriptors_read n (record { at = a; bytes = xs } ∷ []) ≡ 1
unfolding descriptors_read
one_read_past n a xs = at (nat_lt n (a + length xs)) refl
  where
    at : (b : Bool) → nat_lt n (a + length xs) ≡ b → descriptors_read n (record { at = a; bytes = xs } ∷ []) ≡ 1
    at true is = rw is refl
    at false is = rw is refl

pub one_past_accesses : (back : WriteBack) (xs m : List ℕ) (r : RingState) (s a : ℕ) → 0 < length (owned r) → s ≡ get_or (slots r) 0 0 → a ≡ word_at s m → length m < a + length xs → Read s (word_bytes a) ∷ [] ≡ pieces_accesses back (xs ∷ []) m r
unfolding pieces_accesses passes_end
one_past_accesses back xs m r s a owns first at past =
    let there : 0 < length (slots r) = omega (arith, owns, length-slots r) in
    let one = one_piece back (slots r) xs m s a _ _ there first at refl refl in
    let test : nat_lt (length (owned r)) 1 ≡ false = le-ltb _ _ owns in
    rw (test, one.writes, one_read_past, first_read (slots r) m s a there first at, lt-ltb (length m) (a + length xs) past) refl

pub one_put_accesses : (back : WriteBack) (xs m : List ℕ) (r : RingState) (s a low high : ℕ) → 0 < length (owned r) → s ≡ get_or (slots r) 0 0 → a ≡ word_at s m → a + length xs ≤ length m → low ≡ first_word back.format a → high ≡ status back true (length xs) → Read s (word_bytes a) ∷ Wrote a xs ∷ Wrote s (two_words low high) ∷ [] ≡ pieces_accesses back (xs ∷ []) m r
unfolding pieces_accesses passes_end wrotes
one_put_accesses back xs m r s a low high owns first at fits is_low is_high =
    let there : 0 < length (slots r) = omega (arith, owns, length-slots r) in
    let one = one_piece back (slots r) xs m s a low high there first at is_low is_high in
    let test : nat_lt (length (owned r)) 1 ≡ false = le-ltb _ _ owns in
    rw (test, one.backs, one.writes, one_read_past, first_read (slots r) m s a there first at, le-ltb (length m) (a + length xs) fits) refl
