-- Writes to rows of registers: what they leave as it was, and what they make.
use Rattle.std.proofs.Common.{arith, ◌≡◌, ◌≢◌, ℕ, zero, suc, ◌+◌, ◌-◌, ◌*◌, ◌/◌, ◌%◌, ◌<◌, ◌≤◌, Bool, true, false, cond, ◌&&◌, List, [], ◌∷◌, ◌++◌, length, set, get_or, refl, sym, ap, subst, ◌∙◌, eqb, eqb-true, leb, ltb, bit_and, ◌||◌, true≢false}
use Rattle.std.specs.Bool.{⊤}
use Rattle.std.specs.List.{list_all}
use Rattle.std.proofs.Math.Nat.{mul-div_cancel_left, mul-mod_right}
use Rattle.std.proofs.lemmas.Bool.{eqb-false, and_parts, ltb-true, ltb-false}
use Rattle.std.proofs.lemmas.Bool.Decides.{nat_tests}
use Rattle.std.proofs.lemmas.List.{ext_get_or, length-set, get_or-set_same, get_or-set_other, get_or_past}
use Rattle.std.proofs.lemmas.List.FromFn.{length-map-range_with_len}
use Rattle.wire_frame.specs.declared.row.Row.{Row}
use Rattle.wire_frame.specs.Row.{is_in, place, words_after}
use Rattle.wire_frame.specs.Apart.{apart}
use Rattle.wire_frame.proofs.RowLemmas.{in_one_row}
use Rattle.pool_filter.specs.Map.{one_row}
use Rattle.mailbox.specs.declared.writes.Write.{Write}
use Rattle.mailbox.specs.Words.{table}
use Rattle.mailbox.specs.Writes.{write_at, writes_where}
use Rattle.mailbox.proofs.Entries.{table_at}

-- ---- tables

pub table_same : (n : ℕ) (u t : ℕ → ℕ) → ((j : ℕ) → j < n → u j ≡ t j) → table n u ≡ table n t
table_same n u t same =
    ext_get_or 0 (table n u) (table n t) (length-map-range_with_len u 0 n ∙ sym (length-map-range_with_len t 0 n))
    (λ j below. let small : j < n = omega (arith, below, length-map-range_with_len u 0 n) in table_at u n j small ∙ same j small ∙ sym (table_at t n j small))

-- a list of n words is a table
pub table_of : (n : ℕ) (words : List ℕ) → length words ≡ n → words ≡ table n (λ j. get_or words j 0)
table_of n words long =
    ext_get_or 0 words (table n (λ j. get_or words j 0)) (long ∙ sym (length-map-range_with_len (λ j. get_or words j 0) 0 n))
    (λ j below. sym (table_at (λ i. get_or words i 0) n j (omega (arith, below, long))))

-- a table with another word at one place
pub table_set : (n i x : ℕ) (u t : ℕ → ℕ) → i < n → x ≡ t i → ((j : ℕ) → j < n → j ≢ i → u j ≡ t j) → set (table n u) i x ≡ table n t
table_set n i x u t small here others =
    ext_get_or 0 (set (table n u) i x) (table n t) (length-set (table n u) i x ∙ long u ∙ sym (long t))
    (λ j below. go j (omega (arith, below, length-set (table n u) i x, long u)) (eqb j i) refl)
  where
    long : (f : ℕ → ℕ) → length (table n f) ≡ n
    long f = length-map-range_with_len f 0 n

    go : (j : ℕ) → j < n → (b : Bool) → eqb j i ≡ b → get_or (set (table n u) i x) j 0 ≡ get_or (table n t) j 0
    go j below true is =
        let same : j ≡ i = eqb-true j i is in
        ap (λ k. get_or (set (table n u) i x) k 0) same ∙ get_or-set_same (table n u) i x 0 (omega (arith, small, long u)) ∙ here ∙ ap t (sym same) ∙ sym (table_at t n j below)
    go j below false is =
        let other : j ≢ i = eqb-false j i is in
        get_or-set_other (table n u) i j x 0 other ∙ table_at u n j below ∙ others j below other ∙ sym (table_at t n j below)

-- ---- places of a row

at_place : (row : Row) (i : ℕ) → row.first + row.stride * i - row.first ≡ row.stride * i
at_place row i = omega arith

pub place_at : (row : Row) (i : ℕ) → 0 < row.stride → place row (row.first + row.stride * i) ≡ i
place_at row i strides = ap (λ n. n / row.stride) (at_place row i) ∙ mul-div_cancel_left i strides

pub is_in_at : (row : Row) (i : ℕ) → 0 < row.stride → i < row.count → is_in row (row.first + row.stride * i) ≡ true
is_in_at row i strides below =
    let whole : (row.first + row.stride * i - row.first) % row.stride ≡ 0 = ap (λ n. n % row.stride) (at_place row i) ∙ mul-mod_right row.stride i in
    let past : leb row.first (row.first + row.stride * i) ≡ true = grind (arith, nat_tests) in
    let inside : ltb (place row (row.first + row.stride * i)) row.count ≡ true = ap (λ n. ltb n row.count) (place_at row i strides) ∙ grind (arith, nat_tests, below) in
    λ k. past k && (eqb (whole k) 0 && inside k)

-- a place of another row is none of this one's
pub not_in : (row other : Row) (i : ℕ) → apart row other ≡ true → 0 < other.stride → i < other.count → is_in row (other.first + other.stride * i) ≡ false
not_in row other i far strides below = go (is_in row (other.first + other.stride * i)) refl
  where
    go : (b : Bool) → is_in row (other.first + other.stride * i) ≡ b → is_in row (other.first + other.stride * i) ≡ false
    go true is = absurd (in_one_row row other (other.first + other.stride * i) far is (is_in_at other i strides below))
    go false is = is

pub word_misses : (row : Row) (words : List ℕ) (offset x : ℕ) → is_in row offset ≡ false → words_after row words offset x ≡ words
unfolding words_after
word_misses row words offset x out = rw out refl

-- ---- what holds of each write

abbrev pub Each : (Write → Type 0) → List Write → Type 0
Each P [] = ⊤
Each P (w ∷ ws) = P w × Each P ws

pub each_append : (P : Write → Type 0) (xs ys : List Write) → Each P xs → Each P ys → Each P (xs ++ ys)
each_append P [] ys a b = b
each_append P (x ∷ xs) ys a b = (a.0, each_append P xs ys a.1 b)

pub each_front : (P : Write → Type 0) (xs ys : List Write) → Each P (xs ++ ys) → Each P xs
each_front P [] ys a = tt
each_front P (x ∷ xs) ys a = (a.0, each_front P xs ys a.1)

pub each_where : (P : Write → Type 0) (t : ℕ → Bool) (row : Row) (word : ℕ → ℕ) (i n : ℕ) → ((j : ℕ) → i ≤ j → j < i + n → P (write_at row j (word j))) → Each P (writes_where t row word i n)
each_where P t row word i zero all = tt
each_where P t row word i (suc n) all = go (t i) (each_where P t row word (suc i) n (λ j past below. all j (omega (arith, past)) (omega (arith, below))))
  where
    go : (b : Bool) → Each P (writes_where t row word (suc i) n) → Each P (cond b (write_at row i (word i) ∷ writes_where t row word (suc i) n) (writes_where t row word (suc i) n))
    go true rest = (all i (omega arith) (omega arith), rest)
    go false rest = rest

-- ---- writes in parts, each to words of one row

pub record Part : Type 0 where
  pub test : ℕ → Bool
  pub row : Row
  pub word : ℕ → ℕ
  pub from : ℕ
  pub count : ℕ

abbrev pub part_writes : Part → List Write
part_writes g = writes_where g.test g.row g.word g.from g.count

abbrev pub writes_in : List Part → List Write
writes_in [] = []
writes_in (g ∷ gs) = part_writes g ++ writes_in gs

-- the part's places are places of its row
abbrev pub Fits : Part → Type 0
Fits g = (0 < g.row.stride) × (g.from + g.count ≤ g.row.count)

abbrev pub AllFit : List Part → Type 0
AllFit [] = ⊤
AllFit (g ∷ gs) = Fits g × AllFit gs

abbrev pub all_far : Row → List Part → Bool
all_far row gs = list_all (λ g. apart row g.row) gs

-- one or the other
abbrev pub Chosen : Bool → Type 0 → Type 0 → Type 0
Chosen true A B = A
Chosen false A B = B

-- each part is one of the row, of which it holds, or is apart from it
abbrev pub Among : Row → (Part → Type 0) → List Part → Type 0
Among row P [] = ⊤
Among row P (g ∷ gs) = Chosen (eqb g.row.first row.first) ((g.row ≡ row) × P g) (apart row g.row ≡ true) × Among row P gs

-- ---- the words of a row after writes

abbrev pub row_after : Row → List ℕ → List Write → List ℕ
row_after row words [] = words
row_after row words (w ∷ ws) = row_after row (words_after row words w.offset w.value) ws

pub row_after-append : (row : Row) (words : List ℕ) (xs ys : List Write) → row_after row words (xs ++ ys) ≡ row_after row (row_after row words xs) ys
row_after-append row words [] ys = refl
row_after-append row words (x ∷ xs) ys = row_after-append row (words_after row words x.offset x.value) xs ys

-- a register of one word
abbrev pub word_after : ℕ → (ℕ → ℕ) → ℕ → List Write → ℕ
word_after first keep word [] = word
word_after first keep word (w ∷ ws) = word_after first keep (cond (eqb w.offset first) (keep w.value) word) ws

pub word_after-append : (first : ℕ) (keep : ℕ → ℕ) (word : ℕ) (xs ys : List Write) → word_after first keep word (xs ++ ys) ≡ word_after first keep (word_after first keep word xs) ys
word_after-append first keep word [] ys = refl
word_after-append first keep word (x ∷ xs) ys = word_after-append first keep (cond (eqb x.offset first) (keep x.value) word) xs ys

-- ---- writes to other rows leave it

abbrev pub Spares : Row → Write → Type 0
Spares row w = is_in row w.offset ≡ false

pub each_part : (row : Row) (g : Part) → apart row g.row ≡ true → Fits g → Each (Spares row) (part_writes g)
each_part row g far fit = each_where (Spares row) g.test g.row g.word g.from g.count (λ j past below. not_in row g.row j far fit.0 (omega (arith, below, fit.1)))

pub each_far : (row : Row) (gs : List Part) → all_far row gs ≡ true → AllFit gs → Each (Spares row) (writes_in gs)
each_far row [] far fit = tt
each_far row (g ∷ gs) far fit =
    let parts : (apart row g.row ≡ true) × (all_far row gs ≡ true) = and_parts (apart row g.row) (all_far row gs) far in
    each_append (Spares row) (part_writes g) (writes_in gs) (each_part row g parts.0 fit.0) (each_far row gs parts.1 fit.1)

pub row_spared : (row : Row) (words : List ℕ) (ws : List Write) → Each (Spares row) ws → row_after row words ws ≡ words
row_spared row words [] each = refl
row_spared row words (w ∷ ws) each = ap (λ v. row_after row v ws) (word_misses row words w.offset w.value each.0) ∙ row_spared row words ws each.1

first_in : (first : ℕ) → is_in (one_row first) first ≡ true
first_in first = let at : first + 4 * 0 ≡ first = omega arith in ap (is_in (one_row first)) (sym at) ∙ is_in_at (one_row first) 0 (omega arith) (omega arith)

pub word_spared : (first : ℕ) (keep : ℕ → ℕ) (word : ℕ) (ws : List Write) → Each (Spares (one_row first)) ws → word_after first keep word ws ≡ word
word_spared first keep word [] each = refl
word_spared first keep word (w ∷ ws) each = ap (λ v. word_after first keep v ws) (go (eqb w.offset first) refl) ∙ word_spared first keep word ws each.1
  where
    go : (b : Bool) → eqb w.offset first ≡ b → cond b (keep w.value) word ≡ word
    go true is = absurd (true≢false (sym (first_in first) ∙ ap (is_in (one_row first)) (sym (eqb-true w.offset first is)) ∙ each.0))
    go false is = refl

-- ---- writes to its own words make them

-- the place is one of n from i on
abbrev pub within : ℕ → ℕ → ℕ → Bool
within i n j = leb i j && ltb j (i + n)

-- a write to one place, or none
one_write : (row : Row) (u word : ℕ → ℕ) (t : ℕ → Bool) (i : ℕ) (ws : List Write) → 0 < row.stride → i < row.count → ((j : ℕ) → bit_and (word j) row.mask ≡ word j)
    → row_after row (table row.count u) (cond (t i) (write_at row i (word i) ∷ ws) ws) ≡ row_after row (table row.count (λ j. cond (eqb j i && t j) (word j) (u j))) ws
unfolding words_after
one_write row u word t i ws strides below kept = go (t i) refl
  where
    v : ℕ → ℕ
    v j = cond (eqb j i && t j) (word j) (u j)

    here : t i ≡ true → word i ≡ v i
    here is = let same : eqb i i ≡ true = grind (arith, nat_tests) in sym (λ k. cond (same k && is k) (word i) (u i))

    beside : (j : ℕ) → j ≢ i → u j ≡ v j
    beside j other = let differs : eqb j i ≡ false = grind (arith, nat_tests, other) in sym (ap (λ b. cond (b && t j) (word j) (u j)) differs)

    none : t i ≡ false → (j : ℕ) (b : Bool) → eqb j i ≡ b → u j ≡ v j
    none is j true same = let at : t j ≡ false = ap t (eqb-true j i same) ∙ is in sym (λ k. cond (same k && at k) (word j) (u j))
    none is j false other = sym (ap (λ b. cond (b && t j) (word j) (u j)) other)

    go : (b : Bool) → t i ≡ b → row_after row (table row.count u) (cond b (write_at row i (word i) ∷ ws) ws) ≡ row_after row (table row.count v) ws
    go true is =
        ap (λ w. row_after row w ws)
        ((λ k. cond (is_in_at row i strides below k) (set (table row.count u) (place_at row i strides k) (kept i k)) (table row.count u))
        ∙ table_set row.count i (word i) u v below (here is) (λ j small other. beside j other))
    go false is = ap (λ w. row_after row w ws) (table_same row.count u v (λ j small. none is j (eqb j i) refl))

pub part_makes : (row : Row) (u word : ℕ → ℕ) (t : ℕ → Bool) (i n : ℕ) → 0 < row.stride → i + n ≤ row.count → ((j : ℕ) → bit_and (word j) row.mask ≡ word j)
    → row_after row (table row.count u) (writes_where t row word i n) ≡ table row.count (λ j. cond (within i n j && t j) (word j) (u j))
part_makes row u word t i zero strides fits kept = table_same row.count u (λ j. cond (within i 0 j && t j) (word j) (u j)) (λ j below. sym (ap (λ b. cond (b && t j) (word j) (u j)) (nowhere j)))
  where
    nowhere : (j : ℕ) → within i 0 j ≡ false
    nowhere j = grind (arith, nat_tests)
part_makes row u word t i (suc n) strides fits kept =
    one_write row u word t i (writes_where t row word (suc i) n) strides (omega (arith, fits)) kept
    ∙ part_makes row (λ j. cond (eqb j i && t j) (word j) (u j)) word t (suc i) n strides (omega (arith, fits)) kept
    ∙ table_same row.count _ (λ j. cond (within i (suc n) j && t j) (word j) (u j)) (λ j below. joined j)
  where
    both : (a b c : Bool) (x y : ℕ) → cond (a && c) x (cond (b && c) x y) ≡ cond ((a || b) && c) x y
    both true b true x y = refl
    both true true false x y = refl
    both true false false x y = refl
    both false true true x y = refl
    both false true false x y = refl
    both false false c x y = refl

    split : (j : ℕ) → (within (suc i) n j || eqb j i) ≡ within i (suc n) j
    split j = grind (arith, nat_tests)

    joined : (j : ℕ) → cond (within (suc i) n j && t j) (word j) (cond (eqb j i && t j) (word j) (u j)) ≡ cond (within i (suc n) j && t j) (word j) (u j)
    joined j = both (within (suc i) n j) (eqb j i) (t j) (word j) (u j) ∙ ap (λ b. cond (b && t j) (word j) (u j)) (split j)

-- ---- what parts make of a row

-- the part writes to the place
abbrev pub covers : Part → ℕ → Bool
covers g j = within g.from g.count j && g.test j

abbrev pub Keeps : Row → Part → Type 0
Keeps row g = (j : ℕ) → bit_and (g.word j) row.mask ≡ g.word j

-- the word at a place of the row, which was x
abbrev pub made_at : Row → List Part → ℕ → ℕ → ℕ
made_at row [] j x = x
made_at row (g ∷ gs) j x = made_at row gs j (cond (eqb g.row.first row.first && covers g j) (g.word j) x)

part_step : (row : Row) (u : ℕ → ℕ) (g : Part) (b : Bool) → Chosen b ((g.row ≡ row) × Keeps row g) (apart row g.row ≡ true) → Fits g → row_after row (table row.count u) (part_writes g) ≡ table row.count (λ j. cond (b && covers g j) (g.word j) (u j))
part_step row u g true of fit =
    (λ i. row_after row (table row.count u) (writes_where g.test (of.0 i) g.word g.from g.count))
    ∙ part_makes row u g.word g.test g.from g.count (subst (λ (r : Row). 0 < r.stride) of.0 fit.0) (subst (λ (r : Row). g.from + g.count ≤ r.count) of.0 fit.1) of.1
part_step row u g false far fit = row_spared row (table row.count u) (part_writes g) (each_part row g far fit)

pub parts_make : (row : Row) (u : ℕ → ℕ) (gs : List Part) → Among row (Keeps row) gs → AllFit gs → row_after row (table row.count u) (writes_in gs) ≡ table row.count (λ j. made_at row gs j (u j))
parts_make row u [] among fit = refl
parts_make row u (g ∷ gs) among fit =
    row_after-append row (table row.count u) (part_writes g) (writes_in gs)
    ∙ ap (λ v. row_after row v (writes_in gs)) (part_step row u g (eqb g.row.first row.first) among.0 fit.0)
    ∙ parts_make row (λ j. cond (eqb g.row.first row.first && covers g j) (g.word j) (u j)) gs among.1 fit.1

-- ---- what holds of each word of a row

-- the write, where it is to the row, gives a word of which it holds
abbrev pub Gives : Row → (ℕ → ℕ → Type 0) → Write → Type 0
Gives row P w = is_in row w.offset ≡ true → P (place row w.offset) (bit_and w.value row.mask)

abbrev pub Giving : Row → (ℕ → ℕ → Type 0) → Part → Type 0
Giving row P g = (j : ℕ) → g.from ≤ j → j < g.from + g.count → P j (bit_and (g.word j) row.mask)

part_gives : (row : Row) (P : ℕ → ℕ → Type 0) (g : Part) (b : Bool) → Chosen b ((g.row ≡ row) × Giving row P g) (apart row g.row ≡ true) → Fits g → Each (Gives row P) (part_writes g)
part_gives row P g true of fit =
    subst (λ (r : Row). Each (Gives row P) (writes_where g.test r g.word g.from g.count)) (sym of.0)
    (each_where (Gives row P) g.test row g.word g.from g.count
    (λ j past below is. subst (λ (m : ℕ). P m (bit_and (g.word j) row.mask)) (sym (place_at row j (subst (λ (r : Row). 0 < r.stride) of.0 fit.0))) (of.1 j past below)))
part_gives row P g false far fit =
    each_where (Gives row P) g.test g.row g.word g.from g.count
    (λ j past below is. absurd (true≢false (sym is ∙ not_in row g.row j far fit.0 (omega (arith, below, fit.1)))))

pub parts_give : (row : Row) (P : ℕ → ℕ → Type 0) (gs : List Part) → Among row (Giving row P) gs → AllFit gs → Each (Gives row P) (writes_in gs)
parts_give row P [] among fit = tt
parts_give row P (g ∷ gs) among fit = each_append (Gives row P) (part_writes g) (writes_in gs) (part_gives row P g (eqb g.row.first row.first) among.0 fit.0) (parts_give row P gs among.1 fit.1)

pub word_holds : (row : Row) (P : ℕ → ℕ → Type 0) (words : List ℕ) (w : Write) → ((j : ℕ) → P j (get_or words j 0)) → Gives row P w → (j : ℕ) → P j (get_or (words_after row words w.offset w.value) j 0)
unfolding words_after
word_holds row P words w old gives j = go (is_in row w.offset) refl
  where
    at : ℕ
    at = place row w.offset

    x : ℕ
    x = bit_and w.value row.mask

    here : is_in row w.offset ≡ true → (b : Bool) → ltb at (length words) ≡ b → P at (get_or (set words at x) at 0)
    here is true fits = subst (P at) (sym (get_or-set_same words at x 0 (ltb-true at (length words) fits))) (gives is)
    here is false out =
        let past = ltb-false at (length words) out in
        subst (P at) (get_or_past words at 0 past ∙ sym (get_or_past (set words at x) at 0 (omega (arith, past, length-set words at x)))) (old at)

    stored : is_in row w.offset ≡ true → (b : Bool) → eqb j at ≡ b → P j (get_or (set words at x) j 0)
    stored is true same = subst (λ (m : ℕ). P m (get_or (set words at x) m 0)) (sym (eqb-true j at same)) (here is (ltb at (length words)) refl)
    stored is false other = subst (P j) (sym (get_or-set_other words at j x 0 (eqb-false j at other))) (old j)

    go : (b : Bool) → is_in row w.offset ≡ b → P j (get_or (cond b (set words at x) words) j 0)
    go true is = stored is (eqb j at) refl
    go false is = old j

pub row_holds : (row : Row) (P : ℕ → ℕ → Type 0) (words : List ℕ) (ws : List Write) → ((j : ℕ) → P j (get_or words j 0)) → Each (Gives row P) ws → (j : ℕ) → P j (get_or (row_after row words ws) j 0)
row_holds row P words [] old each = old
row_holds row P words (w ∷ ws) old each = row_holds row P (words_after row words w.offset w.value) ws (word_holds row P words w old each.0) each.1
