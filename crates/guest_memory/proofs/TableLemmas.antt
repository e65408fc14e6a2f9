-- A table in leaves: what its entries are, and what is left of them where one changes.
use Rattle.std.proofs.Common.{◌≡◌, ℕ, ◌+◌, ◌*◌, ◌/◌, ◌%◌, ◌<◌, ◌≤◌, ◌≢◌, List, ◌++◌, length, get_or, replicate, set, slice_index_or, sum_by, length-append, arith, refl, ap, sym, ◌∙◌}
use Rattle.std.proofs.lemmas.List.{places, same_lists, length-set, length-replicate}
use Rattle.std.proofs.lemmas.List.Sums.{sum_by-set}
use Rattle.std.proofs.lemmas.List.Folds.{sum_by-replicate}
use Rattle.std.proofs.lemmas.List.FromFn.{get_or-map-range_with_len, length-map-range_with_len}
use Rattle.std.proofs.lemmas.Grind.{get_or-set_at}
use Rattle.std.proofs.lemmas.Bool.Decides.{nat_tests}
use Rattle.guest_memory.specs.Table.{leaf_in, entry_in, entries, absent, LeavesApart, IsLeafed}

pub length_entries : (pages : ℕ) (top leaves : List ℕ) → length (entries pages top leaves) ≡ pages
unfolding entries
length_entries pages top leaves = length-map-range_with_len (entry_in top leaves) 0 pages

pub get_entries : (pages : ℕ) (top leaves : List ℕ) (page d : ℕ) → page < pages → get_or (entries pages top leaves) page d ≡ get_or leaves (leaf_in top (page / 128) * 128 + page % 128) 65535
unfolding entries entry_in
get_entries pages top leaves page d below = get_or-map-range_with_len (entry_in top leaves) 0 pages page page d below (omega arith)

-- a table of which no leaf is there
pub entries_none : (pages : ℕ) (top leaves : List ℕ) → length leaves ≡ 0 → entries pages top leaves ≡ replicate {A = ℕ} pages 65535
entries_none pages top leaves none =
    same_lists _ _ (grind (arith, places, length_entries)) (λ k d h. grind (arith, places, get_entries, length_entries))

-- an entry in a leaf that is there
pub entries_set : (pages : ℕ) (top leaves : List ℕ) (count page at place : ℕ) → LeavesApart top count → length leaves ≡ 128 * count → at ≡ leaf_in top (page / 128) * 128 + page % 128 → page < pages → leaf_in top (page / 128) ≢ 255 → entries pages top (set leaves at place) ≡ set (entries pages top leaves) page place
entries_set pages top leaves count page at place is filled is_at within mark =
    let one = is (page / 128) mark in
    let whole : at < length leaves = omega (arith, filled, one.0) in
    same_lists _ _ (grind (arith, places, length_entries, length-set)) (λ k d h.
    let below : k < pages = omega (arith, length_entries) in
    let other = one.1 (k / 128) in
    get_entries pages top (set leaves at place) k d below
    ∙ grind (arith, places, get_or-set_at, get_entries pages top leaves k d below, length_entries, other))

-- the place of an entry of the same leaf, or of another, after a leaf got a place
moved_leaf : (leaves top : List ℕ) (leaf count q r : ℕ) → leaf < length top → length leaves ≡ 128 * count → count ≤ 65 → leaf_in top leaf ≡ 255 → get_or leaves (leaf_in (set top leaf count) q * 128 + r) 65535 ≡ get_or leaves (leaf_in top q * 128 + r) 65535
moved_leaf leaves top leaf count q r there filled few none = grind (arith, places, get_or-set_at)

with_blanks : (leaves : List ℕ) (n p : ℕ) → get_or (leaves ++ replicate n 65535) p 65535 ≡ get_or leaves p 65535
with_blanks leaves n p = grind (arith, places)

-- one leaf more, of which no page is stored
pub entries_more : (pages : ℕ) (top leaves : List ℕ) (count leaf : ℕ) → leaf < length top → length leaves ≡ 128 * count → count ≤ 65 → leaf_in top leaf ≡ 255 → entries pages (set top leaf count) (leaves ++ replicate 128 65535) ≡ entries pages top leaves
entries_more pages top leaves count leaf there filled few none =
    same_lists _ _ (grind (arith, length_entries)) (λ k d h.
    let below : k < pages = omega (arith, length_entries) in
    get_entries pages (set top leaf count) (leaves ++ replicate 128 65535) k d below
    ∙ with_blanks leaves 128 _
    ∙ moved_leaf leaves top leaf count (k / 128) (k % 128) there filled few none
    ∙ sym (get_entries pages top leaves k d below))

absent_mark : absent 255 ≡ 1
unfolding absent
absent_mark = refl

absent_place : (place : ℕ) → place < 255 → absent place ≡ 0
unfolding absent
absent_place place below = grind (arith, nat_tests)

-- no leaf is there
pub is_leafed_none : (pages count : ℕ) (top : List ℕ) (tops used room : ℕ) → top ≡ replicate tops 255 → tops ≤ 65 → pages ≤ 128 * tops → 128 * tops ≤ room → used ≡ 0 → count ≡ 0 → IsLeafed pages top count used room
is_leafed_none pages count top tops used room is few covers fits empty none = rw (is, empty, none) (record {
  few = omega (arith, long, few);
  covers = omega (arith, long, covers);
  counted = omega (arith, all, long);
  filled = refl;
  fits = omega (arith, long, fits);
  apart = λ i mark. absurd (mark (grind (arith, places)));
})
  where
    long : length (replicate {A = ℕ} tops 255) ≡ tops
    long = length-replicate {A = ℕ} tops 255

    all : sum_by absent (replicate {A = ℕ} tops 255) ≡ tops
    all = sum_by-replicate absent tops 255 ∙ ap (λ (k : ℕ). tops * k) absent_mark ∙ omega arith

-- a leaf that isn't there has a place, and room
pub leaf_free : (pages : ℕ) (top : List ℕ) (count used room leaf : ℕ) → IsLeafed pages top count used room → leaf < length top → leaf_in top leaf ≡ 255 → count < length top
leaf_free pages top count used room leaf is there none =
    let sum : sum_by absent (set top leaf 0) + 1 ≡ sum_by absent top + 0 = rw (none, absent_mark, absent_place 0 (omega arith)) at (sum_by-set absent top leaf 0 255 there) in
    omega (arith, is.counted)

-- the leaves stay apart where one gets the next place
leaves_apart_more : (top : List ℕ) (count leaf : ℕ) → leaf < length top → count < 255 → leaf_in top leaf ≡ 255 → LeavesApart top count → LeavesApart (set top leaf count) (count + 1)
leaves_apart_more top count leaf there few none is i mark =
    (grind (arith, places, get_or-set_at, is i), λ j same. grind (arith, places, get_or-set_at, is i, is j))

pub is_leafed_more : (pages : ℕ) (top : List ℕ) (count used room leaf : ℕ) (top' : List ℕ) (count' used' room' : ℕ) → IsLeafed pages top count used room → leaf < length top → leaf_in top leaf ≡ 255 → top' ≡ set top leaf count → used' ≡ used + 128 → count' ≡ count + 1 → room ≤ room' → IsLeafed pages top' count' used' room'
is_leafed_more pages top count used room leaf top' count' used' room' is there none is_top is_used is_count more =
    let below = leaf_free pages top count used room leaf is there none in
    let few : count < 255 = omega (arith, below, is.few) in
    let kept : length (set top leaf count) ≡ length top = length-set {A = ℕ} top leaf count in
    let sum : sum_by absent (set top leaf count) + 1 ≡ sum_by absent top + 0 = rw (none, absent_mark, absent_place count few) at (sum_by-set absent top leaf count 255 there) in
    rw (is_top, is_used, is_count) (record {
      few = omega (arith, kept, is.few);
      covers = omega (arith, kept, is.covers);
      counted = omega (arith, kept, sum, is.counted);
      filled = omega (arith, is.filled);
      fits = omega (arith, kept, is.fits, more);
      apart = leaves_apart_more top count leaf there few none is.apart;
    })

pub is_leafed_same : (pages : ℕ) (top : List ℕ) (count used room count' used' room' : ℕ) → IsLeafed pages top count used room → used' ≡ used → count' ≡ count → room ≤ room' → IsLeafed pages top count' used' room'
is_leafed_same pages top count used room count' used' room' is same still more = rw same (rw still (record { few = is.few; covers = is.covers; counted = is.counted; filled = is.filled; fits = omega (arith, is.fits, more); apart = is.apart }))

-- the place of a leaf, as it is read
pub leaf_read : (top : List ℕ) (leaf place : ℕ) → leaf < length top → place ≡ slice_index_or top leaf place → leaf_in top leaf ≡ place
leaf_read top leaf place there is = grind (arith, places)

-- the first entry of a leaf
pub entries_first : (pages : ℕ) (top leaves : List ℕ) (count room page place : ℕ) → IsLeafed pages top count (length leaves) room → page < pages → leaf_in top (page / 128) ≡ 255 → entries pages (set top (page / 128) count) (set (leaves ++ replicate 128 65535) (length leaves + page % 128) place) ≡ set (entries pages top leaves) page place
entries_first pages top leaves count room page place is within none =
    let leaf = page / 128 in
    let there : leaf < length top = omega (arith, within, is.covers) in
    let below = leaf_free pages top count (length leaves) room leaf is there none in
    let long : length (leaves ++ replicate {A = ℕ} 128 65535) ≡ length leaves + 128 = length-append leaves (replicate {A = ℕ} 128 65535) ∙ ap (λ (n : ℕ). length leaves + n) (length-replicate {A = ℕ} 128 65535) in
    let more = is_leafed_more pages top count (length leaves) room leaf (set top leaf count) (count + 1) (length leaves + 128) room is there none refl refl refl (omega arith) in
    let placed : leaf_in (set top leaf count) leaf ≡ count = get_or-set_at top leaf leaf count 255 refl there in
    entries_set pages (set top leaf count) (leaves ++ replicate 128 65535) (count + 1) page (length leaves + page % 128) place more.apart (long ∙ more.filled) (omega (arith, placed, is.filled)) within (omega (arith, placed, below, is.few))
    ∙ ap (λ (m : List ℕ). set m page place) (entries_more pages top leaves count leaf there is.filled (omega (arith, below, is.few)) none)
