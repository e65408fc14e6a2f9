-- A memory stored as pages: what is read from it, and what a write leaves.
use Rattle.std.proofs.Common.{◌≡◌, ℕ, ◌+◌, ◌-◌, ◌*◌, ◌/◌, ◌%◌, ◌<◌, ◌≤◌, ◌≢◌, ◌⊎◌, List, ◌++◌, length, get_or, take, drop, replicate, slice_range, set, sum_by, length-append, arith, refl, ap, sym, ◌∙◌}
use Rattle.std.proofs.lemmas.List.{places, same_lists, length-set, length-replicate}
use Rattle.std.proofs.lemmas.List.Sums.{sum_by-set}
use borrow.Rule.Slice.PartMut.{put_mid}
use Rattle.std.proofs.lemmas.List.Folds.{sum_by-replicate}
use Rattle.std.proofs.lemmas.List.FromFn.{get_or-map-range_with_len, length-map-range_with_len}
use Rattle.std.proofs.lemmas.Grind.{get_or-set_at}
use Rattle.std.proofs.lemmas.Bool.Decides.{nat_tests}
use Rattle.guest_memory.specs.Memory.{overwrite}
use Rattle.guest_memory.specs.Pages.{paged, stored_byte, place_in, unstored, Apart, IsPaged}

pub length_paged : (size : ℕ) (table cells : List ℕ) → length (paged size table cells) ≡ size
unfolding paged
length_paged size table cells = length-map-range_with_len (stored_byte table cells) 0 size

get_paged : (size : ℕ) (table cells : List ℕ) (k d : ℕ) → k < size → get_or (paged size table cells) k d ≡ get_or cells (place_in table (k / 2048) * 2048 + k % 2048) 0
unfolding paged stored_byte
get_paged size table cells k d below = get_or-map-range_with_len (stored_byte table cells) 0 size k k d below (omega arith)

-- a memory of which nothing is stored
pub paged_none : (size : ℕ) (table cells : List ℕ) → length cells ≡ 0 → paged size table cells ≡ replicate {A = ℕ} size 0
paged_none size table cells none =
    same_lists _ _ (grind (arith, places, length_paged)) (λ k d h. grind (arith, places, get_paged, length_paged))

-- the place of a byte in the page of another
same_page : (table : List ℕ) (start k at : ℕ) → at ≡ place_in table (start / 2048) * 2048 + start % 2048 → start ≤ k → start % 2048 + (k - start) < 2048 → place_in table (k / 2048) * 2048 + k % 2048 ≡ at + (k - start)
same_page table start k at is_at from within =
    let page : k / 2048 ≡ start / 2048 = omega arith in
    rw page (omega arith)

byte_within : (size : ℕ) (table cells : List ℕ) (start k n at e : ℕ) → at ≡ place_in table (start / 2048) * 2048 + start % 2048 → start % 2048 + n ≤ 2048 → start + n ≤ size → k < n → get_or (paged size table cells) (start + k) e ≡ get_or cells (at + k) 0
byte_within size table cells start k n at e is_at within ends below =
    let place : place_in table ((start + k) / 2048) * 2048 + (start + k) % 2048 ≡ at + k = same_page table start (start + k) at is_at (omega arith) (omega arith) ∙ omega arith in
    get_paged size table cells (start + k) e (omega arith) ∙ ap (λ (n : ℕ). get_or cells n 0) place

-- a read within a page, that is stored or that is not
pub read_paged : (size : ℕ) (table cells : List ℕ) (start n at : ℕ) → at ≡ place_in table (start / 2048) * 2048 + start % 2048 → start % 2048 + n ≤ 2048 → start + n ≤ size → at + n ≤ length cells → slice_range (paged size table cells) start (start + n) ≡ slice_range cells at (at + n)
read_paged size table cells start n at is_at within ends stored =
    same_lists _ _ (grind (arith, places, length_paged)) (λ k d h.
    let few : k < n = grind (arith, places, length_paged) in
    grind (arith, places, byte_within size table cells start k n at d is_at within ends few))

pub read_unstored : (size : ℕ) (table cells : List ℕ) (start n at : ℕ) → at ≡ place_in table (start / 2048) * 2048 + start % 2048 → start % 2048 + n ≤ 2048 → start + n ≤ size → length cells ≤ at → slice_range (paged size table cells) start (start + n) ≡ replicate {A = ℕ} n 0
read_unstored size table cells start n at is_at within ends stored =
    same_lists _ _ (grind (arith, places, length_paged)) (λ k d h.
    let few : k < n = grind (arith, places, length_paged) in
    grind (arith, places, byte_within size table cells start k n at d is_at within ends few))

-- the place of a byte outside a range within a stored page is outside the place of that range
outside : (table : List ℕ) (count start n at k place : ℕ) → Apart table count → at ≡ place_in table (start / 2048) * 2048 + start % 2048 → place ≡ place_in table (k / 2048) * 2048 + k % 2048 → start % 2048 + n ≤ 2048 → place_in table (start / 2048) ≢ 65535 → (k < start) ⊎ (start + n ≤ k) → (place < at) ⊎ (at + n ≤ place)
outside table count start n at k place is is_at is_place within mark out =
    let one = (is (start / 2048) mark).1 (k / 2048) in
    grind (arith, one)

-- a byte after a write, by the place that it has among the cells
written_byte : (memory cells source : List ℕ) (start at k place d : ℕ) → at + length source ≤ length cells → k < length memory → start + length source ≤ length memory → get_or memory k d ≡ get_or cells place 0 → (start ≤ k → k < start + length source → place ≡ at + (k - start)) → ((k < start) ⊎ (start + length source ≤ k) → (place < at) ⊎ (at + length source ≤ place)) → get_or (overwrite at source cells) place 0 ≡ get_or (overwrite start source memory) k d
written_byte memory cells source start at k place d whole below ends was inside other = grind (arith, places)

-- a write within a page that is stored
pub write_paged : (size : ℕ) (table cells : List ℕ) (count start at : ℕ) (source : List ℕ) → Apart table count → length cells ≡ 2048 * count → at ≡ place_in table (start / 2048) * 2048 + start % 2048 → start % 2048 + length source ≤ 2048 → start + length source ≤ size → place_in table (start / 2048) ≢ 65535 → paged size table (overwrite at source cells) ≡ overwrite start source (paged size table cells)
write_paged size table cells count start at source is filled is_at within ends mark =
    let whole : at + length source ≤ length cells = omega (arith, filled, (is (start / 2048) mark).0) in
    same_lists _ _ (grind (arith, places, length_paged)) (λ k d h.
    let below : k < size = omega (arith, length_paged) in
    get_paged size table (overwrite at source cells) k d below
    ∙ written_byte (paged size table cells) cells source start at k (place_in table (k / 2048) * 2048 + k % 2048) d whole (omega (arith, length_paged)) (omega (arith, length_paged)) (get_paged size table cells k d below) (λ from to. same_page table start k at is_at from (omega arith)) (outside table count start (length source) at k _ is is_at refl within mark))

pub write_stored : (size : ℕ) (table cells : List ℕ) (count room start at : ℕ) (source : List ℕ) → IsPaged size table count (length cells) room → at ≡ place_in table (start / 2048) * 2048 + start % 2048 → start % 2048 + length source ≤ 2048 → start + length source ≤ size → place_in table (start / 2048) ≢ 65535 → paged size table (overwrite at source cells) ≡ overwrite start source (paged size table cells)
write_stored size table cells count room start at source is is_at within ends mark = write_paged size table cells count start at source is.apart is.filled is_at within ends mark

-- the place of the same page, or of another, after a page got a place
moved_place : (cells table : List ℕ) (page place q r : ℕ) → page < length table → length cells ≤ 65535 * 2048 → place_in table page ≡ 65535 → place * 2048 ≡ length cells → get_or cells (place_in (set table page place) q * 2048 + r) 0 ≡ get_or cells (place_in table q * 2048 + r) 0
moved_place cells table page place q r there few none is_place = grind (arith, places, get_or-set_at)

with_zeros : (cells : List ℕ) (n p : ℕ) → get_or (cells ++ replicate n 0) p 0 ≡ get_or cells p 0
with_zeros cells n p = grind (arith, places)

-- one more page, which has zeros
paged_more : (size : ℕ) (table cells : List ℕ) (count page n : ℕ) → page < length table → length cells ≡ 2048 * count → count ≤ 8193 → place_in table page ≡ 65535 → paged size (set table page count) (cells ++ replicate n 0) ≡ paged size table cells
paged_more size table cells count page n there filled few none =
    same_lists _ _ (grind (arith, length_paged)) (λ k d h.
    let below : k < size = omega (arith, length_paged) in
    get_paged size (set table page count) (cells ++ replicate n 0) k d below
    ∙ with_zeros cells n _
    ∙ moved_place cells table page count (k / 2048) (k % 2048) there (omega (arith, filled, few)) none (omega (arith, filled))
    ∙ sym (get_paged size table cells k d below))

unstored_mark : unstored 65535 ≡ 1
unfolding unstored
unstored_mark = refl

unstored_place : (place : ℕ) → place < 65535 → unstored place ≡ 0
unfolding unstored
unstored_place place below = grind (arith, nat_tests)

-- nothing is stored: a memory that was made, or cleared
pub is_paged_none : (size : ℕ) (table : List ℕ) (pages count used room : ℕ) → table ≡ replicate pages 65535 → pages ≡ size / 2048 + 1 → used ≡ 0 → count ≡ 0 → pages ≤ 8193 → 2048 * pages ≤ room → IsPaged size table count used room
is_paged_none size table pages count used room is whole empty none few fits = rw (is, none, empty) (record {
  few = omega (arith, whole, few);
  reach = long ∙ whole;
  counted = omega (arith, all, long);
  filled = refl;
  fits = omega (arith, whole, fits);
  apart = λ i mark. absurd (mark (grind (arith, places)));
})
  where
    long : length (replicate {A = ℕ} pages 65535) ≡ pages
    long = length-replicate {A = ℕ} pages 65535

    all : sum_by unstored (replicate {A = ℕ} pages 65535) ≡ pages
    all = sum_by-replicate unstored pages 65535 ∙ ap (λ (k : ℕ). pages * k) unstored_mark ∙ omega arith

pub is_paged_same : (size : ℕ) (table : List ℕ) (count used room count' used' room' : ℕ) → IsPaged size table count used room → used' ≡ used → count' ≡ count → room ≤ room' → IsPaged size table count' used' room'
is_paged_same size table count used room count' used' room' is same still more = rw same (rw still (record { few = is.few; reach = is.reach; counted = is.counted; filled = is.filled; fits = omega (arith, is.fits); apart = is.apart }))

-- a page that isn't stored has a place
has_place : (table : List ℕ) (count page : ℕ) → count + sum_by unstored table ≡ length table → page < length table → place_in table page ≡ 65535 → count < length table
has_place table count page counted there none =
    let sum : sum_by unstored (set table page 0) + 1 ≡ sum_by unstored table + 0 = rw (none, unstored_mark, unstored_place 0 (omega arith)) at (sum_by-set unstored table page 0 65535 there) in
    omega (arith, counted)

-- what a first write to a page knows: the table has it, the page has a place, and there is room for it
pub record Free (table : List ℕ) (count used room page : ℕ) : Type 0 where
  pub entry : page < length table
  pub place : count < 8193
  pub cells : used + 2048 ≤ room

pub free : (size : ℕ) (table : List ℕ) (count used room page : ℕ) → IsPaged size table count used room → page ≤ size / 2048 → place_in table page ≡ 65535 → Free table count used room page
free size table count used room page is here none =
    let there : page < length table = omega (arith, is.reach, here) in
    let below = has_place table count page is.counted there none in
    record {
      entry = there;
      place = omega (arith, below, is.reach, is.few);
      cells = omega (arith, below, is.reach, is.filled, is.fits);
    }

-- the places stay apart where a page gets the next one
apart_more : (table : List ℕ) (count page : ℕ) → page < length table → count < 65535 → place_in table page ≡ 65535 → Apart table count → Apart (set table page count) (count + 1)
apart_more table count page there few none is i mark =
    (grind (arith, places, get_or-set_at, is i), λ j same. grind (arith, places, get_or-set_at, is i, is j))

is_paged_more : (size : ℕ) (table : List ℕ) (count used room room' page : ℕ) → IsPaged size table count used room → page ≤ size / 2048 → place_in table page ≡ 65535 → room ≤ room' → IsPaged size (set table page count) (count + 1) (used + 2048) room'
is_paged_more size table count used room room' page is here none more =
    let there : page < length table = omega (arith, is.reach, here) in
    let kept : length (set table page count) ≡ length table = length-set {A = ℕ} table page count in
    let below : count < 65535 = omega (arith, has_place table count page is.counted there none, is.reach, is.few) in
    let sum : sum_by unstored (set table page count) + 1 ≡ sum_by unstored table + 0 = rw (none, unstored_mark, unstored_place count below) at (sum_by-set unstored table page count 65535 there) in
    record {
      few = is.few;
      reach = kept ∙ is.reach;
      counted = omega (arith, kept, is.counted, sum);
      filled = omega (arith, is.filled);
      fits = omega (arith, is.fits);
      apart = apart_more table count page there below none is.apart;
    }

-- a write to a page that isn't stored yet stores it
pub is_paged_first : (size : ℕ) (table : List ℕ) (count used room page : ℕ) (table' : List ℕ) (count' used' room' : ℕ) → IsPaged size table count used room → page ≤ size / 2048 → place_in table page ≡ 65535 → table' ≡ set table page count → used' ≡ used + 2048 → count' ≡ count + 1 → room ≤ room' → IsPaged size table' count' used' room'
is_paged_first size table count used room page table' count' used' room' is here none is_table is_used is_count more = rw is_table (rw is_count (rw is_used (is_paged_more size table count used room room' page is here none more)))

-- a write within a page that isn't stored
pub write_first_paged : (size : ℕ) (table cells : List ℕ) (count room start : ℕ) (source : List ℕ) → IsPaged size table count (length cells) room → start % 2048 + length source ≤ 2048 → start + length source ≤ size → place_in table (start / 2048) ≡ 65535 → paged size (set table (start / 2048) count) (overwrite (length cells + start % 2048) source (cells ++ replicate 2048 0)) ≡ overwrite start source (paged size table cells)
write_first_paged size table cells count room start source is within ends none =
    let page = start / 2048 in
    let here : page ≤ size / 2048 = omega arith in
    let there : page < length table = omega (arith, is.reach, here) in
    let placed : place_in (set table page count) page ≡ count = get_or-set_at table page page count 65535 refl there in
    let f = free size table count (length cells) room page is here none in
    let grown : length (cells ++ replicate {A = ℕ} 2048 0) ≡ length cells + 2048 = length-append cells (replicate {A = ℕ} 2048 0) ∙ ap (λ (n : ℕ). length cells + n) (length-replicate {A = ℕ} 2048 0) in
    let more = is_paged_more size table count (length cells) room room page is here none (omega arith) in
    write_paged size (set table page count) (cells ++ replicate 2048 0) (count + 1) start (length cells + start % 2048) source more.apart (grown ∙ more.filled) (omega (arith, placed, is.filled)) within ends (omega (arith, placed, f.place))
    ∙ ap (overwrite start source) (paged_more size table cells count page 2048 there is.filled (omega (arith, f.place)) none)

-- a piece of a read and of a write across pages
pub read_step : (memory out piece : List ℕ) (start from to count : ℕ) → start ≤ from → from ≤ to → count ≡ to - start - (from - start) → to ≤ start + length out → start + length out ≤ length memory → take (from - start) out ≡ slice_range memory start from → piece ≡ slice_range memory from (from + length (take count (drop (from - start) out))) → take (to - start) (put_mid (from - start) count out piece) ≡ slice_range memory start to
read_step memory out piece start from to count low mid is_count high ends was is = rw was (rw is (same_lists _ _ (grind (arith, places)) (λ k d h. grind (arith, places))))

pub write_step : (memory source : List ℕ) (start from to : ℕ) → start ≤ from → from ≤ to → to ≤ start + length source → start + length source ≤ length memory → overwrite from (slice_range source (from - start) (to - start)) (overwrite start (take (from - start) source) memory) ≡ overwrite start (take (to - start) source) memory
write_step memory source start from to low mid high ends = same_lists _ _ (grind (arith, places)) (λ k d h. grind (arith, places))
