-- Reads that leave the descriptor alone.
use Rattle.std.proofs.Common.{◌≡◌, ℕ, ◌+◌, ◌<◌, ◌≤◌, ◌⊎◌, inl, inr, Bool, true, false, nat_lt, List, ◌++◌, length, slice_range, refl, sym, ap, ◌∙◌, arith}
use Rattle.std.proofs.lemmas.Bool.Decides.{nat_tests}
use Rattle.std.proofs.lemmas.List.{places, same_lists}
use Rattle.guest_memory.specs.Memory.{overwrite}
use Rattle.live_memory.specs.Trace.{Access, since, met, Apart, NotRead, HasRead}
use Rattle.live_memory.proofs.Accesses.{since_is, since_none, since_join, met_join}
use Rattle.live_memory.proofs.Reading.{read_none}
use Rattle.live_memory.proofs.Once.{not_read_append, Later, traced_then}
use Rattle.live_memory.proofs.Written.{kept_apart}
use Rattle.tx_desc.specs.Fetches.{ReadsApart}
use Rattle.tx_desc.specs.Accesses.{part_read}

-- nothing is read
pub reads_none : (shared : Bool) (place : ℕ) (before : List Access) (old : List ℕ) → ReadsApart shared place before before old old
unfolding NotRead
reads_none shared place before old = record {
  read = read_none shared before old;
  apart = rw (since_none before) tt;
  kept = refl;
}

turned : (a n b k : ℕ) → Apart a n b k → (b + k ≤ a) ⊎ (a + n ≤ b)
turned a n b k (inl before) = inr before
turned a n b k (inr behind) = inl behind

none_over : (at n : ℕ) (bytes old : List ℕ) → length bytes ≡ n → n ≡ 0 → at + n ≤ length old → overwrite at bytes old ≡ old
none_over at n bytes old len none fits = same_lists _ _ (grind (arith, places, len, none)) (λ k d h. grind (arith, places, len, none))

is_some : (a n : ℕ) → nat_lt a (a + n) ≡ true → 0 < n
is_some a n is = grind (arith, nat_tests)

is_none : (a n : ℕ) → nat_lt a (a + n) ≡ false → n ≡ 0
is_none a n is = grind (arith, nat_tests)

sized : (a n : ℕ) (m : List ℕ) → a + n ≤ length m → length (slice_range m a (a + n)) ≡ n
sized a n m fits = grind (arith, places)

at_most : (a n : ℕ) (m : List ℕ) → length (slice_range m a (a + n)) ≤ n
at_most a n m = grind (arith, places)

part_not_read : (place a n : ℕ) (m : List ℕ) → a + n ≤ length m → (0 < n → Apart place 16 a n) → NotRead place 16 (part_read a (a + n) m)
unfolding part_read NotRead
part_not_read place a n m fits apart = at (nat_lt a (a + n)) refl
  where
    at : (some : Bool) → nat_lt a (a + n) ≡ some → NotRead place 16 (part_read a (a + n) m)
    at true is = rw (is, sized a n m fits) (apart (is_some a n is), tt)
    at false is = rw is tt

part_kept : (place a n : ℕ) (bytes old new : List ℕ) → new ≡ overwrite a bytes old → length bytes ≡ n → a + n ≤ length old → (0 < n → Apart place 16 a n) → slice_range new place (place + 16) ≡ slice_range old place (place + 16)
part_kept place a n bytes old new seen len fits apart = at (nat_lt a (a + n)) refl
  where
    at : (some : Bool) → nat_lt a (a + n) ≡ some → slice_range new place (place + 16) ≡ slice_range old place (place + 16)
    at true is = ap (λ (m : List ℕ). slice_range m place (place + 16)) seen ∙ kept_apart a n place 16 bytes old len fits (turned place 16 a n (apart (is_some a n is)))
    at false is = ap (λ (m : List ℕ). slice_range m place (place + 16)) (seen ∙ none_over a n bytes old len (is_none a n is) fits)

-- one read, or none where there are no bytes
pub part_apart : (shared : Bool) (place a n : ℕ) (before now : List Access) (bytes old new : List ℕ) → now ≡ before ++ part_read a (a + n) new → new ≡ overwrite a bytes old → length bytes ≡ n → a + n ≤ length old → (0 < n → Apart place 16 a n) → HasRead shared old new before now → ReadsApart shared place before now old new
part_apart shared place a n before now bytes old new listed seen len fits apart read = record {
  read = read;
  apart = rw (since_is before now (part_read a (a + n) new) listed) (part_not_read place a n new (omega (arith, fits, read.size)) apart);
  kept = part_kept place a n bytes old new seen len fits apart;
}

parts_later : (a n b k : ℕ) (m l : List ℕ) → a + n ≤ b → Later (part_read a (a + n) m) (part_read b (b + k) l)
unfolding part_read Later NotRead
parts_later a n b k m l behind = at (nat_lt a (a + n)) (nat_lt b (b + k)) refl refl
  where
    at : (some other : Bool) → nat_lt a (a + n) ≡ some → nat_lt b (b + k) ≡ other → Later (part_read a (a + n) m) (part_read b (b + k) l)
    at false other is then = rw is tt
    at true false is then = rw (is, then) (tt, tt)
    at true true is then = rw (is, then) ((inl (omega (arith, behind, at_most a n m)), tt), tt)

-- two parts, the second one behind the first
pub later_parts : (a n b k : ℕ) (t0 t1 t2 : List Access) (m l : List ℕ) → t1 ≡ t0 ++ part_read a (a + n) m → t2 ≡ t1 ++ part_read b (b + k) l → a + n ≤ b → Later (since t0 t1) (since t1 t2)
later_parts a n b k t0 t1 t2 m l one two behind = rw (since_is t0 t1 _ one, since_is t1 t2 _ two) (parts_later a n b k m l behind)

-- reads after others
pub reads_then : (shared : Bool) (place : ℕ) (t0 t1 t2 : List Access) (m0 m1 m2 : List ℕ) → ReadsApart shared place t0 t1 m0 m1 → ReadsApart shared place t1 t2 m1 m2 → Later (since t0 t1) (since t1 t2) → ReadsApart shared place t0 t2 m0 m2
reads_then shared place t0 t1 t2 m0 m1 m2 one two later =
    let g1 = one.read.traced.grown in
    let g2 = two.read.traced.grown in
    record {
      read = record {
        met_is = two.read.met_is ∙ ap (met t1 t2) one.read.met_is ∙ sym (met_join t0 t1 t2 m0 g1 g2);
        traced = traced_then shared t0 t1 t2 m0 m1 one.read.met_is one.read.size one.read.traced two.read.traced later;
        size = two.read.size ∙ one.read.size;
      };
      apart = rw (since_join t0 t1 t2 g1 g2) (not_read_append place 16 (since t0 t1) (since t1 t2) one.apart two.apart);
      kept = two.kept ∙ one.kept;
    }
