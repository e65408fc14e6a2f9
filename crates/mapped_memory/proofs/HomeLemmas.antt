-- The region that has all addresses of an access: its bytes are those of the memory, and no other region is written.
use Rattle.std.proofs.Common.{◌≡◌, ℕ, zero, suc, ◌+◌, ◌-◌, ◌<◌, Bool, true, false, cond, List, [], ◌∷◌, length, get_or, set, map, arith, refl, ap, sym, ◌∙◌}
use Rattle.std.proofs.lemmas.List.{same_lists}
use Rattle.std.proofs.lemmas.List.FromFn.{get_or-map-range_with_len}
use Rattle.std.proofs.lemmas.Bool.Decides.{nat_tests}
use Rattle.std.specs.List.{list_any}
use Rattle.mapped_memory.specs.Regions.{Part, is_among, byte_at, bytes_at, laid, written}
use Rattle.mapped_memory.specs.Mapping.{AreMapped, has_all, is_met}
use Rattle.mapped_memory.specs.Whole.{bytes_whole}
use Rattle.mapped_memory.proofs.LaidLemmas.{length_laid, over, laid_apart}
use Rattle.mapped_memory.proofs.MappedLemmas.{met_both, neither}

none_at : (p : Part → Bool) (rs : List Part) (i : ℕ) (d : Part) → i < length rs → list_any p rs ≡ false → p (get_or rs i d) ≡ false
none_at p [] i d below none = absurd (omega (arith, below))
none_at p (r ∷ rs) zero d below none = (neither (p r) (list_any p rs) none).0
none_at p (r ∷ rs) (suc i) d below none = none_at p rs i d (omega (arith, below)) (neither (p r) (list_any p rs) none).1

-- where one of two regions that have no address in common has an address, the other hasn't
not_both : (r q : Part) (k : ℕ) (b : Bool) → is_among r.at (length r.bytes) k ≡ b → is_met r.at (length r.bytes) q ≡ false → is_among q.at (length q.bytes) k ≡ true → b ≡ false
not_both r q k true is apart has = absurd (grind (arith, nat_tests, is, apart, has))
not_both r q k false is apart has = refl

home_byte : (n : ℕ) (rs : List Part) (i k : ℕ) (d : Part) → AreMapped n rs → i < length rs → is_among (get_or rs i d).at (length (get_or rs i d).bytes) k ≡ true → byte_at rs k ≡ get_or (get_or rs i d).bytes (k - (get_or rs i d).at) 0
unfolding AreMapped byte_at
home_byte n [] i k d ok below has = absurd (omega (arith, below))
home_byte n (r ∷ rs) zero k d ok below has = rw has refl
home_byte n (r ∷ rs) (suc i) k d ok below has =
    let low : i < length rs = omega (arith, below) in
    let not : is_among r.at (length r.bytes) k ≡ false =
    not_both r (get_or rs i d) k (is_among r.at (length r.bytes) k) refl (none_at (is_met r.at (length r.bytes)) rs i d low ok.2) has in
    rw not (home_byte n rs i k d ok.3 low has)

-- what is read of it is what the memory has
pub home_read : (n : ℕ) (rs : List Part) (i addr : ℕ) (out now : List ℕ) (r : Part) → AreMapped n rs → i < length rs → r ≡ get_or rs i r → has_all addr (length out) r ≡ true → now ≡ laid addr out r.at r.bytes → now ≡ bytes_at rs addr (length out)
unfolding bytes_at
home_read n rs i addr out now r ok below is has read =
    let long : length now ≡ length out = ap length read ∙ length_laid addr out r.at r.bytes in
    same_lists _ _ (long ∙ sym (bytes_whole rs addr (length out))) (λ k d h.
    let low : k < length out = omega (arith, long, h) in
    ap (λ (bs : List ℕ). get_or bs k d) read
    ∙ over addr out r.at r.bytes k d low (grind (arith, nat_tests, has)) (grind (arith, nat_tests, has, low))
    ∙ ap (λ (q : Part). get_or q.bytes (addr + k - q.at) 0) is
    ∙ sym (home_byte n rs i (addr + k) r ok below (ap (λ (q : Part). is_among q.at (length q.bytes) (addr + k)) (sym is) ∙ grind (arith, nat_tests, has, low)))
    ∙ sym (get_or-map-range_with_len (byte_at rs) addr (length out) k (addr + k) d low refl))

-- a region that has no address of it stays
stays : (addr : ℕ) (source : List ℕ) (r q : Part) (b : Bool) → has_all addr (length source) r ≡ true → is_met r.at (length r.bytes) q ≡ false → q ≡ cond b q (record q { bytes = laid q.at q.bytes addr source })
stays addr source r q true has apart = refl
stays addr source r q false has apart =
    ap (λ (bs : List ℕ). record q { bytes = bs }) (laid_apart q.at q.bytes addr source (grind (arith, nat_tests, has, apart)))

all_stay : (addr : ℕ) (source : List ℕ) (r : Part) (qs : List Part) → has_all addr (length source) r ≡ true → list_any (is_met r.at (length r.bytes)) qs ≡ false → qs ≡ map (written addr source) qs
all_stay addr source r [] has apart = refl
all_stay addr source r (q ∷ qs) has apart =
    let others = neither (is_met r.at (length r.bytes) q) (list_any (is_met r.at (length r.bytes)) qs) apart in
    (λ i. stays addr source r q q.is_read_only has others.0 i ∷ all_stay addr source r qs has others.1 i)

-- what is written to it is written to the memory
pub home_written : (n : ℕ) (rs : List Part) (i addr : ℕ) (source : List ℕ) (r now : Part) → AreMapped n rs → i < length rs → r ≡ get_or rs i r → has_all addr (length source) r ≡ true → now ≡ written addr source r → set rs i now ≡ map (written addr source) rs
unfolding AreMapped
home_written n [] i addr source r now ok below is has wrote = absurd (omega (arith, below))
home_written n (q ∷ qs) zero addr source r now ok below is has wrote =
    let same : now ≡ written addr source q = wrote ∙ ap (written addr source) is in
    let has_q : has_all addr (length source) q ≡ true = ap (has_all addr (length source)) (sym is) ∙ has in
    (λ j. same j ∷ all_stay addr source q qs has_q ok.2 j)
home_written n (q ∷ qs) (suc i) addr source r now ok below is has wrote =
    let low : i < length qs = omega (arith, below) in
    let apart : is_met q.at (length q.bytes) r ≡ false = ap (is_met q.at (length q.bytes)) is ∙ none_at (is_met q.at (length q.bytes)) qs i r low ok.2 in
    (λ j. stays addr source r q q.is_read_only has (met_both r q ∙ apart) j ∷ home_written n qs i addr source r now ok.3 low is has wrote j)
