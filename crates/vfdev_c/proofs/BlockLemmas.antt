-- Blocks of two functions have no byte in common: without some of them neither.
use Rattle.std.proofs.Common.{◌≡◌, ℕ, Bool, true, false, List, [], ◌∷◌, nat_lt, ◌≤◌, refl, sym, subst}
use Rattle.std.specs.List.{filter, list_any}
use Rattle.std.specs.Prelude.{◌&&◌, ◌||◌}
use Rattle.vfdev_c.specs.GuestDevices.{AreApart, is_anothers, meets_another}
use Rattle.vfdev_c.specs.declared.blocks.MappedBlock.{MappedBlock}

neither : (a b : Bool) → (a || b) ≡ false → (a ≡ false) × (b ≡ false)
neither true true is = (is, is)
neither true false is = (is, refl)
neither false b is = (refl, is)

kept_step : (test keep : MappedBlock → Bool) (b : MappedBlock) (bs : List MappedBlock) (k : Bool) → keep b ≡ k → test b ≡ false
    → list_any test (filter keep bs) ≡ false → list_any test (filter keep (b ∷ bs)) ≡ false
kept_step test keep b bs true is none rest = rw (is, none) rest
kept_step test keep b bs false is none rest = rw is rest

-- what none of them does, none does of those that a test keeps
none_kept : (test keep : MappedBlock → Bool) (bs : List MappedBlock) → list_any test bs ≡ false → list_any test (filter keep bs) ≡ false
none_kept test keep [] none = refl
none_kept test keep (b ∷ bs) none =
    let both = neither (test b) (list_any test bs) none in
    kept_step test keep b bs (keep b) refl both.0 (none_kept test keep bs both.1)

meets_fewer : (some a b : Bool) → (a ≡ false → b ≡ false) → (some && a) ≡ false → (some && b) ≡ false
meets_fewer true a b fewer none = fewer none
meets_fewer false a b fewer none = refl

apart_step : (keep : MappedBlock → Bool) (b : MappedBlock) (bs : List MappedBlock) (k : Bool) → keep b ≡ k → meets_another b.function b.span (filter keep bs) ≡ false
    → AreApart (filter keep bs) → AreApart (filter keep (b ∷ bs))
unfolding AreApart
apart_step keep b bs true is none rest = rw is (none, rest)
apart_step keep b bs false is none rest = rw is rest

pub apart_without : (keep : MappedBlock → Bool) (bs : List MappedBlock) → AreApart bs → AreApart (filter keep bs)
unfolding AreApart
apart_without keep [] apart = tt
apart_without keep (b ∷ bs) apart =
    apart_step keep b bs (keep b) refl
    (meets_fewer (nat_lt 0 b.span.len) (list_any (is_anothers b.function b.span) bs) (list_any (is_anothers b.function b.span) (filter keep bs))
    (none_kept (is_anothers b.function b.span) keep bs) apart.0)
    (apart_without keep bs apart.1)

-- there is as much room as before
pub still_room : {m n : ℕ} → n ≡ m → 4096 ≤ m → 4096 ≤ n
still_room same room = subst (λ (k : ℕ). 4096 ≤ k) (sym same) room
