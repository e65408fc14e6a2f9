-- The sizes of devices' memories, one after another, and devices of one make.
use Rattle.std.proofs.Common.{◌≡◌, ℕ, List, ◌<◌, length, get_or, map, sym, ap, ◌∙◌, arith}
use Rattle.std.proofs.Math.ListN.{get_or-map}
use Rattle.std.proofs.lemmas.List.{length-map}
use Rattle.std.proofs.lemmas.Grind.{same_number_lists}
use Rattle.vf_unit.specs.Unit.{Function, Closed, size_of}
use Rattle.device.specs.World.{World, fresh, sizes_of}
use Rattle.history.proofs.ReplayLemmas.{fresh_again}
use Rattle.recorder.specs.Made.{IsFresh, SameMake}

pub all_same : (fs gs : List Function) → length fs ≡ length gs → ((k : ℕ) → k < length fs → size_of (get_or fs k (Closed 0)) ≡ size_of (get_or gs k (Closed 0))) → map size_of fs ≡ map size_of gs
all_same fs gs long each = same_number_lists (map size_of fs) (map size_of gs) (length-map fs size_of ∙ long ∙ sym (length-map gs size_of))
    (λ k less. get_or-map size_of fs k (Closed 0) ∙ each k (let l = length-map fs size_of in omega arith) ∙ sym (get_or-map size_of gs k (Closed 0)))

pub one_same : (fs gs : List Function) (k : ℕ) → map size_of fs ≡ map size_of gs → size_of (get_or fs k (Closed 0)) ≡ size_of (get_or gs k (Closed 0))
one_same fs gs k is = sym (get_or-map size_of fs k (Closed 0)) ∙ ap (λ (xs : List ℕ). get_or xs k 0) is ∙ get_or-map size_of gs k (Closed 0)

-- ---- devices as they are made

-- two of one make are equal
pub one_make : (live twin : World) → IsFresh live → IsFresh twin → SameMake live twin → twin ≡ live
one_make live twin one other same = fresh_again twin _ _ other.2 ∙ (λ i. fresh (sym same.0 i) (sym same.1 i)) ∙ sym (fresh_again live _ _ one.2)

-- a base that is made like its live device is any other as it is made, of the live one's make
pub one_base : (base live other : World) → base ≡ fresh live.profile.limit (sizes_of live) → SameMake live other → IsFresh other → base ≡ other
one_base base live other made same one = made ∙ (λ i. fresh (same.0 i) (same.1 i)) ∙ sym (fresh_again other _ _ one.2)
