-- The memories keep their sizes where a function is replaced by one of the same size, and where all are closed.
use Rattle.std.proofs.Common.{◌≡◌, ℕ, List, [], ◌∷◌, refl, ap, map, set, get_or}
use Rattle.std.proofs.Math.Seq.{map-set_same}
use Rattle.vf_unit.specs.Unit.{Function, size_of, ended}

pub size_set : (fs : List Function) (i : ℕ) (f d : Function) → size_of f ≡ size_of (get_or fs i d) → map size_of (set fs i f) ≡ map size_of fs
size_set fs i f d = map-set_same size_of fs i f d

pub sizes_ended : (fs : List Function) → map size_of (map ended fs) ≡ map size_of fs
sizes_ended [] = refl
sizes_ended (f ∷ fs) = ap (λ xs. size_of f ∷ xs) (sizes_ended fs)
