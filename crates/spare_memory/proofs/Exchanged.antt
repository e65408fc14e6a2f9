-- A memory that stands in, and then another one in its place.
use Rattle.std.proofs.Common.{◌≡◌, ℕ, zero, suc, List, [], ◌∷◌, length, map, set, refl, sym, ap, ◌∙◌, subst}
use Rattle.std.specs.List.{All}
use Rattle.std.specs.Prelude.{slice_index_or}
use Rattle.std.proofs.lemmas.List.{map-set, set-get_or}
use Rattle.std.proofs.lemmas.List.Elements.{All-set}
use Rattle.mapped_memory.specs.Regions.{Regions}
use Rattle.vf_unit.specs.Guests.{IsFormer}
use Rattle.vf_unit.specs.Unit.{Function, Closed, Open, size_of}
use Rattle.spare_memory.specs.Spares.{IsSpare, size_in}

pub set_set : {A : Type 0} (xs : List A) (i : ℕ) (a b : A) → set (set xs i a) i b ≡ set xs i b
set_set [] i a b = refl
set_set (x ∷ xs) zero a b = refl
set_set (x ∷ xs) (suc i) a b = ap (◌∷◌ x) (set_set xs i a b)

-- the sizes, where it has this one
pub sizes_exchanged : (ms : List Regions) (i : ℕ) (s v : Regions) (n : ℕ) → size_in v ≡ n → map size_in (set (set ms i s) i v) ≡ set (map size_in ms) i n
sizes_exchanged ms i s v n is = ap (map size_in) (set_set ms i s v) ∙ map-set size_in ms i v ∙ ap (set (map size_in ms) i) is

-- where it is the one that stood there
pub sizes_back : (ms : List Regions) (i : ℕ) (s v d : Regions) → v ≡ slice_index_or ms i d → map size_in (set (set ms i s) i v) ≡ map size_in ms
sizes_back ms i s v d is = ap (map size_in) (set_set ms i s v ∙ ap (set ms i) is ∙ set-get_or ms i d)

-- where it is a spare one
pub all_exchanged : (ms : List Regions) (i : ℕ) (s v : Regions) → All IsSpare ms → IsSpare v → All IsSpare (set (set ms i s) i v)
all_exchanged ms i s v all is = subst (All IsSpare) (sym (set_set ms i s v)) (All-set IsSpare ms i v is all)

-- how many bytes a function's memory has, once it is out
pub former_size : (f : Function) (bytes : List ℕ) → IsFormer f bytes → length bytes ≡ size_of f
former_size (Closed size) bytes is = is
former_size (Open s) bytes is = ap length is
