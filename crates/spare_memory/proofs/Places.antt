-- What a guest's memory says of a region, and what can be said whatever is mapped.
use Rattle.std.proofs.Common.{◌≡◌, ◌+◌, ℕ, Bool, true, false, Option, Some, None, length, nat_le, nat_lt, true≢false, refl, sym, ap, ◌∙◌, subst}
use Rattle.std.specs.List.{list_any}
use Rattle.std.specs.Prelude.{◌==◌, if◌then◌else◌}
use Rattle.mapped_memory.specs.Mapping.{is_met, refusal}
use Rattle.mapped_memory.specs.Regions.{Regions}
use Rattle.mapped_memory.specs.declared.map_error.MapError.{MapError}
use Rattle.mapped_memory.specs.declared.map_error.MapError.TheVariants.{NoBytes, PastEnd, Overlaps, TooMany}
use Rattle.spare_memory.specs.Refused.{IsWhy, without_place}
use Rattle.spare_memory.specs.Spares.{SPACE}
use Rattle.spare_memory.specs.declared.regions.NotMapped.{NotMapped}
use Rattle.spare_memory.specs.declared.regions.NotMapped.TheVariants.{Refused}

-- the reasons, by what holds of the region: it is empty, it passes the end, it meets another, there are too many
abbrev refused_by : Bool → Bool → Bool → Bool → Option MapError
refused_by empty past meets many = if empty then Some NoBytes else (if past then Some PastEnd else (if meets then Some Overlaps else (if many then Some TooMany else None)))

abbrev placed_by : Bool → Bool → Option NotMapped
placed_by empty past = if empty then Some (Refused NoBytes) else (if past then Some (Refused PastEnd) else None)

abbrev is_some_of : Option MapError → Bool
is_some_of (Some why) = true
is_some_of None = false

placed : (empty past meets many : Bool) → refused_by empty past meets many ≡ None → placed_by empty past ≡ None
placed true past meets many none = absurd (true≢false (ap is_some_of none))
placed false true meets many none = absurd (true≢false (ap is_some_of none))
placed false false meets many none = refl

abbrev IsWhyOf : Option NotMapped → Option MapError → Type 0
IsWhyOf due (Some why) = IsWhy due (Refused why)
IsWhyOf due None = Unit {0}

each_why : (empty past meets many : Bool) → IsWhyOf (placed_by empty past) (refused_by empty past meets many)
each_why true past meets many = refl
each_why false true meets many = refl
each_why false false true many = tt
each_why false false false true = tt
each_why false false false false = tt

by_size : (m : Regions) (at count : ℕ) → length m.seen ≡ SPACE → without_place None at count ≡ placed_by (count == 0) (nat_lt (length m.seen) (at + count))
by_size m at count size = ap (λ (n : ℕ). placed_by (count == 0) (nat_lt n (at + count))) (sym size)

pub has_place : (m : Regions) (at count : ℕ) → length m.seen ≡ SPACE → refusal m at count ≡ None → without_place None at count ≡ None
has_place m at count size none = by_size m at count size ∙ placed (count == 0) (nat_lt (length m.seen) (at + count)) (list_any (is_met at count) m.parts) (nat_le 64 (length m.parts)) none

pub has_why : (m : Regions) (at count : ℕ) (why : MapError) → length m.seen ≡ SPACE → refusal m at count ≡ Some why → IsWhy (without_place None at count) (Refused why)
has_why m at count why size is =
    subst (λ (due : Option NotMapped). IsWhy due (Refused why)) (sym (by_size m at count size))
    (subst (IsWhyOf (placed_by (count == 0) (nat_lt (length m.seen) (at + count)))) is
    (each_why (count == 0) (nat_lt (length m.seen) (at + count)) (list_any (is_met at count) m.parts) (nat_le 64 (length m.parts))))
