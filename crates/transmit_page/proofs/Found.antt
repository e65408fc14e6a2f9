-- Each register is found at its offset.
use Rattle.std.proofs.Common.{◌≡◌, ℕ, Bool, true, false, eqb, List, [], ◌∷◌, Option, Some, None, refl, subst}
use Rattle.std.proofs.lemmas.Bool.{eqb-true}
use Rattle.std.specs.Prelude.{if◌then◌else◌}
use Rattle.transmit_page.specs.declared.words.TransmitRegister.{TransmitRegister}
use Rattle.transmit_page.specs.declared.words.TransmitRegister.TheVariants.{BaseLow, BaseHigh, Length, Head, WriteBackLow, WriteBackHigh, Control, Tail}
use Rattle.transmit_page.specs.Words.{offset_of, found_in, registers, register_at}

pub found_first : (r : TransmitRegister) → register_at (offset_of 0 r) ≡ Some (0, r)
unfolding register_at
found_first BaseLow = refl
found_first BaseHigh = refl
found_first Length = refl
found_first Head = refl
found_first WriteBackLow = refl
found_first WriteBackHigh = refl
found_first Control = refl
found_first Tail = refl

pub found_second : (r : TransmitRegister) → register_at (offset_of 1 r) ≡ Some (1, r)
unfolding register_at
found_second BaseLow = refl
found_second BaseHigh = refl
found_second Length = refl
found_second Head = refl
found_second WriteBackLow = refl
found_second WriteBackHigh = refl
found_second Control = refl
found_second Tail = refl

-- ---- and only there

-- what is found stands there
abbrev StandsAt : ℕ → Option (ℕ × TransmitRegister) → Type 0
StandsAt offset None = Unit {0}
StandsAt offset (Some place) = offset ≡ offset_of place.0 place.1

stands : (rs : List TransmitRegister) (queue offset : ℕ) (elsewhere : Option (ℕ × TransmitRegister)) → StandsAt offset elsewhere → StandsAt offset (found_in rs queue offset elsewhere)
stands [] queue offset elsewhere there = there
stands (r ∷ rs) queue offset elsewhere there = by_test (eqb offset (offset_of queue r)) refl (stands rs queue offset elsewhere there)
  where
    by_test : (b : Bool) → eqb offset (offset_of queue r) ≡ b → StandsAt offset (found_in rs queue offset elsewhere)
        → StandsAt offset (if b then Some (queue, r) else found_in rs queue offset elsewhere)
    by_test true is rest = eqb-true offset (offset_of queue r) is
    by_test false is rest = rest

found_at : (offset : ℕ) → StandsAt offset (register_at offset)
unfolding register_at
found_at offset = stands registers 0 offset (found_in registers 1 offset None) (stands registers 1 offset None tt)

pub found_only : (offset queue : ℕ) (r : TransmitRegister) → register_at offset ≡ Some (queue, r) → offset ≡ offset_of queue r
found_only offset queue r is = subst (StandsAt offset) is (found_at offset)
