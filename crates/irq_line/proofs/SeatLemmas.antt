-- The seats of a line as they are made are of that line.
use Rattle.std.proofs.Common.{◌≡◌, ℕ, ◌<◌, suc, List, [], ◌∷◌, length, refl, sym, ap, ◌∙◌, subst}
use Rattle.std.specs.Prelude.{Option, Some, None, slice_get}
use Rattle.std.proofs.lemmas.List.Elements.{All-nil, All-cons}
use Rattle.std.proofs.lemmas.Option.{slice_get_within}
use Rattle.atomic_table.specs.Seated.{TableId}
use Rattle.irq_line.specs.Line.{AreSeatsOf, GuestEnd, new_guest}

-- the line of a seat, where there is one
abbrev seat_line : TableId → Option GuestEnd → TableId
seat_line line (Some seat) = seat.line
seat_line line None = line

each_seat : (line : TableId) (seats : List GuestEnd) → ((p : ℕ) (seat : GuestEnd) → slice_get seats p ≡ Some seat → seat.line ≡ line) → AreSeatsOf line seats
each_seat line [] each = All-nil (λ (seat : GuestEnd). seat.line ≡ line)
each_seat line (seat ∷ seats) each = All-cons (λ (s : GuestEnd). s.line ≡ line) seat seats (each 0 seat refl) (each_seat line seats (λ p s is. each (suc p) s is))

-- those of a line that was just made
pub made_seats : (line : TableId) (seats : List GuestEnd) → length seats ≡ 64 → ((p : ℕ) → p < 64 → slice_get seats p ≡ Some (record { line = line; view = new_guest p })) → AreSeatsOf line seats
made_seats line seats many made =
    each_seat line seats (λ p seat is.
    ap (seat_line line) (sym is ∙ made p (subst (λ (n : ℕ). p < n) many (slice_get_within seats p seat is))))
