-- What contracts see of a guest's port.
use Rattle.std.specs.Prelude.{ℕ, Bool, true, false, List, [], ◌∷◌, ◌++◌, if◌then◌else◌, bit_or}
use Rattle.irq_line.specs.Line.{GuestEnd, after_take, after_peek}
use Rattle.guest_port.specs.Notes.{Known, having_found}

pub record Port : Type 0 where
  pub pool : ℕ
  -- it has not ended
  pub is_open : Bool
  -- its tokens were handed back
  pub is_closed : Bool
  -- its own note of its end; once it is closed, as it was handed back
  pub note : Known
  -- its seat on the interrupt line; once it is closed, as it was handed back
  pub seat : GuestEnd
  -- the messages that it took: the answers of its takes, in order
  pub taken : List ℕ
  -- the answers of its peeks, in order
  pub peeks : List ℕ
  -- the bits that its peeks answered since its last take: they stand until it takes them
  pub peeked : ℕ

-- a seat after one take, and after one peek
abbrev pub seat_taken : GuestEnd → ℕ → GuestEnd
seat_taken seat answer = record seat { view = after_take seat.view answer }

abbrev pub seat_peeked : GuestEnd → ℕ → GuestEnd
seat_peeked seat answer = record seat { view = after_peek seat.view answer }

-- a port that was just made, with a note and a seat
abbrev pub new_port : ℕ → Known → GuestEnd → Port
new_port pool note seat = record { pool = pool; is_open = true; is_closed = false; note = note; seat = seat; taken = []; peeks = []; peeked = 0 }

-- after a take, which counts until the port is closed
abbrev pub having_taken : Port → ℕ → Port
having_taken port answer = record port {
  seat = if port.is_closed then port.seat else seat_taken port.seat answer;
  taken = if port.is_closed then port.taken else (port.taken ++ answer ∷ []);
  peeked = if port.is_closed then port.peeked else 0;
}

-- after a peek, which counts until the port is closed
abbrev pub having_peeked : Port → ℕ → Port
having_peeked port answer = record port {
  seat = if port.is_closed then port.seat else seat_peeked port.seat answer;
  peeks = if port.is_closed then port.peeks else (port.peeks ++ answer ∷ []);
  peeked = if port.is_closed then port.peeked else bit_or port.peeked answer;
}

-- after its end, which its note knows
abbrev pub ended : Port → Port
ended port = record port { is_open = false; note = having_found port.note }

-- after its close
abbrev pub closed : Port → Port
closed port = record port { is_open = false; is_closed = true; note = having_found port.note }
