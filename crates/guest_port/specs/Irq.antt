-- What contracts see of a port over a seat of the interrupt line.
use Rattle.std.specs.Prelude.{◌≡◌, ℕ, ◌<◌, ◌≤◌, true, drop, take, length, IfSome, None, is_none, is_some}
use Rattle.irq_line.specs.Line.{GuestEnd}
use Rattle.guest_port.specs.declared.irq_port.IrqPort.TheInside.{Inside}
use Rattle.guest_port.specs.Notes.{new_note}
use Rattle.guest_port.specs.Port.{Port, new_port, having_taken, having_peeked, ended, closed}

pub record SeatedPort : Type 0 where
  -- what any port has
  pub port : Port
  -- the seat as it was when the port was made
  pub made : GuestEnd

-- a port that was just made over the seat
abbrev pub seated : ℕ → ℕ → GuestEnd → SeatedPort
seated pool note seat = record { port = new_port pool (new_note note) seat; made = seat }

-- after a take, a peek, the end and the close
abbrev pub irq_taken : SeatedPort → ℕ → SeatedPort
irq_taken p answer = record p { port = having_taken p.port answer }

abbrev pub irq_peeked : SeatedPort → ℕ → SeatedPort
irq_peeked p answer = record p { port = having_peeked p.port answer }

abbrev pub irq_ended : SeatedPort → SeatedPort
irq_ended p = record p { port = ended p.port }

abbrev pub irq_closed : SeatedPort → SeatedPort
irq_closed p = record p { port = closed p.port }

-- ---- what the fields of a port mean

abbrev pub seated_of : Inside → SeatedPort
seated_of s = record {
  port = record {
    pool = s.pool;
    is_open = is_some s.mark;
    is_closed = is_none s.tokens;
    note = s.last.value.note;
    seat = s.last.value.seat;
    taken = drop (length s.made.value.view.takes) s.last.value.seat.view.takes;
    peeks = drop (length s.made.value.view.peeks) s.last.value.seat.view.peeks;
    peeked = s.last.value.seat.view.peeked;
  };
  made = s.made.value;
}

-- the tokens are those that were last seen, of this pool. A port without tokens or without a mark has ended, and its note
-- knows so. What the seat had taken when the port was made is the beginning of what it has taken, and so with what it peeked
pub record Sound (s : Inside) : Type 0 where
  pub tokens : IfSome s.tokens (λ t. t ≡ s.last.value)
  pub pool : s.last.value.seat.view.pool ≡ s.pool
  pub below : s.pool < 64
  pub closed : s.tokens ≡ None → s.mark ≡ None
  pub ended : s.mark ≡ None → s.last.value.note.found ≡ true
  pub since : length s.made.value.view.takes ≤ length s.last.value.seat.view.takes
  pub begins : take (length s.made.value.view.takes) s.last.value.seat.view.takes ≡ s.made.value.view.takes
  pub peeks_since : length s.made.value.view.peeks ≤ length s.last.value.seat.view.peeks
  pub peeks_begin : take (length s.made.value.view.peeks) s.last.value.seat.view.peeks ≡ s.made.value.view.peeks
