-- What a frame ends as, where its first bytes are lent.
use Rattle.std.specs.Prelude.{ℕ, List, take}
use Rattle.std.specs.Borrow.{Lends, MutBor, Fml, Array, u8 as byte}
use Rattle.std.specs.List.{refill}
use Rattle.wire_frame.specs.contracts.frame.FrameBuf.{the_row}

-- once the borrow ends, the frame is the bytes that it shows last, as many as were lent
abbrev pub lends_first : MutBor (List ℕ) → ℕ → MutBor (List ℕ) → Fml
lends_first frame count lent = Lends the_row (Array byte 0) frame lent (refill count (take count frame.now))
