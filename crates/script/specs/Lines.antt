-- What the lines of a script say: the table of its language.
use Rattle.std.specs.Prelude.{◌≡◌, ℕ, List, [], ◌∷◌, ◌++◌, Option, Some, None, option_and_then, if◌then◌else◌}
use Rattle.wire_frame.specs.Frame.{is_frame}
use Rattle.device.specs.Events.{Event}
use Rattle.device.specs.declared.event.Event.TheVariants.{Open, End, VfRead, VfWrite, MemRead, MemWrite, Serve, Flr, PfRead, PfWrite, PfReset, Wire}
use Rattle.script.specs.declared.kind.Kind.{Kind}
use Rattle.script.specs.declared.kind.Kind.TheVariants.{Open, End, VfRead, VfWrite, MemRead, MemWrite, Serve, Flr, PfRead, PfWrite, PfReset, Wire}
use Rattle.script.specs.Bytes.{bytes_of, few}
use Rattle.script.specs.Words.{address_of, length_of, none_of, one_of, pool_of, queue_of, register_of, three_of, two_of}

-- bytes that are a frame no longer than the limit
abbrev pub framed : ℕ → List ℕ → Option (List ℕ)
framed limit bytes = if is_frame limit bytes then Some bytes else None

-- what follows, where a word is read
infixl 10 ◌>>=◌
abbrev pub ◌>>=◌ : {A B : Type 0} → Option A → (A → Option B) → Option B
read >>= next = option_and_then next read

-- the event of a line by its kind and the words after its name, where frames may be as long as the limit
abbrev pub event_by : ℕ → Kind → List (List ℕ) → Option Event
event_by limit Open words = do
  pool ← one_of words
  p ← pool_of pool
  Some (Open p)
event_by limit End words = do
  pool ← one_of words
  p ← pool_of pool
  Some (End p)
event_by limit Flr words = do
  pool ← one_of words
  p ← pool_of pool
  Some (Flr p)
event_by limit VfRead words = do
  (pool, offset) ← two_of words
  p ← pool_of pool
  at ← register_of offset
  Some (VfRead p at)
event_by limit VfWrite words = do
  (pool, (offset, value)) ← three_of words
  p ← pool_of pool
  at ← register_of offset
  x ← register_of value
  Some (VfWrite p at x)
event_by limit MemRead words = do
  (pool, (address, count)) ← three_of words
  p ← pool_of pool
  at ← address_of address
  n ← length_of count
  Some (MemRead p at n)
event_by limit MemWrite words = do
  (pool, (address, hex)) ← three_of words
  p ← pool_of pool
  at ← address_of address
  read ← bytes_of hex
  bytes ← few 2048 read
  Some (MemWrite p at bytes)
event_by limit Serve words = do
  (pool, queue) ← two_of words
  p ← pool_of pool
  q ← queue_of queue
  Some (Serve p q)
event_by limit PfRead words = do
  offset ← one_of words
  at ← register_of offset
  Some (PfRead at)
event_by limit PfWrite words = do
  (offset, value) ← two_of words
  at ← register_of offset
  x ← register_of value
  Some (PfWrite at x)
event_by limit PfReset words = do
  _ ← none_of words
  Some PfReset
event_by limit Wire words = do
  hex ← one_of words
  read ← bytes_of hex
  frame ← framed limit read
  Some (Wire frame)

-- the events grew by the one that was read
abbrev pub Says : Option Event → List Event → List Event → Type 0
Says read old new = (event : Event) × ((read ≡ Some event) × (new ≡ old ++ event ∷ []))
