-- The interrupt line: for each of 64 pools a word, whose bit v is 1 while a message of vector v stands for the pool's guest.
-- The device raises messages and the guest takes them. What a seat did itself is its view, and the rule ties the words to
-- the views.
use Rattle.std.specs.Prelude.{◌≡◌, ℕ, ◌+◌, ◌-◌, ◌<◌, ◌≤◌, ◌==◌, if◌then◌else◌, ◌⊎◌, List, [], ◌∷◌, ◌++◌, filter, flat_map, length, slice_index, slice_index_or, bit_or}
use Rattle.std.specs.Int.{bit_at}
use Rattle.std.specs.List.{All, sum_by}
use Rattle.atomic_table.specs.Table.{State, Me, Step}
use Rattle.atomic_table.specs.Seated.{TableId}
use Rattle.irq_line.specs.declared.views.Raise.{Raise}
use Rattle.irq_line.specs.declared.views.GuestView.{GuestView}
use Rattle.irq_line.specs.declared.views.GuestRecord.{GuestRecord}
use Rattle.irq_line.specs.declared.views.View.{View}
use Rattle.irq_line.specs.declared.views.View.TheVariants.{Device, Guest, Both, Spent}

-- ---- what the views tell, for each pool and vector

-- a raise of a mask's vectors for a pool, and the word that it found
abbrev pub raise_of : ℕ → ℕ → ℕ → Raise
raise_of pool mask found = record { pool = pool; mask = mask; found = found }

-- 1 where the vector is in a mask that is raised for that very pool, else 0
abbrev pub bit_for : ℕ → ℕ → ℕ → ℕ → ℕ
bit_for pool vector raised_for mask = if raised_for == pool then bit_at mask vector else 0

-- how many raises of the vector for the pool were made
abbrev pub raised : ℕ → ℕ → List Raise → ℕ
raised pool vector raises = sum_by (λ r. bit_for pool vector r.pool r.mask) raises

-- how many of them landed: they found the bit clear
abbrev pub landed : ℕ → ℕ → List Raise → ℕ
landed pool vector raises = sum_by (λ r. bit_for pool vector r.pool r.mask - bit_at r.found vector) raises

-- how many takes answered the vector
abbrev pub answered : ℕ → List ℕ → ℕ
answered vector takes = sum_by (λ answer. bit_at answer vector) takes

-- each bit of the first number stands in the second
abbrev pub StandsIn : ℕ → ℕ → Type 0
StandsIn bits word = (vector : ℕ) → bit_at bits vector ≤ bit_at word vector

-- ---- what was done to a word, in one order

-- a raise, with the word that it found, or a take or a peek, with the word that it answered
pub data Deed : Type 0 where
  Raising : (raise : Raise) → Deed
  Taking : (answer : ℕ) → Deed
  Peeking : (answer : ℕ) → Deed

-- the raises of a story, in order
abbrev pub raises_in : List Deed → List Raise
raises_in [] = []
raises_in (Raising raise ∷ deeds) = raise ∷ raises_in deeds
raises_in (Taking answer ∷ deeds) = raises_in deeds
raises_in (Peeking answer ∷ deeds) = raises_in deeds

-- the answers of its takes, in order
abbrev pub takes_in : List Deed → List ℕ
takes_in [] = []
takes_in (Raising raise ∷ deeds) = takes_in deeds
takes_in (Taking answer ∷ deeds) = answer ∷ takes_in deeds
takes_in (Peeking answer ∷ deeds) = takes_in deeds

-- the answers of its peeks, in order
abbrev pub peeks_in : List Deed → List ℕ
peeks_in [] = []
peeks_in (Raising raise ∷ deeds) = peeks_in deeds
peeks_in (Taking answer ∷ deeds) = peeks_in deeds
peeks_in (Peeking answer ∷ deeds) = answer ∷ peeks_in deeds

-- the raises after its last take, or, where it has none, these and all of its own
abbrev pub raises_since : List Raise → List Deed → List Raise
raises_since raises [] = raises
raises_since raises (Raising raise ∷ deeds) = raises_since (raises ++ raise ∷ []) deeds
raises_since raises (Taking answer ∷ deeds) = raises_since [] deeds
raises_since raises (Peeking answer ∷ deeds) = raises_since raises deeds

-- replayed on one word, the deeds end in another: each found the word that stood, a raise added its vectors to it, a take left 0,
-- and a peek left it
abbrev pub Replays : ℕ → List Deed → ℕ → Type 0
Replays word [] last = word ≡ last
Replays word (Raising raise ∷ deeds) last = (raise.found ≡ word) × Replays (bit_or word raise.mask) deeds last
Replays word (Taking answer ∷ deeds) last = (answer ≡ word) × Replays 0 deeds last
Replays word (Peeking answer ∷ deeds) last = (answer ≡ word) × Replays word deeds last

-- the raises for a pool, in order
abbrev pub raises_for : ℕ → List Raise → List Raise
raises_for pool raises = filter (λ r. r.pool == pool) raises

-- the story of a pool's word
pub record IsStory (pool word : ℕ) (raises : List Raise) (guest : GuestRecord) (story : List Deed) : Type 0 where
  -- it has the raises for the pool and the takes and the peeks of its guest, each once and in order
  pub all_raises : raises_in story ≡ raises_for pool raises
  pub all_takes : takes_in story ≡ guest.did.takes
  pub all_peeks : peeks_in story ≡ guest.did.peeks
  -- a raise that the last take has not seen stands after it
  pub in_order : raises_for pool raises ≡ guest.seen ++ raises_since [] story
  -- replayed on 0, it ends in the word
  pub ends : Replays 0 story word

-- wherever a raise of the vector stands in a story, the vector stands in the word, or a take after the raise answered it
abbrev pub StandsOrTaken : ℕ → List Deed → ℕ → Type 0
StandsOrTaken vector story word =
    (before after : List Deed) (raise : Raise) → story ≡ before ++ Raising raise ∷ after → bit_at raise.mask vector ≡ 1
    → (bit_at word vector ≡ 1) ⊎ (0 < answered vector (takes_in after))

-- ---- the rule

-- the word of a pool
pub record IsWord (pool word : ℕ) (raises : List Raise) (guest : GuestRecord) : Type 0 where
  pub below : word < 8
  -- what was done to it, in one order
  pub story : List Deed
  pub told : IsStory pool word raises guest story
  -- each raise that landed was answered by a take of its own, but for the one whose bit stands
  pub balance : (v : ℕ) → landed pool v raises ≡ bit_at word v + answered v guest.did.takes
  pub at_most : (v : ℕ) → landed pool v raises ≤ raised pool v raises
  -- of the raises that were made, one landed at least
  pub at_least : (v : ℕ) → 0 < raised pool v raises → 0 < landed pool v raises
  -- what was peeked stands
  pub peeked : StandsIn guest.did.peeked word

-- a guest that has done nothing
abbrev pub new_guest : ℕ → GuestView
new_guest pool = record { pool = pool; takes = []; peeks = []; peeked = 0 }

-- what a guest's seat knows: what it did, and the raises that were made when it last took
abbrev pub record_of : GuestView → List Raise → GuestRecord
record_of guest seen = record { did = guest; seen = seen }

abbrev pub idle_guest : ℕ → GuestRecord
idle_guest pool = record_of (new_guest pool) []

-- what the guest of a pool knows, which has done nothing while it has no seat
abbrev pub guest_of : List GuestRecord → ℕ → GuestRecord
guest_of guests pool = slice_index_or guests pool (idle_guest pool)

-- what a seat knows as the device's: the raises, and how many guests have a seat
abbrev pub device_in : View → List (List Raise × ℕ)
device_in (Device raises seated) = (raises, seated) ∷ []
device_in (Guest guest) = []
device_in (Both raises seated guest) = (raises, seated) ∷ []
device_in Spent = []

-- what it knows as that of a pool's guest
abbrev pub guest_for : ℕ → View → List GuestRecord
guest_for pool (Device raises seated) = []
guest_for pool (Guest guest) = if guest.did.pool == pool then guest ∷ [] else []
guest_for pool (Both raises seated guest) = if guest.did.pool == pool then guest ∷ [] else []
guest_for pool Spent = []

-- the words, and the views in the order of the seats
abbrev pub LineState : Type 0
LineState = State (Unit {0}) View

-- the line between any two steps: one seat is the device's, each pool that was handed a seat has one, whichever they are, and each of
-- the 64 words fits the device's raises and what the pool's guest knows
pub record IsLine (line : LineState) : Type 0 where
  pub raises : List Raise
  pub guests : List GuestRecord
  pub device : flat_map device_in line.views ≡ (raises, length guests) ∷ []
  pub seats : (p : ℕ) → p < length guests → flat_map (guest_for p) line.views ≡ guest_of guests p ∷ []
  pub no_more : (p : ℕ) → length guests ≤ p → flat_map (guest_for p) line.views ≡ []
  pub pools : (p : ℕ) → (guest_of guests p).did.pool ≡ p
  pub size : length line.words ≡ 64
  pub words : (p : ℕ) → p < 64 → IsWord p (slice_index line.words p) raises (guest_of guests p)

-- ---- the kinds of step, each by the word that it finds and by what it makes of the view of its seat

-- a seat's view, beside the slots that it holds, which a line has none of
abbrev pub SeatState : Type 0
SeatState = Me (Unit {0}) View

-- what the view of the device's seat has; that of another seat has nothing of it
abbrev pub raises_of : View → List Raise
raises_of (Device raises seated) = raises
raises_of (Guest guest) = []
raises_of (Both raises seated guest) = raises
raises_of Spent = []

abbrev pub seated_of : View → ℕ
seated_of (Device raises seated) = seated
seated_of (Guest guest) = 0
seated_of (Both raises seated guest) = seated
seated_of Spent = 0

-- what the view of a guest's seat has; that of another seat is no pool's
abbrev pub guest_in : View → GuestRecord
guest_in (Device raises seated) = idle_guest 64
guest_in (Guest guest) = guest
guest_in (Both raises seated guest) = guest
guest_in Spent = idle_guest 64

-- a raise (`fetch_or` of a mask): the view has one raise more
abbrev pub IsRaise : Step (Unit {0}) → SeatState → ℕ → SeatState → Type 0
IsRaise step before found after =
    (found < 8)
    × (after ≡ (Device (raises_of before.0 ++ raise_of step.word step.first found ∷ []) (seated_of before.0), before.1))

-- a take (`swap` with 0): the view has one take more, which answered the word, and nothing is peeked any more. The seat knows the
-- raises that were made by then
abbrev pub after_take : GuestView → ℕ → GuestView
after_take guest answer = record guest { takes = guest.takes ++ answer ∷ []; peeked = 0 }

abbrev pub IsTake : Step (Unit {0}) → SeatState → ℕ → SeatState → Type 0
IsTake step before found after =
    (found < 8) × StandsIn (guest_in before.0).did.peeked found
    × ((seen : List Raise)
    × (after ≡ (Guest (record_of (after_take (guest_in before.0).did found) seen), before.1)))

-- a peek (`load`): the view has one peek more, which answered the word, and the bits of the word join the peeked ones
abbrev pub after_peek : GuestView → ℕ → GuestView
after_peek guest answer = record guest { peeks = guest.peeks ++ answer ∷ []; peeked = bit_or guest.peeked answer }

abbrev pub IsPeek : Step (Unit {0}) → SeatState → ℕ → SeatState → Type 0
IsPeek step before found after =
    (found < 8) × StandsIn (guest_in before.0).did.peeked found
    × (after ≡ (Guest (record (guest_in before.0) { did = after_peek (guest_in before.0).did found }), before.1))

-- while the line is made, the seat of the next pool is handed out, which touches no word
abbrev pub one_more_seated : View → View
one_more_seated view = Device (raises_of view) (seated_of view + 1)

abbrev pub next_guest : View → View
next_guest view = Guest (idle_guest (seated_of view))

-- the device's seat takes in a guest's
abbrev pub joined : View → View → View
joined device guest = Both (raises_of device) (seated_of device) (guest_in guest)

-- the seat that has both looks at the guest's word, which changes nothing, and is told the rule of that word
abbrev pub IsBeside : Step (Unit {0}) → SeatState → ℕ → SeatState → Type 0
IsBeside step before found after =
    (after ≡ before) × IsWord step.word found (raises_of before.0) (guest_in before.0)

-- and they are two again
abbrev pub device_alone : View → View
device_alone view = Device (raises_of view) (seated_of view)

abbrev pub guest_alone : View → View
guest_alone view = Guest (guest_in view)

-- ---- what contracts see of a seat: which line it is of, and its raises or its view

pub record DeviceEnd : Type 0 where
  pub line : TableId
  pub raises : List Raise

pub record GuestEnd : Type 0 where
  pub line : TableId
  pub view : GuestView

-- ---- the seats of one line

abbrev pub AreSeatsOf : TableId → List GuestEnd → Type 0
AreSeatsOf line seats = All (λ (seat : GuestEnd). seat.line ≡ line) seats
