-- What a call over a device of guests leaves of it, and what it answers.
use Rattle.std.specs.Prelude.{◌≡◌, ◌≢◌, ℕ, ◌≤◌, ◌||◌, ◌⊎◌, Bool, true, false, not, nat_eq, nat_lt, List, [], ◌∷◌, length, replicate, set, slice_index, slice_set, Option, Some, None, if◌then◌else◌}
use Rattle.irq_causes.specs.Messages.{no_messages}
use Rattle.vf_unit.specs.Unit.{size_of}
use Rattle.vf_unit.specs.declared.registers.Queue.{Queue}
use Rattle.device.specs.Guests.{attach_refusal, attached, detached, is_vacant}
use Rattle.device.specs.World.{function_of}
use Rattle.live_run.specs.Arrivals.{IsWireBurst}
use Rattle.live_run.specs.Bursts.{IsBurst}
use Rattle.live_run.specs.Frames.{has_room}
use Rattle.spare_memory.specs.Devices.{IsDeviceRemapped, LeavesTheOthers}
use Rattle.spare_memory.specs.Refused.{no_guest, without_place}
use Rattle.vfdev_c.specs.CardCalls.{IsMapAnswer, IsUnmapAnswer, emptied, fault_number}
use Rattle.vfdev_c.specs.GuestDevices.{HeldGuests, are_all_mapped, meets_another, without_function, without_mapped_at}
use Rattle.vfdev_c.specs.Handle.{Held, queue_of}
use Rattle.vfdev_c.specs.Spans.{span}
use Rattle.vfdev_c.specs.declared.guest_bursts.VfdevBurst.{VfdevBurst}
use Rattle.vfdev_c.specs.declared.handle_state.HandleState.TheVariants.{Guests}
use Rattle.vfdev_c.specs.declared.wired.VfdevWired.{VfdevWired}

-- what a call answers of a device of guests, and what it answers where the handle leads to none
abbrev pub of_guests : {A : Type 0} → Held → A → (HeldGuests → A) → A
of_guests (Some (Guests g)) none f = f g
of_guests held none f = none

-- the handle leads to a device of guests of which this is so
abbrev pub LeadsToGuests : (HeldGuests → Type 0) → Held → Type 0
LeadsToGuests is (Some (Guests g)) = is g
LeadsToGuests is held = ⊥

-- this is so of a device of guests before and after a call and of the answer; where the handle leads to none, nothing changes and this is
-- answered
abbrev pub OnGuests : {A : Type 0} → A → (HeldGuests → HeldGuests → A → Type 0) → Held → Held → A → Type 0
OnGuests none r (Some (Guests g)) (Some (Guests h)) answer = r g h answer
OnGuests none r (Some (Guests g)) other answer = ⊥
OnGuests none r held other answer = (other ≡ held) × (answer ≡ none)

-- every function but p's is as it was
abbrev pub OtherGuestsStay : ℕ → Held → Held → Type 0
OtherGuestsStay p (Some (Guests g)) (Some (Guests h)) = LeavesTheOthers p g.device h.device
OtherGuestsStay p held other = Unit

-- ---- guests

-- a guest came: it has as many addresses as the spare memory, of which none is mapped
pub record GuestComes (p : ℕ) (g h : HeldGuests) (answer : ℕ) : Type 0 where
  pub answered : answer ≡ fault_number (attach_refusal g.device.world p (slice_index g.spares p))
  pub came : answer ≡ 0 → h.device.world ≡ attached g.device.world p (replicate (slice_index g.spares p) 0)
  pub untouched : answer ≡ 0 → h.device.accesses ≡ set g.device.accesses p []
  pub spares : answer ≡ 0 → h.spares ≡ slice_set g.spares p 0
  pub refused : answer ≢ 0 → (h.device ≡ g.device) × (h.spares ≡ g.spares)
  pub frames : h.frames ≡ g.frames
  pub blocks : h.blocks ≡ g.blocks

-- nobody is there to go: the function is vacant, or its spare memory has bytes, which only a vacant function's has
abbrev pub no_guest_goes : ℕ → HeldGuests → Bool
no_guest_goes p g = is_vacant g.device.world p || not (nat_eq (slice_index g.spares p) 0)

-- a guest went: its function is vacant, and its blocks are mapped no more
pub record GuestGoes (p : ℕ) (g h : HeldGuests) (answer : ℕ) : Type 0 where
  pub answered : answer ≡ (if nat_lt p 64 then (if no_guest_goes p g then 2 else 0) else 1)
  pub went : answer ≡ 0 → h.device.world ≡ detached g.device.world p
  pub untouched : answer ≡ 0 → h.device.accesses ≡ set g.device.accesses p []
  pub spares : answer ≡ 0 → h.spares ≡ slice_set g.spares p (size_of (function_of p g.device.world))
  pub blocks : h.blocks ≡ (if nat_eq answer 0 then without_function p g.blocks else g.blocks)
  pub refused : answer ≢ 0 → (h.device ≡ g.device) × (h.spares ≡ g.spares)
  pub frames : h.frames ≡ g.frames

-- regions of a function's memory came or went, or they didn't: all that the device knows stays as it is
pub record RemapsGuest (p : ℕ) (g h : HeldGuests) : Type 0 where
  pub device : IsDeviceRemapped p g.device h.device
  pub spares : h.spares ≡ g.spares
  pub frames : h.frames ≡ g.frames

-- a block of so many bytes from a host's address on is mapped for a function from a guest's address on. One with a byte of a block that is
-- mapped for another function is refused as such, whatever else holds
pub record MapsBlock (p at address count : ℕ) (g h : HeldGuests) (answer : ℕ) : Type 0 where
  pub anothers : meets_another p (span address count) g.blocks ≡ true → answer ≡ 36
  pub many : meets_another p (span address count) g.blocks ≡ false → are_all_mapped g.blocks ≡ true → answer ≡ 33
  pub answered : meets_another p (span address count) g.blocks ≡ false → are_all_mapped g.blocks ≡ false
      → IsMapAnswer (without_place (no_guest g.device.world p) at count) answer
  pub blocks : h.blocks ≡ (if nat_eq answer 0 then record { function = p; at = at; span = span address count } ∷ g.blocks else g.blocks)
  pub remaps : RemapsGuest p g h

pub record UnmapsBlock (p at : ℕ) (g h : HeldGuests) (answer : ℕ) : Type 0 where
  pub answered : IsUnmapAnswer (no_guest g.device.world p) answer
  pub blocks : h.blocks ≡ (if nat_eq answer 0 then without_mapped_at p at g.blocks else g.blocks)
  pub remaps : RemapsGuest p g h

-- ---- bursts

abbrev pub none_taken : VfdevBurst
none_taken = record { taken = 0; frames = 0; goes_on = 0 }

-- where there is such a queue, services of it one after another, and else none
abbrev pub IsServed : Option Queue → ℕ → HeldGuests → HeldGuests → VfdevBurst → List ℕ → Type 0
IsServed (Some q) p g h done raised =
    IsBurst true p q g.device (emptied g.frames) h.device h.frames (record { taken = done.taken; messages = raised; goes_on = nat_eq done.goes_on 1 })
IsServed None p g h done raised = (h.device ≡ g.device) × (h.frames ≡ emptied g.frames) × (done.taken ≡ 0) × (done.goes_on ≡ 0) × (raised ≡ no_messages)

-- a burst of at most so many services, and the messages of all of them. It ended since the queue has no more, or for one of two reasons
pub record ServesBurst (p queue most : ℕ) (g h : HeldGuests) (answer : VfdevBurst × List ℕ) : Type 0 where
  pub served : IsServed (queue_of queue) p g h answer.0 answer.1
  pub few : answer.0.taken ≤ most
  pub flag : answer.0.goes_on ≤ 1
  pub why : answer.0.goes_on ≡ 1 → (answer.0.taken ≡ most) ⊎ (has_room h.frames ≡ false)
  pub frames : answer.0.frames ≡ length h.frames.frames
  pub spares : h.spares ≡ g.spares
  pub blocks : h.blocks ≡ g.blocks

-- frames came one after another, by where they lie and end, with the messages of all of them
pub record WiresBurst (ends bytes : List ℕ) (g h : HeldGuests) (answer : VfdevWired × List ℕ) : Type 0 where
  pub came : IsWireBurst true g.device ends bytes h.device (record { taken = answer.0.taken; refused = answer.0.refused; messages = answer.1 })
  pub spares : h.spares ≡ g.spares
  pub frames : h.frames ≡ g.frames
  pub blocks : h.blocks ≡ g.blocks
