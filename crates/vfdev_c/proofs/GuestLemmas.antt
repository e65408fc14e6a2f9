-- A device of guests: the events, and what stays of the other functions.
use Rattle.std.proofs.Common.{◌≡◌, ℕ, List, Bool, true, false, Some, nat_eq, refl, ap, subst}
use Rattle.device.specs.Events.{Event}
use Rattle.device.specs.Live.{TracedWorld, trace_of}
use Rattle.device.specs.Lone.{lone_of}
use Rattle.spare_memory.specs.Devices.{IsDeviceRemapped, LeavesTheOthers}
use Rattle.vfdev_c.specs.CardCalls.{number_if}
use Rattle.vfdev_c.specs.GuestDevices.{HeldGuests, with_device}
use Rattle.vfdev_c.specs.Handle.{Held}
use Rattle.vfdev_c.specs.Wanted.{Hands}
use Rattle.vfdev_c.specs.declared.handed.Handed.{Handed}
use Rattle.vfdev_c.specs.declared.handle_state.HandleState.TheVariants.{Guests, Lent}

-- the device that is led to, if it is one over lent blocks
abbrev lent_in : Held → TracedWorld → TracedWorld
lent_in (Some (Lent l)) other = l
lent_in held other = other

-- an event of the device under it is one of the device of guests
pub guests_hand : (seen old : HeldGuests) (new : TracedWorld) (e : Event) (handed : Handed) (before after : List ℕ) → seen ≡ old
    → Hands (Some (Lent seen.device)) e (Some (Lent new)) handed before after → Hands (Some (Guests old)) e (Some (Guests (with_device seen new))) handed before after
guests_hand seen old new e handed before after is hands =
    subst (λ (g : HeldGuests). Hands (Some (Guests g)) e (Some (Guests (with_device seen new))) handed before after) is record {
      gives = record {
        called = record {
          held = ap (λ (h : Held). Some (Guests (with_device seen (lent_in h new)))) hands.gives.called.held;
          replied = hands.gives.called.replied;
          isolated = hands.gives.called.isolated;
          once = hands.gives.called.once;
          listed = hands.gives.called.listed;
        };
        raises = hands.gives.raises;
      };
      left = hands.left;
      frame = hands.frame;
      bytes = hands.bytes;
    }

-- ---- what stays of the other functions

pub others_stay : (p : ℕ) (old new : TracedWorld) → new ≡ old → LeavesTheOthers p old new
others_stay p old new same = record {
  functions = λ q other. ap (λ (t : TracedWorld). lone_of q t.world) same;
  accesses = λ q other. ap (λ (t : TracedWorld). trace_of t.accesses q) same;
}

-- where a region came or went, each function but the one
pub remapped_alone : (p : ℕ) (old new : TracedWorld) → IsDeviceRemapped p old new → LeavesTheOthers p old new
remapped_alone p old new is = record { functions = λ q other. ap (lone_of q) is.world; accesses = is.elsewhere }

-- and where none did
pub remapped_itself : (p : ℕ) (old new : TracedWorld) → new ≡ old → IsDeviceRemapped p old new
remapped_itself p old new same = record {
  world = ap (λ (t : TracedWorld). t.world) same;
  elsewhere = λ q other. ap (λ (t : TracedWorld). trace_of t.accesses q) same;
}

-- ---- bursts

pub one_where_it_goes_on : (b : Bool) → nat_eq (number_if b) 1 ≡ b
one_where_it_goes_on true = refl
one_where_it_goes_on false = refl
