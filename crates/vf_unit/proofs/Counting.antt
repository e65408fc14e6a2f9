-- A frame that comes to an open function is counted once.
use Rattle.std.proofs.Common.{◌≡◌, Bool, true, false, List, ℕ, refl, sym, subst}
use Rattle.std.specs.Prelude.{if◌then◌else◌}
use Rattle.live_memory.specs.Trace.{Access}
use Rattle.rx_desc.specs.declared.placing.Placed.{Placed}
use Rattle.rx_desc.specs.declared.placing.Placed.TheVariants.{Put, NoRoom, Faulted}
use Rattle.rx_desc.specs.Receive.{Delivery, deliver}
use Rattle.vf_unit.specs.Counts.{CountsOnce, IsPlaced, HasNoRoom, StopsQueue, lost_placing}
use Rattle.vf_unit.specs.Function.{State, counted, after_placing, places_none, receive_config, unplaced, told, delivered}
use Rattle.vf_unit.specs.Unit.{Open, counts_of}

-- by what became of it
by_placing : (p : Placed) (s : State) → CountsOnce (counts_of (Open s)) (counts_of (Open (record s { frames_received = counted p s.frames_received; losses = lost_placing p s.losses })))
by_placing Put s = IsPlaced refl
by_placing NoRoom s = HasNoRoom refl
by_placing Faulted s = StopsQueue refl

by_room : (none : Bool) (s : State) (d : Delivery) → CountsOnce (counts_of (Open s)) (counts_of (Open (if none then unplaced s else after_placing s d).state))
by_room true s d = HasNoRoom refl
by_room false s d = by_placing d.placed s

delivered_once : (loopback : Bool) (frame : List ℕ) (s : State) → CountsOnce (counts_of (Open s)) (counts_of (Open (delivered loopback frame s).state))
unfolding delivered
delivered_once loopback frame s = by_room (places_none s) s (deliver (receive_config s) loopback frame s.memory s.receive_0.ring)

-- the memory that was met has no part in it
pub state_once : (loopback : Bool) (frame : List ℕ) (before now : List Access) (s after : State) → after ≡ (delivered loopback frame (told before now s)).state → CountsOnce (counts_of (Open s)) (counts_of (Open after))
state_once loopback frame before now s after is =
    subst (λ (x : State). CountsOnce (counts_of (Open s)) (counts_of (Open x))) (sym is) (delivered_once loopback frame (told before now s))
