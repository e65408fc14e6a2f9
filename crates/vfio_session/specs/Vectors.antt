-- Vectors of MSI-X get files, and lose them.
use Rattle.std.specs.Prelude.{ℕ, ◌+◌, ◌==◌, ◌&&◌, not, nat_le, nat_lt, Bool, true, false, List, [], ◌∷◌, slice_index_or, if◌then◌else◌}
use Rattle.vfio_user.specs.declared.errno.Errno.TheVariants.{Invalid, NotSupported}
use Rattle.vfio_user.specs.declared.header.Header.{Header}
use Rattle.vfio_user.specs.declared.request.Irqs.{Irqs}
use Rattle.vfio_user.specs.declared.request.Carried.{Carried}
use Rattle.vfio_user.specs.declared.request.Carried.TheVariants.{Nothing, Eventfds}
use Rattle.vfio_user.specs.declared.request.Action.{Action}
use Rattle.vfio_user.specs.declared.request.Action.TheVariants.{Mask, Unmask, Trigger}
use Rattle.vfio_session.specs.declared.decision.VectorRange.{VectorRange}
use Rattle.vfio_session.specs.declared.decision.Ask.TheVariants.{Arm, Disarm}
use Rattle.vfio_session.specs.declared.decision.Fate.TheVariants.{Closed, Vectors}
use Rattle.vfio_session.specs.declared.owed.Form.TheVariants.{Plain}
use Rattle.vfio_session.specs.Offered.{MSIX, VECTORS}
use Rattle.vfio_session.specs.Sessions.{SessionState, Received, refused, asked}

-- the vectors that a message names
abbrev pub vectors_in : Irqs → VectorRange
vectors_in i = record { first = i.start; count = i.count }

abbrev pub all_vectors : VectorRange
all_vectors = record { first = 0; count = VECTORS }

-- there is at least one, and the function has them all
abbrev pub are_there : VectorRange → Bool
are_there v = nat_lt 0 v.count && nat_le (v.first + v.count) VECTORS

abbrev pub is_among : ℕ → VectorRange → Bool
is_among k v = nat_le v.first k && nat_lt k (v.first + v.count)

-- whether vector k has a file, once those of a range have (on) or have none
abbrev pub armed_at : ℕ → VectorRange → Bool → List Bool → Bool
armed_at k v on armed = if is_among k v then on else slice_index_or armed k false

unfoldable pub armed_after : VectorRange → Bool → List Bool → List Bool
armed_after v on armed = armed_at 0 v on armed ∷ armed_at 1 v on armed ∷ armed_at 2 v on armed ∷ []

-- the session with these vectors armed, or disarmed
abbrev pub with_vectors : SessionState → VectorRange → Bool → SessionState
with_vectors s v on = record s { armed = armed_after v on s.armed }

-- ---- DEVICE_SET_IRQS (VFIO_USER_DEVICE_SET_IRQS)

-- with no data, only all vectors can be turned off; to trigger some by message is not offered
abbrev pub turned_off : SessionState → Header → Irqs → Received
turned_off s h i =
    if (i.start == 0) && (i.count == 0) then asked (with_vectors s all_vectors false) h Plain (Disarm all_vectors) Closed
    else refused s h NotSupported

-- a file for each vector, or none at all, by which they lose theirs
abbrev pub given_files : SessionState → Header → VectorRange → ℕ → Received
given_files s h v files =
    if not (are_there v) then refused s h Invalid
    else (if files == 0 then asked (with_vectors s v false) h Plain (Disarm v) Closed
    else (if files == v.count then asked (with_vectors s v true) h Plain (Arm v) (Vectors v.first)
    else refused s h Invalid))

abbrev pub carried : SessionState → Header → Irqs → ℕ → Carried → Received
carried s h i files Nothing = turned_off s h i
carried s h i files Eventfds = given_files s h (vectors_in i) files

-- a vector can't be masked by message: the guest does so in the table of MSI-X, which its hypervisor keeps
abbrev pub acted_on : SessionState → Header → Irqs → ℕ → Action → Received
acted_on s h i files Mask = refused s h NotSupported
acted_on s h i files Unmask = refused s h NotSupported
acted_on s h i files Trigger = carried s h i files i.carried

-- of the types of interrupts only MSI-X has any
unfoldable pub set : SessionState → Header → Irqs → ℕ → Received
set s h i files = if i.index == MSIX then acted_on s h i files i.action else refused s h Invalid
