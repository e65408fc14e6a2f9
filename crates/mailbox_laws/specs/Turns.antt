-- A device and a host of mailboxes beside it, which alone writes to the registers of the physical function.
use Rattle.std.specs.Prelude.{◌≡◌, ℕ, ◌<◌, Bool, true, false, ◌||◌, List, [], ◌∷◌, ◌++◌, map, ◌==◌, is_none, Option, if◌then◌else◌}
use Rattle.std.specs.List.{cons_option}
use Rattle.device.specs.Events.{Event}
use Rattle.device.specs.declared.event.Event.TheVariants.{PfWrite, PfReset}
use Rattle.device.specs.World.{World, world_after}
use Rattle.device.specs.Lone.{Item, kept, keep}
use Rattle.mailbox.specs.declared.message.Message.{Message}
use Rattle.mailbox.specs.declared.writes.Write.{Write}
use Rattle.mailbox.specs.declared.policy.Policy.{Policy}
use Rattle.mailbox.specs.Address.{number_of, is_number}
use Rattle.mailbox.specs.State.{HostState, holder}
use Rattle.mailbox.specs.Host.{host_after, host_without, host_dismissing, refusal, host_freed, host_admitting}
use Rattle.mailbox.specs.Writes.{writes_after, writes_without, writes_dismissing, writes_freeing, writes_under}

-- the device has an event; the host answers a message of a pool's driver; it forgets what a pool's guest asked for; the
-- administrator gives a pool's function a policy; it takes its policy away
pub data Turn : Type 0 where
  Happens : (event : Event) → Turn
  Answers : (pool : ℕ) → (message : Message) → Turn
  Forgets : (pool : ℕ) → Turn
  Admits : (pool : ℕ) → (policy : Policy) → Turn
  Dismisses : (pool : ℕ) → Turn

-- the writes of a policy, where it is taken: first those of the function that loses an address
abbrev pub writes_taken : HostState → ℕ → Policy → List Write
writes_taken h p policy =
    writes_freeing h p (number_of policy.address) ++ writes_under (host_freed h p (number_of policy.address)) p policy

abbrev pub writes_admitting : HostState → ℕ → Policy → List Write
writes_admitting h p policy = if is_none (refusal h p policy) then writes_taken h p policy else []

-- the policy is pool q's, or takes an address from it
abbrev pub concerns : HostState → ℕ → Policy → ℕ → Bool
concerns h p policy q = p == q || is_number (holder h p (number_of policy.address)) q

-- the event changes registers of the physical function
abbrev pub sets_registers : Event → Bool
sets_registers (PfWrite offset x) = true
sets_registers PfReset = true
sets_registers _ = false

-- the registers of the physical function are the host's alone to change
abbrev pub IsTurn : Turn → Type 0
IsTurn (Happens e) = sets_registers e ≡ false
IsTurn (Answers p message) = p < 64
IsTurn (Forgets p) = p < 64
IsTurn (Admits p policy) = p < 64
IsTurn (Dismisses p) = p < 64

-- the device does writes in their order
abbrev pub write_event : Write → Event
write_event w = PfWrite w.offset w.value

abbrev pub write_events : List Write → List Event
write_events ws = map write_event ws

-- the host after a turn, and what the device does in it
abbrev pub host_of : HostState → Turn → HostState
host_of h (Happens e) = h
host_of h (Answers p message) = host_after h p message
host_of h (Forgets p) = host_without h p
host_of h (Admits p policy) = host_admitting h p policy
host_of h (Dismisses p) = host_dismissing h p

abbrev pub events_in : HostState → Turn → List Event
events_in h (Happens e) = e ∷ []
events_in h (Answers p message) = write_events (writes_after h p message)
events_in h (Forgets p) = write_events (writes_without h p)
events_in h (Admits p policy) = write_events (writes_admitting h p policy)
events_in h (Dismisses p) = write_events (writes_dismissing h p)

-- all turns, one after another
abbrev pub host_at_end : HostState → List Turn → HostState
host_at_end h [] = h
host_at_end h (t ∷ ts) = host_at_end (host_of h t) ts

abbrev pub events_of : HostState → List Turn → List Event
events_of h [] = []
events_of h (t ∷ ts) = events_in h t ++ events_of (host_of h t) ts

-- what a turn leaves for pool q: a message, a reset or a dismissal of another pool leaves nothing, and its policy neither, unless
-- it takes an address from pool q
abbrev pub kept_in : ℕ → HostState → World → Turn → List Item
kept_in q h w (Happens e) = cons_option (kept q w e) []
kept_in q h w (Answers p message) = if p == q then keep q w (write_events (writes_after h p message)) else []
kept_in q h w (Forgets p) = if p == q then keep q w (write_events (writes_without h p)) else []
kept_in q h w (Admits p policy) = if concerns h p policy q then keep q w (write_events (writes_admitting h p policy)) else []
kept_in q h w (Dismisses p) = if p == q then keep q w (write_events (writes_dismissing h p)) else []

abbrev pub kept_of_turns : ℕ → HostState → World → List Turn → List Item
kept_of_turns q h w [] = []
kept_of_turns q h w (t ∷ ts) = kept_in q h w t ++ kept_of_turns q (host_of h t) (world_after w (events_in h t)) ts
