-- A device whose physical function is driven by a host of mailboxes.
use Rattle.std.specs.Prelude.{◌≡◌, ◌≢◌, false, ℕ, ◌<◌, ◌≤◌, List, Option, length, replicate, slice_index_or}
use Rattle.device.specs.Live.{TracedWorld}
use Rattle.device.specs.Lone.{lone_of}
use Rattle.offload.specs.declared.offloads.Offloads.{Offloads}
use Rattle.device.specs.declared.profile.Profile.{Profile}
use Rattle.device.specs.World.{World, fresh_with, world_after}
use Rattle.mailbox.specs.Mailbox.{MailboxState, blank}
use Rattle.mailbox.specs.declared.slot.Slot.TheVariants.{Absent}
use Rattle.mailbox.specs.Start.{first_writes}
use Rattle.mailbox.specs.State.{HostState, slot_at}
use Rattle.mailbox.specs.Within.{IsWithin}
use Rattle.mailbox.specs.Words.{settings_of}
use Rattle.mailbox.specs.declared.policy.Policy.{Policy}
use Rattle.mailbox_laws.specs.Turns.{Turn, concerns, events_of, host_at_end, write_events}

-- the device, the host, and the mailbox of each function, by its pool
pub record HostedState : Type 0 where
  pub device : TracedWorld
  pub host : HostState
  pub mailboxes : List MailboxState

abbrev pub mailbox_at : HostedState → ℕ → MailboxState
mailbox_at h p = slice_index_or h.mailboxes p blank

-- the same over another world
abbrev pub with_world : HostedState → World → HostedState
with_world h w = record { device = record { world = w; accesses = h.device.accesses }; host = h.host; mailboxes = h.mailboxes }

-- between two calls: the device's settings are those that the host stands for, and no function has more than its policy grants
pub record IsHosted (h : HostedState) : Type 0 where
  pub settings : h.device.world.settings ≡ settings_of h.host
  pub within : IsWithin h.host
  pub ids : length h.host.ids ≤ 64
  pub slots : length h.host.slots ≡ 64
  pub functions : length h.device.world.functions ≤ 64
  pub many : length h.mailboxes ≡ 64

-- a host of functions that no policy names, whose policies may name these VLAN ids
abbrev pub host_of_ids : List ℕ → Option ℕ → ℕ → HostState
host_of_ids ids pool limit = record { slots = replicate 64 Absent; ids = ids; default_pool = pool; limit = limit }

-- what its device is made with: the host's limit, and these offloads
abbrev pub profile_for : HostState → Offloads → Profile
profile_for host offloads = record { limit = host.limit; offloads = offloads }

-- as it is made: a device of closed functions over memories of these sizes, every register of whose physical function has the word that it
-- has for the host, and mailboxes in which nothing stands
pub record IsBegun (begins : HostState) (offloads : Offloads) (sizes : List ℕ) (h : HostedState) : Type 0 where
  pub host : h.host ≡ begins
  pub world : h.device.world ≡ world_after (fresh_with (profile_for begins offloads) sizes) (write_events (first_writes begins))
  pub mailboxes : h.mailboxes ≡ replicate 64 blank

-- turns were taken, in order: the device had their events, writes of the physical function's registers among them, and the host is as
-- they leave it
pub record HaveTaken (turns : List Turn) (old new : HostedState) : Type 0 where
  pub world : new.device.world ≡ world_after old.device.world (events_of old.host turns)
  pub host : new.host ≡ host_at_end old.host turns

-- every function but p's is as it was: its registers, its memory and its own settings, what the host holds of it, and its mailbox
pub record LeavesOthers (p : ℕ) (old new : HostedState) : Type 0 where
  pub functions : (q : ℕ) → q < length old.device.world.functions → q ≢ p → lone_of q new.device.world ≡ lone_of q old.device.world
  pub slots : (q : ℕ) → q ≢ p → slot_at new.host q ≡ slot_at old.host q
  pub mailboxes : (q : ℕ) → q ≢ p → mailbox_at new q ≡ mailbox_at old q

-- every function that a policy of p doesn't concern is as it was: all but p, and but one that loses an address to it
pub record LeavesUnconcerned (p : ℕ) (policy : Policy) (old new : HostedState) : Type 0 where
  pub functions : (q : ℕ) → q < length old.device.world.functions → concerns old.host p policy q ≡ false → lone_of q new.device.world ≡ lone_of q old.device.world
  pub slots : (q : ℕ) → concerns old.host p policy q ≡ false → slot_at new.host q ≡ slot_at old.host q
  pub mailboxes : new.mailboxes ≡ old.mailboxes
