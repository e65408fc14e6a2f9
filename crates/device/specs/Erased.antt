-- Tenants erased: a list of events without the own events of a group of functions, and what keeps the group from all others.
use Rattle.std.specs.Prelude.{◌≡◌, ℕ, ◌<◌, ⊤, Bool, true, false, ◌&&◌, ◌==◌, List, [], ◌∷◌, length, Option, Some, None, if◌then◌else◌}
use Rattle.guest_memory.specs.Memory.{Write}
use Rattle.live_memory.specs.Trace.{Access, since, reads}
use Rattle.wire_frame.specs.Frame.{is_tagged, tag_control}
use Rattle.wire_frame.specs.declared.vlan.PortVlan.{PortVlan}
use Rattle.wire_frame.specs.declared.vlan.PortVlan.TheVariants.{Descriptor, Always, Never}
use Rattle.pool_filter.specs.Settings.{Settings, initial_settings, settings_after}
use Rattle.pool_filter.specs.Own.{OwnSettings, own, port_vlan_of}
use Rattle.anti_spoof.specs.Permitted.{permitted}
use Rattle.local_switch.specs.Switch.{takes_from_pool}
use Rattle.device.specs.Limits.{PF_SPACE}
use Rattle.device.specs.Events.{Event}
use Rattle.device.specs.declared.event.Event.TheVariants.{PfWrite, PfReset}
use Rattle.device.specs.Act.{is_bad_offset}
use Rattle.device.specs.World.{World, function_of, step}
use Rattle.device.specs.Lone.{pool_of, kept}
use Rattle.device.specs.Live.{trace_of}

-- ---- a list without a group's own events

-- there is a function, and it is of the group
abbrev pub is_member : (ℕ → Bool) → Option ℕ → Bool
is_member group None = false
is_member group (Some p) = group p

-- the event is the own event of a function of the group
abbrev pub is_groups : (ℕ → Bool) → Event → Bool
is_groups group e = is_member group (pool_of e)

-- the events that are not the group's own, in their order
abbrev pub erase : (ℕ → Bool) → List Event → List Event
erase group [] = []
erase group (e ∷ es) = if is_groups group e then erase group es else e ∷ erase group es

-- ---- settings under which no function of the group reaches one outside

-- the settings after an event: a write of the physical function's changes them, a reset of the device makes them initial
abbrev pub settings_then : Settings → Event → Settings
settings_then s (PfWrite offset x) = if is_bad_offset PF_SPACE offset then s else settings_after s offset x
settings_then s PfReset = initial_settings
settings_then s _ = s

-- a frame that is sent under the rule bears the port's tag, where the rule has one
abbrev pub bears_port_tag : PortVlan → List ℕ → Bool
bears_port_tag (Always tag) frame = is_tagged frame && (tag_control frame == tag)
bears_port_tag Descriptor frame = true
bears_port_tag Never frame = true

-- a function with these settings may send the frame
abbrev pub may_send : OwnSettings → List ℕ → Bool
may_send o frame = o.may_transmit && (permitted o frame && bears_port_tag (port_vlan_of o.port_vlan) frame)

-- no frame that a function of the group may send is for one outside
abbrev pub IsApart : (ℕ → Bool) → Settings → Type 0
IsApart group s = (q r : ℕ) (frame : List ℕ) → q < 64 → r < 64 → group q ≡ true → group r ≡ false → may_send (own s q) frame ≡ true → takes_from_pool s q frame r ≡ false

-- from these settings on, it is so at each event of the group's own
abbrev pub StaysApart : (ℕ → Bool) → Settings → List Event → Type 0
StaysApart group s [] = ⊤
StaysApart group s (e ∷ es) = (is_groups group e ≡ true → IsApart group s) × StaysApart group (settings_then s e) es

-- ---- what comes of such settings

-- no own event of the group leaves anything for a function outside
abbrev pub IsConfined : (ℕ → Bool) → World → List Event → Type 0
IsConfined group w [] = ⊤
IsConfined group w (e ∷ es) = (is_groups group e ≡ true → (r : ℕ) → r < 64 → group r ≡ false → kept r w e ≡ None) × IsConfined group (step w e).world es

-- two worlds that differ at most in the group's functions, in the flags of resets, in what went to the wire, and in how many frames nobody got
pub record AlikeOutside (group : ℕ → Bool) (w v : World) : Type 0 where
  pub profile : w.profile ≡ v.profile
  pub settings : w.settings ≡ v.settings
  pub count : length w.functions ≡ length v.functions
  pub functions : (r : ℕ) → r < length w.functions → group r ≡ false → function_of r w ≡ function_of r v

-- ---- an event that is taken while guests write their memories

-- what the memory of function p answered, between what was done before and what was done by now
abbrev pub answered_in : List (List Access) → List (List Access) → ℕ → List Write
answered_in before now p = reads (since (trace_of before p) (trace_of now p))

-- in two such events, the memories outside the group answered the same
abbrev pub AnsweredAlike : (ℕ → Bool) → List (List Access) → List (List Access) → List (List Access) → List (List Access) → Type 0
AnsweredAlike group before now other_before other_now = (r : ℕ) → r < 64 → group r ≡ false → answered_in before now r ≡ answered_in other_before other_now r
