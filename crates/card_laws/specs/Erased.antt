-- Tenants erased from the life of a card: a list of deeds without a group's own, what keeps the group from all others, and what stays as input.
use Rattle.std.specs.Prelude.{◌≡◌, ℕ, ◌<◌, ⊤, Bool, true, false, not, ◌&&◌, List, [], ◌∷◌, length, Option, Some, None, if◌then◌else◌}
use Rattle.std.specs.List.{cons_option}
use Rattle.pool_filter.specs.Settings.{Settings}
use Rattle.pool_filter.specs.Accepts.{default_pool}
use Rattle.local_switch.specs.Switch.{is_accepted}
use Rattle.device.specs.declared.event.Event.TheVariants.{Serve, Wire}
use Rattle.device.specs.Erased.{IsApart, is_member}
use Rattle.mailbox.specs.declared.policy.Policy.{Policy}
use Rattle.mailbox.specs.Policy.{is_port}
use Rattle.mailbox.specs.Slot.{policy_of}
use Rattle.mailbox.specs.State.{HostState, slot_at}
use Rattle.mailbox.specs.Within.{IsNamedFor, KeepsPolicies}
use Rattle.card.specs.Alike.{AreAlike, is_address_held, may_choose}
use Rattle.card.specs.Card.{CardState}
use Rattle.card.specs.Life.{Deed, Hears, Happens, Admits, Dismisses, after_deed, whose, world_of}

-- ---- a life without a group's own deeds

-- the deed is of a function of the group. What the administrator decides of policies is no deed of a function's
abbrev pub is_groups : (ℕ → Bool) → Deed → Bool
is_groups group (Admits q policy) = false
is_groups group (Dismisses q) = false
is_groups group x = is_member group (whose x)

-- the deeds that are not the group's, in their order
abbrev pub erase : (ℕ → Bool) → List Deed → List Deed
erase group [] = []
erase group (x ∷ xs) = if is_groups group x then erase group xs else x ∷ erase group xs

-- two cards that differ in the group alone: the functions outside are alike, and each function has the same policy, also one of the group
pub record AreAlikeOutside (group : ℕ → Bool) (c d : CardState) : Type 0 where
  pub count : length (world_of c).functions ≡ length (world_of d).functions
  pub functions : (p : ℕ) → p < length (world_of c).functions → group p ≡ false → AreAlike p c d
  pub policies : KeepsPolicies c.hosted.host d.hosted.host

-- ---- frames

-- the one deed that may send a frame
abbrev pub is_service : Deed → Bool
is_service (Happens (Serve q k)) = true
is_service x = false

-- at each service of the group's, the settings that are then in force keep the group apart
abbrev pub StaysApart : (ℕ → Bool) → CardState → List Deed → Type 0
StaysApart group c [] = ⊤
StaysApart group c (x ∷ xs) = ((is_groups group x && is_service x) ≡ true → IsApart group (world_of c).settings) × StaysApart group (after_deed c x) xs

-- ---- what stays as input

-- the pool is one outside
abbrev pub is_outside : (ℕ → Bool) → Option ℕ → Bool
is_outside group None = false
is_outside group (Some p) = not (group p)

-- the frame falls to a default pool outside, since no pool accepts it
abbrev pub falls_outside : (ℕ → Bool) → Settings → List ℕ → Bool
falls_outside group s frame = is_outside group (default_pool s) && not (is_accepted s frame)

-- whether another function holds the address that a driver asks for, and whether a frame from the wire falls to a default pool outside
abbrev pub input_in : (ℕ → Bool) → CardState → Deed → Option Bool
input_in group c (Hears q message files) = Some (is_address_held c q message files)
input_in group c (Happens (Wire frame)) = Some (falls_outside group (world_of c).settings frame)
input_in group c x = None

-- so in all deeds that are not the group's
abbrev pub inputs : (ℕ → Bool) → CardState → List Deed → List Bool
inputs group c [] = []
inputs group c (x ∷ xs) = if is_groups group x then inputs group (after_deed c x) xs else cons_option (input_in group c x) (inputs group (after_deed c x) xs)

-- ---- policies that keep a group apart

-- a function without a port VLAN takes untagged frames while it is up
abbrev pub takes_untagged : Option Policy → Bool
takes_untagged None = false
takes_untagged (Some policy) = not (is_port policy.vlans)

-- no VLAN is named by the policies of both, and not both take untagged frames
pub record ShareNoVlan (h : HostState) (q r : ℕ) : Type 0 where
  pub named : (id : ℕ) → IsNamedFor h q id → IsNamedFor h r id → ⊥
  pub untagged : (takes_untagged (policy_of (slot_at h q)) && takes_untagged (policy_of (slot_at h r))) ≡ false

-- no function of the group shares a VLAN with one outside
abbrev pub HasOwnVlans : (ℕ → Bool) → CardState → Type 0
HasOwnVlans group c = (q r : ℕ) → q < 64 → r < 64 → group q ≡ true → group r ≡ false → ShareNoVlan c.hosted.host q r

abbrev pub chooses : CardState → ℕ → Bool
chooses c q = may_choose (policy_of (slot_at c.hosted.host q))

-- nothing stays as input: where a function outside may choose an address, none but functions outside may, and the default pool is not outside
pub record LeavesNoInput (group : ℕ → Bool) (c : CardState) : Type 0 where
  pub chosen : (q r : ℕ) → q < 64 → r < 64 → group q ≡ false → chooses c q ≡ true → chooses c r ≡ true → (r < length (world_of c).functions) × (group r ≡ false)
  pub default_pool : is_outside group (default_pool (world_of c).settings) ≡ false

-- it is so of the card before each deed
abbrev pub BeforeEach : (CardState → Type 0) → CardState → List Deed → Type 0
BeforeEach P c [] = ⊤
BeforeEach P c (x ∷ xs) = P c × BeforeEach P (after_deed c x) xs
