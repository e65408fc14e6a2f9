-- What a message, a reset and a policy make of the settings.
use Rattle.std.proofs.Common.{arith, ◌≡◌, ℕ, zero, suc, ◌*◌, ◌/◌, ◌<◌, ◌≤◌, Bool, true, false, cond, List, [], length, Option, Some, None, refl, sym, ap, ◌∙◌, true≢false, is_none}
use Rattle.std.proofs.lemmas.Bool.Decides.{nat_tests}
use Rattle.wire_frame.specs.declared.row.Row.{Row}
use Rattle.mailbox.specs.declared.slot.Slot.{Slot}
use Rattle.mailbox.specs.declared.message.Message.{Message}
use Rattle.mailbox.specs.Slot.{is_on, own_address, second_address, has_joined, with_guest}
use Rattle.mailbox.specs.State.{HostState, slot_at, with_slot}
use Rattle.mailbox.specs.Host.{slot_after, host_after, host_without}
use Rattle.vlan_table.specs.Registers.{VLVFB}
use Rattle.mailbox.specs.Words.{flags_word, port_word, member_word, settings_of}
use Rattle.mailbox.specs.Writes.{writes_where, changes, turns, moves, joins_or_leaves, writes_of, after_writes, writes_after, writes_without}
use Rattle.mailbox.proofs.Isolation.{and_no}
use Rattle.mailbox.proofs.Settle.{settled}

pub some_is : {X : Type 0} {x y : X} → Some x ≡ Some y → x ≡ y
some_is {X} {x} same = ap (unwrap_to x) same
  where
    unwrap_to : X → Option X → X
    unwrap_to d None = d
    unwrap_to d (Some z) = z

pub none_is : {X : Type 0} {x : X} → None ≡ Some x → ⊥
none_is {X} {x} same = true≢false (ap is_none same)

-- ---- functions that make the same registers

pub record IsAlike (f g : Slot) : Type 0 where
  pub up : is_on f ≡ is_on g
  pub address : own_address f ≡ own_address g
  pub second : second_address f ≡ second_address g
  pub joined : (k : ℕ) → has_joined f k ≡ has_joined g k
  pub flags : flags_word f ≡ flags_word g
  pub port : (ids : List ℕ) → port_word ids f ≡ port_word ids g

none_changes : (x : ℕ) → changes x x ≡ false
none_changes x = grind (arith, nat_tests)

none_turns : (b : Bool) → turns b b ≡ false
none_turns true = refl
none_turns false = refl

none_moves : (a : Option ℕ) → moves a a ≡ false
none_moves None = refl
none_moves (Some a) = none_changes a

-- where the test holds of no place, nothing is written
no_writes : (t : ℕ → Bool) (row : Row) (word : ℕ → ℕ) (i n : ℕ) → ((j : ℕ) → t j ≡ false) → writes_where t row word i n ≡ []
no_writes t row word i zero never = refl
no_writes t row word i (suc n) never = rw (never i) (no_writes t row word (suc i) n never)

-- nothing is written for a function that makes the same registers
unchanged : (k : HostState) (p : ℕ) (f : Slot) → IsAlike f (slot_at k p) → writes_of k p f ≡ []
unfolding writes_of
unchanged k p f alike =
    simp (alike.up, alike.address, alike.second, alike.flags, alike.port k.ids, none_changes, none_turns, none_moves)
    (no_writes (joins_or_leaves p f (slot_at k p)) VLVFB (member_word k) 0 (2 * length k.ids) (λ j. simp (alike.joined (j / 2), none_turns, and_no)))

-- a host stands for the same settings with a function that makes the same registers
pub settings_alike : (h : HostState) (p : ℕ) (f : Slot) → p < 64 → length h.ids ≤ 64 → IsAlike (slot_at h p) (slot_at (with_slot h p f) p) → settings_of h ≡ settings_of (with_slot h p f)
settings_alike h p f small few alike =
    sym (ap (after_writes (settings_of h)) (unchanged (with_slot h p f) p (slot_at h p) alike)) ∙ settled h p f small few

-- ---- turns

pub after_message : (h : HostState) (p : ℕ) (message : Message) → p < 64 → length h.ids ≤ 64 → after_writes (settings_of h) (writes_after h p message) ≡ settings_of (host_after h p message)
unfolding host_after writes_after
after_message h p message small few = settled h p (slot_after h p message) small few

pub after_reset : (h : HostState) (p : ℕ) → p < 64 → length h.ids ≤ 64 → after_writes (settings_of h) (writes_without h p) ≡ settings_of (host_without h p)
unfolding host_without writes_without
after_reset h p small few = settled h p (with_guest (slot_at h p) None) small few
