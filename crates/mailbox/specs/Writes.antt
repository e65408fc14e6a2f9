-- The writes to the physical function's registers that make one pool's registers what its function became: those that change a word.
use Rattle.std.specs.Prelude.{ℕ, zero, suc, ◌+◌, ◌*◌, ◌/◌, ◌%◌, Bool, true, false, not, ◌&&◌, ◌==◌, List, [], ◌∷◌, ◌++◌, length, Option, Some, None, is_some, if◌then◌else◌}
use Rattle.wire_frame.specs.declared.row.Row.{Row}
use Rattle.addr_tables.specs.Registers.{RAL, RAH}
use Rattle.vlan_table.specs.Registers.{VLVFB}
use Rattle.pool_filter.specs.Registers.{PFVFRE, PFVFTE, VMVIR, VMOLR}
use Rattle.pool_filter.specs.Settings.{Settings, settings_after}
use Rattle.mailbox.specs.declared.slot.Slot.{Slot}
use Rattle.mailbox.specs.declared.message.Message.{Message}
use Rattle.mailbox.specs.declared.policy.Policy.{Policy}
use Rattle.mailbox.specs.declared.writes.Write.{Write}
use Rattle.mailbox.specs.Address.{is_number, low_part}
use Rattle.mailbox.specs.Slot.{is_on, own_address, second_address, has_joined}
use Rattle.mailbox.specs.State.{HostState, slot_at, holder}
use Rattle.mailbox.specs.Host.{host_after, host_without, host_dismissing, freed_by, host_under}
use Rattle.mailbox.specs.Words.{valid, member_word, up_word, flags_word, port_word}

-- a write of the row's word at a place
abbrev pub write_at : Row → ℕ → ℕ → Write
write_at row place x = record { offset = row.first + row.stride * place; value = x }

-- the settings after writes, in their order
abbrev pub after_writes : Settings → List Write → Settings
after_writes s [] = s
after_writes s (w ∷ ws) = after_writes (settings_after s w.offset w.value) ws

-- writes of the row's words of n places from i on, where the test holds of the place
abbrev pub writes_where : (ℕ → Bool) → Row → (ℕ → ℕ) → ℕ → ℕ → List Write
writes_where t row word i zero = []
writes_where t row word i (suc n) =
    if t i
    then write_at row i (word i) ∷ writes_where t row word (suc i) n
    else writes_where t row word (suc i) n

-- ---- what changes

abbrev pub changes : ℕ → ℕ → Bool
changes old new = not (old == new)

abbrev pub turns : Bool → Bool → Bool
turns true new = not new
turns false new = new

abbrev pub moves : Option ℕ → Option ℕ → Bool
moves None new = is_some new
moves (Some a) new = not (is_number new a)

-- word i of two words for 64 pools has pool p, and the function joined or left the VLAN of the entry
abbrev pub joins_or_leaves : ℕ → Slot → Slot → ℕ → Bool
joins_or_leaves p old new i = i % 2 == p / 32 && turns (has_joined old (i / 2)) (has_joined new (i / 2))

-- ---- the registers of a pool

-- entry e goes from one address to another: it is not valid meanwhile
abbrev pub entry_writes : ℕ → Option ℕ → Option ℕ → List Write
entry_writes e old new =
    writes_where (λ i. moves old new && is_some old) RAH (λ i. 0) e 1
    ++ writes_where (λ i. changes (low_part old) (low_part new)) RAL (λ i. low_part new) e 1
    ++ writes_where (λ i. moves old new && is_some new) RAH (λ i. valid new) e 1

-- pool p's flags and its port VLAN
abbrev pub pool_writes : HostState → ℕ → Slot → Slot → List Write
pool_writes h p old new =
    writes_where (λ i. changes (flags_word old) (flags_word new)) VMOLR (λ i. flags_word new) p 1
    ++ writes_where (λ i. changes (port_word h.ids old) (port_word h.ids new)) VMVIR (λ i. port_word h.ids new) p 1

-- the words of 32 pools in which pool p stands: who may receive, who may transmit, and who joined a VLAN
abbrev pub shared_writes : HostState → ℕ → Slot → Slot → List Write
shared_writes h p old new =
    writes_where (λ i. turns (is_on old) (is_on new)) PFVFRE (up_word h) (p / 32) 1
    ++ writes_where (λ i. turns (is_on old) (is_on new)) PFVFTE (up_word h) (p / 32) 1
    ++ writes_where (joins_or_leaves p old new) VLVFB (member_word h) 0 (2 * length h.ids)

-- for the host as it is, and what the function of pool p was before
unfoldable pub writes_of : HostState → ℕ → Slot → List Write
writes_of h p old =
    entry_writes p (own_address old) (own_address (slot_at h p))
    ++ entry_writes (64 + p) (second_address old) (second_address (slot_at h p))
    ++ pool_writes h p old (slot_at h p)
    ++ shared_writes h p old (slot_at h p)

-- ---- a message, a reset and a policy

-- the writes after a message of pool p
unfoldable pub writes_after : HostState → ℕ → Message → List Write
writes_after h p message = writes_of (host_after h p message) p (slot_at h p)

-- the writes after the guest of pool p is gone
unfoldable pub writes_without : HostState → ℕ → List Write
writes_without h p = writes_of (host_without h p) p (slot_at h p)

-- the writes after no policy names the function of pool p any more
unfoldable pub writes_dismissing : HostState → ℕ → List Write
writes_dismissing h p = writes_of (host_dismissing h p) p (slot_at h p)

-- the writes after the function of pool p came under a policy
unfoldable pub writes_under : HostState → ℕ → Policy → List Write
writes_under h p policy = writes_of (host_under h p policy) p (slot_at h p)

-- the writes after that function, if there is one, has given the address up
abbrev pub writes_freed_by : HostState → ℕ → Option ℕ → List Write
writes_freed_by h a None = []
writes_freed_by h a (Some q) = writes_of (freed_by h a (Some q)) q (slot_at h q)

-- the writes after no other function than p holds the address
unfoldable pub writes_freeing : HostState → ℕ → ℕ → List Write
writes_freeing h p a = writes_freed_by h a (holder h p a)
