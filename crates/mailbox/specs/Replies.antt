-- The reply to a message that stands in a mailbox.
use Rattle.std.specs.Prelude.{ℕ, ◌+◌, ◌%◌, ◌^◌, List, [], ◌∷◌, Option, Some, None, slice_index, if◌then◌else◌}
use Rattle.mailbox.specs.declared.message.Message.{Message}
use Rattle.mailbox.specs.declared.message.Message.TheVariants.{Reset, GetQueues, SetMulticastMode, GetLinkState}
use Rattle.mailbox.specs.declared.message.Reply.{Reply}
use Rattle.mailbox.specs.declared.slot.Guest.{Guest}
use Rattle.mailbox.specs.declared.slot.Slot.{Slot}
use Rattle.mailbox.specs.Address.{low_part, high_part}
use Rattle.mailbox.specs.Mailbox.{MailboxState, replied, noticed}
use Rattle.mailbox.specs.Message.{message_of, mode_of}
use Rattle.mailbox.specs.Registers.{CTS, NACK, ACK, RESET, CONTROL}
use Rattle.mailbox.specs.Slot.{is_up, has_link, has_port}
use Rattle.mailbox.specs.State.{HostState, slot_at}
use Rattle.mailbox.specs.Host.{outcome}

-- word 0 of the message, and the words after it as they are
abbrev pub echoed : List ℕ → ℕ → Reply
echoed words head = record { words = head ∷ slice_index words 1 ∷ slice_index words 2 ∷ slice_index words 3 ∷ slice_index words 4 ∷ [] }

-- word 0 without its three highest bits, with ACK and CTS
abbrev pub granted_head : List ℕ → ℕ
granted_head words = slice_index words 0 % 2 ^ CTS + 2 ^ CTS + 2 ^ ACK

-- the same with NACK, and with CTS where the function is up
abbrev pub refused_head : List ℕ → Slot → ℕ
refused_head words s = slice_index words 0 % 2 ^ CTS + 2 ^ NACK + (if is_up s then 2 ^ CTS else 0)

-- a port VLAN is shown as one VLAN that is inserted for the function
abbrev pub inserted_vlans : Slot → ℕ
inserted_vlans s = if has_port s then 1 else 0

-- the link is up, or not
abbrev pub link_word : Slot → ℕ
link_word s = if has_link s then 1 else 0

-- the reply that grants; the driver compares that to RESET whole, so that it has no CTS
abbrev pub granting : List ℕ → Slot → Guest → Message → Reply
granting words s g Reset = record { words = (2 ^ ACK + RESET) ∷ low_part (Some g.address) ∷ high_part (Some g.address) ∷ 0 ∷ slice_index words 4 ∷ [] }
granting words s g GetQueues = record { words = granted_head words ∷ 2 ∷ 2 ∷ inserted_vlans s ∷ 0 ∷ [] }
granting words s g (SetMulticastMode asked) = record { words = granted_head words ∷ mode_of g.multicast ∷ slice_index words 2 ∷ slice_index words 3 ∷ slice_index words 4 ∷ [] }
granting words s g GetLinkState = record { words = granted_head words ∷ link_word s ∷ slice_index words 2 ∷ slice_index words 3 ∷ slice_index words 4 ∷ [] }
granting words s g message = echoed words (granted_head words)

-- the reply to the message in the words, which left the guest so, or was refused
unfoldable pub reply_of : List ℕ → Slot → Message → Option Guest → Reply
reply_of words s message None = echoed words (refused_head words s)
reply_of words s message (Some g) = granting words s g message

-- the mailbox of pool p with the reply: it depends on the words of the mailbox and on the pool's own function, and on others
-- only by whether one of them holds the address that is asked for
unfoldable pub reply_to : HostState → ℕ → MailboxState → MailboxState
reply_to h p m = replied m (reply_of m.words (slot_at h p) (message_of m.words) (outcome h p (message_of m.words)))

-- word 0 of a message of the host's own: with CTS where the function's link is up, and with NACK where the function is not up,
-- so that its driver begins anew
abbrev pub notice_head : Slot → ℕ
notice_head s = CONTROL + (if is_up s then (if has_link s then 2 ^ CTS else 0) else 2 ^ NACK)

unfoldable pub notified : HostState → ℕ → MailboxState → MailboxState
notified h p m = noticed m (notice_head (slot_at h p))
