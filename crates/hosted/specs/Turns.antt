-- What an access of a driver to its registers, a reset, and the host's own message have the device and the host do.
use Rattle.std.specs.Prelude.{ℕ, Bool, true, false, ◌&&◌, ◌==◌, List, [], ◌∷◌, Option, Some, slice_set, if◌then◌else◌}
use Rattle.wire_frame.specs.Bits.{has_bit}
use Rattle.device.specs.Events.{Event}
use Rattle.device.specs.declared.event.Event.TheVariants.{Flr, VfRead, VfWrite}
use Rattle.device.specs.Replies.{Reply}
use Rattle.device.specs.declared.event.Reply.TheVariants.{Done, Value}
use Rattle.device.specs.Guests.{prompted, prompt_messages}
use Rattle.device.specs.World.{World, step}
use Rattle.mailbox.specs.declared.mailbox.Notice.{Notice}
use Rattle.mailbox.specs.declared.mailbox.Notice.TheVariants.{Raises, Waits}
use Rattle.mailbox.specs.declared.mailbox.Rang.{Rang}
use Rattle.mailbox.specs.declared.mailbox.Rang.TheVariants.{Request}
use Rattle.mailbox.specs.Mailbox.{MailboxState, after_read, after_reset, after_write, blank, read_at, rung_at}
use Rattle.mailbox.specs.Message.{message_of}
use Rattle.mailbox.specs.Replies.{reply_to}
use Rattle.mailbox.specs.State.{HostState}
use Rattle.mailbox_laws.specs.Turns.{Turn}
use Rattle.mailbox_laws.specs.Turns.Turn.{Happens, Answers, Forgets}
use Rattle.hosted.specs.Hosted.{HostedState, mailbox_at}

-- the device did the event, or gave a value: it did not refuse it
abbrev pub is_taken : Reply → Bool
is_taken Done = true
is_taken (Value x) = true
is_taken _ = false

abbrev pub takes : HostedState → Event → Bool
takes h e = is_taken (step h.device.world e).answer.reply

-- ---- a write

-- bit RST of VFCTRL, which resets the function (82599 datasheet, VF Device Control)
abbrev pub resets : ℕ → ℕ → Bool
resets offset x = offset == 0x0 && has_bit x 26

-- the driver asks the host to read the message that stands in the mailbox
abbrev pub rings : ℕ → ℕ → Bool
rings offset x = is_request (rung_at offset x)
  where
    is_request : Option Rang → Bool
    is_request (Some Request) = true
    is_request _ = false

-- what a write of function p has the host do: it answers the message, or forgets what the guest asked for
abbrev pub mail_turns : MailboxState → ℕ → ℕ → ℕ → List Turn
mail_turns m p offset x =
    if rings offset x
    then Answers p (message_of (after_write m offset x).words) ∷ []
    else (if resets offset x then Forgets p ∷ [] else [])

-- and what it makes of the mailbox
abbrev pub mailed : HostState → ℕ → MailboxState → ℕ → ℕ → MailboxState
mailed h p m offset x =
    if rings offset x
    then reply_to h p (after_write m offset x)
    else (if resets offset x then blank else after_write m offset x)

-- the device's own register first; a refused write rings nothing
abbrev pub write_turns : HostedState → ℕ → ℕ → ℕ → List Turn
write_turns h p offset x = Happens (VfWrite p offset x) ∷ (if takes h (VfWrite p offset x) then mail_turns (mailbox_at h p) p offset x else [])

abbrev pub mailboxes_written : HostedState → ℕ → ℕ → ℕ → List MailboxState
mailboxes_written h p offset x =
    if takes h (VfWrite p offset x) then slice_set h.mailboxes p (mailed h.host p (mailbox_at h p) offset x) else h.mailboxes

-- ---- a read

-- a word of the mailbox stands before the device's register, where the device does not refuse the read
abbrev pub by_mailbox : Option ℕ → Reply → Reply
by_mailbox (Some word) (Value x) = Value word
by_mailbox _ reply = reply

abbrev pub read_reply : HostedState → ℕ → ℕ → Reply
read_reply h p offset = by_mailbox (read_at (mailbox_at h p) offset) (step h.device.world (VfRead p offset)).answer.reply

abbrev pub mailboxes_read : HostedState → ℕ → ℕ → List MailboxState
mailboxes_read h p offset = if takes h (VfRead p offset) then slice_set h.mailboxes p (after_read (mailbox_at h p) offset) else h.mailboxes

-- ---- a reset from outside

abbrev pub reset_turns : HostedState → ℕ → List Turn
reset_turns h p = Happens (Flr p) ∷ (if takes h (Flr p) then Forgets p ∷ [] else [])

abbrev pub mailboxes_reset : HostedState → ℕ → List MailboxState
mailboxes_reset h p = if takes h (Flr p) then slice_set h.mailboxes p after_reset else h.mailboxes

-- ---- the host's own message

-- where it stands in the mailbox, the function's cause "other" is raised
abbrev pub prompted_by : Notice → World → ℕ → World
prompted_by Raises w p = prompted w p
prompted_by Waits w p = w

-- the vectors whose messages this issues
abbrev pub vectors_by : Notice → World → ℕ → ℕ
vectors_by Raises w p = prompt_messages w p
vectors_by Waits w p = 0
