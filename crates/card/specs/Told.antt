-- What a message does to a card.
use Rattle.std.specs.Prelude.{ℕ, false, ◌||◌, ◌==◌, List, Option, Some, None, slice_index, slice_set}
use Rattle.irq_causes.specs.Messages.{either}
use Rattle.device.specs.declared.event.Event.TheVariants.{VfRead, VfWrite}
use Rattle.device.specs.Replies.{Reply}
use Rattle.device.specs.declared.event.Reply.TheVariants.{Value}
use Rattle.device.specs.World.{step, world_after}
use Rattle.mailbox.specs.Mailbox.{MailboxState}
use Rattle.mailbox_laws.specs.Turns.{Turn, events_of, host_at_end}
use Rattle.hosted.specs.Hosted.{HostedState}
use Rattle.hosted.specs.Turns.{mailboxes_read, mailboxes_reset, mailboxes_written, read_reply, reset_turns, write_turns}
use Rattle.vfio_session.specs.Answers.{answer_to}
use Rattle.vfio_session.specs.declared.decision.Ask.{Ask}
use Rattle.vfio_session.specs.declared.decision.Ask.TheVariants.{Read, Write, Map, Unmap, Reset, Arm, Disarm}
use Rattle.vfio_session.specs.declared.decision.Breach.{Breach}
use Rattle.vfio_session.specs.declared.owed.Owed.{Owed}
use Rattle.vfio_session.specs.declared.owed.Settled.TheVariants.{Value as ValueSettled, Finished}
use Rattle.vfio_session.specs.Received.{received}
use Rattle.vfio_session.specs.Sessions.{Received}
use Rattle.card.specs.declared.step.Order.{Order}
use Rattle.card.specs.declared.step.Order.TheVariants.{Map as MapOrder, Unmap as UnmapOrder, Arm as ArmOrder, Disarm as DisarmOrder}
use Rattle.card.specs.Card.{CardState, EndState, end_at, with_end}

-- ---- registers

-- a register that the device doesn't have, and each one of a closed function, reads as zero
abbrev pub value_in : Reply → ℕ
value_in (Value x) = x
value_in _ = 0

-- after a read of a register, which clears some of them (VTEICR), and some bits of the mailbox (VFMAILBOX)
abbrev pub hosted_read : HostedState → ℕ → ℕ → HostedState
hosted_read h p offset = record {
  device = record { world = (step h.device.world (VfRead p offset)).world; accesses = h.device.accesses };
  host = h.host;
  mailboxes = mailboxes_read h p offset;
}

-- after turns, with these mailboxes
abbrev pub turned : HostedState → List Turn → List MailboxState → HostedState
turned h turns boxes = record {
  device = record { world = world_after h.device.world (events_of h.host turns); accesses = h.device.accesses };
  host = host_at_end h.host turns;
  mailboxes = boxes;
}

-- the offsets of the tails of the transmit queues (82599 datasheet, VFTDT)
abbrev pub TAIL_0 : ℕ
TAIL_0 = 0x2018

abbrev pub TAIL_1 : ℕ
TAIL_1 = 0x2058

-- a queue whose tail is written may have descriptors
abbrev pub marked : EndState → ℕ → EndState
marked e offset = record e { busy_0 = e.busy_0 || (offset == TAIL_0); busy_1 = e.busy_1 || (offset == TAIL_1) }

-- vectors join those of pool p that wait
abbrev pub joined : List ℕ → ℕ → ℕ → List ℕ
joined raised p vectors = slice_set raised p (either (slice_index raised p) vectors)

-- those that it got of these messages
abbrev pub also_raised : List ℕ → ℕ → List ℕ → List ℕ
also_raised raised p more = joined raised p (slice_index more p)

abbrev pub after_read : CardState → ℕ → ℕ → CardState
after_read c p offset = record c { hosted = hosted_read c.hosted p offset }

abbrev pub after_write : CardState → ℕ → ℕ → ℕ → CardState
after_write c p offset x = record {
  hosted = turned c.hosted (write_turns c.hosted p offset x) (mailboxes_written c.hosted p offset x);
  ends = slice_set c.ends p (marked (end_at c p) offset);
  raised = also_raised c.raised p (step c.hosted.device.world (VfWrite p offset x)).answer.raised;
}

-- after a reset from outside no queue is busy, and what was raised is gone
abbrev pub after_reset : CardState → ℕ → CardState
after_reset c p = record {
  hosted = turned c.hosted (reset_turns c.hosted p) (mailboxes_reset c.hosted p);
  ends = slice_set c.ends p (record (end_at c p) { busy_0 = false; busy_1 = false });
  raised = slice_set c.raised p 0;
}

-- ---- messages

-- the card after a message, the reply that was laid, what is left to the shell with the reply that is owed for it, and why the
-- connection ends
pub record Told : Type 0 where
  pub card : CardState
  pub reply : Option (List ℕ)
  pub order : Option Order
  pub owed : Option Owed
  pub ends : Option Breach

abbrev pub answered : CardState → Option (List ℕ) → Told
answered c reply = record { card = c; reply = reply; order = None; owed = None; ends = None }

abbrev pub left : CardState → Order → Owed → Told
left c order owed = record { card = c; reply = None; order = Some order; owed = Some owed; ends = None }

-- what the session asks: registers and resets are the card's own to do, all else is the shell's
abbrev pub asked : CardState → ℕ → Ask → Owed → Told
asked c p (Read offset) owed = answered (after_read c p offset) (answer_to owed (ValueSettled (value_in (read_reply c.hosted p offset))))
asked c p (Write offset x) owed = answered (after_write c p offset x) (answer_to owed Finished)
asked c p Reset owed = answered (after_reset c p) (answer_to owed Finished)
asked c p (Map mapping) owed = left c (MapOrder mapping) owed
asked c p (Unmap range) owed = left c (UnmapOrder range) owed
asked c p (Arm vectors) owed = left c (ArmOrder vectors) owed
asked c p (Disarm vectors) owed = left c (DisarmOrder vectors) owed

abbrev pub told_by : CardState → ℕ → Received → Option Ask → Option Owed → Told
told_by c p r (Some ask) (Some owed) = asked c p ask owed
told_by c p r _ _ = record { card = c; reply = r.reply; order = None; owed = None; ends = r.ends }

-- first the session takes the message, then the card does what the session asks
abbrev pub with_session : CardState → ℕ → Received → CardState
with_session c p r = with_end c p (record (end_at c p) { session = r.session })

abbrev pub told_with : CardState → ℕ → Received → Told
told_with c p r = told_by (with_session c p r) p r r.asks r.owed

unfoldable pub told : CardState → ℕ → List ℕ → ℕ → Told
told c p message files = told_with c p (received (end_at c p).session message files)
