-- What of a card is one function's own.
use Rattle.std.specs.Prelude.{◌≡◌, ℕ, ◌<◌, Bool, false, ◌&&◌, List, length, Option, Some, None, slice_index, if◌then◌else◌}
use Rattle.device.specs.declared.event.Event.TheVariants.{VfWrite}
use Rattle.device.specs.Lone.{Lone, lone_of}
use Rattle.mailbox.specs.declared.message.Message.{Message}
use Rattle.mailbox.specs.declared.message.Message.TheVariants.{SetAddress, ReplaceSecond, AddSecond}
use Rattle.mailbox.specs.declared.policy.Policy.{Policy}
use Rattle.mailbox.specs.declared.slot.Slot.{Slot}
use Rattle.mailbox.specs.Mailbox.{MailboxState, after_write}
use Rattle.mailbox.specs.Message.{message_of}
use Rattle.mailbox.specs.Slot.{policy_of}
use Rattle.mailbox.specs.State.{HostState, is_taken, slot_at}
use Rattle.vfio_session.specs.declared.decision.Ask.{Ask}
use Rattle.vfio_session.specs.declared.decision.Ask.TheVariants.{Write}
use Rattle.vfio_session.specs.Received.{received}
use Rattle.hosted.specs.Hosted.{IsHosted, mailbox_at}
use Rattle.hosted.specs.Turns.{rings, takes}
use Rattle.card.specs.Card.{CardState, EndState, end_at}
use Rattle.card.specs.Told.{Told}

-- the function as if it were alone in its device, with its own settings; what the host holds of it; its mailbox; its end; and the
-- vectors that wait for it
pub record Part : Type 0 where
  pub lone : Lone
  pub slot : Slot
  pub mailbox : MailboxState
  pub end : EndState
  pub raised : ℕ

abbrev pub part_of : ℕ → CardState → Part
part_of p c = record {
  lone = lone_of p c.hosted.device.world;
  slot = slot_at c.hosted.host p;
  mailbox = mailbox_at c.hosted p;
  end = end_at c p;
  raised = slice_index c.raised p;
}

-- function p is the same in both cards, and so is what of the host is the same for all functions: the VLAN ids that policies may name, the
-- default pool, and how long a frame may be
pub record AreAlike (p : ℕ) (c d : CardState) : Type 0 where
  pub part : part_of p c ≡ part_of p d
  pub ids : c.hosted.host.ids ≡ d.hosted.host.ids
  pub default_pool : c.hosted.host.default_pool ≡ d.hosted.host.default_pool
  pub limit : c.hosted.host.limit ≡ d.hosted.host.limit

-- what is so of each card between two calls: that of its device and host; each of 64 pools has its end, and a set of vectors
pub record IsCard (c : CardState) : Type 0 where
  pub hosted : IsHosted c.hosted
  pub ends : length c.ends ≡ 64
  pub raised : length c.raised ≡ 64
  pub sets : (p : ℕ) → slice_index c.raised p < 8

-- ---- the one thing that a driver learns of the others: whether one of them holds the address that it asks for and may choose

-- the address that a message of the mailbox asks for, if it asks for one
abbrev pub asked_address : Message → Option ℕ
asked_address (SetAddress a) = Some a
asked_address (ReplaceSecond a) = Some a
asked_address (AddSecond a) = Some a
asked_address message = None

abbrev pub may_choose : Option Policy → Bool
may_choose None = false
may_choose (Some policy) = policy.may_choose

-- it learns that only where its policy lets it choose one
abbrev pub is_held : HostState → ℕ → Option ℕ → Bool
is_held h p None = false
is_held h p (Some a) = may_choose (policy_of (slot_at h p)) && is_taken h p a

-- a write by which the driver rings its mailbox has the host read the message that stands there
abbrev pub asked_by : CardState → ℕ → ℕ → ℕ → Option ℕ
asked_by c p offset x =
    if takes c.hosted (VfWrite p offset x) && rings offset x
    then asked_address (message_of (after_write (mailbox_at c.hosted p) offset x).words)
    else None

abbrev pub asked_in : CardState → ℕ → Option Ask → Option ℕ
asked_in c p (Some (Write offset x)) = asked_by c p offset x
asked_in c p _ = None

abbrev pub is_address_held : CardState → ℕ → List ℕ → ℕ → Bool
is_address_held c p message files = is_held c.hosted.host p (asked_in c p (received (end_at c p).session message files).asks)

-- ---- the same is told in both

pub record IsToldAlike (p : ℕ) (s t : Told) : Type 0 where
  pub cards : AreAlike p s.card t.card
  pub reply : s.reply ≡ t.reply
  pub order : s.order ≡ t.order
  pub owed : s.owed ≡ t.owed
  pub ends : s.ends ≡ t.ends
