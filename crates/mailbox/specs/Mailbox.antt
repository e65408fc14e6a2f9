-- The mailbox of one function: what its driver reads and writes, and what the host puts there.
use Rattle.std.specs.Prelude.{ℕ, Bool, not, ◌==◌, List, ◌∷◌, Option, Some, None, replicate, slice_index, slice_set, bit_and, bit_or, if◌then◌else◌}
use Rattle.wire_frame.specs.Bits.{has_bit}
use Rattle.wire_frame.specs.Row.{is_in, ◌or◌, word_at, words_after, one_at}
use Rattle.mailbox.specs.Registers.{VFMBMEM, VFMAILBOX, REQ, VFU, ANSWERED, PFSTS, HELD, RSTD, READ_KEEPS, WRITE_KEEPS}
use Rattle.mailbox.specs.declared.mailbox.Notice.{Notice}
use Rattle.mailbox.specs.declared.mailbox.Notice.TheVariants.{Waits, Raises}
use Rattle.mailbox.specs.declared.mailbox.Rang.{Rang}
use Rattle.mailbox.specs.declared.mailbox.Rang.TheVariants.{Nothing, Request}
use Rattle.mailbox.specs.declared.message.Reply.{Reply}

-- the sixteen words of VFMBMEM, and VFMAILBOX
pub record MailboxState : Type 0 where
  pub words : List ℕ
  pub control : ℕ

abbrev pub blank : MailboxState
blank = record { words = replicate 16 0; control = 0 }

-- after a reset from outside: a refusal without CTS, and RSTD
abbrev pub after_reset : MailboxState
after_reset = record { words = 0x40000100 ∷ replicate 15 0; control = RSTD }

-- what a read of the offset gives, if it is one of the mailbox's
unfoldable pub read_at : MailboxState → ℕ → Option ℕ
read_at m offset = word_at VFMBMEM m.words offset or one_at VFMAILBOX m.control offset

unfoldable pub after_read : MailboxState → ℕ → MailboxState
after_read m offset = record {
  words = m.words;
  control = if offset == VFMAILBOX then bit_and m.control READ_KEEPS else m.control;
}

-- what a write rings, if the offset is one of the mailbox's
unfoldable pub rung_at : ℕ → ℕ → Option Rang
rung_at offset x =
    if offset == VFMAILBOX then Some (if has_bit x REQ then Request else Nothing)
    else (if is_in VFMBMEM offset then Some Nothing else None)

unfoldable pub after_write : MailboxState → ℕ → ℕ → MailboxState
after_write m offset x = record {
  words = words_after VFMBMEM m.words offset x;
  control = if offset == VFMAILBOX then bit_or (bit_and m.control WRITE_KEEPS) (bit_and x VFU) else m.control;
}

-- the driver has the memory, or has a reply to look for
abbrev pub is_held : MailboxState → Bool
is_held m = not (bit_and m.control HELD == 0)

-- a message of the host's own in word 0, with PFSTS, unless the driver has the memory
unfoldable pub noticed : MailboxState → ℕ → MailboxState
noticed m head =
    if is_held m then m
    else record { words = slice_set m.words 0 head; control = bit_or m.control PFSTS }

unfoldable pub notice_in : MailboxState → Notice
notice_in m = if is_held m then Waits else Raises

-- the mailbox with a reply in words 0 to 4
unfoldable pub replied : MailboxState → Reply → MailboxState
replied m reply = record {
  words = slice_set (slice_set (slice_set (slice_set (slice_set m.words 0 (slice_index reply.words 0)) 1 (slice_index reply.words 1)) 2 (slice_index reply.words 2)) 3 (slice_index reply.words 3)) 4 (slice_index reply.words 4);
  control = bit_or m.control ANSWERED;
}
