-- The reply to a message of which the card did what was asked.
use Rattle.std.specs.Prelude.{ℕ, List, Option}
use Rattle.byteorder.specs.Endian.{little_bytes}
use Rattle.vfio_user.specs.declared.errno.Errno.TheVariants.{Invalid}
use Rattle.vfio_user.specs.declared.request.Region.{Region}
use Rattle.vfio_user.specs.declared.reply.Reply.TheVariants.{Done, Failed, Bytes, Written, Unmapped as UnmappedReply}
use Rattle.vfio_user.specs.Replies.{Reply}
use Rattle.vfio_session.specs.declared.owed.Form.{Form}
use Rattle.vfio_session.specs.declared.owed.Form.TheVariants.{Register, Stored, Unmapped, Plain}
use Rattle.vfio_session.specs.declared.owed.Owed.{Owed}
use Rattle.vfio_session.specs.declared.owed.Settled.{Settled}
use Rattle.vfio_session.specs.declared.owed.Settled.TheVariants.{Value, Finished, Refused}
use Rattle.vfio_session.specs.Offered.{REGISTERS}
use Rattle.vfio_session.specs.Sessions.{reply_to}

-- the four bytes of a register
abbrev pub register_at : ℕ → Region
register_at offset = record { offset = offset; index = REGISTERS; count = 4 }

-- a value that was read: only a register has one
abbrev pub value_reply : Form → ℕ → Reply
value_reply (Register offset) value = Bytes (register_at offset) (little_bytes 4 value)
value_reply _ value = Failed Invalid

-- all else that was done: a register that was read has a value
abbrev pub finished_reply : Form → Reply
finished_reply (Register offset) = Failed Invalid
finished_reply (Stored region) = Written region
finished_reply (Unmapped range) = UnmappedReply range
finished_reply Plain = Done

unfoldable pub reply_for : Form → Settled → Reply
reply_for form (Value value) = value_reply form value
reply_for form Finished = finished_reply form
reply_for form (Refused errno) = Failed errno

abbrev pub answer_to : Owed → Settled → Option (List ℕ)
answer_to owed settled = reply_to owed.header (reply_for owed.form settled)
