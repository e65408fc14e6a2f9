-- What a client reads in front of a reply.
use Rattle.std.specs.Prelude.{◌≡◌, ℕ, ◌%◌, List, drop, length}
use Rattle.vfio_user.specs.Fields.{number}
use Rattle.vfio_user.specs.declared.header.Header.{Header}

-- it is a reply to the message of this header, and says its own size (Header)
pub record IsReplyTo (h : Header) (bytes : List ℕ) : Type 0 where
  pub id : number 2 bytes ≡ h.id
  pub command : number 2 (drop 2 bytes) ≡ h.command
  pub size : number 4 (drop 4 bytes) ≡ length bytes
  pub kind : number 4 (drop 8 bytes) % 16 ≡ 1
