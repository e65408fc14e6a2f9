-- A session, and what a message makes of it.
use Rattle.std.specs.Prelude.{ℕ, Bool, true, false, List, [], ◌∷◌, Option, Some, None, if◌then◌else◌}
use Rattle.vfio_user.specs.declared.errno.Errno.{Errno}
use Rattle.vfio_user.specs.declared.header.Header.{Header}
use Rattle.vfio_user.specs.declared.reply.Reply.TheVariants.{Failed}
use Rattle.vfio_user.specs.Replies.{Reply, reply_bytes}
use Rattle.pci_function.specs.Space.{initial}
use Rattle.vfio_session.specs.declared.decision.Ask.{Ask}
use Rattle.vfio_session.specs.declared.decision.Fate.{Fate}
use Rattle.vfio_session.specs.declared.decision.Fate.TheVariants.{Closed}
use Rattle.vfio_session.specs.declared.decision.Breach.{Breach}
use Rattle.vfio_session.specs.declared.owed.Form.{Form}
use Rattle.vfio_session.specs.declared.owed.Owed.{Owed}

-- whether a version was agreed on, the configuration space, of each vector whether it has a file, and whether an area is offered to the client
pub record SessionState : Type 0 where
  pub has_version : Bool
  pub space : List ℕ
  pub armed : List Bool
  pub offers_area : Bool

-- nothing was said yet
abbrev pub fresh : SessionState
fresh = record { has_version = false; space = initial; armed = false ∷ false ∷ false ∷ []; offers_area = false }

-- the same session, in which an area is offered
abbrev pub offering : SessionState → SessionState
offering s = record s { offers_area = true }

-- after a message: the session, the reply, what is asked and the reply that is owed for it, what becomes of the files, and why the
-- connection ends
pub record Received : Type 0 where
  pub session : SessionState
  pub reply : Option (List ℕ)
  pub asks : Option Ask
  pub owed : Option Owed
  pub files : Fate
  pub ends : Option Breach

-- a reply, where one is wanted
abbrev pub reply_to : Header → Reply → Option (List ℕ)
reply_to h reply = if h.wants_reply then Some (reply_bytes h reply) else None

-- the session answers by itself
abbrev pub answered : SessionState → Header → Reply → Received
answered s h reply = record { session = s; reply = reply_to h reply; asks = None; owed = None; files = Closed; ends = None }

abbrev pub refused : SessionState → Header → Errno → Received
refused s h errno = answered s h (Failed errno)

-- something is asked, and a reply of this form is owed
abbrev pub asked : SessionState → Header → Form → Ask → Fate → Received
asked s h form ask files =
    record { session = s; reply = None; asks = Some ask; owed = Some (record { header = h; form = form }); files = files; ends = None }

-- the connection ends: nothing of it is left
abbrev pub ended : Breach → Received
ended breach = record { session = fresh; reply = None; asks = None; owed = None; files = Closed; ends = Some breach }
