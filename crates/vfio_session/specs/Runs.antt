-- Messages one after another.
use Rattle.std.specs.Prelude.{◌≡◌, ℕ, Bool, true, false, List, [], ◌∷◌, drop, Result, Ok, Err}
use Rattle.std.specs.List.{cons_option}
use Rattle.vfio_user.specs.declared.header.Header.{Header}
use Rattle.vfio_user.specs.declared.header.Broken.{Broken}
use Rattle.vfio_user.specs.declared.errno.Errno.{Errno}
use Rattle.vfio_user.specs.declared.request.Request.TheVariants.{Version}
use Rattle.vfio_user.specs.Numbers.{HEADER}
use Rattle.vfio_user.specs.Header.{header_of}
use Rattle.vfio_user.specs.Requests.{Request, request_of}
use Rattle.vfio_session.specs.declared.decision.Ask.{Ask}
use Rattle.vfio_session.specs.Sessions.{SessionState, Received}
use Rattle.vfio_session.specs.Received.{received}

-- a message, and how many files came with it
pub record Message : Type 0 where
  pub bytes : List ℕ
  pub files : ℕ

abbrev pub received_of : SessionState → Message → Received
received_of s m = received s m.bytes m.files

-- the session after messages, all that they asked of the card, and all replies that the session made by itself
abbrev pub after : List Message → SessionState → SessionState
after [] s = s
after (m ∷ ms) s = after ms (received_of s m).session

abbrev pub asks_in : List Message → SessionState → List Ask
asks_in [] s = []
asks_in (m ∷ ms) s = cons_option (received_of s m).asks (asks_in ms (received_of s m).session)

abbrev pub replies_in : List Message → SessionState → List (List ℕ)
replies_in [] s = []
replies_in (m ∷ ms) s = cons_option (received_of s m).reply (replies_in ms (received_of s m).session)

-- ---- messages that don't propose a version

abbrev pub is_version : Request → Bool
is_version (Version major minor) = true
is_version _ = false

abbrev pub requests_version : Result Request Errno → Bool
requests_version (Ok r) = is_version r
requests_version (Err errno) = false

abbrev pub proposes_with : List ℕ → Result Header Broken → Bool
proposes_with bytes (Ok h) = requests_version (request_of h.command (drop HEADER bytes))
proposes_with bytes (Err broken) = false

abbrev pub proposes : Message → Bool
proposes m = proposes_with m.bytes (header_of m.bytes)

abbrev pub HasNoVersion : List Message → Type 0
HasNoVersion [] = Unit {0}
HasNoVersion (m ∷ ms) = (proposes m ≡ false) × HasNoVersion ms

-- nothing is asked and nothing is answered
pub record IsUnanswered (ms : List Message) (s : SessionState) : Type 0 where
  pub asks : asks_in ms s ≡ []
  pub replies : replies_in ms s ≡ []

-- nothing is asked, nothing is answered, and the session is as it was
pub record IsSilent (ms : List Message) (s : SessionState) : Type 0 where
  pub asks : asks_in ms s ≡ []
  pub replies : replies_in ms s ≡ []
  pub session : after ms s ≡ s
