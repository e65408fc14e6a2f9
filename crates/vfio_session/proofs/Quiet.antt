-- Before a version is proposed there is silence.
use Rattle.std.proofs.Common.{◌≡◌, ℕ, Bool, true, false, List, [], ◌∷◌, length, drop, None, Result, Ok, Err, refl, sym, subst, ◌∙◌}
use Rattle.std.proofs.lemmas.Bool.{true≢false}
use Rattle.std.specs.List.{cons_option}
use Rattle.std.specs.Prelude.{◌==◌, if◌then◌else◌}
use Rattle.vfio_user.specs.declared.errno.Errno.{Errno}
use Rattle.vfio_user.specs.declared.header.Header.{Header}
use Rattle.vfio_user.specs.declared.header.Broken.{Broken}
use Rattle.vfio_user.specs.declared.request.Request.TheVariants.{Version, Map, Unmap, Info, RegionInfo, IrqInfo, SetIrqs, Read, Write, Reset}
use Rattle.vfio_user.specs.Header.{header_of}
use Rattle.vfio_user.specs.Requests.{Request, request_of}
use Rattle.vfio_session.specs.declared.decision.Breach.{Breach}
use Rattle.vfio_session.specs.declared.decision.Breach.TheVariants.{WrongSize, NoVersion}
use Rattle.vfio_session.specs.Sessions.{SessionState, Received, fresh, refused, ended}
use Rattle.vfio_session.specs.Received.{taken, begun, requested, headed, received}
use Rattle.vfio_session.specs.Runs.{Message, received_of, after, asks_in, replies_in, is_version, requests_version, proposes_with, proposes, HasNoVersion, IsSilent, IsUnanswered}

-- the connection ends, without a word
record IsOver (r : Received) : Type 0 where
  asks : r.asks ≡ None
  reply : r.reply ≡ None
  session : r.session ≡ fresh

over : (breach : Breach) → IsOver (ended breach)
over breach = record { asks = refl; reply = refl; session = refl }

begun_over : (s : SessionState) (h : Header) (r : Request) (files : ℕ) → is_version r ≡ false → IsOver (begun s h r files)
unfolding begun
begun_over s h (Version major minor) files is = absurd (true≢false is)
begun_over s h (Map mapping) files is = over _
begun_over s h (Unmap range) files is = over _
begun_over s h Info files is = over _
begun_over s h (RegionInfo query) files is = over _
begun_over s h (IrqInfo index) files is = over _
begun_over s h (SetIrqs irqs) files is = over _
begun_over s h (Read region) files is = over _
begun_over s h (Write region bytes) files is = over _
begun_over s h Reset files is = over _

-- without a version it is the first request
requested_over : (s : SessionState) (h : Header) (r : Result Request Errno) (files : ℕ) → s.has_version ≡ false → requests_version r ≡ false → IsOver (requested s h r files)
requested_over s h (Ok r) files new is = subst (λ (b : Bool). IsOver (if b then taken s h r files else begun s h r files)) (sym new) (begun_over s h r files is)
requested_over s h (Err errno) files new is = subst (λ (b : Bool). IsOver (if b then refused s h errno else ended NoVersion)) (sym new) (over _)

by_size : (b : Bool) (x : Received) → IsOver x → IsOver (if b then x else ended WrongSize)
by_size true x is = is
by_size false x is = over _

headed_over : (s : SessionState) (message : List ℕ) (h : Result Header Broken) (files : ℕ) → s.has_version ≡ false → proposes_with message h ≡ false → IsOver (headed s message h files)
headed_over s message (Ok h) files new is =
    by_size (h.size == length message) (requested s h (request_of h.command (drop 16 message)) files) (requested_over s h (request_of h.command (drop 16 message)) files new is)
headed_over s message (Err broken) files new is = over _

message_over : (s : SessionState) (m : Message) → s.has_version ≡ false → proposes m ≡ false → IsOver (received_of s m)
unfolding received
message_over s m new is = headed_over s m.bytes (header_of m.bytes) m.files new is

pub silent : (ms : List Message) → HasNoVersion ms → IsSilent ms fresh
silent [] none = record { asks = refl; replies = refl; session = refl }
silent (m ∷ ms) none =
    let first = message_over fresh m refl none.0 in
    let rest = silent ms none.1 in
    record {
      asks = (λ i. cons_option (first.asks i) (asks_in ms (first.session i))) ∙ rest.asks;
      replies = (λ i. cons_option (first.reply i) (replies_in ms (first.session i))) ∙ rest.replies;
      session = (λ i. after ms (first.session i)) ∙ rest.session;
    }

-- the first message ends any session without a version, and then it is a fresh one
pub unanswered : (s : SessionState) (ms : List Message) → s.has_version ≡ false → HasNoVersion ms → IsUnanswered ms s
unanswered s [] new none = record { asks = refl; replies = refl }
unanswered s (m ∷ ms) new none =
    let first = message_over s m new none.0 in
    let rest = silent ms none.1 in
    record {
      asks = (λ i. cons_option (first.asks i) (asks_in ms (first.session i))) ∙ rest.asks;
      replies = (λ i. cons_option (first.reply i) (replies_in ms (first.session i))) ∙ rest.replies;
    }
