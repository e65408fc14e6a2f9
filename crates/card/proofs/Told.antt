-- What a message does, by what the session asks.
use Rattle.std.proofs.Common.{◌≡◌, ℕ, List, Option, Some, None, refl, sym}
use Rattle.vfio_session.specs.Decisions.{Says}
use Rattle.vfio_session.specs.declared.decision.Ask.{Ask}
use Rattle.vfio_session.specs.declared.owed.Owed.{Owed}
use Rattle.vfio_session.specs.Received.{received}
use Rattle.vfio_session.specs.Sessions.{Received}
use Rattle.card.specs.Card.{CardState, end_at}
use Rattle.card.specs.Told.{Told, asked, told, told_by, with_session}

-- what the session makes of it
abbrev pub heard : CardState → ℕ → List ℕ → ℕ → Received
heard c p message files = received (end_at c p).session message files

told_is : (c : CardState) (p : ℕ) (message : List ℕ) (files : ℕ) (a : Option Ask) (o : Option Owed) → a ≡ (heard c p message files).asks → o ≡ (heard c p message files).owed
    → told c p message files ≡ told_by (with_session c p (heard c p message files)) p (heard c p message files) a o
unfolding told
told_is c p message files a o asks owed = λ i. told_by (with_session c p (heard c p message files)) p (heard c p message files) (sym asks i) (sym owed i)

-- where it asks nothing
abbrev pub by_session : CardState → ℕ → Received → Told
by_session c p r = record { card = with_session c p r; reply = r.reply; order = None; owed = None; ends = r.ends }

pub told_plainly : (c : CardState) (p : ℕ) (message : List ℕ) (files : ℕ) → None ≡ (heard c p message files).asks → told c p message files ≡ by_session c p (heard c p message files)
told_plainly c p message files none = told_is c p message files None (heard c p message files).owed none refl

-- where it asks
pub told_asked : (c : CardState) (p : ℕ) (message : List ℕ) (files : ℕ) (a : Ask) (o : Owed) → Some a ≡ (heard c p message files).asks → Some o ≡ (heard c p message files).owed
    → told c p message files ≡ asked (with_session c p (heard c p message files)) p a o
told_asked c p message files a o asks owed = told_is c p message files (Some a) (Some o) asks owed

-- nothing was laid
pub says_nothing : (old new : List ℕ) (r : Option (List ℕ)) → Says None old new r → new ≡ old
says_nothing old new None same = same
says_nothing old new (Some bytes) none = absurd none
