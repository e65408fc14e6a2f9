-- An event by its head and the bytes that it brings, and a reply by its kind.
use Rattle.std.proofs.Common.{◌≡◌, ℕ, true, List, refl, sym, ap, ◌∙◌}
use Rattle.device.specs.Events.{Event}
use Rattle.device.specs.declared.event.Event.TheVariants.{MemWrite, Wire}
use Rattle.device.specs.declared.event.Reply.TheVariants.{Done, Value, Bytes, Idle, More, Sent, Dropped, Faulted, Refused}
use Rattle.history.specs.declared.head.EventHead.{EventHead}
use Rattle.history.specs.declared.head.EventHead.TheVariants.{Open, MemWrite, Wire}
use Rattle.history.specs.Entries.{brings}
use Rattle.history.specs.Heads.{ReplyKind, brought, event_with, head_of, reply_with}

again : (e : Event) (bytes : List ℕ) → (brings e ≡ true → brought e ≡ bytes) → e ≡ event_with bytes (head_of e)
again (MemWrite p at written) bytes same = ap (λ (xs : List ℕ). MemWrite p at xs) (same refl)
again (Wire frame) bytes same = ap (λ (xs : List ℕ). Wire xs) (same refl)
again e bytes same = refl

-- an event of that head, which brings these bytes if it brings some, is the one of both
pub event_by : (h : EventHead) (bytes : List ℕ) (e : Event) → h ≡ head_of e → (brings e ≡ true → brought e ≡ bytes) → e ≡ event_with bytes h
event_by h bytes e head same = again e bytes same ∙ ap (event_with bytes) (sym head)

head_again : (h : EventHead) (bytes : List ℕ) → h ≡ head_of (event_with bytes h)
head_again Wire bytes = refl
head_again e bytes = refl

bytes_again : (h : EventHead) (bytes : List ℕ) → brings (event_with bytes h) ≡ true → brought (event_with bytes h) ≡ bytes
bytes_again (MemWrite p at) bytes brings = refl
bytes_again Wire bytes brings = refl
bytes_again e bytes brings = absurd (cc)

-- and the event of a head and of bytes has that head, and brings these bytes if it brings some
pub has_head : (h : EventHead) (bytes : List ℕ) (e : Event) → e ≡ event_with bytes h → h ≡ head_of e
has_head h bytes e same = head_again h bytes ∙ ap head_of (sym same)

pub has_bytes : (h : EventHead) (bytes : List ℕ) (e : Event) → e ≡ event_with bytes h → brings e ≡ true → brought e ≡ bytes
has_bytes h bytes e same does = ap brought same ∙ bytes_again h bytes (ap brings (sym same) ∙ does)

-- ---- a reply that something was done

pub done_by : (bytes : List ℕ) (kind : ReplyKind) → kind ≡ Done → reply_with bytes kind ≡ Done
done_by bytes kind is = ap (reply_with bytes) is

pub done_alone : (bytes : List ℕ) (kind : ReplyKind) → reply_with bytes kind ≡ Done → kind ≡ Done
done_alone bytes Done is = refl
done_alone bytes (Value x) is = absurd (cc)
done_alone bytes (Bytes b) is = absurd (cc)
done_alone bytes Idle is = absurd (cc)
done_alone bytes More is = absurd (cc)
done_alone bytes Sent is = absurd (cc)
done_alone bytes Dropped is = absurd (cc)
done_alone bytes Faulted is = absurd (cc)
done_alone bytes (Refused f) is = absurd (cc)
