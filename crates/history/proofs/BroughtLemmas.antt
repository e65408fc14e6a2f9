-- An event that brings bytes reads none.
use Rattle.std.proofs.Common.{◌≡◌, ℕ, Bool, true, false, Option, Some, None, List, length, nat_lt, if◌then◌else◌, refl, sym, ap, ◌∙◌}
use Rattle.wire_frame.specs.declared.fault.Fault.{Fault}
use Rattle.vf_unit.specs.Unit.{Function}
use Rattle.device.specs.Events.{Event}
use Rattle.device.specs.declared.event.Event.TheVariants.{MemWrite, Wire}
use Rattle.device.specs.Replies.{Reply}
use Rattle.device.specs.declared.event.Reply.TheVariants.{Done, Value, Bytes, Idle, More, Sent, Dropped, Faulted, Refused}
use Rattle.device.specs.Outcome.{Outcome, reply_of}
use Rattle.device.specs.Act.{act, performed, unless_refused, refusal}
use Rattle.device.specs.World.{World, Stepped, step, function_of}
use Rattle.history.specs.Entries.{brings}
use Rattle.history.specs.Heads.{reads}

-- the reply is bytes
is_bytes : Reply → Bool
is_bytes (Bytes bytes) = true
is_bytes _ = false

is_bytes_of : (cells : List ℕ) (o : Outcome) → is_bytes (reply_of cells o) ≡ reads o
unfolding is_bytes
is_bytes_of cells Done = refl
is_bytes_of cells (Value x) = refl
is_bytes_of cells (Bytes read) = refl
is_bytes_of cells Idle = refl
is_bytes_of cells More = refl
is_bytes_of cells Sent = refl
is_bytes_of cells Dropped = refl
is_bytes_of cells Faulted = refl
is_bytes_of cells (Refused fault) = refl

either : (b : Bool) (x y : Stepped) → is_bytes x.answer.reply ≡ false → is_bytes y.answer.reply ≡ false → is_bytes (if b then x else y).answer.reply ≡ false
either true x y one other = one
either false x y one other = other

act_unread : (f : Function) (e : Event) → is_bytes (performed f e).reply ≡ false → is_bytes (act f e).reply ≡ false
unfolding act is_bytes
act_unread f e none = by (refusal f e)
  where
    by : (r : Option Fault) → is_bytes (unless_refused r f e).reply ≡ false
    by (Some fault) = refl
    by None = none

step_unread : (w : World) (e : Event) → brings e ≡ true → is_bytes (step w e).answer.reply ≡ false
unfolding is_bytes
step_unread w (MemWrite p at bytes) does = either (nat_lt p (length w.functions)) _ _ (act_unread (function_of p w) (MemWrite p at bytes) refl) refl
step_unread w (Wire frame) does = either (nat_lt w.profile.limit (length frame)) _ _ refl refl
step_unread w e does = absurd (cc)

pub brought_alone : (w : World) (e : Event) (cells : List ℕ) (o : Outcome) → reply_of cells o ≡ (step w e).answer.reply → brings e ≡ true → reads o ≡ false
brought_alone w e cells o same does = sym (is_bytes_of cells o) ∙ ap is_bytes same ∙ step_unread w e does
