-- The events that issue no messages.
use Rattle.std.proofs.Common.{◌≡◌, ℕ, Bool, true, false, Option, Some, None, refl, sym, ap, ◌∙◌, true≢false, nat_lt, length}
use Rattle.std.specs.Prelude.{slice_set, if◌then◌else◌}
use Rattle.irq_causes.specs.Messages.{no_messages}
use Rattle.wire_frame.specs.Bits.{with_bit}
use Rattle.wire_frame.specs.declared.fault.Fault.{Fault}
use Rattle.wire_frame.specs.declared.fault.Fault.TheVariants.{NoSuchVf, BadOffset}
use Rattle.vf_unit.specs.Unit.{Function}
use Rattle.device.specs.Events.{Event}
use Rattle.device.specs.declared.event.Event.TheVariants.{VfWrite, Serve, Flr, PfRead, PfWrite, PfReset, Wire}
use Rattle.device.specs.Replies.{Reply, is_done}
use Rattle.device.specs.declared.event.Reply.TheVariants.{Done, Value}
use Rattle.device.specs.Act.{performed, unless_refused, refusal, act, is_bad_offset}
use Rattle.device.specs.World.{World, Stepped, function_of, acted, refused, replied, own_step, pf_word, pf_written, step}
use Rattle.device.proofs.Arrivals.{raised_nothing}
use Rattle.device.proofs.Owners.{owner}
use Rattle.vfdev_c.specs.Handle.{is_silent}

unless_silent : (why : Option Fault) (f : Function) (e : Event) → (performed f e).messages ≡ 0 → (unless_refused why f e).messages ≡ 0
unless_silent (Some fault) f e quiet = refl
unless_silent None f e quiet = quiet

act_silent : (f : Function) (e : Event) → (performed f e).messages ≡ 0 → (act f e).messages ≡ 0
unfolding act
act_silent f e quiet = unless_silent (refusal f e) f e quiet

-- an event of a function's own that issues nothing where it is performed
own_silent : (w : World) (p : ℕ) (e : Event) → (performed (function_of p w) e).messages ≡ 0 → (own_step w p e).answer.raised ≡ no_messages
own_silent w p e quiet = at (nat_lt p (length w.functions))
  where
    at : (there : Bool) → (if there then acted w p (act (function_of p w) e) else refused w NoSuchVf).answer.raised ≡ no_messages
    at true = ap (λ m. slice_set no_messages p m) (act_silent (function_of p w) e quiet) ∙ raised_nothing p
    at false = refl

flagged_silent : (p : ℕ) (s : Stepped) (done : Bool)
    → (if done then record { world = record s.world { resets = with_bit s.world.resets p }; answer = s.answer } else s).answer.raised ≡ s.answer.raised
flagged_silent p s true = refl
flagged_silent p s false = refl

chosen_silent : (v w : World) (r : Reply) (bad : Bool) → (if bad then refused v BadOffset else replied w r).answer.raised ≡ no_messages
chosen_silent v w r true = refl
chosen_silent v w r false = refl

pub silent_step : (w : World) (e : Event) → is_silent e ≡ true → (step w e).answer.raised ≡ no_messages
silent_step w (VfWrite p offset x) is = absurd (true≢false (sym is))
silent_step w (Serve p q) is = absurd (true≢false (sym is))
silent_step w (Flr p) is =
    flagged_silent p (own_step w p (Flr p)) (is_done (own_step w p (Flr p)).answer.reply) ∙ own_silent w p (Flr p) refl
silent_step w (PfRead offset) is = chosen_silent w w (Value (pf_word w offset)) (is_bad_offset 0x20000 offset)
silent_step w (PfWrite offset x) is = chosen_silent w (pf_written w offset x) Done (is_bad_offset 0x20000 offset)
silent_step w PfReset is = refl
silent_step w (Wire frame) is = absurd (true≢false (sym is))
silent_step w e is = own_silent w (owner e) e refl
