-- Frames from the wire, one after another, are deeds: the guests' writes and the frames.
use Rattle.std.proofs.Common.{◌≡◌, ℕ, ◌<◌, Bool, List, [], ◌∷◌, length, map, refl, sym, ap, ◌∙◌, arith}
use Rattle.std.specs.Prelude.{filter, slice_index}
use Rattle.irq_causes.specs.Messages.{both, no_messages}
use Rattle.wire_frame.specs.Frame.{is_frame}
use Rattle.device.specs.Events.{Event}
use Rattle.device.specs.declared.event.Answer.{Answer}
use Rattle.device.specs.declared.event.Event.TheVariants.{Wire}
use Rattle.device.specs.Live.{told_world}
use Rattle.device.specs.World.{World, step}
use Rattle.device.proofs.LiveLemmas.{length_told}
use Rattle.device.proofs.Shape.{step_shape}
use Rattle.live_run.specs.Arrivals.{arrivals, cuts}
use Rattle.live_run.specs.Bursts.{united}
use Rattle.live_run.specs.Live.{AllMet, Noted, live_after, live_answers, with_writes}
use Rattle.hosted.specs.Hosted.{with_world}
use Rattle.card.specs.Card.{CardState}
use Rattle.card.specs.Life.{Happens, after_deed, card_after, over_world, world_of}
use Rattle.card.specs.Served.{AreWired}
use Rattle.card.specs.Wired.{HasLivedThrough}
use Rattle.card.specs.declared.serving.WireCount.{WireCount}
use Rattle.card.proofs.Raised.{both_none}
use Rattle.card.proofs.Services.{AreSets, both_sets, event_lives, none_here, united_on}

-- the card after frames, while guests write their memories
abbrev wired : CardState → Noted → List Event → List Noted → CardState
wired c b es ts = record {
  hosted = with_world c.hosted (live_after (world_of c) b es ts);
  ends = c.ends;
  raised = united c.raised (live_answers (world_of c) b es ts);
}

wires_live : (shared : Bool) (fs : List (List ℕ)) (c : CardState) (b : Noted) (ts : List Noted) (n : ℕ) → length (world_of c).functions ≡ n → AreSets c.raised
    → AllMet shared (world_of c) b (map Wire fs) ts → length ts ≡ length {A = Event} (map Wire fs) → card_after c (map Happens (with_writes n b (map Wire fs) ts)) ≡ wired c b (map Wire fs) ts
unfolding with_writes live_after live_answers united AllMet
wires_live shared [] c b ts n count sets met long = refl
wires_live shared (f ∷ fs) c b [] n count sets met long = absurd (omega (arith, long))
wires_live shared (f ∷ fs) c b (t ∷ ts) n count sets met long =
    event_lives shared c b t (Wire f) (with_writes n t (map Wire fs) ts) n count sets met.0.0
    ∙ wires_live shared fs d t ts n ((step_shape told (Wire f)).functions ∙ length_told b t (world_of c).functions ∙ count) (both_sets c.raised a.raised) met.1 (omega (arith, long))
  where
    told : World
    told = told_world b t (world_of c)

    a : Answer
    a = (step told (Wire f)).answer

    d : CardState
    d = after_deed (over_world c told) (Happens (Wire f))

frames_live : (shared : Bool) (ends bytes : List ℕ) (c : CardState) (b : Noted) (ts : List Noted) (n : ℕ) → length (world_of c).functions ≡ n → AreSets c.raised
    → AllMet shared (world_of c) b (arrivals ends bytes) ts → length ts ≡ length (arrivals ends bytes) → card_after c (map Happens (with_writes n b (arrivals ends bytes) ts)) ≡ wired c b (arrivals ends bytes) ts
unfolding arrivals
frames_live shared ends bytes c b ts n count sets met long = wires_live shared (filter (is_frame 9018) (cuts 0 ends bytes)) c b ts n count sets met long

pub burst_lives : (shared : Bool) (old new : CardState) (ends bytes : List ℕ) (count : WireCount) → AreWired shared ends bytes old new count → length old.raised ≡ 64 → ((p : ℕ) → slice_index old.raised p < 8) → HasLivedThrough shared (arrivals ends bytes) old new
burst_lives shared old new ends bytes count is many small = record {
  noted = is.burst.run.noted;
  each = is.burst.run.each;
  met = is.burst.run.met;
  last = is.burst.run.accesses;
  lived =
      (λ i. record {
        hosted = record { device = record { world = is.burst.run.world i; accesses = old.hosted.device.accesses }; host = is.host i; mailboxes = is.mailboxes i };
        ends = is.ends i;
        raised = (is.raised ∙ ap (both old.raised) (is.burst.raised ∙ ap (united no_messages) is.burst.run.answered) ∙ united_on old.raised no_messages answers
            ∙ ap (λ (r : List ℕ). united r answers) (both_none old.raised no_messages many small none_here)) i;
      })
      ∙ sym (frames_live shared ends bytes old old.hosted.device.accesses is.burst.run.noted (length (world_of old).functions) refl (record { many = many; small = small }) is.burst.run.met is.burst.run.each);
}
  where
    answers : List Answer
    answers = live_answers (world_of old) old.hosted.device.accesses (arrivals ends bytes) is.burst.run.noted
