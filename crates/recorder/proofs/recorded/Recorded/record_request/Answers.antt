-- One more call is kept, and its messages are raised.
use Rattle.std.proofs.Common.{arith, ◌≡◌, ℕ, true, ◌+◌, ◌<◌, ◌∙◌, [], ◌∷◌, length, length-append, ap, sym, subst, refl}
use Rattle.std.specs.Prelude.{slice_index}
use Rattle.std.specs.Int.{bit_at}
use Rattle.irq_line.specs.Line.{raised}
use Rattle.device.specs.declared.event.Answer.{Answer}
use Rattle.device.specs.Request.{event_of}
use Rattle.device.specs.declared.profile.Profile.{Profile}
use Rattle.device.specs.World.{step, fresh}
use Rattle.device.proofs.Shape.{step_shape}
use Rattle.history.specs.Entries.{Entry, entry}
use Rattle.history.specs.Recording.{Logged, made_like}
use Rattle.recorder.specs.Callers.{may}
use Rattle.recorder.specs.Legal.{AreAllowed, kept_raises}
use Rattle.recorder.specs.Held.{CallerLog}
use Rattle.recorder.proofs.CallLemmas.{allowed_more, beside_kept, kept_raises_more}
use Rattle.recorder.proofs.recorded.Recorded.record_request.Goals as goal
use Rattle.recorder.proofs.recorded.Recorded.record_request.Given as given

abbrev call : (g : given.Over) (c : goal.After-share-2-1 g) → Entry
call g c = entry c.share.inside.caller (event_of c.args.request) (step c.self.inside.recording.live (event_of c.args.request)).answer

-- its caller may make it
may_ask : (g : given.Over) (c : goal.After-share-2-1 g) → may c.share.inside.caller (event_of c.args.request) ≡ true
may_ask g c = ap (λ (m : CallerLog). may m.caller (event_of c.args.request)) c.share.view_is ∙ c.requires.may

-- what is raised is what the answer has
one_more : (g : given.Over) (c : goal.After-share-2-1 g) (p v : ℕ) → p < 64
    → raised p v c.raise_all.new.line.raises ≡ raised p v c.self.inside.line.raises + bit_at (slice_index (call g c).answer.raised p) v
one_more g c p v low = c.raise_all.ensures.raised p v low
    ∙ ap (λ (a : Answer). raised p v c.self.inside.line.raises + bit_at (slice_index a.raised p) v) c.record-response.ensures.takes.answer

kept_more : (g : given.Over) (c : goal.After-share-2-1 g) (p v : ℕ)
    → kept_raises p v c.record-response.new.self.kept ≡ kept_raises p v c.self.inside.recording.kept + bit_at (slice_index (call g c).answer.raised p) v
kept_more g c p v = ap (λ (r : Logged). kept_raises p v r.kept) c.record-response.ensures.kept ∙ kept_raises_more p v c.self.inside.recording.kept (call g c)

-- the device that it is made like stays
same_make : (g : given.Over) (c : goal.After-share-2-1 g) → made_like c.record-response.new.self.live ≡ made_like c.self.inside.recording.live
same_make g c =
    let limit : c.record-response.new.self.live.profile.limit ≡ c.self.inside.recording.live.profile.limit =
    ap (λ (r : Logged). r.live.profile.limit) c.record-response.ensures.kept ∙ ap (λ (p : Profile). p.limit) (step_shape c.self.inside.recording.live (event_of c.args.request)).profile in
    λ i. fresh (limit i) (c.record-response.ensures.takes.sizes i)

pub invariant_of-self : goal.invariant_of-self
invariant_of-self g c =
    let old = c.self.invariant in
    let kept = c.record-response.ensures.kept in
    record {
      allowed = subst (λ (r : Logged). AreAllowed r.kept) (sym kept)
          (allowed_more c.self.inside.recording.kept c.share.inside.caller (event_of c.args.request) (call g c).answer old.allowed (may_ask g c));
      first = λ none. ap (λ (r : Logged). r.base) kept ∙ old.first none ∙ sym (same_make g c);
      some = rw kept old.some;
      few = rw kept old.few;
      folded = old.folded;
      few_folded = old.few_folded;
      callers = old.callers;
      counted = let b = old.counted in let a = c.add.ensures.total in let k = ap (λ (r : Logged). length r.kept) kept in let l = length-append c.self.inside.recording.kept (call g c ∷ []) in omega arith;
      shares = old.shares;
      raises = λ p v low. let r = one_more g c p v low in let k = kept_more g c p v in let o = old.raises p v low in (omega arith, omega arith);
    }

pub returns-clause-recorded : goal.returns-clause-recorded
returns-clause-recorded g c = let more = c.record-response.ensures.kept in rw (← c.self.view_is, ← c.share.view_is) (record {
  takes = c.record-response.ensures.takes;
  keeps = record {
    kept = ap (λ (r : Logged). r.kept) more;
    live = ap (λ (r : Logged). r.live) more;
    base = ap (λ (r : Logged). r.base) more;
    cap = ap (λ (r : Logged). r.cap) more;
    has_twin = ap (λ (r : Logged). r.has_twin) more;
    tallies = refl;
    line = c.raise_all.ensures.line;
    folded_raises = λ p v low. beside_kept _ _ (bit_at (slice_index (call g c).answer.raised p) v) _ _ (one_more g c p v low) (kept_more g c p v);
  };
})
