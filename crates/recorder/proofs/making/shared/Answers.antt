-- The base is the device as it is, and nothing is kept or raised.
use Rattle.std.proofs.Common.{arith, rules, ◌≡◌, sym, subst}
use Rattle.history.specs.Recording.{Logged, made_like}
use Rattle.history.proofs.ReplayLemmas.{fresh_again}
use Rattle.recorder.specs.Legal.{AreAllowed}
use Rattle.recorder.proofs.CallLemmas.{allowed_none}
use Rattle.recorder.proofs.making.shared.Goals as goal

pub invariant_of-recorded : goal.invariant_of-recorded
invariant_of-recorded g c =
    let made = sym c.requires.begun in
    record {
      allowed = subst (λ (r : Logged). AreAllowed r.kept) made allowed_none;
      first = λ none. subst (λ (r : Logged). r.base ≡ made_like r.live) made (fresh_again c.args.recording.live _ _ c.requires.fresh.2);
      some = c.requires.some;
      few = c.requires.few;
      folded = sym c.no_calls.ensures.all;
      few_folded = omega arith;
      callers = c.no_calls.ensures.long;
      raises = λ p v low. rw (← made, c.requires.line) (omega arith, omega arith);
      counted = rw (← made) (omega (arith, c.no_calls.ensures.all));
      shares = search rules;
    }
