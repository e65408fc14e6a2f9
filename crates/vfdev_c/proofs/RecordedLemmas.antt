-- One more kept call.
use Rattle.std.proofs.Common.{◌≡◌, ℕ, true, false, true≢false, List, [], ◌∷◌, ◌++◌, sym, ap, subst, ◌∙◌}
use Rattle.std.specs.Prelude.{Some}
use Rattle.device.specs.Events.{Event}
use Rattle.device.specs.declared.response.Response.{Response}
use Rattle.device.specs.declared.room.Room.{Room}
use Rattle.device.specs.Takes.{Takes}
use Rattle.device.specs.World.{World, step}
use Rattle.history.specs.declared.caller.Caller.TheVariants.{Driver}
use Rattle.history.specs.Entries.{entry}
use Rattle.history.specs.Recording.{Logged, keeping as keep_call}
use Rattle.irq_causes.specs.Messages.{no_messages}
use Rattle.vfdev_c.proofs.HandleLemmas.{Isolates, isolated_at}
use Rattle.vfdev_c.proofs.WantedLemmas.{Comes, alike, comes_of}
use Rattle.vfdev_c.specs.declared.handed.Handed.{Handed}
use Rattle.vfdev_c.specs.declared.handle_state.HandleState.TheVariants.{Kept}
use Rattle.vfdev_c.specs.declared.wanted.Wanted.{Wanted}
use Rattle.vfdev_c.specs.Handle.{bytes_on, history_full, left_on, raised_on}
use Rattle.vfdev_c.specs.Recorded.{Recorded, recorded, recorded_of, is_full, keeping, kept_as}
use Rattle.vfdev_c.specs.Wanted.{event_in, Hands, HandsOver, IsWanted}

-- where no more calls can be kept
pub full_hands : (r new : Recorded) (e : Event) (handed : Handed) (before after : List ℕ) → is_full r ≡ true → new ≡ r → handed.reply ≡ history_full → handed.messages ≡ no_messages
    → handed.left ≡ 0 → after ≡ before → Hands (Some (Kept r)) e (Some (Kept new)) handed before after
full_hands r new e handed before after full same replied raises left stays = record {
  gives = record {
    called = record {
      held = rw full (ap (λ r. Some (Kept r)) same);
      replied = rw full replied;
      isolated = λ not. absurd (true≢false (sym full ∙ not));
      once = tt;
      listed = tt;
    };
    raises = rw (full, raised_on) raises;
  };
  left = rw (full, left_on) left;
  frame = λ long. rw (full, left_on) stays;
  bytes = λ p at is. rw (full, bytes_on) stays;
}

-- where one more can: the device takes the event that the call is kept as, and does the same
pub kept_hands : (old new : Logged) (w : World) (r : Recorded) (wanted : Wanted) (d : Event) (response : Response) (room : Room) (handed : Handed) (before after : List ℕ)
    → recorded_of old ≡ r → is_full r ≡ false → IsWanted wanted → d ≡ kept_as (event_in wanted) → Takes old.live d new.live response room → new ≡ keep_call old Driver d
    → HandsOver response room handed before after → w ≡ old.live → Isolates w
    → Hands (Some (Kept r)) (event_in wanted) (Some (Kept (recorded_of new))) handed before after
kept_hands old new w r wanted d response room handed before after seen more wants so takes kept over there law =
    let e = event_in wanted in
    let same : step old.live d ≡ step old.live e = ap (step old.live) so ∙ (alike old.live wanted wants).does in
    let one_more : recorded_of new ≡ keeping (recorded_of old) e =
    ap recorded_of kept ∙ (λ i. recorded (same i).world (old.kept ++ entry Driver (so i) (same i).answer ∷ []) old.cap) in
    subst (λ r. Hands (Some (Kept r)) e (Some (Kept (recorded_of new))) handed before after) seen
    (known (recorded_of old) (recorded_of new) e handed before after (ap is_full seen ∙ more) one_more
    (comes_of old.live new.live wanted d response room handed before after wants so takes over) (subst Isolates there law))
  where
    known : (r new : Recorded) (e : Event) (handed : Handed) (before after : List ℕ) → is_full r ≡ false → new ≡ keeping r e → Comes r.live e new.live handed before after
        → Isolates r.live → Hands (Some (Kept r)) e (Some (Kept new)) handed before after
    known r new e handed before after more is comes law = record {
      gives = record {
        called = record {
          held = rw more (ap (λ r. Some (Kept r)) is);
          replied = rw more comes.replied;
          isolated = λ _. isolated_at r.live new.live e comes.world law;
          once = tt;
          listed = tt;
        };
        raises = rw (more, raised_on) comes.raises;
      };
      left = rw (more, left_on) comes.left;
      frame = λ long. rw (more, left_on) (comes.frame long);
      bytes = λ p at is. rw (more, bytes_on) (comes.bytes p at is);
    }
