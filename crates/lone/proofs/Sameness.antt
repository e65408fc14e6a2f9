-- A lone function that is as its pool's part of a device stays so, and shows what the device shows of the pool.
use Rattle.std.proofs.Common.{◌≡◌, ◌<◌, ◌≤◌, Option, Some, None, sym, ap, ◌∙◌, arith, length}
use Rattle.device.specs.Events.{Event}
use Rattle.device.specs.World.{step}
use Rattle.device.specs.Lone.{Item, Observation, Lone, lone_of, kept, seen_of}
use Rattle.device.proofs.Steps.{Follows, step_follows}
use Rattle.lone.specs.Kept.{Watched, IsPartOf, moved_by_kept, shown_by_kept}

follows_state : (s : Lone) (seen : Option Observation) (after : Lone) (k : Option Item) → Follows s seen after k → moved_by_kept s k ≡ after
follows_state s seen after None h = sym h.1
follows_state s seen after (Some k) h = sym h.1

follows_sight : (s : Lone) (seen : Option Observation) (after : Lone) (k : Option Item) → Follows s seen after k → shown_by_kept s k ≡ seen
follows_sight s seen after None h = sym h.0
follows_sight s seen after (Some k) h = sym h.0

-- a function and a world before an event, and after
pub same_state : (before : Lone) (w : Watched) (e : Event) (after : Lone) (w' : Watched)
    → after ≡ moved_by_kept before (kept w.pool w.world e) → w'.world ≡ (step w.world e).world → w'.pool ≡ w.pool
    → IsPartOf before w → w.pool < length w.world.functions → length w.world.functions ≤ 64 → IsPartOf after w'
same_state before w e after w' states worlds pools part below few =
    states ∙ ap (λ s. moved_by_kept s (kept w.pool w.world e)) part
    ∙ follows_state (lone_of w.pool w.world) (seen_of w.pool e (step w.world e).answer) (lone_of w.pool (step w.world e).world) (kept w.pool w.world e) (step_follows w.pool w.world e below (omega arith))
    ∙ (λ i. lone_of (sym pools i) (sym worlds i))

pub same_sight : (before : Lone) (w : Watched) (e : Event) (seen : Option Observation)
    → seen ≡ shown_by_kept before (kept w.pool w.world e)
    → IsPartOf before w → w.pool < length w.world.functions → length w.world.functions ≤ 64 → seen ≡ seen_of w.pool e (step w.world e).answer
same_sight before w e seen is part below few =
    is ∙ ap (λ s. shown_by_kept s (kept w.pool w.world e)) part
    ∙ follows_sight (lone_of w.pool w.world) (seen_of w.pool e (step w.world e).answer) (lone_of w.pool (step w.world e).world) (kept w.pool w.world e) (step_follows w.pool w.world e below (omega arith))
