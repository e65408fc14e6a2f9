-- Runs while guests write their memories are the same to each function outside a group that the settings keep apart, whatever the group does.
use Rattle.std.proofs.Common.{◌≡◌, ℕ, ◌<◌, ◌≤◌, Bool, false, List, length, sym, ap, subst, ◌∙◌}
use Rattle.live_memory.specs.Trace.{since}
use Rattle.live_memory.proofs.Accesses.{since_is}
use Rattle.device.specs.Events.{Event}
use Rattle.device.specs.declared.event.Answer.{Answer}
use Rattle.device.specs.World.{World}
use Rattle.device.specs.Lone.{lone_of, seen_by}
use Rattle.device.specs.Live.{TracedWorld, trace_of}
use Rattle.device.specs.Erased.{erase, StaysApart, AlikeOutside}
use Rattle.device.proofs.AlikeSteps.{alike_itself, alike_lone}
use Rattle.live_run.specs.Live.{Noted, live_after, live_answers, IsLiveRun}
use Rattle.live_run.specs.Erased.{outside, erase_noted, answers_of, AllAnsweredAlike, live_accesses}
use Rattle.live_run.proofs.ErasedRuns.{SameOutside, run_without, noted_without, made_in_run, same_count_after}

-- ---- without the group's events

-- from any world that is alike, where the memories outside answered the same
same_without : (group : ℕ → Bool) (shared : Bool) (p : ℕ) (old new : TracedWorld) (events : List Event) (answers : List Answer) (run : IsLiveRun shared old events answers new) (v : World) (before : Noted) (noted : List Noted) → p < length old.world.functions → length old.world.functions ≤ 64 → group p ≡ false
    → AlikeOutside group old.world v → StaysApart group old.world.settings events → AllAnsweredAlike group old.accesses events run.noted before (erase group events) noted → SameOutside group p old.world old.accesses events run.noted v before (erase group events) noted
same_without group shared p old new events answers run v before noted below few out a stays answered = run_without group shared p old.world v events old.accesses before run.noted noted below few out a run.met run.each stays answered

seen_with : (group : ℕ → Bool) (shared : Bool) (p : ℕ) (old new : TracedWorld) (events : List Event) (answers : List Answer) (run : IsLiveRun shared old events answers new) (v : World) (before : Noted) (noted : List Noted) → p < length old.world.functions → length old.world.functions ≤ 64 → group p ≡ false
    → AlikeOutside group old.world v → StaysApart group old.world.settings events → AllAnsweredAlike group old.accesses events run.noted before (erase group events) noted
    → seen_by p events answers ≡ seen_by p (erase group events) (live_answers v before (erase group events) noted)
seen_with group shared p old new events answers run v before noted below few out a stays answered =
    ap (seen_by p events) run.answered ∙ (same_without group shared p old new events answers run v before noted below few out a stays answered).seen

state_with : (group : ℕ → Bool) (shared : Bool) (p : ℕ) (old new : TracedWorld) (events : List Event) (answers : List Answer) (run : IsLiveRun shared old events answers new) (v : World) (before : Noted) (noted : List Noted) → p < length old.world.functions → length old.world.functions ≤ 64 → group p ≡ false
    → AlikeOutside group old.world v → StaysApart group old.world.settings events → AllAnsweredAlike group old.accesses events run.noted before (erase group events) noted
    → lone_of p new.world ≡ lone_of p (live_after v before (erase group events) noted)
state_with group shared p old new events answers run v before noted below few out a stays answered =
    ap (lone_of p) run.world
    ∙ alike_lone group (live_after old.world old.accesses events run.noted) (live_after v before (erase group events) noted) (same_without group shared p old new events answers run v before noted below few out a stays answered).worlds p
    (subst (λ (n : ℕ). p < n) (sym (same_count_after old.world events old.accesses run.noted)) below) out

accesses_with : (group : ℕ → Bool) (shared : Bool) (p : ℕ) (old new : TracedWorld) (events : List Event) (answers : List Answer) (run : IsLiveRun shared old events answers new) (v : World) (before : Noted) (noted : List Noted) → p < length old.world.functions → length old.world.functions ≤ 64 → group p ≡ false
    → AlikeOutside group old.world v → StaysApart group old.world.settings events → AllAnsweredAlike group old.accesses events run.noted before (erase group events) noted
    → since (trace_of old.accesses p) (trace_of new.accesses p) ≡ live_accesses p v before (erase group events) noted
accesses_with group shared p old new events answers run v before noted below few out a stays answered =
    ap (λ (t : Noted). since (trace_of old.accesses p) (trace_of t p)) run.accesses
    ∙ since_is (trace_of old.accesses p) _ (live_accesses p old.world old.accesses events run.noted) (made_in_run shared p old.world events old.accesses run.noted run.met run.each)
    ∙ (same_without group shared p old new events answers run v before noted below few out a stays answered).accesses

-- ---- with just what the memories outside answered

pub answered_erased : (group : ℕ → Bool) (shared : Bool) (old new : TracedWorld) (events : List Event) (answers : List Answer) (run : IsLiveRun shared old events answers new) → length old.world.functions ≤ 64 → StaysApart group old.world.settings events
    → AllAnsweredAlike group old.accesses events run.noted (outside group old.accesses) (erase group events) (erase_noted group events run.noted)
answered_erased group shared old new events answers run few stays = noted_without group shared old.world events old.accesses run.noted few run.met run.each stays

pub seen_erased : (group : ℕ → Bool) (shared : Bool) (p : ℕ) (old new : TracedWorld) (events : List Event) (answers : List Answer) (run : IsLiveRun shared old events answers new) (v : World) → p < length old.world.functions → length old.world.functions ≤ 64 → group p ≡ false
    → AlikeOutside group old.world v → StaysApart group old.world.settings events
    → seen_by p events answers ≡ seen_by p (erase group events) (live_answers v (outside group old.accesses) (erase group events) (erase_noted group events run.noted))
seen_erased group shared p old new events answers run v below few out a stays =
    seen_with group shared p old new events answers run v (outside group old.accesses) (erase_noted group events run.noted) below few out a stays (answered_erased group shared old new events answers run few stays)

pub state_erased : (group : ℕ → Bool) (shared : Bool) (p : ℕ) (old new : TracedWorld) (events : List Event) (answers : List Answer) (run : IsLiveRun shared old events answers new) (v : World) → p < length old.world.functions → length old.world.functions ≤ 64 → group p ≡ false
    → AlikeOutside group old.world v → StaysApart group old.world.settings events
    → lone_of p new.world ≡ lone_of p (live_after v (outside group old.accesses) (erase group events) (erase_noted group events run.noted))
state_erased group shared p old new events answers run v below few out a stays =
    state_with group shared p old new events answers run v (outside group old.accesses) (erase_noted group events run.noted) below few out a stays (answered_erased group shared old new events answers run few stays)

pub accesses_erased : (group : ℕ → Bool) (shared : Bool) (p : ℕ) (old new : TracedWorld) (events : List Event) (answers : List Answer) (run : IsLiveRun shared old events answers new) (v : World) → p < length old.world.functions → length old.world.functions ≤ 64 → group p ≡ false
    → AlikeOutside group old.world v → StaysApart group old.world.settings events
    → since (trace_of old.accesses p) (trace_of new.accesses p) ≡ live_accesses p v (outside group old.accesses) (erase group events) (erase_noted group events run.noted)
accesses_erased group shared p old new events answers run v below few out a stays =
    accesses_with group shared p old new events answers run v (outside group old.accesses) (erase_noted group events run.noted) below few out a stays (answered_erased group shared old new events answers run few stays)

pub worlds_erased : (group : ℕ → Bool) (shared : Bool) (p : ℕ) (old new : TracedWorld) (events : List Event) (answers : List Answer) (run : IsLiveRun shared old events answers new) (v : World) → p < length old.world.functions → length old.world.functions ≤ 64 → group p ≡ false
    → AlikeOutside group old.world v → StaysApart group old.world.settings events
    → AlikeOutside group new.world (live_after v (outside group old.accesses) (erase group events) (erase_noted group events run.noted))
worlds_erased group shared p old new events answers run v below few out a stays =
    subst (λ (u : World). AlikeOutside group u (live_after v (outside group old.accesses) (erase group events) (erase_noted group events run.noted))) (sym run.world)
    (same_without group shared p old new events answers run v (outside group old.accesses) (erase_noted group events run.noted) below few out a stays (answered_erased group shared old new events answers run few stays)).worlds

-- ---- whatever the group does

-- what the memories outside answered in the second run is what they answered in the first without the group's events
as_erased : (group : ℕ → Bool) (shared : Bool) (old new : TracedWorld) (events : List Event) (answers : List Answer) (run : IsLiveRun shared old events answers new) (other_old : TracedWorld) (others : List Event) (other_noted : List Noted) → length old.world.functions ≤ 64
    → StaysApart group old.world.settings events → erase group events ≡ erase group others → AllAnsweredAlike group old.accesses events run.noted other_old.accesses others other_noted
    → AllAnsweredAlike group other_old.accesses others other_noted (outside group old.accesses) (erase group others) (erase_noted group events run.noted)
as_erased group shared old new events answers run other_old others other_noted few stays same answered = λ r small out.
    sym (answered r small out)
    ∙ answered_erased group shared old new events answers run few stays r small out
    ∙ ap (λ (es : List Event). answers_of group r (outside group old.accesses) es (erase_noted group events run.noted)) same

pub seen_whatever : (group : ℕ → Bool) (shared other_shared : Bool) (p : ℕ) (old new other_old other_new : TracedWorld) (events others : List Event) (answers other_answers : List Answer) (run : IsLiveRun shared old events answers new) (other : IsLiveRun other_shared other_old others other_answers other_new)
    → p < length old.world.functions → length old.world.functions ≤ 64 → group p ≡ false → AlikeOutside group old.world other_old.world → erase group events ≡ erase group others → StaysApart group old.world.settings events → StaysApart group other_old.world.settings others
    → AllAnsweredAlike group old.accesses events run.noted other_old.accesses others other.noted
    → seen_by p events answers ≡ seen_by p others other_answers
seen_whatever group shared other_shared p old new other_old other_new events others answers other_answers run other below few out a same stays other_stays answered =
    let noted : List Noted = erase_noted group events run.noted in
    seen_erased group shared p old new events answers run other_old.world below few out a stays
    ∙ ap (λ (es : List Event). seen_by p es (live_answers other_old.world (outside group old.accesses) es noted)) same
    ∙ sym (seen_with group other_shared p other_old other_new others other_answers other other_old.world (outside group old.accesses) noted (subst (λ (n : ℕ). p < n) a.count below) (subst (λ (n : ℕ). n ≤ 64) a.count few) out
    (alike_itself group other_old.world) other_stays (as_erased group shared old new events answers run other_old others other.noted few stays same answered))

pub state_whatever : (group : ℕ → Bool) (shared other_shared : Bool) (p : ℕ) (old new other_old other_new : TracedWorld) (events others : List Event) (answers other_answers : List Answer) (run : IsLiveRun shared old events answers new) (other : IsLiveRun other_shared other_old others other_answers other_new)
    → p < length old.world.functions → length old.world.functions ≤ 64 → group p ≡ false → AlikeOutside group old.world other_old.world → erase group events ≡ erase group others → StaysApart group old.world.settings events → StaysApart group other_old.world.settings others
    → AllAnsweredAlike group old.accesses events run.noted other_old.accesses others other.noted
    → lone_of p new.world ≡ lone_of p other_new.world
state_whatever group shared other_shared p old new other_old other_new events others answers other_answers run other below few out a same stays other_stays answered =
    let noted : List Noted = erase_noted group events run.noted in
    state_erased group shared p old new events answers run other_old.world below few out a stays
    ∙ ap (λ (es : List Event). lone_of p (live_after other_old.world (outside group old.accesses) es noted)) same
    ∙ sym (state_with group other_shared p other_old other_new others other_answers other other_old.world (outside group old.accesses) noted (subst (λ (n : ℕ). p < n) a.count below) (subst (λ (n : ℕ). n ≤ 64) a.count few) out
    (alike_itself group other_old.world) other_stays (as_erased group shared old new events answers run other_old others other.noted few stays same answered))

pub accesses_whatever : (group : ℕ → Bool) (shared other_shared : Bool) (p : ℕ) (old new other_old other_new : TracedWorld) (events others : List Event) (answers other_answers : List Answer) (run : IsLiveRun shared old events answers new) (other : IsLiveRun other_shared other_old others other_answers other_new)
    → p < length old.world.functions → length old.world.functions ≤ 64 → group p ≡ false → AlikeOutside group old.world other_old.world → erase group events ≡ erase group others → StaysApart group old.world.settings events → StaysApart group other_old.world.settings others
    → AllAnsweredAlike group old.accesses events run.noted other_old.accesses others other.noted
    → since (trace_of old.accesses p) (trace_of new.accesses p) ≡ since (trace_of other_old.accesses p) (trace_of other_new.accesses p)
accesses_whatever group shared other_shared p old new other_old other_new events others answers other_answers run other below few out a same stays other_stays answered =
    let noted : List Noted = erase_noted group events run.noted in
    accesses_erased group shared p old new events answers run other_old.world below few out a stays
    ∙ ap (λ (es : List Event). live_accesses p other_old.world (outside group old.accesses) es noted) same
    ∙ sym (accesses_with group other_shared p other_old other_new others other_answers other other_old.world (outside group old.accesses) noted (subst (λ (n : ℕ). p < n) a.count below) (subst (λ (n : ℕ). n ≤ 64) a.count few) out
    (alike_itself group other_old.world) other_stays (as_erased group shared old new events answers run other_old others other.noted few stays same answered))
