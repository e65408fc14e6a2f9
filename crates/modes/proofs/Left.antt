-- The lines of what is left of a list, after one more event or frame.
use Rattle.std.proofs.Common.{◌≡◌, ℕ, suc, List, [], Option, ◌++◌, ◌+◌, ◌<◌, length, drop, append_assoc, sym, ◌∙◌, subst, arith}
use Rattle.std.proofs.lemmas.List.{at_drop_more}
use Rattle.std.specs.Prelude.{slice_index_or}
use Rattle.device.specs.Events.{Event}
use Rattle.device.specs.declared.event.Event.TheVariants.{PfReset}
use Rattle.device.specs.declared.event.Answer.{Answer}
use Rattle.device.specs.World.{World, step, answers, world_after}
use Rattle.device.specs.Lone.{Item, Observation, Lone, alone, kept}
use Rattle.lone.specs.Kept.{Watched, moved_by_kept, shown_by_kept}
use Rattle.transcript.specs.Known.{Began, Sent}
use Rattle.transcript.specs.Text.{line, frame_line, item_line, seen_line}
use Rattle.transcript.specs.Lines.{if_any, lines, frame_lines, kept_lines, seen_lines, run_text, keep_text, lone_text}

after_one : (n : ℕ) → suc n ≡ n + 1
after_one n = omega arith

-- ---- answers

-- the event after the first i, in the world before it
pub answers_next : (w after : World) (es : List Event) (i : ℕ) (e : Event) (a : Answer) → i < length es → e ≡ slice_index_or es i PfReset
    → after ≡ (step w e).world → a ≡ (step w e).answer
    → lines (i + 1) (answers w (drop i es)) ≡ line (i + 1) a ++ lines (i + 1 + 1) (answers after (drop (i + 1) es))
answers_next w after es i e a less is world answer =
    at_drop_more (λ xs. lines (i + 1) (answers w xs)) es i PfReset less
    ∙ (λ k. line (i + 1) (step w (sym is k)).answer ++ lines (after_one (i + 1) k) (answers (step w (sym is k)).world (drop (i + 1) es)))
    ∙ (λ k. line (i + 1) (sym answer k) ++ lines (i + 1 + 1) (answers (sym world k) (drop (i + 1) es)))

pub world_next : (w after : World) (es : List Event) (i : ℕ) (e : Event) → i < length es → e ≡ slice_index_or es i PfReset
    → after ≡ (step w e).world → world_after after (drop (i + 1) es) ≡ world_after w (drop i es)
world_next w after es i e less is world =
    sym (at_drop_more (world_after w) es i PfReset less ∙ (λ k. world_after (step w (sym is k)).world (drop (i + 1) es)) ∙ (λ k. world_after (sym world k) (drop (i + 1) es)))

-- ---- frames

pub frames_next : (fs : List (List ℕ)) (i : ℕ) (f : List ℕ) → i < length fs → f ≡ slice_index_or fs i []
    → frame_lines (drop i fs) ≡ frame_line f ++ frame_lines (drop (i + 1) fs)
frames_next fs i f less is = at_drop_more frame_lines fs i [] less ∙ (λ k. frame_line (sym is k) ++ frame_lines (drop (i + 1) fs))

-- ---- what is kept for a pool

pub kept_next : (p q : ℕ) (w after : World) (es : List Event) (i : ℕ) (e : Event) (k : Option Item) → i < length es → e ≡ slice_index_or es i PfReset
    → after ≡ (step w e).world → k ≡ kept p w e → q ≡ p
    → kept_lines (i + 1) p w (drop i es) ≡ if_any item_line (i + 1) k ++ kept_lines (i + 1 + 1) q after (drop (i + 1) es)
kept_next p q w after es i e k less is world left same =
    at_drop_more (kept_lines (i + 1) p w) es i PfReset less
    ∙ (λ j. if_any item_line (i + 1) (kept p w (sym is j)) ++ kept_lines (after_one (i + 1) j) p (step w (sym is j)).world (drop (i + 1) es))
    ∙ (λ j. if_any item_line (i + 1) (sym left j) ++ kept_lines (i + 1 + 1) (sym same j) (sym world j) (drop (i + 1) es))

-- ---- what is seen of a lone function

-- where the pool is read after the event
pub seen_next : (p q r : ℕ) (s moved : Lone) (w after : World) (es : List Event) (i : ℕ) (e : Event) (o : Option Observation) → i < length es → e ≡ slice_index_or es i PfReset
    → q ≡ p → r ≡ q → after ≡ (step w e).world → moved ≡ moved_by_kept s (kept p w e) → o ≡ shown_by_kept s (kept p w e)
    → seen_lines (i + 1) p s w (drop i es) ≡ if_any (seen_line r) (i + 1) o ++ seen_lines (i + 1 + 1) q moved after (drop (i + 1) es)
seen_next p q r s moved w after es i e o less is same read world lone seen =
    at_drop_more (seen_lines (i + 1) p s w) es i PfReset less
    ∙ (λ j. if_any (seen_line p) (i + 1) (shown_by_kept s (kept p w (sym is j)))
    ++ seen_lines (after_one (i + 1) j) p (moved_by_kept s (kept p w (sym is j))) (step w (sym is j)).world (drop (i + 1) es))
    ∙ (λ j. if_any (seen_line (sym (read ∙ same) j)) (i + 1) (sym seen j) ++ seen_lines (i + 1 + 1) (sym same j) (sym lone j) (sym world j) (drop (i + 1) es))

-- ---- the whole of a run

pub began_as : (a b : Option (List ℕ)) (text whole : List ℕ) → text ≡ whole → Began a b text → Began a b whole
began_as a b text whole is began = let P : List ℕ → Type 0 = λ t. Began a b t in subst P is began

pub sent_as : (a b : Option (List ℕ)) (text whole held : List ℕ) → text ≡ whole → Sent a b text held → Sent a b whole held
sent_as a b text whole held is sent = let P : List ℕ → Type 0 = λ t. Sent a b t held in subst P is sent

pub run_whole : (out : List ℕ) (device after last : World) (es : List Event) → after ≡ world_after device es → last ≡ after
    → (out ++ lines 1 (answers device es)) ++ frame_lines last.wire ≡ out ++ run_text device es
run_whole out device after last es now still =
    append_assoc out (lines 1 (answers device es)) (frame_lines last.wire)
    ∙ (λ k. out ++ (lines 1 (answers device es) ++ frame_lines ((still ∙ now) k).wire))

pub run_over : (out : List ℕ) (d device shape : World) (es : List Event) → d ≡ device → device ≡ shape → out ++ run_text d es ≡ out ++ run_text shape es
run_over out d device shape es same is = λ k. out ++ run_text ((same ∙ is) k) es

-- ---- the whole of what is kept, and of what is seen

pub kept_whole : (out : List ℕ) (w v : Watched) (device shape : World) (p : ℕ) (es : List Event) → w ≡ v → v ≡ record { world = device; pool = p } → device ≡ shape
    → out ++ keep_text w.pool w.world es ≡ out ++ keep_text p shape es
kept_whole out w v device shape p es same made is =
    (λ k. out ++ keep_text ((same ∙ made) k).pool ((same ∙ made) k).world es) ∙ (λ k. out ++ keep_text p (is k) es)

pub seen_same : (out : List ℕ) (w : World) (p : ℕ) (s l : Lone) (limit most size : ℕ) (es : List Event) → s ≡ l → l ≡ alone limit size → limit ≡ most
    → out ++ lone_text p s w es ≡ out ++ lone_text p (alone most size) w es
seen_same out w p s l limit most size es new made as_long =
    (λ k. out ++ lone_text p ((new ∙ made) k) w es) ∙ (λ k. out ++ lone_text p (alone (as_long k) size) w es)

pub seen_whole : (out : List ℕ) (w v : Watched) (device shape : World) (p limit size asked : ℕ) (es : List Event)
    → w ≡ v → v ≡ record { world = device; pool = p } → device ≡ shape → size ≡ asked
    → out ++ lone_text w.pool (alone limit size) w.world es ≡ out ++ lone_text p (alone limit asked) shape es
seen_whole out w v device shape p limit size asked es same made is as_asked =
    (λ k. out ++ lone_text ((same ∙ made) k).pool (alone limit size) ((same ∙ made) k).world es) ∙ (λ k. out ++ lone_text p (alone limit (as_asked k)) (is k) es)
