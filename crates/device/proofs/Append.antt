-- Runs one after another are one run: what is said of a list of events is said of two lists in turn.
use Rattle.std.proofs.Common.{◌≡◌, ℕ, suc, List, [], ◌∷◌, ◌++◌, Option, Some, None, refl, sym, ap, ◌∙◌, arith, length}
use Rattle.std.proofs.Math.Nat.{suc-ne-zero}
use Rattle.std.specs.List.{cons_option}
use Rattle.device.specs.Events.{Event}
use Rattle.device.specs.declared.event.Answer.{Answer}
use Rattle.device.specs.World.{World, step, answers, world_after}
use Rattle.device.specs.Lone.{Item, Lone, moved, shown, kept, keep, lone_after, lone_seen, seen_of, seen_by}

cons_option_append : {X : Type 0} (x : Option X) (xs ys : List X) → cons_option x (xs ++ ys) ≡ cons_option x xs ++ ys
cons_option_append None xs ys = refl
cons_option_append (Some x) xs ys = refl

-- ---- a device

pub answers_append : (w : World) (first second : List Event) → answers w (first ++ second) ≡ answers w first ++ answers (world_after w first) second
answers_append w [] second = refl
answers_append w (e ∷ es) second = ap (λ given. (step w e).answer ∷ given) (answers_append (step w e).world es second)

pub world_after_append : (w : World) (first second : List Event) → world_after w (first ++ second) ≡ world_after (world_after w first) second
world_after_append w [] second = refl
world_after_append w (e ∷ es) second = world_after_append (step w e).world es second

-- there is an answer to each event
pub length_answers : (w : World) (events : List Event) → length (answers w events) ≡ length events
length_answers w [] = refl
length_answers w (e ∷ es) = ap suc (length_answers (step w e).world es)

-- ---- one function's part

pub keep_append : (p : ℕ) (w : World) (first second : List Event) → keep p w (first ++ second) ≡ keep p w first ++ keep p (world_after w first) second
keep_append p w [] second = refl
keep_append p w (e ∷ es) second =
    ap (cons_option (kept p w e)) (keep_append p (step w e).world es second)
    ∙ cons_option_append (kept p w e) (keep p (step w e).world es) (keep p (world_after w (e ∷ es)) second)

pub lone_after_append : (s : Lone) (first second : List Item) → lone_after s (first ++ second) ≡ lone_after (lone_after s first) second
lone_after_append s [] second = refl
lone_after_append s (k ∷ ks) second = lone_after_append (moved s k) ks second

pub lone_seen_append : (s : Lone) (first second : List Item) → lone_seen s (first ++ second) ≡ lone_seen s first ++ lone_seen (lone_after s first) second
lone_seen_append s [] second = refl
lone_seen_append s (k ∷ ks) second =
    ap (cons_option (shown s k)) (lone_seen_append (moved s k) ks second)
    ∙ cons_option_append (shown s k) (lone_seen (moved s k) ks) (lone_seen (lone_after s (k ∷ ks)) second)

-- of answers that are as many as the first events
pub seen_by_append : (p : ℕ) (first second : List Event) (given more : List Answer) → length given ≡ length first
    → seen_by p (first ++ second) (given ++ more) ≡ seen_by p first given ++ seen_by p second more
seen_by_append p [] second [] more same = refl
seen_by_append p [] second (a ∷ given) more same = absurd (suc-ne-zero _ same)
seen_by_append p (e ∷ es) second [] more same = absurd (suc-ne-zero _ (sym same))
seen_by_append p (e ∷ es) second (a ∷ given) more same =
    ap (cons_option (seen_of p e a)) (seen_by_append p es second given more (omega arith))
    ∙ cons_option_append (seen_of p e a) (seen_by p es given) (seen_by p second more)

pub seen_by_answers_append : (p : ℕ) (w : World) (first second : List Event)
    → seen_by p (first ++ second) (answers w (first ++ second)) ≡ seen_by p first (answers w first) ++ seen_by p second (answers (world_after w first) second)
seen_by_answers_append p w first second =
    ap (seen_by p (first ++ second)) (answers_append w first second)
    ∙ seen_by_append p first second (answers w first) (answers (world_after w first) second) (length_answers w first)
