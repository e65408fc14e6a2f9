-- What the program writes, whole: for each event its line, with the event's number.
use Rattle.std.specs.Prelude.{ℕ, suc, List, [], ◌∷◌, ◌++◌, Option, Some, None}
use Rattle.std.specs.List.{cons_option}
use Rattle.device.specs.Events.{Event}
use Rattle.device.specs.declared.event.Answer.{Answer}
use Rattle.device.specs.World.{World, step, answers, world_after}
use Rattle.device.specs.Lone.{Item, Observation, Lone, kept, seen_of}
use Rattle.lone.specs.Kept.{moved_by_kept, shown_by_kept}
use Rattle.transcript.specs.Text.{line, frame_line, item_line, seen_line}

-- ---- texts one after another

-- the texts of values, each with its number, from n on
abbrev pub numbered : {A : Type 0} → (ℕ → A → List ℕ) → ℕ → List A → List ℕ
numbered text n [] = []
numbered text n (x ∷ xs) = text n x ++ numbered text (suc n) xs

-- the text of a value with its number, if there is one
abbrev pub if_any : {A : Type 0} → (ℕ → A → List ℕ) → ℕ → Option A → List ℕ
if_any text n None = []
if_any text n (Some x) = text n x

-- the values that are there
abbrev pub present : {A : Type 0} → List (Option A) → List A
present [] = []
present (x ∷ xs) = cons_option x (present xs)

-- ---- run

-- the lines of answers, numbered from n on
abbrev pub lines : ℕ → List Answer → List ℕ
lines n given = numbered line n given

abbrev pub frame_lines : List (List ℕ) → List ℕ
frame_lines [] = []
frame_lines (frame ∷ frames) = frame_line frame ++ frame_lines frames

-- the answers to events, and then the frames that are kept of those that left for the wire
abbrev pub run_text : World → List Event → List ℕ
run_text w es = lines 1 (answers w es) ++ frame_lines (world_after w es).wire

-- ---- keep

-- what each event leaves for a pool
abbrev pub kept_by_each : ℕ → World → List Event → List (Option Item)
kept_by_each p w [] = []
kept_by_each p w (e ∷ es) = kept p w e ∷ kept_by_each p (step w e).world es

-- the lines of what events leave for a pool, where the first of them has number n
abbrev pub kept_lines : ℕ → ℕ → World → List Event → List ℕ
kept_lines n p w es = numbered (if_any item_line) n (kept_by_each p w es)

-- what is kept for a pool of all that a script does
abbrev pub keep_text : ℕ → World → List Event → List ℕ
keep_text p w es = kept_lines 1 p w es

-- ---- lone

-- what is seen of a lone function by what each event leaves for it
abbrev pub seen_by_each : Lone → List (Option Item) → List (Option Observation)
seen_by_each s [] = []
seen_by_each s (k ∷ ks) = shown_by_kept s k ∷ seen_by_each (moved_by_kept s k) ks

-- the lines of what is seen of a pool's lone function, where the first event has number n
abbrev pub seen_lines : ℕ → ℕ → Lone → World → List Event → List ℕ
seen_lines n p s w es = numbered (if_any (seen_line p)) n (seen_by_each s (kept_by_each p w es))

abbrev pub lone_text : ℕ → Lone → World → List Event → List ℕ
lone_text p s w es = seen_lines 1 p s w es

-- ---- a run, cut down to a pool

-- what a pool sees of each answer: to its own events the replies, and of all events the messages to it
abbrev pub seen_of_each : ℕ → List Event → List Answer → List (Option Observation)
seen_of_each p [] given = []
seen_of_each p (e ∷ es) [] = []
seen_of_each p (e ∷ es) (a ∷ rest) = seen_of p e a ∷ seen_of_each p es rest

-- the lines of a run's answers, cut down to the pool's events and marks
abbrev pub cut_text : ℕ → List Event → List Answer → List ℕ
cut_text p es given = numbered (if_any (seen_line p)) 1 (seen_of_each p es given)
