-- What a script writes and leaves is isolated: the laws from a device as it is made, at the device that a script asks for.
use Rattle.std.proofs.Common.{◌≡◌, ℕ, suc, ◌<◌, ◌≤◌, List, [], ◌∷◌, Option, ◌++◌, refl, sym, ap, ◌∙◌, subst, length}
use Rattle.std.proofs.lemmas.List.{length-replicate, get_or-replicate}
use Rattle.std.specs.Prelude.{slice_index}
use Rattle.std.specs.Io.KnownBytes.{Appends}
use Rattle.device.specs.Events.{Event}
use Rattle.device.specs.World.{World, step, answers, world_after}
use Rattle.device.specs.Lone.{Lone as LoneFunction, alone, keep, lone_of, lone_seen, lone_after}
use Rattle.device.proofs.Unwinding.{fresh_sight, fresh_state}
use Rattle.script.specs.Reading.{DeviceShape, Meaning}
use Rattle.transcript.specs.Known.{Began, Sent}
use Rattle.transcript.specs.Lines.{kept_by_each, lines, frame_lines, cut_text, lone_text, run_text}
use Rattle.transcript.proofs.Each.{kept_together, text_cut}
use Rattle.modes.specs.declared.mode.Mode.{Mode}
use Rattle.modes.specs.declared.mode.Task.{Task}
use Rattle.modes.specs.declared.mode.Task.TheVariants.{Run, Keep, Lone}
use Rattle.modes.specs.Program.{alone_of, device_of, sizes_of, task_of, text_of, NamesBelow, Says}
use Rattle.modes.specs.Isolation.{AreIsolated, AreLeftAsAlone, BeganIsolated, IsIsolatedText, SentIsolated, WroteIsolated}
use Rattle.modes.proofs.Left.{sent_as}

-- ---- the device of a script

among : (d : DeviceShape) (p : ℕ) → p < d.functions → p < length (sizes_of d)
among d p below = subst (λ (n : ℕ). p < n) (sym (length-replicate d.functions d.memory_size)) below

as_few : (d : DeviceShape) → d.functions ≤ 64 → length (sizes_of d) ≤ 64
as_few d few = subst (λ (n : ℕ). n ≤ 64) (sym (length-replicate d.functions d.memory_size)) few

by_itself : (d : DeviceShape) (p : ℕ) → p < d.functions → alone d.limit (slice_index (sizes_of d) p) ≡ alone_of d
by_itself d p below = ap (alone d.limit) (get_or-replicate d.functions p d.memory_size 0 below)

-- ---- its answers, and what they leave

answered : (w : World) (es : List Event) → length (answers w es) ≡ length es
answered w [] = refl
answered w (e ∷ es) = ap (λ (n : ℕ). suc n) (answered (step w e).world es)

cut_alone : (said : Meaning) → said.device.functions ≤ 64 → (p : ℕ) → p < said.device.functions
    → lone_text p (alone_of said.device) (device_of said.device) said.events ≡ cut_text p said.events (answers (device_of said.device) said.events)
cut_alone said few p below =
    let d : DeviceShape = said.device in
    ap (λ (s : LoneFunction). lone_text p s (device_of d) said.events) (sym (by_itself d p below))
    ∙ text_cut p d.limit (sizes_of d) said.events (among d p below) (as_few d few)

pub are_isolated : (said : Meaning) → said.device.functions ≤ 64 → AreIsolated said (answers (device_of said.device) said.events)
are_isolated said few =
    let d : DeviceShape = said.device in (
      answered (device_of d) said.events,
      λ p below. (
        fresh_sight p d.limit (sizes_of d) said.events (among d p below) (as_few d few)
            ∙ ap (λ (s : LoneFunction). lone_seen s (keep p (device_of d) said.events)) (by_itself d p below),
        sym (cut_alone said few p below),
      ),
    )

pub are_left : (said : Meaning) → said.device.functions ≤ 64 → (after : World) → after ≡ world_after (device_of said.device) said.events → AreLeftAsAlone said after
are_left said few after is p below =
    let d : DeviceShape = said.device in
    (λ k. lone_of p (is k))
    ∙ fresh_state p d.limit (sizes_of d) said.events (among d p below) (as_few d few)
    ∙ ap (λ (s : LoneFunction). lone_after s (keep p (device_of d) said.events)) (by_itself d p below)

-- ---- what is written

pub sent_isolated : (said : Meaning) → said.device.functions ≤ 64 → (after : World) → after ≡ world_after (device_of said.device) said.events
    → (a b : Option (List ℕ)) (out held : List ℕ) → Sent a b (out ++ run_text (device_of said.device) said.events) held → SentIsolated said after.wire a b out held
sent_isolated said few after is a b out held sent = (
  answers (device_of said.device) said.events,
  are_isolated said few,
  sent_as a b _ _ held (λ k. out ++ (lines 1 (answers (device_of said.device) said.events) ++ frame_lines (sym is k).wire)) sent,
)

is_isolated : (task : Task) (said : Meaning) → said.device.functions ≤ 64 → NamesBelow said.device.functions task → IsIsolatedText task said (text_of task said)
is_isolated Run said few below = (answers (device_of said.device) said.events, are_isolated said few, refl)
is_isolated (Keep p) said few below = (
  kept_by_each p (device_of said.device) said.events,
  kept_together p (device_of said.device) said.events,
  refl,
)
is_isolated (Lone p) said few below = cut_alone said few p below

-- the task of a mode wrote its text of what the input says, or a beginning of it
isolated_by : (mode : Mode) (said : Meaning) (d : DeviceShape) (task : Task) → d ≡ said.device → d.functions ≤ 64 → task ≡ task_of mode → NamesBelow d.functions task
    → IsIsolatedText (task_of mode) said (text_of task said)
isolated_by mode said d task asked few is below =
    subst (λ (t : Task). IsIsolatedText t said (text_of task said)) is
    (is_isolated task said (subst (λ (x : DeviceShape). x.functions ≤ 64) asked few) (subst (λ (x : DeviceShape). NamesBelow x.functions task) asked below))

pub wrote_isolated : (mode : Mode) (input a b : Option (List ℕ)) (said : Meaning) (d : DeviceShape) (task : Task) → Says input said
    → d ≡ said.device → d.functions ≤ 64 → (task ≡ task_of mode) × NamesBelow d.functions task → Appends a b (text_of task said) → WroteIsolated mode input a b
wrote_isolated mode input a b said d task says asked few (is, below) text = (said, says, text_of task said, isolated_by mode said d task asked few is below, text)

pub began_isolated : (mode : Mode) (input a b : Option (List ℕ)) (said : Meaning) (d : DeviceShape) (task : Task) → Says input said
    → d ≡ said.device → d.functions ≤ 64 → (task ≡ task_of mode) × NamesBelow d.functions task → Began a b (text_of task said) → BeganIsolated mode input a b
began_isolated mode input a b said d task says asked few (is, below) text = (said, says, text_of task said, isolated_by mode said d task asked few is below, text)
