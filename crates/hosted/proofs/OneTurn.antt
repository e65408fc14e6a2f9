-- One turn as a list of turns, and one write more.
use Rattle.std.proofs.Common.{◌≡◌, ℕ, ◌+◌, ◌<◌, ◌≤◌, List, [], ◌∷◌, ◌++◌, length, take, get_or, sym, ap, ◌∙◌, subst, arith}
use Rattle.std.specs.Prelude.{Option, Some, None}
use Rattle.std.specs.List.{slice_get}
use Rattle.std.proofs.lemmas.Option.{get_or_from_slice_get, slice_get-get_or, slice_get_within}
use Rattle.std.proofs.lemmas.List.{append-nil, map-append, take_all, take_more}
use Rattle.device.specs.Events.{Event}
use Rattle.device.specs.declared.event.Event.TheVariants.{PfWrite}
use Rattle.device.specs.World.{World, step, world_after}
use Rattle.device.proofs.Append.{world_after_append}
use Rattle.mailbox.specs.declared.writes.Write.{Write}
use Rattle.mailbox.specs.Start.{first_writes}
use Rattle.mailbox.proofs.First.{first_count}
use Rattle.mailbox.specs.declared.message.Message.{Message}
use Rattle.mailbox.specs.State.{HostState}
use Rattle.mailbox.specs.Writes.{writes_after, writes_without}
use Rattle.mailbox_laws.specs.Turns.{Turn, events_in, events_of, write_event, write_events}
use Rattle.mailbox_laws.specs.Turns.Turn.{Answers, Forgets}

one_turn : (h : HostState) (w : World) (t : Turn) → world_after w (events_in h t) ≡ world_after w (events_of h (t ∷ []))
one_turn h w t = ap (λ (es : List Event). world_after w es) (sym (append-nil (events_in h t)))

pub answered : (h : HostState) (w new : World) (p : ℕ) (message : Message) → new ≡ world_after w (write_events (writes_after h p message)) → new ≡ world_after w (events_of h (Answers p message ∷ []))
answered h w new p message is = is ∙ one_turn h w (Answers p message)

pub forgotten : (h : HostState) (w new : World) (p : ℕ) → new ≡ world_after w (write_events (writes_without h p)) → new ≡ world_after w (events_of h (Forgets p ∷ []))
forgotten h w new p is = is ∙ one_turn h w (Forgets p)

-- one write more
pub write_next : (start w new : World) (ws : List Write) (k : ℕ) (v : Write) → k < length ws → v ≡ get_or ws k v → w ≡ world_after start (write_events (take k ws)) → new ≡ (step w (PfWrite v.offset v.value)).world
    → new ≡ world_after start (write_events (take (k + 1) ws))
write_next start w new ws k v inside is before by =
    by ∙ ap (λ (u : World). (step u (write_event v)).world) before
    ∙ sym (world_after_append start (write_events (take k ws)) (write_event v ∷ []))
    ∙ ap (world_after start) (sym (map-append write_event (take k ws) (v ∷ [])) ∙ ap write_events (ap (λ (x : Write). take k ws ++ x ∷ []) is ∙ sym (take_more ws k v inside)))

-- a first write is there, and is the next one
pub first_there : (h : HostState) (k : ℕ) (found : Option Write) → found ≡ slice_get (first_writes h) k → k < 1104 → found ≡ None → ⊥
first_there h k found is below none =
    some_none (sym (slice_get-get_or (first_writes h) k (record { offset = 0; value = 0 }) (subst (λ (n : ℕ). k < n) (sym (first_count h)) below)) ∙ sym is ∙ none)
  where
    some_none : {x : Write} → Some x ≡ None → ⊥
    some_none same = cc

pub first_next : (h : HostState) (start w new : World) (k : ℕ) (found : Option Write) (v : Write) → found ≡ slice_get (first_writes h) k → found ≡ Some v → w ≡ world_after start (write_events (take k (first_writes h)))
    → new ≡ (step w (PfWrite v.offset v.value)).world → new ≡ world_after start (write_events (take (k + 1) (first_writes h)))
first_next h start w new k found v is some before by =
    let at : slice_get (first_writes h) k ≡ Some v = sym is ∙ some in
    write_next start w new (first_writes h) k v (slice_get_within (first_writes h) k v at) (sym (get_or_from_slice_get (first_writes h) k v v at)) before by

pub first_done : (h : HostState) (start w : World) (k : ℕ) → 1104 ≤ k → w ≡ world_after start (write_events (take k (first_writes h))) → w ≡ world_after start (write_events (first_writes h))
first_done h start w k end is = is ∙ ap (λ (ws : List Write). world_after start (write_events ws)) (take_all k (first_writes h) (let count = first_count h in omega (arith, count, end)))
