-- An event that writes a function's memory and reads nothing of it: a write of the memory, or the function's opening. And one that touches none.
use Rattle.std.proofs.Common.{◌≡◌, ℕ, Bool, true, false, List, [], ◌∷◌, ◌++◌, length, replicate, eqb, arith, refl, sym, ap, subst}
use Rattle.std.specs.Prelude.{if◌then◌else◌}
use Rattle.std.proofs.lemmas.List.{length-replicate}
use Rattle.live_memory.specs.Trace.{Access, Wrote, reads, NotRead, ReadOnce}
use Rattle.live_memory.proofs.Accesses.{since_is, grown_by}
use Rattle.vf_unit.specs.Unit.{Function, Closed, Open, IsMet, size_of, is_open, has_range}
use Rattle.vf_unit.proofs.Told.{told_unread}
use Rattle.device.specs.Events.{Event}
use Rattle.device.specs.declared.event.Event.TheVariants.{Open as Opening, MemWrite}
use Rattle.device.specs.declared.response.Response.{Response}
use Rattle.device.specs.declared.room.Room.{Room}
use Rattle.device.specs.Request.{Request, event_of}
use Rattle.device.specs.Act.{act_accesses}
use Rattle.device.specs.World.{World, function_of}
use Rattle.device.specs.Accesses.{accesses_by}
use Rattle.device.specs.Takes.{Takes}
use Rattle.device.specs.Live.{trace_of, told_world, AreMet, AreListed, TakesLive}
use Rattle.device.proofs.LiveLemmas.{told_as, takes_untouched, none_listed}

-- the event reads no function's memory
abbrev pub ReadsNone : World → Event → Type 0
ReadsNone w e = (r : ℕ) → reads (accesses_by w e r) ≡ []

pub write_reads_none : (w : World) (p at : ℕ) (bytes : List ℕ) → ReadsNone w (MemWrite p at bytes)
unfolding reads
write_reads_none w p at bytes r = by (eqb r p) (has_range (function_of r w) at (length bytes))
  where
    by : (here inside : Bool) → reads (if here then (if inside then Wrote at bytes ∷ [] else []) else []) ≡ []
    by true true = refl
    by true false = refl
    by false inside = refl

pub opening_reads_none : (w : World) (p : ℕ) → ReadsNone w (Opening p)
unfolding reads
opening_reads_none w p r = by (eqb r p) (is_open (function_of r w)) (eqb (size_of (function_of r w)) 0)
  where
    by : (here up empty : Bool) → reads (if here then (if up then [] else (if empty then [] else Wrote 0 (replicate (size_of (function_of r w)) 0) ∷ [])) else []) ≡ []
    by true true empty = refl
    by true false true = refl
    by true false false = refl
    by false up empty = refl

-- what is told is what was there
pub still : (before now : List (List Access)) (w : World) (e : Event) → ReadsNone w e → AreListed (accesses_by w e) before now → told_world before now w ≡ w
still before now w e none all =
    ap (λ fs. record { profile = w.profile; settings = w.settings; resets = w.resets; functions = fs; wire = w.wire; unclaimed = w.unclaimed })
    (sym (told_as before now w.functions w.functions refl (λ r below. sym (told_unread (trace_of before r) (trace_of now r) (accesses_by w e r) (function_of r w) (all r) (none r)))))

pub takes_written : (shared : Bool) (before now : List (List Access)) (w : World) (e : Event) (new : World) (taken : Response) (room : Room)
    → ReadsNone w e → Takes w e new taken room → AreListed (accesses_by w e) before now → AreMet shared before now w → TakesLive shared before now w e new taken room
takes_written shared before now w e new taken room none takes all met = record {
  takes = subst (λ (v : World). Takes v e new taken room) (sym (still before now w e none all)) takes;
  met = met;
}

pub written_listed : (before now : List (List Access)) (w : World) (e : Event) → ReadsNone w e → AreListed (accesses_by w e) before now → AreListed (accesses_by (told_world before now w) e) before now
written_listed before now w e none all = subst (λ (v : World). AreListed (accesses_by v e) before now) (sym (still before now w e none all)) all

-- ---- by its request

-- the event that the request stands for was taken, and its accesses are listed
pub record TakesListed (shared : Bool) (before now : List (List Access)) (w : World) (r : Request) (new : World) (taken : Response) (room : Room) : Type 0 where
  pub takes : TakesLive shared before now w (event_of r) new taken room
  pub listed : AreListed (accesses_by (told_world before now w) (event_of r)) before now

pub asked_taken : (shared : Bool) (before now : List (List Access)) {w new : World} {r s : Request} {taken : Response} {room : Room} → r ≡ s → TakesLive shared before now w (event_of s) new taken room
    → AreListed (accesses_by (told_world before now w) (event_of s)) before now → TakesListed shared before now w r new taken room
asked_taken shared before now {w = w} {new = new} {taken = taken} {room = room} is takes listed = subst (λ (q : Request). TakesListed shared before now w q new taken room) (sym is) (record { takes = takes; listed = listed })

-- one that touches no memory
pub untouched_taken : (shared : Bool) (before now : List (List Access)) {w new : World} {r s : Request} {taken : Response} {room : Room} → r ≡ s → Takes w (event_of s) new taken room
    → now ≡ before → ((v : World) (p : ℕ) → accesses_by v (event_of s) p ≡ []) → TakesListed shared before now w r new taken room
untouched_taken shared before now {w = w} {new = new} {s = s} {taken = taken} {room = room} is takes same none =
    asked_taken shared before now is (takes_untouched shared before now w (event_of s) new taken room same takes) (none_listed before now (accesses_by (told_world before now w) (event_of s)) same (none (told_world before now w)))

-- one that writes a memory
pub written_taken : (shared : Bool) (before now : List (List Access)) {w new : World} {r s : Request} {taken : Response} {room : Room} → r ≡ s → Takes w (event_of s) new taken room
    → AreListed (accesses_by w (event_of s)) before now → AreMet shared before now w → ReadsNone w (event_of s) → TakesListed shared before now w r new taken room
written_taken shared before now {w = w} {new = new} {s = s} {taken = taken} {room = room} is takes all met none =
    asked_taken shared before now is (takes_written shared before now w (event_of s) new taken room none takes all met) (written_listed before now w (event_of s) none all)

-- zero was written over the memory of a function that was opened
pub met_opening : (shared : Bool) (f : Function) (p : ℕ) (before now : List Access) → now ≡ before ++ act_accesses f (Opening p) → IsMet shared f before now
unfolding reads NotRead ReadOnce
met_opening shared f p before now is = record {
  grown = grown_by before now (act_accesses f (Opening p)) is;
  once = rw (since_is before now (act_accesses f (Opening p)) is) (within f);
  still = λ not. told_unread before now (act_accesses f (Opening p)) f is (none f);
}
  where
    unread_zeros : (size : ℕ) (empty : Bool) → reads (if empty then [] else Wrote 0 (replicate size 0) ∷ []) ≡ []
    unread_zeros size true = refl
    unread_zeros size false = refl

    once_zeros : (size : ℕ) (empty : Bool) → ReadOnce size (if empty then [] else Wrote 0 (replicate size 0) ∷ [])
    once_zeros size true = tt
    once_zeros size false = (let len = length-replicate {A = ℕ} size 0 in omega (arith, len), (tt, tt))

    none : (g : Function) → reads (act_accesses g (Opening p)) ≡ []
    none (Closed size) = unread_zeros size (eqb size 0)
    none (Open s) = refl

    within : (g : Function) → ReadOnce (size_of g) (act_accesses g (Opening p))
    within (Closed size) = once_zeros size (eqb size 0)
    within (Open s) = tt
