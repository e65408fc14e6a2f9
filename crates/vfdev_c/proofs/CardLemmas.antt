-- What a message came to, and the room.
use Rattle.std.proofs.Common.{◌≡◌, ℕ, zero, suc, ◌≤◌, ◌%◌, ◌&&◌, Bool, true, false, true≢false, List, [], ◌∷◌, ◌++◌, Option, Some, None, length, map, replicate, take, nat_le, nat_lt, refl, sym, ap, ◌∙◌, arith, inl, inr}
use Rattle.std.proofs.Math.Nat.{mod-eq_of_lt}
use Rattle.std.proofs.Math.Seq.{take-nil}
use Rattle.std.specs.List.{list_all}
use Rattle.mapped_memory.specs.Regions.{Regions}
use Rattle.std.proofs.lemmas.Bool.Decides.{nat_tests}
use Rattle.std.specs.Prelude.{drop, is_some, slice_index, slice_index_or, IfErr, IfSome, Result, Ok, Err, if◌then◌else◌}
use Rattle.vfio_session.specs.Answers.{answer_to}
use Rattle.vfio_session.specs.Decisions.{Says}
use Rattle.vfio_session.specs.declared.decision.Breach.{Breach}
use Rattle.vfio_session.specs.declared.owed.Owed.{Owed}
use Rattle.vfio_session.specs.declared.owed.Settled.TheVariants.{Finished}
use Rattle.card.specs.Card.{CardState, EndState, LeavesAlone, quiet}
use Rattle.card.specs.Steps.{breach_in, count_in, order_in, owed_in}
use Rattle.card.specs.Told.{Told}
use Rattle.card.specs.declared.step.Order.{Order}
use Rattle.card.specs.declared.step.Step.{Step}
use Rattle.card.specs.declared.step.Step.TheVariants.{Answered, Asks, Ends}
use Rattle.wire_frame.specs.declared.fault.Fault.{Fault}
use Rattle.wire_frame.specs.declared.fault.Fault.TheVariants.{NoMemory, NoSuchVf}
use Rattle.device.specs.Guests.{attach_refusal, is_for_guests, is_in_space}
use Rattle.device.specs.Lone.{lone_of}
use Rattle.device.specs.World.{World}
use Rattle.mailbox.specs.Mailbox.{MailboxState, blank}
use Rattle.mailbox.specs.State.{HostState, slot_at}
use Rattle.mapped_memory.specs.declared.map_error.MapError.TheVariants.{NoBytes, PastEnd, Overlaps, TooMany}
use Rattle.spare_memory.specs.Refused.{IsWhy, no_guest, or_not_there}
use Rattle.spare_memory.specs.Spares.{IsRemapped, unmapped}
use Rattle.spare_memory.specs.declared.regions.NotMapped.{NotMapped}
use Rattle.spare_memory.specs.declared.regions.NotMapped.TheVariants.{NoSuchVf as NoSuchVfReason, Vacant, Refused, NotThere}
use Rattle.vfdev_c.proofs.HandleLemmas.{all_same, length_same}
use Rattle.vfdev_c.specs.Cards.{are_ids, function_at}
use Rattle.vfdev_c.specs.CardCalls.{IsMapAnswer, IsUnmapAnswer, bytes_in, reason_number, laid, of_kind, reply_in, room_after, step_as, step_by, step_of}
use Rattle.vfdev_c.specs.declared.card_step.VfdevCardStep.{VfdevCardStep}

-- a step in the numbers of C, by its parts
abbrev numbers : Option Order → Option Breach → Option Owed → Option (List ℕ) → VfdevCardStep
numbers order ends owed reply = record (step_by order ends) { reply = bytes_in (reply_in owed reply) }

by_parts : (step : Step) (reply : Option (List ℕ)) (old mid : List ℕ) → Says (count_in step) old mid reply → step_as step ≡ numbers (order_in step) (breach_in step) (owed_in step) reply
by_parts (Answered (Some n)) (Some bytes) old mid says = ap (λ (k : ℕ). record (of_kind 0) { reply = k }) says.0
by_parts (Answered (Some n)) None old mid says = absurd says
by_parts (Answered None) None old mid says = refl
by_parts (Answered None) (Some bytes) old mid says = absurd says
by_parts (Asks order owed) reply old mid says = refl
by_parts (Ends breach) None old mid says = refl
by_parts (Ends breach) (Some bytes) old mid says = absurd says

-- what a card said is what it told
pub said_step : (step : Step) (t : Told) (old mid : List ℕ) → Says (count_in step) old mid t.reply → order_in step ≡ t.order → owed_in step ≡ t.owed → breach_in step ≡ t.ends → step_as step ≡ step_of t
said_step step t old mid says order owed ends = by_parts step t.reply old mid says ∙ (λ i. numbers (order i) (ends i) (owed i) t.reply)

room_by : (step : Step) (reply : Option (List ℕ)) (old mid : List ℕ) → Says (count_in step) old mid reply → room_after step mid ≡ laid (reply_in (owed_in step) reply) old
room_by (Answered (Some n)) (Some bytes) old mid says = says.1 ∙ ap (λ (k : ℕ). bytes ++ drop k old) says.0
room_by (Answered (Some n)) None old mid says = absurd says
room_by (Answered None) None old mid says = says
room_by (Answered None) (Some bytes) old mid says = absurd says
room_by (Asks order owed) None old mid says = ap (laid (answer_to owed Finished)) says
room_by (Asks order owed) (Some bytes) old mid says = absurd says
room_by (Ends breach) None old mid says = says
room_by (Ends breach) (Some bytes) old mid says = absurd says

pub said_room : (step : Step) (t : Told) (old mid : List ℕ) → Says (count_in step) old mid t.reply → owed_in step ≡ t.owed → room_after step mid ≡ laid (reply_in t.owed t.reply) old
said_room step t old mid says owed = room_by step t.reply old mid says ∙ ap (λ (w : Option Owed). laid (reply_in w t.reply) old) owed

-- no guest comes to a function that no card has
pub none_past : (w : World) (p n : ℕ) → length w.functions ≤ 64 → nat_lt p 64 ≡ false → attach_refusal w p n ≡ Some NoSuchVf
none_past w p n few past = go (nat_le (length w.functions) p) refl
  where
    go : (b : Bool) → nat_le (length w.functions) p ≡ b → attach_refusal w p n ≡ Some NoSuchVf
    go true is = rw is refl
    go false is = absurd (grind (arith, nat_tests))

-- a card leaves each function of its own alone
pub leaves_itself : (p : ℕ) (c : CardState) → LeavesAlone p c c
leaves_itself p c = record {
  hosted = record { functions = λ q inside other. refl; slots = λ q other. refl; mailboxes = λ q other. refl };
  ends = λ q other. refl;
  raised = λ q other. refl;
}

-- and where a region came or went, each function but the one
pub remapped_leaves : (p : ℕ) (c d : CardState) → IsRemapped p c d → LeavesAlone p c d
remapped_leaves p c d is = record {
  hosted = record {
    functions = λ q inside other. ap (lone_of q) is.world;
    slots = λ q other. ap (λ (h : HostState). slot_at h q) is.host;
    mailboxes = λ q other. ap (λ (ms : List MailboxState). slice_index_or ms q blank) is.mailboxes;
  };
  ends = λ q other. ap (λ (es : List EndState). slice_index_or es q quiet) is.ends;
  raised = λ q other. ap (λ (rs : List ℕ). slice_index rs q) is.raised;
}

-- ---- ids

all_taken : (ns : List ℕ) (i : ℕ) → length ns ≤ i → take i ns ≡ ns
all_taken [] i all = take-nil i
all_taken (n ∷ ns) zero all = absurd (omega (arith, all))
all_taken (n ∷ ns) (suc i) all = ap (◌∷◌ n) (all_taken ns i (omega (arith, all)))

small : (n : ℕ) → nat_lt n 4096 ≡ true → n % 4096 ≡ n
small n is = mod-eq_of_lt (grind (arith, nat_tests))

one_small : (b : Bool) (n : ℕ) (ns : List ℕ) → nat_lt n 4096 ≡ b → (b && list_all (λ n. nat_lt n 4096) ns) ≡ true → (n % 4096 ≡ n) × (list_all (λ n. nat_lt n 4096) ns ≡ true)
one_small true n ns is rest = (small n is, rest)
one_small false n ns is rest = absurd (true≢false (sym rest))

each_small : (ns : List ℕ) → list_all (λ n. nat_lt n 4096) ns ≡ true → map (λ n. n % 4096) ns ≡ ns
each_small [] all = refl
each_small (n ∷ ns) all = let (first, rest) = one_small (nat_lt n 4096) n ns refl all in λ i. first i ∷ each_small ns rest i

-- ids that were made of numbers which are ids are these numbers
pub ids_given : (ids ns : List ℕ) (i : ℕ) → are_ids ns ≡ true → ids ≡ map (λ n. n % 4096) (take i ns) → length ns ≤ i → ids ≡ ns
ids_given ids ns i are made all = made ∙ ap (map (λ n. n % 4096)) (all_taken ns i all) ∙ go (nat_le (length ns) 64) are
  where
    go : (b : Bool) → (b && list_all (λ n. nat_lt n 4096) ns) ≡ true → map (λ n. n % 4096) ns ≡ ns
    go true rest = each_small ns rest
    go false rest = absurd (true≢false (sym rest))

-- ---- as a card is made

-- the number of a function names its pool, and the one of none names none
pub pool_at : (pool : Option ℕ) (n : ℕ) → is_some pool ≡ nat_lt n 64 → IfSome pool (λ p. p ≡ n) → pool ≡ function_at n
pool_at (Some p) n some is = go (nat_lt n 64) some
  where
    go : (b : Bool) → true ≡ b → Some p ≡ (if b then Some n else None)
    go true b = ap Some is
    go false b = absurd (true≢false b)
pool_at None n some is = go (nat_lt n 64) some
  where
    go : (b : Bool) → false ≡ b → None ≡ (if b then Some n else None)
    go true b = absurd (true≢false (sym b))
    go false b = refl

-- a device can be made of as many vacant functions
pub vacant_for_guests : (functions : ℕ) → 1 ≤ functions → functions ≤ 64 → is_for_guests (replicate functions 0) ≡ true
unfolding is_for_guests
vacant_for_guests n least most = rw (length_same 0 n, all_same is_in_space 0 n refl) (grind (arith, nat_tests))

-- where all numbers are within their limits, only memory can be lacking
pub no_memory_then : {X : Type 0} (r : Result X Fault) (b : Bool) → b ≡ true → IfErr r (λ e. b ≡ true → e ≡ NoMemory) → IfErr r (λ e. e ≡ NoMemory)
no_memory_then (Ok x) b is none = tt
no_memory_then (Err e) b is none = none is

each_same : {A B : Type 0} (f : A → B) (n : ℕ) (x : A) → map f (replicate n x) ≡ replicate n (f x)
each_same f zero x = refl
each_same f (suc n) x = ap (◌∷◌ (f x)) (each_same f n x)

-- their memories have no bytes, and no access was made to them
pub sizes_vacant : (n : ℕ) (ms : List Regions) → ms ≡ replicate n (unmapped 0) → map (λ m. length m.seen) ms ≡ replicate n 0
sizes_vacant n ms is = ap (map (λ m. length m.seen)) is ∙ each_same (λ (m : Regions). length m.seen) n (unmapped 0)

pub noted_vacant : (n : ℕ) (ms : List Regions) → ms ≡ replicate n (unmapped 0) → map (λ m. m.accesses) ms ≡ replicate n []
noted_vacant n ms is = ap (map (λ m. m.accesses)) is ∙ each_same (λ (m : Regions). m.accesses) n (unmapped 0)

-- ---- regions

-- no memory is taken out of a function that no card has
pub no_guest_past : (w : World) (p : ℕ) → length w.functions ≤ 64 → nat_lt p 64 ≡ false → no_guest w p ≡ Some NoSuchVfReason
no_guest_past w p few past = go (nat_le (length w.functions) p) refl
  where
    go : (b : Bool) → nat_le (length w.functions) p ≡ b → no_guest w p ≡ Some NoSuchVfReason
    go true is = rw is refl
    go false is = absurd (grind (arith, nat_tests))

-- the number of a reason for which a region is not mapped is an answer that is due
pub map_answer : (due : Option NotMapped) (why : NotMapped) → IsWhy due why → IsMapAnswer due (reason_number why)
map_answer (Some reason) why is = ap reason_number is
map_answer None (Refused Overlaps) is = inr (inl refl)
map_answer None (Refused TooMany) is = inr (inr refl)
map_answer None (Refused NoBytes) is = absurd is
map_answer None (Refused PastEnd) is = absurd is
map_answer None NoSuchVfReason is = absurd is
map_answer None Vacant is = absurd is
map_answer None NotThere is = absurd is

-- and so is that for which none is unmapped
pub unmap_answer : (due : Option NotMapped) (why : NotMapped) → why ≡ or_not_there due → IsUnmapAnswer due (reason_number why)
unmap_answer (Some reason) why is = ap reason_number is
unmap_answer None why is = inr (ap reason_number is)
