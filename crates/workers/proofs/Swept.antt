-- One note more that a sweep came past, and one that it took out.
use Rattle.std.proofs.Common.{◌≡◌, ℕ, ◌+◌, ◌<◌, ◌≤◌, Bool, true, false, not, cond, List, [], ◌∷◌, ◌++◌, drop, filter, get_or, length, map, set, refl, sym, ap, ◌∙◌, take, append_assoc, subst, arith}
use Rattle.std.proofs.Math.Seq.{drop-append-add, get_or-append_seam, set-append_seam, take-append_seam}
use Rattle.std.proofs.lemmas.List.{append-nil, get_or-set_same, length-append, length-set, map-append}
use Rattle.std.proofs.lemmas.List.Elements.{filter-append, filter_passes}
use Rattle.device.specs.Events.{Event}
use Rattle.device.specs.declared.event.Event.TheVariants.{End}
use Rattle.recorder.specs.Held.{HasAsked, CallerLog}
use Rattle.guest_port.specs.Notes.{Known, knows}
use Rattle.workers.specs.Sweeps.{AreLooked, IsLooked, IsSwept, NoneEnded, end_of, is_ended, is_live}
use Rattle.workers.proofs.Asks.{asked_behind, asked_none}

abbrev Note : Type 0
Note = ℕ × Known

-- a sweep under way: so many of the notes that it came past stay, and these are gone
pub record IsUnderWay (first notes gone : List Note) (at : ℕ) (old new : CallerLog) : Type 0 where
  pub swept : IsSwept first notes old new
  pub place : at ≡ length (filter is_live swept.passed)
  pub taken : gone ≡ filter is_ended swept.passed

-- a note at which nobody looked, and one at which somebody looked again
pub looked_none : (n : Note) → IsLooked n n
looked_none n = record { pool = refl; port = refl; told = refl; found = λ is. is }

pub looked_on : (n m o : Note) → IsLooked n m → IsLooked m o → IsLooked n o
looked_on n m o first next = record {
  pool = next.pool ∙ first.pool;
  port = next.port ∙ first.port;
  told = next.told ∙ first.told;
  found = λ is. next.found (first.found is);
}

-- notes at which nobody looked
pub are_looked : (notes : List Note) → AreLooked notes notes
are_looked [] = tt
are_looked (n ∷ notes) = (looked_none n, are_looked notes)

-- one of them is looked at again
looked_again : (first passed rest : List Note) (n m : Note) → IsLooked n m → AreLooked first (passed ++ n ∷ rest) → AreLooked first (passed ++ m ∷ rest)
looked_again [] [] rest n m look are = absurd are
looked_again [] (x ∷ passed) rest n m look are = absurd are
looked_again (f ∷ first) [] rest n m look are = (looked_on f n m are.0 look, are.1)
looked_again (f ∷ first) (x ∷ passed) rest n m look are = (are.0, looked_again first passed rest n m look are.1)

-- ---- the lists of those that know, and of those that don't, with one note more

ended_more : (passed : List Note) (n : Note) → knows n.1 ≡ true → filter is_ended (passed ++ n ∷ []) ≡ filter is_ended passed ++ n ∷ []
ended_more passed n is = filter-append is_ended passed (n ∷ []) ∙ ap (λ (b : Bool). filter is_ended passed ++ cond b (n ∷ []) []) is

ended_same : (passed : List Note) (n : Note) → knows n.1 ≡ false → filter is_ended (passed ++ n ∷ []) ≡ filter is_ended passed
ended_same passed n is = filter-append is_ended passed (n ∷ []) ∙ (ap (λ (b : Bool). filter is_ended passed ++ cond b (n ∷ []) []) is ∙ append-nil (filter is_ended passed))

live_more : (passed : List Note) (n : Note) → knows n.1 ≡ false → filter is_live (passed ++ n ∷ []) ≡ filter is_live passed ++ n ∷ []
live_more passed n is = filter-append is_live passed (n ∷ []) ∙ ap (λ (b : Bool). filter is_live passed ++ cond (not b) (n ∷ []) []) is

live_same : (passed : List Note) (n : Note) → knows n.1 ≡ true → filter is_live (passed ++ n ∷ []) ≡ filter is_live passed
live_same passed n is = filter-append is_live passed (n ∷ []) ∙ (ap (λ (b : Bool). filter is_live passed ++ cond (not b) (n ∷ []) []) is ∙ append-nil (filter is_live passed))

-- ---- a sweep from its start to its end

pub way_begins : (notes : List Note) (old : CallerLog) → IsUnderWay notes notes [] 0 old old
way_begins notes old = record {
  swept = record { passed = []; rest = notes; looked = are_looked notes; asked = asked_none old; stay = refl };
  place = refl;
  taken = refl;
}

-- the note at the sweep's place is the first of the rest; once it was looked at it stands there as it is then
here_is : (front rest notes : List Note) (n d : Note) (at : ℕ) → notes ≡ front ++ n ∷ rest → at ≡ length front → get_or notes at d ≡ n
here_is front rest notes n d at is place =
    ap (λ (xs : List Note). get_or xs at d) is ∙ (ap (λ (k : ℕ). get_or (front ++ n ∷ rest) k d) place ∙ get_or-append_seam front n rest d)

put_here : (front rest notes : List Note) (n note : Note) (at : ℕ) → notes ≡ front ++ n ∷ rest → at ≡ length front → set notes at note ≡ front ++ note ∷ rest
put_here front rest notes n note at is place =
    ap (λ (xs : List Note). set xs at note) is ∙ (ap (λ (k : ℕ). set (front ++ n ∷ rest) k note) place ∙ set-append_seam front n rest note)

out_of_here : (front rest : List Note) (note : Note) (at : ℕ) → at ≡ length front → take at (front ++ note ∷ rest) ++ drop (at + 1) (front ++ note ∷ rest) ≡ front ++ rest
out_of_here front rest note at place =
    let all : List Note = front ++ note ∷ rest in
    ap (λ (k : ℕ). take k all ++ drop (k + 1) all) place
    ∙ (ap (λ (xs : List Note). xs ++ drop (length front + 1) all) (take-append_seam front (note ∷ rest)) ∙ ap (λ (xs : List Note). front ++ xs) (drop-append-add front (note ∷ rest) 1))

-- a place among the notes is one of a note that the sweep has not come past
nobody_here : (front notes : List Note) (at : ℕ) → notes ≡ front ++ [] → at ≡ length front → at < length notes → ⊥
nobody_here front notes at is place less = let l = ap length is in let n = length-append front [] in omega (arith, l, n, place, less)

-- what a look at the next note leaves, before anything else is done
way_looks : (first notes gone : List Note) (at : ℕ) (d note : Note) (old mid : CallerLog) → at < length notes → IsLooked (get_or notes at d) note → IsUnderWay first notes gone at old mid → IsUnderWay first (set notes at note) gone at old mid
way_looks first notes gone at d note old mid less look way = go way.swept.passed way.swept.rest way.swept.looked way.swept.asked way.swept.stay way.place way.taken
  where
    go : (passed rest : List Note) → AreLooked first (passed ++ rest) → HasAsked (map end_of (filter is_ended passed)) old mid → notes ≡ filter is_live passed ++ rest
        → at ≡ length (filter is_live passed) → gone ≡ filter is_ended passed → IsUnderWay first (set notes at note) gone at old mid
    go passed [] are asked stay place taken = absurd (nobody_here (filter is_live passed) notes at stay place less)
    go passed (n ∷ rest) are asked stay place taken = record {
      swept = record {
        passed = passed;
        rest = note ∷ rest;
        looked = looked_again first passed rest n note (subst (λ (x : Note). IsLooked x note) (here_is (filter is_live passed) rest notes n d at stay place) look) are;
        asked = asked;
        stay = put_here (filter is_live passed) rest notes n note at stay place;
      };
      place = place;
      taken = taken;
    }

-- the next note doesn't know, and stays
way_leaves : (first notes gone : List Note) (at : ℕ) (note : Note) (old mid : CallerLog) → at < length notes → note ≡ get_or notes at note → knows note.1 ≡ false → IsUnderWay first notes gone at old mid → IsUnderWay first notes gone (at + 1) old mid
way_leaves first notes gone at note old mid less is live way = go way.swept.passed way.swept.rest way.swept.looked way.swept.asked way.swept.stay way.place way.taken
  where
    go : (passed rest : List Note) → AreLooked first (passed ++ rest) → HasAsked (map end_of (filter is_ended passed)) old mid → notes ≡ filter is_live passed ++ rest
        → at ≡ length (filter is_live passed) → gone ≡ filter is_ended passed → IsUnderWay first notes gone (at + 1) old mid
    go passed [] are asked stay place taken = absurd (nobody_here (filter is_live passed) notes at stay place less)
    go passed (n ∷ rest) are asked stay place taken =
        let unknown : knows n.1 ≡ false = subst (λ (x : Note). knows x.1 ≡ false) (is ∙ here_is (filter is_live passed) rest notes n note at stay place) live in
        let more = live_more passed n unknown in
        record {
          swept = record {
            passed = passed ++ n ∷ [];
            rest = rest;
            looked = subst (AreLooked first) (sym (append_assoc passed (n ∷ []) rest)) are;
            asked = subst (λ (xs : List Note). HasAsked (map end_of xs) old mid) (sym (ended_same passed n unknown)) asked;
            stay = stay ∙ (sym (append_assoc (filter is_live passed) (n ∷ []) rest) ∙ ap (λ (xs : List Note). xs ++ rest) (sym more));
          };
          place = let l = ap length more in let k = length-append (filter is_live passed) (n ∷ []) in omega (arith, place, l, k);
          taken = taken ∙ sym (ended_same passed n unknown);
        }

-- the next note knows: its end is asked, and it is taken out
way_takes : (first notes after gone : List Note) (at : ℕ) (note : Note) (old mid new : CallerLog) → at < length notes → note ≡ get_or notes at note → knows note.1 ≡ true → after ≡ take at notes ++ drop (at + 1) notes
    → HasAsked (End note.0 ∷ []) mid new → IsUnderWay first notes gone at old mid → IsUnderWay first after (gone ++ note ∷ []) at old new
way_takes first notes after gone at note old mid new less is ended out ask way = go way.swept.passed way.swept.rest way.swept.looked way.swept.asked way.swept.stay way.place way.taken
  where
    go : (passed rest : List Note) → AreLooked first (passed ++ rest) → HasAsked (map end_of (filter is_ended passed)) old mid → notes ≡ filter is_live passed ++ rest
        → at ≡ length (filter is_live passed) → gone ≡ filter is_ended passed → IsUnderWay first after (gone ++ note ∷ []) at old new
    go passed [] are asked stay place taken = absurd (nobody_here (filter is_live passed) notes at stay place less)
    go passed (n ∷ rest) are asked stay place taken =
        let same : note ≡ n = is ∙ here_is (filter is_live passed) rest notes n note at stay place in
        let known : knows n.1 ≡ true = subst (λ (x : Note). knows x.1 ≡ true) same ended in
        let none = live_same passed n known in
        record {
          swept = record {
            passed = passed ++ n ∷ [];
            rest = rest;
            looked = subst (AreLooked first) (sym (append_assoc passed (n ∷ []) rest)) are;
            asked =
                subst (λ (es : List Event). HasAsked es old new) (sym (ap (map end_of) (ended_more passed n known) ∙ map-append end_of (filter is_ended passed) (n ∷ [])))
                (asked_behind (map end_of (filter is_ended passed)) (End n.0 ∷ []) old mid new asked (subst (λ (x : Note). HasAsked (End x.0 ∷ []) mid new) same ask));
            stay =
                out ∙ ap (λ (xs : List Note). take at xs ++ drop (at + 1) xs) stay
                ∙ (out_of_here (filter is_live passed) rest n at place ∙ ap (λ (xs : List Note). xs ++ rest) (sym none));
          };
          place = place ∙ sym (ap length none);
          taken = (λ i. taken i ++ same i ∷ []) ∙ sym (ended_more passed n known);
        }

-- where the sweep is through, none of those that stay knows of an end
pub way_ends : (first notes gone : List Note) (at : ℕ) (old new : CallerLog) → length notes ≤ at → IsUnderWay first notes gone at old new → NoneEnded notes
way_ends first notes gone at old new through way = go way.swept.passed way.swept.rest way.swept.stay way.place
  where
    unknown : (b : Bool) → not b ≡ true → b ≡ false
    unknown false is = refl
    unknown true is = sym is

    go : (passed rest : List Note) → notes ≡ filter is_live passed ++ rest → at ≡ length (filter is_live passed) → NoneEnded notes
    go passed [] stay place = subst NoneEnded (sym (stay ∙ append-nil (filter is_live passed))) (λ k d inside. unknown _ (filter_passes is_live passed k d inside))
    go passed (n ∷ rest) stay place =
        absurd (let l = ap length stay in let k = length-append (filter is_live passed) (n ∷ rest) in omega (arith, l, k, place, through))

-- ---- one note, from the look at it on

looked_less : (notes : List Note) (at : ℕ) (note : Note) → at < length notes → at < length (set notes at note)
looked_less notes at note less = let l = length-set notes at note in omega (arith, less, l)

looked_way : (first notes gone : List Note) (at : ℕ) (was note : Note) (old mid : CallerLog) → at < length notes → was ≡ get_or notes at was → IsLooked was note → IsUnderWay first notes gone at old mid → IsUnderWay first (set notes at note) gone at old mid
looked_way first notes gone at was note old mid less is look way = way_looks first notes gone at was note old mid less (subst (λ (x : Note). IsLooked x note) is look) way

pub way_left : (first notes gone : List Note) (at : ℕ) (was note : Note) (old mid new : CallerLog) → at < length notes → was ≡ get_or notes at was → IsLooked was note → knows note.1 ≡ false → new ≡ mid
    → IsUnderWay first notes gone at old mid → IsUnderWay first (set notes at note) gone (at + 1) old new
way_left first notes gone at was note old mid new less is look live same way =
    subst (IsUnderWay first (set notes at note) gone (at + 1) old) (sym same)
    (way_leaves first (set notes at note) gone at note old mid (looked_less notes at note less) (sym (get_or-set_same notes at note note less)) live (looked_way first notes gone at was note old mid less is look way))

pub way_taken : (first notes after gone : List Note) (at : ℕ) (was note : Note) (old mid new : CallerLog) → at < length notes → was ≡ get_or notes at was → IsLooked was note → knows note.1 ≡ true
    → after ≡ take at (set notes at note) ++ drop (at + 1) (set notes at note) → HasAsked (End note.0 ∷ []) mid new → IsUnderWay first notes gone at old mid → IsUnderWay first after (gone ++ note ∷ []) at old new
way_taken first notes after gone at was note old mid new less is look ended out ask way =
    way_takes first (set notes at note) after gone at note old mid new (looked_less notes at note less) (sym (get_or-set_same notes at note note less)) ended out ask (looked_way first notes gone at was note old mid less is look way)

-- the history is full at a note that knows, which stays
pub way_stops : (first notes gone : List Note) (at : ℕ) (was note : Note) (old mid new : CallerLog) → at < length notes → was ≡ get_or notes at was → IsLooked was note → new ≡ mid → IsUnderWay first notes gone at old mid
    → IsUnderWay first (set notes at note) gone at old new
way_stops first notes gone at was note old mid new less is look same way =
    subst (IsUnderWay first (set notes at note) gone at old) (sym same) (looked_way first notes gone at was note old mid less is look way)

-- ---- where the notes go that are taken out

-- the note that is taken out is the one that was looked at
pub taken_is : (notes : List Note) (at : ℕ) (note out : Note) → at < length notes → out ≡ get_or (set notes at note) at out → out ≡ note
taken_is notes at note out less is = is ∙ get_or-set_same notes at note out less

-- they stand behind those that were there, or are let go
abbrev pub Behind : List Note → Bool → List Note → List Note → Type 0
Behind had keeps gone has = has ≡ had ++ cond keeps gone []

pub behind_none : (had : List Note) (keeps : Bool) → Behind had keeps [] had
behind_none had true = sym (append-nil had)
behind_none had false = sym (append-nil had)

pub behind_more : (had gone has more : List Note) (out note : Note) (keeps : Bool) → out ≡ note → more ≡ has ++ cond keeps (out ∷ []) [] → Behind had keeps gone has → Behind had keeps (gone ++ note ∷ []) more
behind_more had gone has more out note true is push before = push ∙ (λ i. before i ++ is i ∷ []) ∙ append_assoc had gone (note ∷ [])
behind_more had gone has more out note false is push before = push ∙ append-nil has ∙ before

-- what was swept, and where it went
pub swept_out : (first notes gone had has : List Note) (at : ℕ) (keeps : Bool) (old new : CallerLog) → IsUnderWay first notes gone at old new → Behind had keeps gone has
    → (swept : IsSwept first notes old new) × (has ≡ had ++ cond keeps (filter is_ended swept.passed) [])
swept_out first notes gone had has at keeps old new way behind = (way.swept, behind ∙ ap (λ (xs : List Note). had ++ cond keeps xs []) way.taken)
