-- Records stay what they are where more bytes are kept behind those of theirs.
use Rattle.std.proofs.Common.{◌≡◌, ℕ, List, [], ◌∷◌, ◌++◌, ◌+◌, ◌≤◌, Some, Result, Ok, Err, OnErr, if◌then◌else◌, length, length-append, length-drop, take, drop, map, refl, sym, ap, ◌∙◌, subst, arith}
use Rattle.std.specs.List.{All}
use Rattle.std.proofs.lemmas.List.{map-append, take-append-le, drop-append-le, take-append-drop}
use Rattle.std.proofs.lemmas.List.Elements.{All-head, All-tail, All-weaker, All-push}
use Rattle.wire_frame.specs.Frame.{IsFrame}
use Rattle.device.specs.Events.{Event}
use Rattle.device.specs.declared.event.Event.TheVariants.{MemWrite, Wire}
use Rattle.script.specs.declared.store.Stored.{Stored}
use Rattle.script.specs.Bytes.{bytes_of}
use Rattle.script.specs.Store.{Grows, Lies, bytes_at, or_none, part}
use Rattle.script.specs.Records.{Record, Fits, event_at}

-- a list that grew is the old one and more
longer : {A : Type 0} (xs ys : List A) → take (length xs) ys ≡ xs → ys ≡ xs ++ drop (length xs) ys
longer {A} xs ys front = sym (take-append-drop (length xs) ys) ∙ ap (λ (zs : List A). zs ++ drop (length xs) ys) front

part_stays : (old new : List ℕ) (s : Stored) → Grows old new → s.at + s.count ≤ length old → part new s ≡ part old s
part_stays old new s grown inside =
    let more : List ℕ = drop (length old) new in
    ap (λ (pool : List ℕ). take s.count (drop s.at pool)) (longer old new grown)
    ∙ ap (take s.count) (drop-append-le s.at old more (omega arith))
    ∙ take-append-le s.count (drop s.at old) more (let l = length-drop s.at old in omega arith)

-- what a span has of a pool is what its bytes go by
abbrev bytes_by : Stored → List ℕ → List ℕ
bytes_by s part = if s.is_word then or_none (bytes_of part) else part

pub bytes_stay : (old new : List ℕ) (s : Stored) → Grows old new → Lies old s → bytes_at new s ≡ bytes_at old s
bytes_stay old new s grown lies = ap (bytes_by s) (part_stays old new s grown lies.inside)

lies_still : (old new : List ℕ) (s : Stored) → Grows old new → Lies old s → Lies new s
lies_still old new s grown lies =
    let inside = lies.inside in
    let more = ap (λ (xs : List ℕ). length xs) (longer old new grown) ∙ length-append old (drop (length old) new) in
    record {
      inside = omega arith;
      reads = λ is.
          ap bytes_of (part_stays old new s grown inside) ∙ lies.reads is ∙ ap Some (sym (bytes_stay old new s grown lies));
    }

event_stays : (old new : List ℕ) (r : Record) → Grows old new → Fits old r → event_at new r ≡ event_at old r
event_stays old new (MemWrite p at span) grown fits = ap (λ (bytes : List ℕ). MemWrite p at bytes) (bytes_stay old new span grown fits.0)
event_stays old new (Wire span) grown fits = ap (λ (bytes : List ℕ). Wire bytes) (bytes_stay old new span grown fits.0)
event_stays old new r grown fits = refl

fits_still : (old new : List ℕ) → Grows old new → (r : Record) → Fits old r → Fits new r
fits_still old new grown (MemWrite p at span) fits =
    let P : List ℕ → Type 0 = λ bytes. length bytes ≤ 2048 in
    (lies_still old new span grown fits.0, subst P (sym (bytes_stay old new span grown fits.0)) fits.1)
fits_still old new grown (Wire span) fits =
    (lies_still old new span grown fits.0, subst IsFrame (sym (bytes_stay old new span grown fits.0)) fits.1)
fits_still old new grown r fits = tt

pub all_fit : (old new : List ℕ) (rs rs' : List Record) → rs' ≡ rs → Grows old new → All (Fits old) rs → All (Fits new) rs'
all_fit old new rs rs' same grown all =
    let P : List Record → Type 0 = λ xs. All (Fits new) xs in
    subst P (sym same) (All-weaker (Fits old) (Fits new) (fits_still old new grown) rs all)

events_on : (old new : List ℕ) (rs : List Record) → Grows old new → All (Fits old) rs → map (event_at new) rs ≡ map (event_at old) rs
events_on old new [] grown all = refl
events_on old new (r ∷ rs) grown all =
    ap (λ e. e ∷ map (event_at new) rs) (event_stays old new r grown (All-head (Fits old) r rs all))
    ∙ ap (λ es. event_at old r ∷ es) (events_on old new rs grown (All-tail (Fits old) r rs all))

pub events_stay : (old new : List ℕ) (rs rs' : List Record) → rs' ≡ rs → Grows old new → All (Fits old) rs
    → map (event_at new) rs' ≡ map (event_at old) rs
events_stay old new rs rs' same grown all = ap (map (event_at new)) same ∙ events_on old new rs grown all

-- one record more
pub one_more : (old new : List ℕ) (rs rs' : List Record) (r : Record) → rs' ≡ rs ++ r ∷ [] → Grows old new → All (Fits old) rs
    → map (event_at new) rs' ≡ map (event_at old) rs ++ event_at new r ∷ []
one_more old new rs rs' r more grown all =
    ap (map (event_at new)) more ∙ map-append (event_at new) rs (r ∷ [])
    ∙ ap (λ (es : List Event). es ++ event_at new r ∷ []) (events_on old new rs grown all)

pub one_more_fits : (old new : List ℕ) (rs rs' : List Record) (r : Record) → rs' ≡ rs ++ r ∷ [] → Grows old new → All (Fits old) rs → Fits new r
    → All (Fits new) rs'
one_more_fits old new rs rs' r more grown all fits =
    let P : List Record → Type 0 = λ xs. All (Fits new) xs in
    subst P (sym more) (All-push (Fits new) rs r (all_fit old new rs rs refl grown all) fits)

pub on_err : {X E : Type 0} (r : Result X E) {P : Type 0} → P → OnErr r P
on_err (Ok _) p = tt
on_err (Err _) p = p
