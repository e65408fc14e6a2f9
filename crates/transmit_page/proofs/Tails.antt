-- No write of base, length or head is behind one of a tail.
use Rattle.std.proofs.Common.{◌≡◌, ℕ, Bool, true, false, List, [], ◌∷◌, ◌++◌, refl, sym, ◌∙◌, subst, true≢false}
use Rattle.std.specs.Prelude.{not, ◌&&◌, if◌then◌else◌}
use Rattle.transmit_page.specs.declared.words.RingWords.{RingWords}
use Rattle.transmit_page.specs.declared.words.TransmitRegister.{TransmitRegister}
use Rattle.transmit_page.specs.declared.words.TransmitRegister.TheVariants.{BaseLow, BaseHigh, Length, Head, WriteBackLow, WriteBackHigh, Control, Tail}
use Rattle.transmit_page.specs.declared.changes.TransmitWrite.{TransmitWrite}
use Rattle.transmit_page.specs.Words.{turned_off}
use Rattle.transmit_page.specs.Changes.{only_if, write, changes, has_changed, goes_off, comes_on, write_of, switching_off, switching_on, staying, control_and_tail}
use Rattle.transmit_page.specs.Laws.{IsAmong, is_of_ring}
use Rattle.transmit_page.proofs.Sections.{front_1, front_2, front_3, front_4, front_5, front}

abbrev is_tail : TransmitRegister → Bool
is_tail BaseLow = false
is_tail BaseHigh = false
is_tail Length = false
is_tail Head = false
is_tail WriteBackLow = false
is_tail WriteBackHigh = false
is_tail Control = false
is_tail Tail = true

-- none of the writes is of a register that the test finds
abbrev HasNone : (TransmitRegister → Bool) → List TransmitWrite → Type 0
HasNone test [] = Unit {0}
HasNone test (w ∷ ws) = (test w.register ≡ false) × HasNone test ws

none_both : (test : TransmitRegister → Bool) (xs ys : List TransmitWrite) → HasNone test xs → HasNone test ys → HasNone test (xs ++ ys)
none_both test [] ys first second = second
none_both test (x ∷ xs) ys first second = (first.0, none_both test xs ys first.1 second)

none_only_if : (test : TransmitRegister → Bool) (b : Bool) (r : TransmitRegister) (x : ℕ) → test r ≡ false → HasNone test (only_if b r x)
none_only_if test true r x other = (other, tt)
none_only_if test false r x other = tt

none_at : (test : TransmitRegister → Bool) (before : List TransmitWrite) (w : TransmitWrite) (behind : List TransmitWrite) → HasNone test (before ++ w ∷ behind) → test w.register ≡ false
none_at test [] w behind none = none.0
none_at test (x ∷ xs) w behind none = none_at test xs w behind none.1

-- behind a tail there is no base, length or head
abbrev TailsBehind : List TransmitWrite → Type 0
TailsBehind [] = Unit {0}
TailsBehind (w ∷ ws) = (is_tail w.register ≡ true → HasNone is_of_ring ws) × TailsBehind ws

behind_none : (xs : List TransmitWrite) → HasNone is_of_ring xs → TailsBehind xs
behind_none [] none = tt
behind_none (x ∷ xs) none = (λ is. none.1, behind_none xs none.1)

behind_both : (xs ys : List TransmitWrite) → HasNone is_tail xs → HasNone is_of_ring ys → TailsBehind (xs ++ ys)
behind_both [] ys first second = behind_none ys second
behind_both (x ∷ xs) ys first second = (λ is. absurd (true≢false (sym is ∙ first.0)), behind_both xs ys first.1 second)

behind_at : (before : List TransmitWrite) (x : ℕ) (behind : List TransmitWrite) → TailsBehind (before ++ write Tail x ∷ behind) → HasNone is_of_ring behind
behind_at [] x behind all = all.0 refl
behind_at (w ∷ ws) x behind all = behind_at ws x behind all.1

front_none : (was now : RingWords) → HasNone is_tail (front was now)
front_none was now =
    let first = none_only_if is_tail (goes_off was now) Control (turned_off now.control) refl in
    let to_1 = none_both is_tail (switching_off was now) (write_of BaseLow was now) first (none_only_if is_tail (has_changed BaseLow was now) BaseLow now.base_low refl) in
    let to_2 = none_both is_tail (front_1 was now) (write_of BaseHigh was now) to_1 (none_only_if is_tail (has_changed BaseHigh was now) BaseHigh now.base_high refl) in
    let to_3 = none_both is_tail (front_2 was now) (write_of Length was now) to_2 (none_only_if is_tail (has_changed Length was now) Length now.length refl) in
    let to_4 = none_both is_tail (front_3 was now) (write_of Head was now) to_3 (none_only_if is_tail (has_changed Head was now) Head now.head refl) in
    let to_5 = none_both is_tail (front_4 was now) (write_of WriteBackLow was now) to_4 (none_only_if is_tail (has_changed WriteBackLow was now) WriteBackLow now.write_back_low refl) in
    none_both is_tail (front_5 was now) (write_of WriteBackHigh was now) to_5 (none_only_if is_tail (has_changed WriteBackHigh was now) WriteBackHigh now.write_back_high refl)

last_none : (was now : RingWords) (on : Bool) → HasNone is_of_ring (if on then switching_on now else staying was now)
last_none was now true = (refl, (refl, (refl, tt)))
last_none was now false =
    let said = not (goes_off was now) && has_changed Control was now in
    none_both is_of_ring (only_if said Control now.control) (write_of Tail was now) (none_only_if is_of_ring said Control now.control refl)
    (none_only_if is_of_ring (has_changed Tail was now) Tail now.tail refl)

all_behind : (was now : RingWords) → TailsBehind (changes was now)
unfolding changes
all_behind was now = behind_both (front was now) (control_and_tail was now) (front_none was now) (last_none was now (comes_on was now))

pub tail_at : (was now : RingWords) (before between behind : List TransmitWrite) (x : ℕ) (w : TransmitWrite) → IsAmong was now before (write Tail x) (between ++ w ∷ behind) → is_of_ring w.register ≡ false
tail_at was now before between behind x w is =
    none_at is_of_ring between w behind (behind_at before x (between ++ w ∷ behind) (subst TailsBehind is (all_behind was now)))
