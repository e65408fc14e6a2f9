-- Lists of writes, part by part: what holds along one, of each write and of the words that those before it leave.
use Rattle.std.proofs.Common.{◌≡◌, ℕ, Bool, true, false, List, [], ◌∷◌, ◌++◌, refl, sym, true≢false}
use Rattle.std.specs.Prelude.{◌&&◌, ◌||◌, if◌then◌else◌}
use Rattle.transmit_page.specs.declared.words.RingWords.{RingWords}
use Rattle.transmit_page.specs.declared.words.TransmitRegister.{TransmitRegister}
use Rattle.transmit_page.specs.declared.changes.TransmitWrite.{TransmitWrite}
use Rattle.transmit_page.specs.Words.{with_word}
use Rattle.transmit_page.specs.Changes.{only_if, write, written}

-- ---- tests

pub or_first : (a b : Bool) → a ≡ true → (a || b) ≡ true
or_first true b is = refl
or_first false b is = absurd (true≢false (sym is))

pub or_second : (a b : Bool) → b ≡ true → (a || b) ≡ true
or_second true b is = refl
or_second false b is = is

pub and_second : (a b : Bool) → (a && b) ≡ true → b ≡ true
and_second true b is = is
and_second false b is = absurd (true≢false (sym is))

-- ---- writes

pub written_both : (words : RingWords) (xs ys : List TransmitWrite) → written words (xs ++ ys) ≡ written (written words xs) ys
written_both words [] ys = refl
written_both words (x ∷ xs) ys = written_both (with_word words x.register x.value) xs ys

-- each write satisfies P, at the words that those before it leave
abbrev pub Along : (RingWords → TransmitWrite → Type 0) → RingWords → List TransmitWrite → Type 0
Along P words [] = Unit {0}
Along P words (w ∷ ws) = P words w × Along P (with_word words w.register w.value) ws

pub along_both : (P : RingWords → TransmitWrite → Type 0) (words : RingWords) (xs ys : List TransmitWrite) → Along P words xs → Along P (written words xs) ys → Along P words (xs ++ ys)
along_both P words [] ys first second = second
along_both P words (x ∷ xs) ys first second = (first.0, along_both P (with_word words x.register x.value) xs ys first.1 second)

pub along_at : (P : RingWords → TransmitWrite → Type 0) (words : RingWords) (before : List TransmitWrite) (w : TransmitWrite) (behind : List TransmitWrite) → Along P words (before ++ w ∷ behind) → P (written words before) w
along_at P words [] w behind all = all.0
along_at P words (x ∷ xs) w behind all = along_at P (with_word words x.register x.value) xs w behind all.1

pub along_only_if : (P : RingWords → TransmitWrite → Type 0) (words : RingWords) (b : Bool) (r : TransmitRegister) (x : ℕ) → (b ≡ true → P words (write r x)) → Along P words (only_if b r x)
along_only_if P words true r x holds = (holds refl, tt)
along_only_if P words false r x holds = tt

pub along_choice : (P : RingWords → TransmitWrite → Type 0) (words : RingWords) (b : Bool) (xs ys : List TransmitWrite) → (b ≡ true → Along P words xs) → (b ≡ false → Along P words ys) → Along P words (if b then xs else ys)
along_choice P words true xs ys first second = first refl
along_choice P words false xs ys first second = second refl
