-- The lines of a text, from the first one on, whatever follows it.
use Rattle.std.proofs.Common.{◌≡◌, ℕ, ◌+◌, ◌-◌, ◌≤◌, ◌==◌, ◌||◌, ◌&&◌, Bool, true, false, nat_le, nat_lt, List, [], ◌∷◌, ◌++◌, Some, None, Ok, Err, length, length-append, drop, if◌then◌else◌, refl, sym, ap, ◌∙◌, arith}
use Rattle.std.specs.List.{onto_first}
use Rattle.std.specs.Option.{option_map}
use Rattle.std.proofs.lemmas.Bool.Decides.{nat_tests}
use Rattle.std.proofs.lemmas.List.{append_assoc, drop-drop}
use Rattle.std.proofs.lemmas.List.Elements.{All-head, All-tail}
use Rattle.std.proofs.lemmas.List.Splits.{slice_split_at, slice_split_none, slice_split-cons_no, slice_split-cons_yes}
use Rattle.std.proofs.Math.Seq.{drop-append_seam}
use Rattle.script.specs.Text.{IsWithout, parts}
use Rattle.script.specs.Reading.{Reading, counted, ended, heard, line_after, lines_of, read_on}

-- a text has a first part, to which what comes before it belongs
record FirstPart (byte : ℕ) (before text : List ℕ) : Type 0 where
  front : List ℕ
  others : List (List ℕ)
  is : parts byte text ≡ (before ++ front) ∷ others

first_part : (byte : ℕ) (text : List ℕ) → FirstPart byte [] text
first_part byte [] = record { front = []; others = []; is = refl }
first_part byte (x ∷ xs) = go (x == byte) refl (first_part byte xs)
  where
    go : (stands : Bool) → (x == byte) ≡ stands → FirstPart byte [] xs → FirstPart byte [] (x ∷ xs)
    go true is rest = record { front = []; others = parts byte xs; is = slice_split-cons_yes (λ b. b == byte) x xs is }
    go false is rest = record {
      front = x ∷ rest.front;
      others = rest.others;
      is = slice_split-cons_no (λ b. b == byte) x xs is ∙ ap (onto_first x) rest.is;
    }

part_before : (byte : ℕ) (before more : List ℕ) → IsWithout byte before → FirstPart byte before (before ++ more)
part_before byte [] more none = first_part byte more
part_before byte (x ∷ xs) more none =
    let rest = part_before byte xs more (All-tail (λ b. (b == byte) ≡ false) x xs none) in
    record {
      front = rest.front;
      others = rest.others;
      is = slice_split-cons_no (λ b. b == byte) x (xs ++ more) (All-head (λ b. (b == byte) ≡ false) x xs none) ∙ ap (onto_first x) rest.is;
    }

-- the lines after one that ends
lines_cut : (line after more rest : List ℕ) → rest ≡ line ++ 10 ∷ after → IsWithout 10 line
    → lines_of (rest ++ more) ≡ line ∷ lines_of (after ++ more)
lines_cut line after more rest is none =
    let next = first_part 10 (after ++ more) in
    let joined : rest ++ more ≡ line ++ 10 ∷ (after ++ more) = ap (λ (xs : List ℕ). xs ++ more) is ∙ append_assoc line (10 ∷ after) more in
    let cut : parts 10 (rest ++ more) ≡ line ∷ parts 10 (after ++ more) =
    ap (parts 10) joined ∙ slice_split_at (λ b. b == 10) line 10 (after ++ more) none refl in
    ap ended (cut ∙ ap (λ (ps : List (List ℕ)). line ∷ ps) next.is) ∙ ap (λ (ps : List (List ℕ)). line ∷ ended ps) (sym next.is)

-- a line that is taken, and one that isn't
line_taken : (line : List ℕ) (lines : List (List ℕ)) (r next : Reading) → line_after r line ≡ Some next
    → read_on (line ∷ lines) r ≡ read_on lines next
line_taken line lines r next is = rw is refl

line_bad : (line : List ℕ) (lines : List (List ℕ)) (r : Reading) (n : ℕ) → n ≡ r.lines + 1 → line_after r line ≡ None
    → read_on (line ∷ lines) r ≡ Err n
line_bad line lines r n number is = rw is (ap Err (sym number))

-- what is left of a text, and whatever follows it, leads from what is read now to what the whole says
abbrev pub LeadsOn : List ℕ → List ℕ → Reading → Reading → Type 0
LeadsOn text rest first now = (more : List ℕ) → read_on (lines_of (text ++ more)) first ≡ read_on (lines_of (rest ++ more)) now

pub leads_on : (text rest line after : List ℕ) (first now next : Reading) → LeadsOn text rest first now
    → rest ≡ line ++ 10 ∷ after → IsWithout 10 line → line_after now line ≡ Some next → LeadsOn text after first next
leads_on text rest line after first now next leads is none taken = λ more.
    leads more ∙ ap (λ (ls : List (List ℕ)). read_on ls now) (lines_cut line after more rest is none)
    ∙ line_taken line (lines_of (after ++ more)) now next taken

pub leads_to_bad : (text rest line after : List ℕ) (first now : Reading) (n : ℕ) → LeadsOn text rest first now
    → rest ≡ line ++ 10 ∷ after → IsWithout 10 line → n ≡ now.lines + 1 → line_after now line ≡ None
    → (more : List ℕ) → read_on (lines_of (text ++ more)) first ≡ Err n
leads_to_bad text rest line after first now n leads is none number bad = λ more.
    leads more ∙ ap (λ (ls : List (List ℕ)). read_on ls now) (lines_cut line after more rest is none)
    ∙ line_bad line (lines_of (after ++ more)) now n number bad

-- a line that is too many or too long, as its beginning is
too_long : (now : Reading) (rest line : List ℕ) → length rest ≤ length line
    → ((length rest == 0) || (nat_lt now.lines 100000 && nat_le (length rest) 40000)) ≡ false → line_after now line ≡ None
unfolding line_after
too_long now rest line less long = by_tests (nat_lt now.lines 100000) (nat_le (length line) 40000) refl refl
  where
    by_tests : (few short : Bool) → nat_lt now.lines 100000 ≡ few → nat_le (length line) 40000 ≡ short
        → (if few && short then option_map counted (heard now line) else None) ≡ None
    by_tests true true few short = absurd (grind (arith, nat_tests))
    by_tests true false few short = refl
    by_tests false short few is = refl

-- the beginning of a line of which no end makes a good one
pub leads_to_long : (text rest : List ℕ) (first now : Reading) (n : ℕ) → LeadsOn text rest first now → IsWithout 10 rest
    → n ≡ now.lines + 1 → ((length rest == 0) || (nat_lt now.lines 100000 && nat_le (length rest) 40000)) ≡ false
    → (more : List ℕ) → read_on (lines_of (text ++ more)) first ≡ Err n
leads_to_long text rest first now n leads none number long = λ more.
    let part = part_before 10 rest more none in
    let some : 1 ≤ length rest = grind (arith, nat_tests) in
    let line : List ℕ = rest ++ part.front in
    let all = length-append rest part.front in
    let there : ended (line ∷ part.others) ≡ line ∷ ended part.others = starts line part.others (omega arith) in
    leads more ∙ ap (λ (ps : List (List ℕ)). read_on (ended ps) now) part.is ∙ ap (λ (ls : List (List ℕ)). read_on ls now) there
    ∙ line_bad line (ended part.others) now n number (too_long now rest line (omega arith) long)
  where
    starts : (line : List ℕ) (others : List (List ℕ)) → 1 ≤ length line → ended (line ∷ others) ≡ line ∷ ended others
    starts line [] some = grind (arith, nat_tests)
    starts line (next ∷ rest) some = refl

-- a last line that nothing ends
pub last_line : (line : List ℕ) → IsWithout 10 line → 1 ≤ length line → lines_of line ≡ line ∷ []
last_line line none some = ap ended (slice_split_none (λ b. b == 10) line none) ∙ grind (arith, nat_tests)

pub last_taken : (line : List ℕ) (r next : Reading) → IsWithout 10 line → 1 ≤ length line → line_after r line ≡ Some next
    → read_on (lines_of line) r ≡ Ok next
last_taken line r next none some taken = ap (λ (ls : List (List ℕ)). read_on ls r) (last_line line none some) ∙ line_taken line [] r next taken

pub last_bad : (line : List ℕ) (r : Reading) (n : ℕ) → IsWithout 10 line → 1 ≤ length line → n ≡ r.lines + 1 → line_after r line ≡ None
    → read_on (lines_of line) r ≡ Err n
last_bad line r n none some number bad = ap (λ (ls : List (List ℕ)). read_on ls r) (last_line line none some) ∙ line_bad line [] r n number bad

-- what is left of a text after a line
pub left_after : (text rest line after : List ℕ) → rest ≡ drop (length text - length rest) text → length rest ≤ length text
    → rest ≡ line ++ 10 ∷ after → (after ≡ drop (length text - length after) text) × (length after ≤ length text)
left_after text rest line after is inside cut =
    let long : length rest ≡ length line + (1 + length after) = ap (λ (xs : List ℕ). length xs) cut ∙ length-append line (10 ∷ after) ∙ ap (λ (n : ℕ). length line + n) (omega arith) in
    let line_off : drop (length line) rest ≡ 10 ∷ after = ap (drop (length line)) cut ∙ drop-append_seam line (10 ∷ after) in
    let byte_off : drop (length line + 1) rest ≡ after = sym (drop-drop 1 (length line) rest) ∙ ap (drop 1) line_off in
    let sum : length text - length rest + (length line + 1) ≡ length text - length after = omega arith in
    (sym (sym (ap (λ (k : ℕ). drop k text) sum) ∙ sym (drop-drop (length line + 1) (length text - length rest) text) ∙ ap (drop (length line + 1)) (sym is) ∙ byte_off), omega arith)
