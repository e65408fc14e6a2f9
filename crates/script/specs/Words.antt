-- The words of a line, and the numbers that they write.
use Rattle.std.specs.Prelude.{◌≡◌, ◌≤◌, ◌<◌, take, drop, slice_index, ℕ, List, [], ◌∷◌, Option, Some, None, length, filter, nat_le, if◌then◌else◌}
use Rattle.std.specs.Option.{option_map}
use Rattle.vf_unit.specs.declared.registers.Queue.{Queue}
use Rattle.vf_unit.specs.declared.registers.Queue.TheVariants.{Q0, Q1}
use Rattle.memchr.specs.Find.{Nowhere, Passes, is_byte}
use Rattle.script.specs.Numbers.{number_of, number_to}
use Rattle.script.specs.Text.{parts}

-- the words of a line, with one or more spaces between them
abbrev pub words_of : List ℕ → List (List ℕ)
words_of line = filter (λ word. nat_le 1 (length word)) (parts 32 line)

-- no word
abbrev pub none_of : List (List ℕ) → Option (Unit {0})
none_of [] = Some tt
none_of (word ∷ rest) = None

-- the words, where they are one, two or three
abbrev pub one_of : List (List ℕ) → Option (List ℕ)
one_of (word ∷ []) = Some word
one_of (word ∷ more ∷ rest) = None
one_of [] = None

abbrev pub two_of : List (List ℕ) → Option (List ℕ × List ℕ)
two_of [] = None
two_of (first ∷ rest) = option_map (λ second. (first, second)) (one_of rest)

abbrev pub three_of : List (List ℕ) → Option (List ℕ × (List ℕ × List ℕ))
three_of [] = None
three_of (first ∷ rest) = option_map (λ others. (first, others)) (two_of rest)

-- two words, and a third where there is one
abbrev pub two_or_three_of : List (List ℕ) → Option (List ℕ × (List ℕ × Option (List ℕ)))
two_or_three_of [] = None
two_or_three_of (first ∷ []) = None
two_or_three_of (first ∷ second ∷ []) = Some (first, (second, None))
two_or_three_of (first ∷ second ∷ rest) = option_map (λ third. (first, (second, Some third))) (one_of rest)

-- a number that isn't above `most`
abbrev pub at_most : ℕ → Option ℕ → Option ℕ
at_most most None = None
at_most most (Some n) = if nat_le n most then Some n else None

-- a pool: a number of 8 bits
abbrev pub pool_of : List ℕ → Option ℕ
pool_of word = at_most 0xFF (number_of word)

-- a length in bytes: a number of 16 bits
abbrev pub length_of : List ℕ → Option ℕ
length_of word = at_most 0xFFFF (number_of word)

-- an offset or the value of a register: a number of 32 bits
abbrev pub register_of : List ℕ → Option ℕ
register_of word = at_most 0xFFFF_FFFF (number_of word)

-- an address: a number of 64 bits
abbrev pub address_of : List ℕ → Option ℕ
address_of word = number_of word

-- a queue: 0 or 1
abbrev pub queue_by : Option ℕ → Option Queue
queue_by None = None
queue_by (Some n) = Some (if nat_le 1 n then Q1 else Q0)

abbrev pub queue_of : List ℕ → Option Queue
queue_of word = queue_by (at_most 1 (number_of word))

-- ---- numbers, read where they stand

-- the digits begin with a number to a base, of at most 16 digits, and a space follows it or nothing
pub record BeginsTo (base : ℕ) (digits : List ℕ) (n : ℕ) (rest : List ℕ) : Type 0 where
  pub at : ℕ
  pub few : at ≤ 16
  pub inside : at ≤ length digits
  pub number : number_to base (take at digits) ≡ Some n
  pub left : rest ≡ drop at digits
  pub before : Nowhere (Passes (is_byte 32) digits) 0 at
  pub here : at < length digits → slice_index digits at ≡ 32

-- the text begins with a word that writes a number, and the rest has the words after it
pub record Begins (text : List ℕ) (n : ℕ) (rest : List ℕ) : Type 0 where
  pub word : List ℕ
  pub words : words_of text ≡ word ∷ words_of rest
  pub number : number_of word ≡ Some n

-- the first of the words writes a number
pub record Reads (words : List (List ℕ)) (n : ℕ) (rest : List (List ℕ)) : Type 0 where
  pub word : List ℕ
  pub is : words ≡ word ∷ rest
  pub number : number_of word ≡ Some n

-- it writes none, where there is one
abbrev pub ReadsNone : List (List ℕ) → Type 0
ReadsNone words = (word : List ℕ) (rest : List (List ℕ)) → words ≡ word ∷ rest → number_of word ≡ None

-- the words are as many as these numbers, and write them
pub record One (words : List (List ℕ)) (m : ℕ) : Type 0 where
  pub first : List ℕ
  pub are : one_of words ≡ Some first
  pub number : number_of first ≡ Some m

pub record Two (words : List (List ℕ)) (m n : ℕ) : Type 0 where
  pub first : List ℕ
  pub second : List ℕ
  pub are : two_of words ≡ Some (first, second)
  pub number : number_of first ≡ Some m
  pub number_2 : number_of second ≡ Some n

pub record Three (words : List (List ℕ)) (m n k : ℕ) : Type 0 where
  pub first : List ℕ
  pub second : List ℕ
  pub third : List ℕ
  pub are : three_of words ≡ Some (first, (second, third))
  pub number : number_of first ≡ Some m
  pub number_2 : number_of second ≡ Some n
  pub number_3 : number_of third ≡ Some k

-- two numbers, and a word after them
pub record TwoAnd (words : List (List ℕ)) (m n : ℕ) (word : List ℕ) : Type 0 where
  pub first : List ℕ
  pub second : List ℕ
  pub are : three_of words ≡ Some (first, (second, word))
  pub number : number_of first ≡ Some m
  pub number_2 : number_of second ≡ Some n

-- the words are not as many numbers
pub record NotOne (words : List (List ℕ)) : Type 0 where
  pub not : (m : ℕ) → One words m → ⊥

pub record NotTwo (words : List (List ℕ)) : Type 0 where
  pub not : (m n : ℕ) → Two words m n → ⊥

pub record NotThree (words : List (List ℕ)) : Type 0 where
  pub not : (m n k : ℕ) → Three words m n k → ⊥

pub record NotTwoAnd (words : List (List ℕ)) : Type 0 where
  pub not : (m n : ℕ) (word : List ℕ) → TwoAnd words m n word → ⊥
