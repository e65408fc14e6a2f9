-- The bytes of pairs of digits, one after another.
use Rattle.std.proofs.Common.{◌≡◌, ℕ, Bool, true, false, List, [], ◌∷◌, ◌++◌, ◌+◌, ◌-◌, ◌*◌, ◌%◌, ◌&&◌, ◌<◌, ◌≤◌, Option, Some, None, nat_lt, nat_le, max, length, length-drop, length-take, take, drop, slice_index, slice_set, if◌then◌else◌, refl, sym, ap, ◌∙◌, arith}
use Rattle.std.specs.Prelude.{MatchOption, option_and_then}
use Rattle.std.specs.Ordering.{ord_max, nat_cmp}
use Rattle.std.proofs.lemmas.List.{append_assoc, append-nil, length-set, take_all, take_more_set}
use Rattle.std.proofs.lemmas.Bool.Decides.{nat_tests}
use Rattle.script.specs.Numbers.{digit_value}
use Rattle.script.specs.Bytes.{before, byte_of, chunk_of, few, has_count, joined, pairs_of}

-- bytes and those after them, where no value of a digit so far is above 15
abbrev pub so_far : ℕ → List ℕ → Option (List ℕ) → Option (List ℕ)
so_far greatest front rest = if nat_lt greatest 16 then joined (Some front) rest else None

-- what two values of digits write, 255 standing for none
abbrev byte_by : ℕ → ℕ → Option ℕ
byte_by high low = if nat_lt high 16 && nat_lt low 16 then Some (high * 16 + low) else None

joined_before : (front : List ℕ) (byte : ℕ) (rest : Option (List ℕ)) → joined (Some front) (before (Some byte) rest) ≡ joined (Some (front ++ byte ∷ [])) rest
joined_before front byte (Some rest) = ap Some (sym (append_assoc front (byte ∷ []) rest))
joined_before front byte None = refl

-- one pair more
more_by : (g high low g' : ℕ) (front : List ℕ) (rest : Option (List ℕ)) → g' ≡ max (max g high) low
    → (a b c : Bool) → nat_lt g 16 ≡ a → nat_lt high 16 ≡ b → nat_lt low 16 ≡ c
    → so_far g front (before (byte_by high low) rest) ≡ so_far g' (front ++ ((high * 16 % 256 + low) % 256) ∷ []) rest
more_by g high low g' front rest is true true true x y z =
    let all : nat_lt g' 16 ≡ true = grind (arith, nat_tests) in
    let byte : (high * 16 % 256 + low) % 256 ≡ high * 16 + low = grind (arith, nat_tests) in
    rw (x, y, z, all, byte) (joined_before front (high * 16 + low) rest)
more_by g high low g' front rest is true true false x y z =
    let all : nat_lt g' 16 ≡ false = grind (arith, nat_tests) in
    rw (x, y, z, all) refl
more_by g high low g' front rest is true false c x y z =
    let all : nat_lt g' 16 ≡ false = grind (arith, nat_tests) in
    rw (x, y, all) refl
more_by g high low g' front rest is false b c x y z =
    let all : nat_lt g' 16 ≡ false = grind (arith, nat_tests) in
    rw (x, all) refl

byte_by_values : (high low : ℕ) → byte_of high low ≡ byte_by (digit_value high) (digit_value low)
unfolding byte_of
byte_by_values high low = refl

greater : (a b : ℕ) → ord_max nat_cmp a b ≡ max a b
greater a b = grind arith

-- the first pair of digits
pairs_first : (rest : List ℕ) → 2 ≤ length rest
    → pairs_of rest ≡ before (byte_of (slice_index rest 0) (slice_index rest 1)) (pairs_of (take (length rest - 2) (drop 2 rest)))
unfolding pairs_of
pairs_first [] some = absurd (omega arith)
pairs_first (digit ∷ []) some = absurd (omega arith)
pairs_first (high ∷ low ∷ after) some =
    ap (λ (xs : List ℕ). before (byte_of high low) (pairs_of xs)) (sym (take_all (length (high ∷ low ∷ after) - 2) after (omega arith)))

-- one pair more is written
pub pair_more : (rest out : List ℕ) (i g high low g1 g2 : ℕ) (whole : Option (List ℕ)) → i < length out → 2 ≤ length rest
    → high ≡ digit_value (slice_index rest 0) → low ≡ digit_value (slice_index rest 1)
    → g1 ≡ ord_max nat_cmp g high → g2 ≡ max g1 low
    → so_far g (take i out) (pairs_of rest) ≡ whole
    → so_far g2 (take (i + 1) (slice_set out i ((high * 16 % 256 + low) % 256))) (pairs_of (take (length rest - 2) (drop 2 rest))) ≡ whole
pair_more rest out i g high low g1 g2 whole room some is_high is_low first second so =
    let after : Option (List ℕ) = pairs_of (take (length rest - 2) (drop 2 rest)) in
    let both : g2 ≡ max (max g high) low = second ∙ ap (λ (x : ℕ). max x low) (first ∙ greater g high) in
    let byte : byte_of (slice_index rest 0) (slice_index rest 1) ≡ byte_by high low =
    byte_by_values _ _ ∙ (λ k. byte_by (sym is_high k) (sym is_low k)) in
    let next : pairs_of rest ≡ before (byte_by high low) after = pairs_first rest some ∙ ap (λ (x : Option ℕ). before x after) byte in
    ap (λ (front : List ℕ). so_far g2 front after) (take_more_set out i ((high * 16 % 256 + low) % 256) room)
    ∙ sym (more_by g high low g2 (take i out) after both _ _ _ refl refl refl)
    ∙ ap (so_far g (take i out)) (sym next) ∙ so

pub pairs_left : (rest out : List ℕ) (i x : ℕ) → 2 ≤ length rest → length rest + 2 * i ≡ 2 * length out
    → length (take (length rest - 2) (drop 2 rest)) + 2 * (i + 1) ≡ 2 * length (slice_set out i x)
pairs_left rest out i x some left =
    let l = length-set out i x in
    let d = length-drop 2 rest in
    let t = length-take (length rest - 2) (drop 2 rest) in
    omega arith

-- every pair is written
pub pairs_done : (rest out : List ℕ) (i g : ℕ) (whole : Option (List ℕ)) → length out ≤ i → length rest ≡ 0
    → so_far g (take i out) (pairs_of rest) ≡ whole
    → (if nat_lt g 16 then Some out else None) ≡ whole
unfolding pairs_of
pairs_done rest out i g whole all none so =
    let end : rest ≡ [] = sym (take_all 0 rest (omega arith)) in
    let full = take_all i out all in
    rw (end, full, append-nil) at so

-- there are two digits for each byte
length_pairs : (digits : List ℕ) → MatchOption (pairs_of digits) (Unit {0}) (λ bytes. length digits ≡ 2 * length bytes)
unfolding pairs_of
length_pairs [] = refl
length_pairs (digit ∷ []) = tt
length_pairs (high ∷ low ∷ rest) = go (byte_of high low) (pairs_of rest) (length_pairs rest)
  where
    go : (byte : Option ℕ) (bytes : Option (List ℕ)) → MatchOption bytes (Unit {0}) (λ bs. length rest ≡ 2 * length bs)
        → MatchOption (before byte bytes) (Unit {0}) (λ bs. length (high ∷ low ∷ rest) ≡ 2 * length bs)
    go (Some byte) (Some bytes) long = omega (arith, long)
    go (Some byte) None long = tt
    go None bytes long = tt

-- a chunk without a count that cannot be so many bytes, or isn't any
pub pairs_bad : (chunk : List ℕ) (most : ℕ) → has_count chunk ≡ false
    → ((bytes : List ℕ) → length chunk ≡ 2 * length bytes → 1 ≤ length chunk → most < length bytes)
    → option_and_then (few most) (chunk_of chunk) ≡ None
unfolding chunk_of
pairs_bad chunk most plain long = rw plain (go (nat_le 1 (length chunk)) (pairs_of chunk) refl (length_pairs chunk))
  where
    go : (some : Bool) (bytes : Option (List ℕ)) → nat_le 1 (length chunk) ≡ some → MatchOption bytes (Unit {0}) (λ bs. length chunk ≡ 2 * length bs)
        → option_and_then (few most) (if some then bytes else None) ≡ None
    go false bytes is two = refl
    go true None is two = refl
    go true (Some bytes) is two =
        let one : 1 ≤ length chunk = grind (arith, nat_tests) in
        let more = long bytes two one in
        grind (arith, nat_tests)
