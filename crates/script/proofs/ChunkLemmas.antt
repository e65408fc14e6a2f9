-- The bytes of chunks, laid one after another.
use Rattle.std.proofs.Common.{◌≡◌, ℕ, ◌-◌, ◌≤◌, ◌++◌, ◌+◌, List, [], Option, Some, None, take, length, length-append, append-nil, append_assoc, refl, sym, ap, ◌∙◌, arith}
use Rattle.std.specs.Prelude.{option_and_then}
use Rattle.std.proofs.lemmas.Bool.Decides.{nat_tests}
use Rattle.std.proofs.lemmas.List.{take-append-le, take_all}
use Rattle.script.specs.Bytes.{few, joined}

joined_on : (xs ys : List ℕ) (zs : Option (List ℕ)) → joined (Some (xs ++ ys)) zs ≡ joined (Some xs) (joined (Some ys) zs)
joined_on xs ys (Some zs) = ap Some (append_assoc xs ys zs)
joined_on xs ys None = refl

-- what is laid and what is left to read are the whole, and so they are with one chunk more
pub laid_next : (front after bytes : List ℕ) (chunk rest whole : Option (List ℕ)) → joined (Some front) (joined chunk rest) ≡ whole
    → chunk ≡ Some bytes → after ≡ front ++ bytes → joined (Some after) rest ≡ whole
laid_next front after bytes chunk rest whole so is more =
    ap (λ (xs : List ℕ). joined (Some xs) rest) more ∙ joined_on front bytes rest
    ∙ ap (λ (c : Option (List ℕ)). joined (Some front) (joined c rest)) (sym is) ∙ so

pub laid_last : (front : List ℕ) (whole : Option (List ℕ)) → joined (Some front) (Some []) ≡ whole → whole ≡ Some front
laid_last front whole so = sym so ∙ ap Some (append-nil front)

-- a chunk that cannot be read, or for which there is no room
pub laid_bad : (front : List ℕ) (size end : ℕ) (chunk rest whole : Option (List ℕ)) → length front ≡ end → end ≤ size
    → joined (Some front) (joined chunk rest) ≡ whole → option_and_then (few (size - end)) chunk ≡ None
    → option_and_then (few size) whole ≡ None
laid_bad front size end chunk rest whole long inside so bad = ap (option_and_then (few size)) (sym so) ∙ too_long chunk rest bad
  where
    too_long : (chunk rest : Option (List ℕ)) → option_and_then (few (size - end)) chunk ≡ None
        → option_and_then (few size) (joined (Some front) (joined chunk rest)) ≡ None
    too_long None rest bad = refl
    too_long (Some more) None bad = refl
    too_long (Some more) (Some others) bad =
        let l = length-append front (more ++ others) in
        let m = length-append more others in
        grind (arith, nat_tests)

-- bytes written into the middle of others
pub laid_part : (before bytes after : List ℕ) (at count : ℕ) → length before ≡ at → length bytes ≡ count
    → take (at + count) (before ++ (bytes ++ after)) ≡ before ++ bytes
laid_part before bytes after at count low long =
    let sum = length-append before bytes in
    ap (take (at + count)) (sym (append_assoc before bytes after))
    ∙ take-append-le (at + count) (before ++ bytes) after (omega arith) ∙ take_all (at + count) (before ++ bytes) (omega arith)
