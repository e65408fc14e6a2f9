-- A sum with one word changed is bad.
use Rattle.std.proofs.Common.{◌≡◌, ◌≢◌, ℕ, ◌+◌, ◌%◌, ◌<◌, ◌≤◌, Bool, true, false, eqb, List, length, take, drop, refl, ap, ◌∙◌, arith}
use Rattle.std.proofs.lemmas.Bool.{eqb-true}
use Rattle.std.specs.Prelude.{if◌then◌else◌}
use Rattle.internet_checksum.specs.Sum.{word_sum, folded, word_at, with_word}
use Rattle.internet_checksum.proofs.Adding.{folded-split}
use Rattle.internet_checksum.proofs.Stored.{word_sum-around, word_sum-with_word}
use Rattle.receive_checksum.specs.declared.check.Check.TheVariants.{Good, Bad}
use Rattle.receive_checksum.specs.Checks.{judged, transport_sum}
use Rattle.internet_checksum.proofs.Written.{length-with_word}

-- two sums that verify differ by a multiple of 65535
alike : (more other old new : ℕ) → folded (more + (old + other)) ≡ 65535 → folded (more + (new + other)) ≡ 65535 → new % 65535 ≡ old % 65535
alike more other old new first second =
    omega (arith, first, second, folded-split (more + (old + other)), folded-split (more + (new + other)))

good_sum : (sum : ℕ) → judged sum ≡ Good → sum ≡ 65535
good_sum sum h = by_test (eqb sum 65535) refl h
  where
    by_test : (b : Bool) → eqb sum 65535 ≡ b → (if b then Good else Bad) ≡ Good → sum ≡ 65535
    by_test true is h = eqb-true sum 65535 is
    by_test false is h = cc

bad_sum : (sum : ℕ) → sum ≢ 65535 → judged sum ≡ Bad
bad_sum sum other = by_test (eqb sum 65535) refl
  where
    by_test : (b : Bool) → eqb sum 65535 ≡ b → (if b then Good else Bad) ≡ Bad
    by_test true is = absurd (other (eqb-true sum 65535 is))
    by_test false is = refl

-- with a sum of other things
changed : (more place word : ℕ) (bytes : List ℕ) → place % 2 ≡ 0 → place + 2 ≤ length bytes → word < 65536
    → folded (more + word_sum bytes) ≡ 65535 → folded (more + word_sum (with_word place word bytes)) ≡ 65535 → word % 65535 ≡ word_at place bytes % 65535
changed more place word bytes even fits small first second =
    let other : ℕ = word_sum (take place bytes) + word_sum (drop (place + 2) bytes) in
    let old : more + (word_at place bytes + other) ≡ more + word_sum bytes = omega (arith, word_sum-around place bytes even fits) in
    let new : more + (word + other) ≡ more + word_sum (with_word place word bytes) = omega (arith, word_sum-with_word place word bytes even fits small) in
    alike more other (word_at place bytes) word (ap folded old ∙ first) (ap folded new ∙ second)

pub header_bad : (header : List ℕ) (place word : ℕ) → place % 2 ≡ 0 → place + 2 ≤ length header → word < 65536
    → word % 65535 ≢ word_at place header % 65535 → judged (folded (word_sum header)) ≡ Good
    → judged (folded (word_sum (with_word place word header))) ≡ Bad
header_bad header place word even fits small differs good =
    bad_sum (folded (word_sum (with_word place word header)))
    (λ same. differs (changed 0 place word header even fits small (ap folded (none (word_sum header)) ∙ good_sum (folded (word_sum header)) good) (ap folded (none (word_sum (with_word place word header))) ∙ same)))
  where
    none : (n : ℕ) → 0 + n ≡ n
    none n = omega arith

pub transport_bad : (protocol : ℕ) (addresses bytes : List ℕ) (place word : ℕ) → place % 2 ≡ 0 → place + 2 ≤ length bytes → word < 65536
    → word % 65535 ≢ word_at place bytes % 65535 → judged (transport_sum protocol addresses bytes) ≡ Good
    → judged (transport_sum protocol addresses (with_word place word bytes)) ≡ Bad
transport_bad protocol addresses bytes place word even fits small differs good =
    let more : ℕ = protocol + length bytes + word_sum addresses in
    let new : List ℕ = with_word place word bytes in
    let size : protocol + length bytes + word_sum addresses + word_sum new ≡ protocol + length new + word_sum addresses + word_sum new = omega (arith, length-with_word place word bytes fits) in
    bad_sum (transport_sum protocol addresses new)
    (λ same. differs (changed more place word bytes even fits small (good_sum (transport_sum protocol addresses bytes) good) (ap folded size ∙ same)))
