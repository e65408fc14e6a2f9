-- Sums that a sender stored are good.
use Rattle.std.proofs.Common.{◌≡◌, ℕ, ◌+◌, ◌-◌, ◌/◌, ◌%◌, ◌<◌, ◌≤◌, Bool, true, false, eqb, leb, ltb, List, ◌++◌, length, take, drop, get_or, refl, ap, ◌∙◌, arith, length-append, length-drop}
use Rattle.std.proofs.lemmas.List.{get_or_append_left, get_or-take, length-take-le, take_all}
use Rattle.std.proofs.Math.Seq.{get_or-append_right}
use Rattle.std.proofs.lemmas.Bool.{eqb-true, le-leb, le-ltb}
use Rattle.std.specs.Prelude.{if◌then◌else◌}
use Rattle.byteorder.specs.Endian.{big_bytes}
use Rattle.internet_checksum.specs.Sum.{word_sum, folded, checksum, never_zero, word_at, with_word}
use Rattle.internet_checksum.proofs.Adding.{folded-turned, folded-turned_zero}
use Rattle.internet_checksum.proofs.Stored.{word_sum-with_word}
use Rattle.internet_checksum.proofs.Written.{length-with_word, word_at-with_word}
use Rattle.receive_checksum.specs.declared.check.Check.TheVariants.{Good}
use Rattle.receive_checksum.specs.Checks.{judged, transport_sum, tcp_check, udp_length, is_udp, udp_check}
use Rattle.receive_checksum.specs.Sent.{header_sent, tcp_sent, udp_sent}

-- ---- a word that is written

-- a byte before it stays
before-with_word : (place word i : ℕ) (bytes : List ℕ) → i < place → place + 2 ≤ length bytes → get_or (with_word place word bytes) i 0 ≡ get_or bytes i 0
before-with_word place word i bytes less fits =
    get_or_append_left (take place bytes) (big_bytes 2 word ++ drop (place + 2) bytes) 0 i (omega (arith, length-take-le place bytes (omega arith)))
    ∙ get_or-take place bytes i 0 less

-- ---- a checksum that is stored, among bytes with a sum of other things

together : (more place word : ℕ) (bytes : List ℕ) → place % 2 ≡ 0 → place + 2 ≤ length bytes → word < 65536
    → more + word_sum (with_word place word bytes) ≡ more + word_sum (with_word place 0 bytes) + word
together more place word bytes even fits small =
    omega (arith, word_sum-with_word place word bytes even fits small, word_sum-with_word place 0 bytes even fits (omega arith))

stored : (protocol place word : ℕ) (addresses bytes : List ℕ) → place % 2 ≡ 0 → place + 2 ≤ length bytes → word < 65536
    → protocol + length (with_word place word bytes) + word_sum addresses + word_sum (with_word place word bytes)
    ≡ protocol + length (with_word place 0 bytes) + word_sum addresses + word_sum (with_word place 0 bytes) + word
stored protocol place word addresses bytes even fits small =
    let new = length-with_word place word bytes fits in
    let old = length-with_word place 0 bytes fits in
    omega (arith, new, old, together (protocol + length bytes + word_sum addresses) place word bytes even fits small)

plain_verifies : (protocol place word : ℕ) (addresses bytes : List ℕ) → place % 2 ≡ 0 → place + 2 ≤ length bytes
    → word ≡ 65535 - transport_sum protocol addresses (with_word place 0 bytes) → transport_sum protocol addresses (with_word place word bytes) ≡ 65535
plain_verifies protocol place word addresses bytes even fits is =
    ap folded (stored protocol place word addresses bytes even fits (omega (arith, is)))
    ∙ folded-turned (protocol + length (with_word place 0 bytes) + word_sum addresses + word_sum (with_word place 0 bytes)) word is

never_zero_verifies : (protocol place : ℕ) (addresses bytes : List ℕ) → place % 2 ≡ 0 → place + 2 ≤ length bytes
    → transport_sum protocol addresses (with_word place (never_zero (65535 - transport_sum protocol addresses (with_word place 0 bytes))) bytes) ≡ 65535
never_zero_verifies protocol place addresses bytes even fits = by_zero (eqb (65535 - transport_sum protocol addresses (with_word place 0 bytes)) 0) refl
  where
    by_zero : (b : Bool) → eqb (65535 - transport_sum protocol addresses (with_word place 0 bytes)) 0 ≡ b
        → transport_sum protocol addresses (with_word place (if b then 65535 else 65535 - transport_sum protocol addresses (with_word place 0 bytes)) bytes) ≡ 65535
    by_zero true is =
        ap folded (stored protocol place 65535 addresses bytes even fits (omega arith))
        ∙ folded-turned_zero (protocol + length (with_word place 0 bytes) + word_sum addresses + word_sum (with_word place 0 bytes))
        (eqb-true (65535 - transport_sum protocol addresses (with_word place 0 bytes)) 0 is)
    by_zero false is = plain_verifies protocol place (65535 - transport_sum protocol addresses (with_word place 0 bytes)) addresses bytes even fits refl

never_zero_some : (word : ℕ) (b : Bool) → eqb word 0 ≡ b → eqb (if b then 65535 else word) 0 ≡ false
never_zero_some word true is = refl
never_zero_some word false is = is

never_zero_small : (word : ℕ) (b : Bool) → word < 65536 → (if b then 65535 else word) < 65536
never_zero_small word true small = omega arith
never_zero_small word false small = small

-- ---- what is found of it

pub header_good : (header : List ℕ) → 20 ≤ length header → judged (folded (word_sum (header_sent header))) ≡ Good
header_good header least =
    let cleared : List ℕ = with_word 10 0 header in
    let all : word_sum (header_sent header) ≡ word_sum cleared + checksum cleared = omega (arith, together 0 10 (checksum cleared) header refl (omega arith) (omega arith)) in
    ap judged (ap folded all ∙ folded-turned (word_sum cleared) (checksum cleared) refl)

pub tcp_good : (addresses bytes : List ℕ) → 20 ≤ length bytes → tcp_check addresses (tcp_sent addresses bytes) ≡ Good
unfolding tcp_check
tcp_good addresses bytes least =
    let word : ℕ = 65535 - transport_sum 6 addresses (with_word 16 0 bytes) in
    let size = length-with_word 16 word bytes (omega arith) in
    let enough : ltb (length (with_word 16 word bytes)) 20 ≡ false = le-ltb (length (with_word 16 word bytes)) 20 (omega (arith, size)) in
    rw enough (ap judged (plain_verifies 6 16 word addresses bytes refl (omega arith) refl))

udp_by : (addresses bytes : List ℕ) → is_udp bytes ≡ true → eqb (word_at 6 bytes) 0 ≡ false → take (udp_length bytes) bytes ≡ bytes
    → transport_sum 17 addresses bytes ≡ 65535 → udp_check addresses bytes ≡ Good
unfolding udp_check
udp_by addresses bytes is some all sum = rw (is, some, all) (ap judged sum)

whole : (bytes : List ℕ) → 8 ≤ length bytes → udp_length bytes ≡ length bytes → is_udp bytes ≡ true
whole bytes least tells =
    let header : leb 8 (length bytes) ≡ true = le-leb 8 (length bytes) least in
    let told : leb 8 (udp_length bytes) ≡ true = le-leb 8 (udp_length bytes) (omega (arith, tells)) in
    let inside : leb (udp_length bytes) (length bytes) ≡ true = le-leb (udp_length bytes) (length bytes) (omega (arith, tells)) in
    rw (header, told, inside) refl

pub udp_good : (addresses bytes : List ℕ) → 8 ≤ length bytes → udp_length bytes ≡ length bytes → udp_check addresses (udp_sent addresses bytes) ≡ Good
udp_good addresses bytes least tells =
    let turned : ℕ = 65535 - transport_sum 17 addresses (with_word 6 0 bytes) in
    let word : ℕ = never_zero turned in
    let new : List ℕ = with_word 6 word bytes in
    let size = length-with_word 6 word bytes (omega arith) in
    let high = before-with_word 6 word 4 bytes (omega arith) (omega arith) in
    let low = before-with_word 6 word 5 bytes (omega arith) (omega arith) in
    let still : udp_length new ≡ length new = omega (arith, high, low, tells, size) in
    let there : word_at 6 new ≡ word = word_at-with_word 6 word bytes (omega arith) (never_zero_small turned (eqb turned 0) (omega arith)) in
    udp_by addresses new (whole new (omega (arith, size)) still)
    (ap (λ (w : ℕ). eqb w 0) there ∙ never_zero_some turned (eqb turned 0) refl)
    (take_all (udp_length new) new (omega (arith, still)))
    (never_zero_verifies 17 6 addresses bytes refl (omega arith))
