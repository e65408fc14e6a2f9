-- Each step folds to the same.
use Rattle.std.proofs.Common.{◌≡◌, ℕ, ◌+◌, ◌/◌, ◌%◌, ◌<◌, arith, ◌∙◌}
use Rattle.internet_checksum.proofs.Adding.{folded-halves}
use Rattle.internet_checksum.proofs.words.narrow.Goals as goal

pub returns-clause-sum : goal.returns-clause-sum
returns-clause-sum c =
    let n : ℕ = c.args.total in
    let a : ℕ = n % 18446744073709551616 + n / 18446744073709551616 in
    folded-halves a 65537 ∙ folded-halves n 281479271743489
