-- Each step folds to the same.
use Rattle.std.proofs.Common.{◌≡◌, ℕ, ◌+◌, ◌/◌, ◌%◌, ◌<◌, arith, sym, ◌∙◌}
use Rattle.internet_checksum.specs.Sum.{folded}
use Rattle.internet_checksum.proofs.Adding.{folded-fits, folded-halves}
use Rattle.internet_checksum.proofs.words.folded.Goals as goal

pub returns : goal.returns
returns c =
    let a : ℕ = c.args.total in
    let b : ℕ = a % 4294967296 + a / 4294967296 in
    let d : ℕ = b % 65536 + b / 65536 in
    let e : ℕ = d % 65536 + d / 65536 in
    let f : ℕ = e % 65536 + e / 65536 in
    sym (folded-fits f (omega arith)) ∙ folded-halves e 1 ∙ folded-halves d 1 ∙ folded-halves b 1 ∙ folded-halves a 65537
