-- Two words, and what is left.
use Rattle.std.proofs.Common.{◌≡◌, ap, ◌∙◌, arith}
use Rattle.std.proofs.lemmas.List.{take_rest}
use Rattle.internet_checksum.specs.Sum.{word_sum, folded}
use Rattle.internet_checksum.proofs.Adding.{word_sum-four}
use Rattle.internet_checksum.proofs.words.short_sum.Goals as goal

pub returns-then-bytes-ge4-clause-sum : goal.returns-then-bytes-ge4-clause-sum
returns-then-bytes-ge4-clause-sum c n =
    ap folded (omega (arith, ap word_sum (take_rest c.args.bytes.now 4))) ∙ word_sum-four c.args.bytes.now n (omega arith)
