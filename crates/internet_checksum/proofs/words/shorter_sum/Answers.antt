-- One word, and what is left.
use Rattle.std.proofs.Common.{◌≡◌, ap, arith}
use Rattle.std.proofs.lemmas.List.{take_rest}
use Rattle.internet_checksum.specs.Sum.{word_sum}
use Rattle.internet_checksum.proofs.Adding.{word_sum-first}
use Rattle.internet_checksum.proofs.words.shorter_sum.Goals as goal

pub returns-then-bytes-ge2-clause-sum : goal.returns-then-bytes-ge2-clause-sum
returns-then-bytes-ge2-clause-sum c =
    omega (arith, ap word_sum (take_rest c.args.bytes.now 2), word_sum-first c.args.bytes.now (omega arith))
