-- A last byte, or none.
use Rattle.std.proofs.Common.{◌≡◌, arith, sym}
use Rattle.internet_checksum.proofs.Adding.{word_sum-last, word_sum-empty}
use Rattle.internet_checksum.proofs.words.last_sum.Goals as goal

pub returns-then-bytes-eq1-clause-sum : goal.returns-then-bytes-eq1-clause-sum
returns-then-bytes-eq1-clause-sum c = omega (arith, word_sum-last c.args.bytes.now (omega arith))

pub returns-else-bytes-eq1-clause-sum : goal.returns-else-bytes-eq1-clause-sum
returns-else-bytes-eq1-clause-sum c = sym (word_sum-empty c.args.bytes.now (omega arith))
