-- The sum goes on behind the addresses.
use Rattle.std.proofs.Common.{◌+◌, length}
use Rattle.internet_checksum.specs.Sum.{word_sum}
use Rattle.internet_checksum.proofs.Adding.{folded-part}
use Rattle.receive_checksum.proofs.transport.transport_sum.Goals as goal

pub returns : goal.returns
returns c =
    let part = folded-part (c.from.result + length c.args.bytes.now + word_sum c.args.addresses.now) (word_sum c.args.bytes.now) in
    cc (part, c.sum.ensures, c.sum-2.ensures, c.from.ensures)
