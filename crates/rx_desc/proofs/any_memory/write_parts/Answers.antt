-- Two writes, one where the other ends, are one write of both.
use Rattle.std.proofs.Common.{◌+◌, length, arith, ap, ◌∙◌, length-append}
use Rattle.guest_memory.specs.Memory.{overwrite}
use Rattle.guest_memory.proofs.TwoWrites.{two_writes}
use Rattle.rx_desc.proofs.any_memory.write_parts.Goals as goal

pub returns-clause-written : goal.returns-clause-written
returns-clause-written g c =
    let parts = length-append c.args.source.front.now c.args.source.back.now in
    c.write_bytes-2.ensures.written
    ∙ ap (overwrite (c.args.at + length c.args.source.front.now) c.args.source.back.now) c.write_bytes.ensures.written
    ∙ two_writes c.args.at c.args.source.front.now c.args.source.back.now _ (omega (arith, parts, c.requires.inside))
