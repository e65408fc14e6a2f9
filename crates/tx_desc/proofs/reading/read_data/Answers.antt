-- One read apart from the descriptor.
use Rattle.std.proofs.Common.{◌+◌, ◌≤◌, ℕ, List, ◌++◌, length, ap, ◌∙◌}
use Rattle.live_memory.specs.Trace.{Access, Apart}
use Rattle.tx_desc.specs.Accesses.{part_read}
use Rattle.tx_desc.proofs.Unread.{part_apart}
use Rattle.tx_desc.proofs.Listing.{apart_listed}
use Rattle.tx_desc.proofs.reading.read_data.Goals as goal

pub returns-then-lies_apart-clause-reads : goal.returns-then-lies_apart-clause-reads
returns-then-lies_apart-clause-reads g c =
    let d = c.args.descriptor in
    let n = length c.args.out.now in
    let fits : d.buffer + n ≤ length (g.D.Dma.seen c.args.memory.now.memory) = rw c.requires.all c.requires.stands.inside in
    let apart : Apart d.at 16 d.buffer n = rw c.requires.all (c.lies_apart.ensures.apart c.if-lies_apart.true) in
    part_apart g.D.Dma.shared d.at d.buffer n _ _ _ _ _ c.read_part.ensures.listed c.read_part.ensures.seen c.read_part.auto.out fits (λ some. apart) c.read_part.ensures.read

pub returns-then-lies_apart-clause-listed : goal.returns-then-lies_apart-clause-listed
returns-then-lies_apart-clause-listed g c =
    let d = c.args.descriptor in
    let m = g.D.Dma.seen c.read_part.new.memory.memory in
    c.read_part.ensures.listed
    ∙ ap (λ (k : ℕ). c.args.memory.now.accesses ++ part_read d.buffer (d.buffer + k) m) c.requires.all
    ∙ ap (λ (t : List Access). c.args.memory.now.accesses ++ t) (apart_listed d m (c.lies_apart.ensures.apart c.if-lies_apart.true))
