-- Nothing is read, or the bytes of the descriptor.
use Rattle.std.proofs.Common.{◌≡◌, ℕ, ◌+◌, ◌≤◌, List, length, take, arith}
use Rattle.std.proofs.lemmas.List.{places}
use Rattle.tx_desc.specs.Transmit.{length_of}
use Rattle.tx_desc.specs.Fetches.{data_of}
use Rattle.tx_desc.proofs.Joining.{joined_by}
use Rattle.tx_desc.proofs.Unread.{reads_none}
use Rattle.tx_desc.proofs.pending.Pending.join.Goals as goal

pub returns-then-self-clause-reads : goal.returns-then-self-clause-reads
returns-then-self-clause-reads g c = reads_none _ _ _ _

pub returns-clause-joined : goal.returns-clause-joined
returns-clause-joined g c =
    let d = c.args.descriptor in
    let m : List ℕ = g.D.Dma.seen c.read_behind.new.memory.memory in
    let inside : d.buffer + length_of d.word ≤ length m = rw c.read_behind.ensures.reads.read.size c.requires.stands.inside in
    let size : length (data_of m d) ≡ length_of d.word = grind (arith, places, inside) in
    let gathered : length (take c.self.inside.len c.self.inside.cells.items) ≤ c.self.inside.len = grind (arith, places) in
    joined_by c.args.most c.self.inside.is_overlong _ _ (data_of m d) _ c.if-self.false c.self.view_is c.read_behind.ensures.cells (omega (arith, size, gathered, c.if-self-most.false, c.if-size-most.false, c.length-size.ensures.value))
