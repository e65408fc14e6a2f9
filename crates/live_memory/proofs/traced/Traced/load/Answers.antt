-- One access read the bytes.
use Rattle.std.proofs.Common.{◌+◌, ◌≤◌, ℕ, List, [], ◌∷◌, ◌++◌, length, sym, ap, subst, ◌∙◌}
use Rattle.live_memory.specs.Trace.{Read, HasRead}
use Rattle.live_memory.proofs.Reading.{has_read}
use Rattle.live_memory.proofs.traced.Traced.load.Goals as goal

pub returns-clause-read : goal.returns-clause-read
returns-clause-read g c =
    let was = c.self.inside.memory in
    let count = length c.args.out.now in
    let fits : c.args.addr + count ≤ length (g.D.Dma.seen was) = subst (λ m. c.args.addr + count ≤ length (g.D.Dma.seen m.memory)) (sym c.self.view_is) c.requires in
    let listed = c.trace-self-inside.ensures ∙ ap (λ (bytes : List ℕ). c.self.inside.trace.accesses ++ Read c.args.addr bytes ∷ []) c.load.ensures.out in
    subst (λ m. HasRead g.D.Dma.shared (g.D.Dma.seen m.memory) (g.D.Dma.seen c.load.new.self) m.accesses c.trace-self-inside.result.accesses) c.self.view_is
    (has_read g.D.Dma.shared _ _ c.args.addr count (g.D.Dma.answer was c.args.addr count) _ _ c.load.ensures.seen listed (g.D.Dma.whole was c.args.addr count fits) fits (g.D.Dma.steady was c.args.addr count))
