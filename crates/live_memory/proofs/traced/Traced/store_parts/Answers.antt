-- Two parts written one behind the other are written as one.
use Rattle.std.proofs.Common.{◌≡◌, ◌+◌, ◌≤◌, ◌++◌, length, sym, ap, subst, arith, ◌∙◌}
use Rattle.guest_memory.specs.Memory.{overwrite}
use Rattle.guest_memory.proofs.TwoWrites.{two_writes}
use Rattle.live_memory.proofs.traced.Traced.store_parts.Goals as goal

pub returns-clause-seen : goal.returns-clause-seen
returns-clause-seen g c =
    let front = c.args.front.now in
    let back = c.args.back.now in
    let fits : c.args.addr + (length front + length back) ≤ length (g.D.Dma.seen c.self.inside.memory) = subst (λ m. c.args.addr + (length front + length back) ≤ length (g.D.Dma.seen m.memory)) (sym c.self.view_is) c.requires.inside in
    subst (λ m. g.D.Dma.seen c.store-2.new.self ≡ overwrite c.args.addr (front ++ back) (g.D.Dma.seen m.memory)) c.self.view_is
    (c.store-2.ensures.seen ∙ ap (overwrite (c.args.addr + length front) back) c.store.ensures.seen
    ∙ two_writes c.args.addr front back (g.D.Dma.seen c.self.inside.memory) (omega (arith, fits)))
