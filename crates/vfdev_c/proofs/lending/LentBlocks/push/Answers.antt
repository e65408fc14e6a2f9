-- One memory more, which is one block.
use Rattle.std.proofs.Common.{rules, arith, ◌<◌, length, sym, ap, subst, ◌∙◌}
use Rattle.vfdev_c.specs.Spans.{Lent, lent, one_more, block_of, blocks_of, AreBlocks}
use Rattle.vfdev_c.proofs.LentLemmas.{blocks_more, lent_more, as_many}
use Rattle.vfdev_c.proofs.lending.LentBlocks.push.Goals as goal

pub invariant_of-self : goal.invariant_of-self
invariant_of-self c =
    let blocks : length (blocks_of c.self.inside.memories.items) < 64 = subst (λ (l : Lent). length l.blocks < 64) (sym c.self.view_is) c.requires.few in
    let few : length c.self.inside.spans.items < 64 = omega (arith, blocks, as_many c.self.inside.memories.items, c.self.invariant.3) in (
      search rules,
      search rules,
      search rules,
      search rules,
      subst AreBlocks (sym c.push_reserved-2.ensures.items) (blocks_more c.self.inside.memories.items c.args.memory c.self.invariant.4 c.requires.block),
    )

pub returns : goal.returns
returns c =
    (λ i. lent (blocks_of (c.push_reserved-2.ensures.items i)) (c.push_reserved.ensures.items i))
    ∙ lent_more c.self.inside.memories.items c.self.inside.spans.items c.args.memory c.args.address c.extent.result c.requires.block c.extent.ensures
    ∙ ap (λ (l : Lent). one_more l c.args.address (block_of c.args.memory)) c.self.view_is
