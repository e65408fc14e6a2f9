-- Each mask follows the word of the pool, and the other words stay.
use Rattle.std.proofs.Common.{slice_index, ap, ◌∙◌}
use Rattle.wire_frame.specs.Bits.{has_bit}
use Rattle.pool_filter.proofs.FlagLemmas.{flag_24, flag_25, flag_27, flag_28, mask_stays, mask_follows}
use Rattle.pool_filter.proofs.masks.FlagMasks.write.Goals as goal

pub invariant_of-self : goal.invariant_of-self
invariant_of-self c = rw c.write_word.ensures (
  mask_follows 24 c.self.inside.untagged c.set_pool.new.pools c.self.inside.words c.args.offset c.args.value c.pool_of.result c.pool_of.ensures.named c.in-Some.pool c.in-Some.is c.contains.result (c.contains.ensures tt ∙ flag_24 _ ∙ ap (λ ws. has_bit (slice_index ws c.in-Some.pool) 24) c.write_word.ensures) c.set_pool.ensures c.self.invariant.0,
  mask_follows 25 c.self.inside.hashed c.set_pool-in-Some.new.pools c.self.inside.words c.args.offset c.args.value c.pool_of.result c.pool_of.ensures.named c.in-Some.pool c.in-Some.is c.contains-in-Some.result (c.contains-in-Some.ensures tt ∙ flag_25 _ ∙ ap (λ ws. has_bit (slice_index ws c.in-Some.pool) 25) c.write_word.ensures) c.set_pool-in-Some.ensures c.self.invariant.1,
  mask_follows 27 c.self.inside.broadcast c.set_pool-in-Some-2.new.pools c.self.inside.words c.args.offset c.args.value c.pool_of.result c.pool_of.ensures.named c.in-Some.pool c.in-Some.is c.contains-in-Some-2.result (c.contains-in-Some-2.ensures tt ∙ flag_27 _ ∙ ap (λ ws. has_bit (slice_index ws c.in-Some.pool) 27) c.write_word.ensures) c.set_pool-in-Some-2.ensures c.self.invariant.2,
  mask_follows 28 c.self.inside.multicast c.set_pool-in-Some-3.new.pools c.self.inside.words c.args.offset c.args.value c.pool_of.result c.pool_of.ensures.named c.in-Some.pool c.in-Some.is c.contains-in-Some-3.result (c.contains-in-Some-3.ensures tt ∙ flag_28 _ ∙ ap (λ ws. has_bit (slice_index ws c.in-Some.pool) 28) c.write_word.ensures) c.set_pool-in-Some-3.ensures c.self.invariant.3,
)

pub invariant_of-self-in_default : goal.invariant_of-self-in_default
invariant_of-self-in_default c = rw c.write_word.ensures (
  mask_stays 24 c.self.inside.untagged c.self.inside.words c.args.offset c.args.value c.pool_of.result c.pool_of.ensures.named c.in_default.is c.self.invariant.0,
  mask_stays 25 c.self.inside.hashed c.self.inside.words c.args.offset c.args.value c.pool_of.result c.pool_of.ensures.named c.in_default.is c.self.invariant.1,
  mask_stays 27 c.self.inside.broadcast c.self.inside.words c.args.offset c.args.value c.pool_of.result c.pool_of.ensures.named c.in_default.is c.self.invariant.2,
  mask_stays 28 c.self.inside.multicast c.self.inside.words c.args.offset c.args.value c.pool_of.result c.pool_of.ensures.named c.in_default.is c.self.invariant.3,
)
