-- A pool that reaches one outside refuses the group; once none is left, no pool does.
use Rattle.std.proofs.Common.{ap, sym, ◌∙◌, refl, true≢false}
use Rattle.std.specs.Int.{bit_at}
use Rattle.std.proofs.lemmas.Nat.Bits.{bit_at-zero}
use Rattle.wire_frame.specs.Pools.{IsLowestTaken}
use Rattle.wire_frame.proofs.BitLemmas.{still_left}
use Rattle.pool_filter.specs.Reach.{may_reach}
use Rattle.pool_filter.proofs.ReachLemmas.{has_bit-one, has_bit-none, taken_within}
use Rattle.pool_filter.proofs.tables.Tables.keeps_apart.Goals as goal

pub loop-sender-init : goal.loop-sender-init
loop-sender-init c =
    let all = c.into_iter-sender-iterator.ensures.into_iter_gives in
    record {
      of_group = λ q bit. has_bit-one c.args.group q (ap (λ w. bit_at w q) (sym all) ∙ bit);
      within = λ q r small clear here there. absurd (true≢false (sym here ∙ has_bit-none c.args.group q (ap (λ w. bit_at w q) (sym all) ∙ clear)));
    }

pub loop-sender-preserved : goal.loop-sender-preserved
loop-sender-preserved c =
    let rest = c.loop-sender.sender-iterator in
    let after = c.next.new.self in
    let taken : IsLowestTaken rest c.in-Some.sender after = c.in-Some.ensures.steps in
    record {
      of_group = λ q bit. c.loop-sender.invariant.of_group q (still_left rest c.in-Some.sender after q taken bit).1;
      within = λ q r small clear here there.
          taken_within (may_reach c.args.self.now) rest c.in-Some.sender after q r taken clear
          (c.if-not-stays_within.ensures.0 refl r small there)
          (λ before. c.loop-sender.invariant.within q r small before here there);
    }

pub returns : goal.returns
returns c = (
  λ is q r small small' here there. c.loop-sender.invariant.within q r small' (ap (λ w. bit_at w q) c.in-None.ensures.steps.0 ∙ bit_at-zero q) here there,
  λ apart. refl,
)
