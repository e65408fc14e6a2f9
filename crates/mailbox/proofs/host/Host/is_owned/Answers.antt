-- One function more, until all are asked.
use Rattle.std.proofs.Common.{arith, ◌≡◌, ◌||◌, sym, ap, ◌∙◌}
use Rattle.std.specs.List.{list_any, range_with_len}
use Rattle.wire_frame.proofs.BitLemmas.{list_any-range_more}
use Rattle.mailbox.specs.State.{is_owned, other_owns}
use Rattle.mailbox.proofs.host.Host.is_owned.Goals as goal

pub loop-q-preserved : goal.loop-q-preserved
loop-q-preserved c =
    (λ i. c.loop-q.invariant i || c.other_owns-owned.ensures i)
    ∙ sym (list_any-range_more (other_owns c.args.self.now c.args.pool c.args.address) c.loop-q.q)

pub returns : goal.returns
unfolding is_owned
returns c =
    let all : c.loop-q.q ≡ 64 = omega arith in
    c.loop-q.invariant ∙ ap (λ n. list_any (other_owns c.args.self.now c.args.pool c.args.address) (range_with_len 0 n)) all
