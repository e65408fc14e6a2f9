-- The function is the first that holds the address, or there is none.
use Rattle.std.proofs.Common.{rules, arith, ◌≡◌, true, ◌∙◌}
use Rattle.mailbox.specs.State.{other_holds, holder}
use Rattle.mailbox.proofs.Holders.{first_here, first_end}
use Rattle.mailbox.proofs.host.Host.holder.Goals as goal

pub returns-then-other_holds : goal.returns-then-other_holds
unfolding holder
returns-then-other_holds c =
    let here : other_holds c.args.self.now c.args.pool c.args.address c.loop-q.q ≡ true = search rules in
    c.pool_at.ensures ∙ first_here _ c.loop-q.q 64 _ (omega arith) here c.loop-q.invariant

pub returns : goal.returns
unfolding holder
returns c = first_end _ c.loop-q.q 64 _ (omega arith) c.loop-q.invariant
