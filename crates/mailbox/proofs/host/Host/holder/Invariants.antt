-- The first function from here on is the first of all.
use Rattle.std.proofs.Common.{◌≡◌, ◌-◌}
use Rattle.mailbox.specs.State.{other_holds, first_where}
use Rattle.mailbox.proofs.host.Host.holder.Given as goal

abbrev pub invariant-loop-q : goal.invariant-loop-q
invariant-loop-q l = first_where (other_holds l.self l.pool l.address) l.q (64 - l.q) ≡ first_where (other_holds l.self l.pool l.address) 0 64
