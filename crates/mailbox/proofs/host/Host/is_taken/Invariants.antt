-- Some function up to here holds the address.
use Rattle.std.proofs.Common.{◌≡◌}
use Rattle.std.specs.List.{list_any, range_with_len}
use Rattle.mailbox.specs.State.{other_holds}
use Rattle.mailbox.proofs.host.Host.is_taken.Given as goal

abbrev pub invariant-loop-q : goal.invariant-loop-q
invariant-loop-q l = l.taken ≡ list_any (other_holds l.self l.fn.pool l.address) (range_with_len 0 l.q)
