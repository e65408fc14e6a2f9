-- The address is the permanent one of some function up to here.
use Rattle.std.proofs.Common.{◌≡◌}
use Rattle.std.specs.List.{list_any, range_with_len}
use Rattle.mailbox.specs.State.{other_owns}
use Rattle.mailbox.proofs.host.Host.is_owned.Given as goal

abbrev pub invariant-loop-q : goal.invariant-loop-q
invariant-loop-q l = l.owned ≡ list_any (other_owns l.self l.fn.pool l.address) (range_with_len 0 l.q)
