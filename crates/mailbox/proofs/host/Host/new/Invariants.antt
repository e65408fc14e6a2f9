-- The ids up to here are kept.
use Rattle.std.proofs.Common.{◌≡◌, take}
use Rattle.mailbox.proofs.host.Host.new.Given as goal

abbrev pub invariant-loop-id : goal.invariant-loop-id
invariant-loop-id l = l.numbers.items ≡ take l.id-index l.ids
