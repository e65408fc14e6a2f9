-- The word has the last numbers, as many as were asked for.
use Rattle.std.proofs.Common.{◌≡◌, ◌+◌, ◌-◌, ◌*◌}
use Rattle.mailbox.specs.Words.{mask_from, is_in_set}
use Rattle.mailbox.proofs.host.Host.mask.Given as goal

abbrev pub invariant-loop-done : goal.invariant-loop-done
invariant-loop-done l = l.word ≡ mask_from (is_in_set l.self l.set) (32 * l.i + 32 - l.done) l.done
