-- The write that is asked for stands among those of the registers from here on, at the place that is left.
use Rattle.std.proofs.Common.{◌≡◌, drop}
use Rattle.std.specs.List.{slice_get}
use Rattle.mailbox.specs.Start.{registers, writes_to}
use Rattle.mailbox.proofs.host.Host.first_write.Given as goal

abbrev pub invariant-loop-register : goal.invariant-loop-register
invariant-loop-register l = slice_get (writes_to l.self (drop l.register-index registers)) l.place ≡ slice_get (writes_to l.self registers) l.i
