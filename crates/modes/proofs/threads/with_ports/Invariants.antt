-- The ledger is that of the blank. The ports so far, each in its box, are of the line.
use Rattle.std.proofs.Common.{◌≡◌}
use Rattle.modes.specs.Lines.{ArePortsOf}
use Rattle.modes.proofs.threads.with_ports.OwnLists as own
use Rattle.modes.proofs.threads.with_ports.Given as goal

abbrev pub ghosts-play_threads : goal.ghosts-play_threads
ghosts-play_threads g a = record { name = a.blank.name; parts = a.blank.parts }

abbrev pub invariant-loop-port : goal.invariant-loop-port
invariant-loop-port g l = ArePortsOf (λ b. (own.own-1.entry b.vtable).1.meaning b.value) l.line-inside.seat.table_id l.ports.items × (l.line-inside ≡ l.initial.line-inside)
