-- The events so far are done.
use Rattle.std.proofs.Common.{◌≡◌, take}
use Rattle.history.specs.declared.caller.Caller.TheVariants.{Port}
use Rattle.workers.specs.Calls.{HasDoneAll}
use Rattle.workers.specs.Plans.{own_events}
use Rattle.workers.proofs.worker.calls.Given as goal

abbrev pub invariant-loop-turn : goal.invariant-loop-turn
invariant-loop-turn g l = record {
  done : HasDoneAll (take l.turn (own_events l.plan (Port l.fn.port.port.pool))) l.fn.port l.port;
  pool : l.port.port.pool ≡ l.fn.port.port.pool;
  closed : l.port.port.is_closed ≡ l.fn.port.port.is_closed;
}
