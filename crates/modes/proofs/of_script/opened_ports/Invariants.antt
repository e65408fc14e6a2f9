-- The first calls so far are the first events, and the pools that they leave open are noted.
use Rattle.std.proofs.Common.{◌≡◌, length, take}
use Rattle.modes.specs.Matches.{HaveOpened}
use Rattle.modes.proofs.of_script.opened_ports.Given as goal

abbrev pub invariant-loop-at : goal.invariant-loop-at
invariant-loop-at l = record {
  have : HaveOpened (take l.at l.script.events) (take l.at l.history.entries) l.ports;
  long : length l.ports ≡ 64;
}
