-- The events so far are recorded, and what they leave open is noted.
use Rattle.std.proofs.Common.{◌≡◌, length, take}
use Rattle.history.specs.declared.caller.Caller.TheVariants.{Driver, Service}
use Rattle.workers.specs.Opens.{HaveLeft}
use Rattle.workers.proofs.preparing.record_first.Given as goal

abbrev pub invariant-loop-at : goal.invariant-loop-at
invariant-loop-at g l = record {
  left : HaveLeft (take l.at l.script.events) l.pools l.fn.shares l.shares;
  pf : l.shares.pf.caller ≡ Driver;
  service : l.shares.service.caller ≡ Service;
  pools : length l.pools ≡ 64;
}
