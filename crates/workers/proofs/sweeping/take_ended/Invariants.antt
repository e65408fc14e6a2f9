-- Each note that was taken out is an end that was asked, and it went out; those that the sweep came past and that stay stand before
-- its place.
use Rattle.std.proofs.Common.{◌≡◌, ℕ, ◌+◌, ◌-◌, true, List, length}
use Rattle.std.specs.Prelude.{vec_capacity}
use Rattle.history.specs.declared.caller.Caller.TheVariants.{Service}
use Rattle.guest_port.specs.Notes.{Known}
use Rattle.workers.proofs.Swept.{Behind, IsUnderWay}
use Rattle.workers.proofs.sweeping.take_ended.Given as goal

abbrev pub invariant-loop-at : goal.invariant-loop-at
invariant-loop-at g l = record {
  way : (gone : List (ℕ × Known)) × IsUnderWay l.fn.notes.items l.notes.items gone l.at l.fn.share l.share × Behind l.fn.out.items l.keeps gone l.out.items;
  caller : l.share.caller ≡ Service;
  count : l.count + length l.notes.items ≡ length l.fn.notes.items;
  more : l.keeps ≡ true → length l.out.items ≡ length l.fn.out.items + l.count;
  capacity : vec_capacity l.out ≡ vec_capacity l.fn.out;
}

abbrev pub decreases-loop-at : goal.decreases-loop-at
decreases-loop-at g l = length l.notes.items - l.at
