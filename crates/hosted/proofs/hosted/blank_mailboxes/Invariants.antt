-- The mailboxes so far are blank.
use Rattle.std.proofs.Common.{◌≡◌, replicate}
use Rattle.mailbox.specs.Mailbox.{blank}
use Rattle.hosted.proofs.hosted.blank_mailboxes.Given as goal

abbrev pub invariant-loop : goal.invariant-loop
invariant-loop l = l.boxes.items ≡ replicate l.counter blank
