-- As it is made.
use Rattle.std.proofs.Common.{rules, refl, length, map}
use Rattle.hosted.proofs.Stands.{begins, few_guests}
use Rattle.hosted.proofs.hosted.HostedDevice.for_guests.Goals as goal

pub invariant_of-result : goal.invariant_of-result
invariant_of-result g c =
    begins (record { device = c.bring_up.new.device; host = c.in-Some.host; mailboxes = c.in_ok-mailboxes.mailboxes.items }) c.in-Some.host c.args.offloads (map (λ m. length (g.D.Dma.seen m)) c.args.memories.items)
    (record { host = refl; world = search rules; mailboxes = search rules }) (search rules) (search rules) (search rules)
    (few_guests c.get.result _ c.for_guests.result c.in_ok-device.device c.for_guests.ensures.bad_make c.in_ok-device.was)
