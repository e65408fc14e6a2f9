-- A function that isn't there is not served, and no memory is touched.
use Rattle.std.proofs.Common.{◌≤◌, length, refl, subst, arith, ap}
use Rattle.std.specs.Prelude.{Bool, Some, None, if◌then◌else◌}
use Rattle.device.specs.declared.event.Event.TheVariants.{Serve}
use Rattle.device.specs.Outcome.{Outcome, reply_of}
use Rattle.device.specs.Replies.{is_sent}
use Rattle.device.specs.Live.{TracedWorld}
use Rattle.device.proofs.LiveLemmas.{takes_untouched}
use Rattle.device.proofs.LiveServes.{absent_service, absent_served}
use Rattle.device.proofs.Views.{lengths}
use Rattle.device.proofs.device.Device.serve_live.Goals as goal

pub returns-then-index-len : goal.returns-then-index-len
returns-then-index-len g c =
    let past : length c.args.self.now.world.functions ≤ c.args.pool = subst (λ (d : TracedWorld). length d.world.functions ≤ c.args.pool) c.self.view_is (omega (arith, c.if-index-len.true, c.len.ensures, c.from-index.ensures, lengths c.self.inside.units.items)) in
    record {
      takes = takes_untouched g.D.Dma.shared c.args.self.now.accesses c.args.self.now.accesses c.args.self.now.world (Serve c.args.pool c.args.queue) c.args.self.now.world c.silent.result c.args.room.now refl
          (absent_service c.args.self.now.world c.args.pool c.args.queue c.silent.result c.args.room.now past (λ i. record { reply = reply_of c.args.room.now.bytes (c.silent.ensures.outcome i); raised = c.silent.ensures.messages i }) (ap (λ (o : Outcome). if is_sent o then Some c.args.room.now.frame else None) c.silent.ensures.outcome) (ap (λ (b : Bool). if b then Some c.args.room.now.frame else None) c.silent.ensures.left));
      listed = absent_served c.args.self.now c.args.pool c.args.queue past;
    }
