-- One worker more did what it promised.
use Rattle.workers.specs.Crew.{duty_in}
use Rattle.workers.proofs.Worked.{worked_more}
use Rattle.workers.proofs.crew.Crew.join.Goals as goal

pub loop-worker-preserved : goal.loop-worker-preserved
loop-worker-preserved g c = record {
  refused = λ ready. c.loop-worker.invariant.refused (c.join_one.ensures.refused ready);
  done =
      λ ready whole. worked_more c.loop-worker.yielded (c.in-Some.worker, c.in-Some.one) (λ one. duty_in one.1) c.args.shares.now.items c.loop-worker.shares.items c.join_one.new.shares.items
      (c.loop-worker.invariant.done (c.join_one.ensures.refused ready) (c.join_one.ensures.full whole)) (c.join_one.ensures.done ready whole);
}
