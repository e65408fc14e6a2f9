-- Service by service.
use Rattle.std.proofs.Common.{ap, arith, ◌∙◌}
use Rattle.device.specs.Lone.{seen_by, lone_of}
use Rattle.device.specs.Live.{trace_of}
use Rattle.live_run.specs.Bursts.{services}
use Rattle.live_run.proofs.BurstSteps.{none_served, one_served}
use Rattle.live_run.proofs.Runs.{live_state, live_sight, live_made}
use Rattle.live_run.proofs.bursts.serve_burst.Goals as goal

pub loop-goes_on-init : goal.loop-goes_on-init
loop-goes_on-init g c = record {
  burst = none_served g.D.Dma.shared c.args.device.now c.args.frames.now c.none-messages.result c.none-messages.ensures;
  most = omega arith;
}

pub loop-goes_on-preserved : goal.loop-goes_on-preserved
loop-goes_on-preserved g c =
    let does = c.serve_one-goes_on.ensures in
    record {
      burst = one_served g.D.Dma.shared c.args.pool c.args.queue c.args.device.now c.loop-goes_on.device c.serve_one-goes_on.new.device c.args.frames.now c.loop-goes_on.frames c.serve_one-goes_on.new.frames c.loop-goes_on.taken c.loop-goes_on.messages c.serve_one-goes_on.new.messages c.loop-goes_on.goes_on c.serve_one-goes_on.result c.loop-goes_on.invariant.burst
          (record { world = does.world; met = does.met; listed = does.listed; messages = does.messages; frames = does.frames; on = does.goes_on });
      most = omega (arith, c.if-taken-most.true);
    }

pub returns-clause-burst : goal.returns-clause-burst
returns-clause-burst g c =
    let h = c.loop-goes_on.invariant.burst in
    let d = c.args.device.now in
    let es = services c.loop-goes_on.taken c.args.pool c.args.queue in
    let few = c.functions-count.ensures.few in
    record {
      answers = h.answers;
      run = record {
        noted = h.run.noted;
        each = h.run.each;
        answered = h.run.answered;
        world = h.run.world;
        accesses = h.run.accesses;
        met = h.run.met;
        sees = λ p below. ap (seen_by p es) h.run.answered ∙ live_sight g.D.Dma.shared p d.world es d.accesses h.run.noted below few h.run.met h.run.each;
        ends = λ p below. ap (lone_of p) h.run.world ∙ live_state g.D.Dma.shared p d.world es d.accesses h.run.noted below few h.run.met;
        does = λ p below. ap (λ t. trace_of t p) h.run.accesses ∙ live_made g.D.Dma.shared p d.world es d.accesses h.run.noted below few h.run.met h.run.each;
      };
      raised = h.raised_so;
      left = h.left;
      more = h.last;
    }
