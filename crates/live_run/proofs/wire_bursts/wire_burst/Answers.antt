-- Frame by frame.
use Rattle.std.proofs.Common.{ℕ, List, arith, ap, subst, ◌∙◌}
use Rattle.std.proofs.lemmas.List.{take_all}
use Rattle.device.specs.Lone.{seen_by, lone_of}
use Rattle.device.specs.Live.{trace_of}
use Rattle.live_run.specs.Arrivals.{arrivals}
use Rattle.live_run.proofs.Runs.{live_state, live_sight, live_made}
use Rattle.live_run.proofs.WireSteps.{WireSoFar, at_most_one, none_came, next_came}
use Rattle.live_run.proofs.wire_bursts.wire_burst.Goals as goal

pub loop-end-init : goal.loop-end-init
loop-end-init g c = record {
  burst = none_came g.D.Dma.shared c.args.device.now c.args.bytes.now c.none-messages.result c.none-messages.ensures;
  few = omega arith;
  within = omega arith;
}

pub loop-end-preserved : goal.loop-end-preserved
loop-end-preserved g c =
    let h = c.loop-end.invariant in
    let does = c.take_one-is_taken.ensures in
    record {
      burst = next_came g.D.Dma.shared c.args.device.now c.loop-end.device c.take_one-is_taken.new.device c.args.ends.now c.args.bytes.now c.loop-end.end-index c.loop-end.start c.loop-end.messages c.take_one-is_taken.new.messages c.cut.result.now
          c.loop-end.taken c.from-taken.result c.take_one-is_taken.result c.loop-end-test.true c.cut.ensures c.from-taken.ensures h.burst
          (record { came = does.came; stays = does.stays; silent = does.silent; passed = does.passed });
      few = omega (arith, h.few, c.from-taken.ensures, at_most_one c.take_one-is_taken.result);
      within = omega (arith, c.loop-end-test.true);
    }

pub returns : goal.returns
returns g c =
    let d = c.args.device.now in
    let ends = c.args.ends.now in
    let bytes = c.args.bytes.now in
    let h : WireSoFar g.D.Dma.shared d ends bytes c.loop-end.device c.loop-end.start c.loop-end.messages c.loop-end.taken =
    subst (λ (es : List ℕ). WireSoFar g.D.Dma.shared d es bytes c.loop-end.device c.loop-end.start c.loop-end.messages c.loop-end.taken) (take_all c.loop-end.end-index ends c.loop-end-test.false) c.loop-end.invariant.burst in
    let es = arrivals ends bytes in
    let few = c.functions-count.ensures.few in
    record {
      answers = h.answers;
      run = record {
        noted = h.run.noted;
        each = h.run.each;
        answered = h.run.answered;
        world = h.run.world;
        accesses = h.run.accesses;
        met = h.run.met;
        sees = λ p below. ap (seen_by p es) h.run.answered ∙ live_sight g.D.Dma.shared p d.world es d.accesses h.run.noted below few h.run.met h.run.each;
        ends = λ p below. ap (lone_of p) h.run.world ∙ live_state g.D.Dma.shared p d.world es d.accesses h.run.noted below few h.run.met;
        does = λ p below. ap (λ t. trace_of t p) h.run.accesses ∙ live_made g.D.Dma.shared p d.world es d.accesses h.run.noted below few h.run.met h.run.each;
      };
      raised = h.raised_so;
      taken = h.taken_so;
      refused = omega (arith, c.loop-end.invariant.few, c.loop-end.invariant.within);
    }
