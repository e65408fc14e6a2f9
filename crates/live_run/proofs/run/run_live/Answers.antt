-- Event by event.
use Rattle.std.proofs.Common.{◌≡◌, ◌+◌, ◌<◌, List, length, take, arith, ap, subst, ◌∙◌}
use Rattle.std.proofs.lemmas.List.{take_all}
use Rattle.device.specs.Events.{Event}
use Rattle.device.specs.Lone.{seen_by, lone_of}
use Rattle.device.specs.Live.{trace_of}
use Rattle.live_run.proofs.More.{SoFar, none_yet, next_one}
use Rattle.live_run.proofs.Runs.{live_state, live_sight, live_made}
use Rattle.live_run.proofs.run.run_live.Goals as goal

pub loop-event-init : goal.loop-event-init
loop-event-init g c = record {
  run = none_yet g.D.Dma.shared c.args.device.now c.in-Ok.answers.items c.in-Ok.ensures.items;
  answered = c.in-Ok.ensures.len;
  within = omega arith;
  room = c.in-Ok.ensures.capacity;
}

pub loop-event-preserved : goal.loop-event-preserved
loop-event-preserved g c =
    let h = c.loop-event.invariant in
    let below : c.loop-event.event-index < length c.args.events.now = c.loop-event-test.true in
    record {
      run = next_one g.D.Dma.shared c.args.device.now c.loop-event.device c.take-answer.new.device c.args.events.now c.loop-event.event-index c.event-item.result c.loop-event.answers.items c.push_reserved.new.self.items c.take-answer.result below c.event-item.is h.run
          c.take-answer.ensures.world c.take-answer.ensures.answer c.take-answer.ensures.met c.take-answer.ensures.listed c.push_reserved.ensures.items;
      answered = c.push_reserved.ensures.len ∙ ap (λ n. n + 1) h.answered;
      within = omega (arith, below);
      room = omega (arith, h.room, c.push_reserved.ensures.capacity);
    }

pub returns-clause-run : goal.returns-clause-run
returns-clause-run g c =
    let h = c.loop-event.invariant in
    let d = c.args.device.now in
    let es = c.args.events.now in
    let all : take c.loop-event.event-index es ≡ es = take_all c.loop-event.event-index es c.loop-event-test.false in
    let run : SoFar g.D.Dma.shared d es c.loop-event.answers.items c.loop-event.device = subst (λ (fs : List Event). SoFar g.D.Dma.shared d fs c.loop-event.answers.items c.loop-event.device) all h.run in
    record {
      noted = run.noted;
      each = run.each;
      answered = run.answered;
      world = run.world;
      accesses = run.accesses;
      met = run.met;
      sees = λ p below. ap (seen_by p es) run.answered ∙ live_sight g.D.Dma.shared p d.world es d.accesses run.noted below c.functions-count.ensures.few run.met run.each;
      ends = λ p below. ap (lone_of p) run.world ∙ live_state g.D.Dma.shared p d.world es d.accesses run.noted below c.functions-count.ensures.few run.met;
      does = λ p below. ap (λ t. trace_of t p) run.accesses ∙ live_made g.D.Dma.shared p d.world es d.accesses run.noted below c.functions-count.ensures.few run.met run.each;
    }
