-- One more event is recorded, and what it leaves open is noted.
use Rattle.std.proofs.Common.{rules, ◌<◌, ℕ, take}
use Rattle.device.specs.Outcome.{answer_of}
use Rattle.device.specs.Request.{event_of}
use Rattle.script.proofs.RecordLemmas.{on_err}
use Rattle.workers.specs.Counts.{HaveRecorded}
use Rattle.workers.proofs.First.{left_next, left_none, recorded_still}
use Rattle.workers.proofs.preparing.record_first.Goals as goal

pub loop-at-init : goal.loop-at-init
loop-at-init g c = record {
  left = left_none _ _ c.closed_pools-pools.ensures;
  pf = c.requires.pf;
  service = c.requires.service;
  pools = search rules;
}

pub loop-at-preserved : goal.loop-at-preserved
loop-at-preserved g c =
    let answer = answer_of c.record.new.room c.in_ok-response.response in
    record {
      left = left_next c.args.script.now.events c.loop-at.at (event_of c.request-request.result) answer c.loop-at.pools c.note.new.is_open c.args.shares.now c.loop-at.shares c.record.new.shares
          (search rules) c.request-request.ensures c.loop-at.invariant.left c.in_ok-response.ensures.recorded (c.note.ensures.open c.record.new.room.bytes);
      pf = c.record.ensures.pf;
      service = c.record.ensures.service;
      pools = c.note.ensures.len;
    }

pub returns-in_err-response-clause-part : goal.returns-in_err-response-clause-part
returns-in_err-response-clause-part g c =
    let es = c.args.script.now.events in
    let at : ℕ = c.loop-at.at in
    let less : at < c.args.count = search rules in
    on_err c.from_residual.result {P = (done : ℕ) × (done < c.args.count) × HaveRecorded (take done es) c.args.shares.now c.record.new.shares}
    (at, less, recorded_still (take at es) _ _ _ _ c.loop-at.invariant.left c.in_err-response.ensures.unchanged)
