-- What the pump is asked is a frame.
use Rattle.std.proofs.Common.{rules, ◌<◌, ℕ, subst}
use Rattle.workers.proofs.Wires.{frame_at, frames_count, only_frames}
use Rattle.workers.proofs.plan.Plan.frame.Goals as goal

pub request-requires : goal.request-requires
request-requires c = subst (λ (n : ℕ). c.args.turn < n) (frames_count c.args.self.now) c.requires

pub unreachable-requires : goal.unreachable-requires
unreachable-requires c = only_frames c.args.self.now c.args.turn c.request.result c.requires c.request.ensures c.in_default.not-Wire

pub returns : goal.returns
returns c = frame_at c.args.self.now c.args.turn c.in-Wire.frame.bytes.now (subst (λ (n : ℕ). c.args.turn < n) (frames_count c.args.self.now) c.requires) (search rules)
