-- A read that is not refused replies the bytes that it leaves.
use Rattle.std.proofs.Common.{ap, sym, ◌∙◌}
use Rattle.device.specs.declared.event.Reply.TheVariants.{Bytes}
use Rattle.device.proofs.Inside.{read_over_any}
use Rattle.device.proofs.act.mem_read.Goals as goal

pub returns-in-None-clause-reply : goal.returns-in-None-clause-reply
returns-in-None-clause-reply g c = λ p.
    read_over_any c.args.unit.now.function p c.args.at c.args.out.now (c.in-None.ensures.refusal p) c.in-None.ensures.inside
    ∙ ap Bytes (sym c.mem_read.ensures.bytes)
