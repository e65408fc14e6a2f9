-- What was read is what the memory answered.
use Rattle.std.proofs.Common.{List, ◌++◌, length, sym, ap, ◌∙◌}
use Rattle.live_memory.specs.Trace.{Access}
use Rattle.vf_unit.specs.Unit.{size_of, met_function}
use Rattle.vf_unit.proofs.Told.{met_nothing, size_told}
use Rattle.device.specs.declared.event.Reply.TheVariants.{Bytes}
use Rattle.device.specs.Act.{Acted}
use Rattle.device.proofs.Loads.{refused_read, done_read, held, refused_listed, few_listed}
use Rattle.device.proofs.act.mem_read_live.Goals as goal

pub returns-in-Some-clause-function : goal.returns-in-Some-clause-function
returns-in-Some-clause-function g c = λ p.
    sym (ap (λ (a : Acted). a.function) (refused_read c.args.unit.now.accesses c.args.unit.now.function p c.args.at (length c.args.out.now) c.in-Some.fault (c.in-Some.ensures.refusal p)))

pub returns-in-Some-clause-reply : goal.returns-in-Some-clause-reply
returns-in-Some-clause-reply g c = λ p.
    ap (λ (a : Acted). a.reply) (refused_read c.args.unit.now.accesses c.args.unit.now.function p c.args.at (length c.args.out.now) c.in-Some.fault (c.in-Some.ensures.refusal p))

pub returns-in-Some-clause-met : goal.returns-in-Some-clause-met
returns-in-Some-clause-met g c = met_nothing _ _ _

pub returns-in-Some-clause-listed : goal.returns-in-Some-clause-listed
returns-in-Some-clause-listed g c = λ p. refused_listed c.args.unit.now p c.args.at (length c.args.out.now) c.in-Some.fault (c.in-Some.ensures.refusal p)

pub returns-in-None-clause-function : goal.returns-in-None-clause-function
returns-in-None-clause-function g c = λ p.
    sym (ap (λ (a : Acted). a.function) (done_read c.args.unit.now.accesses c.mem_load.new.self.accesses c.args.unit.now.function c.mem_load.new.self.function p c.args.at (length c.args.out.now)
    c.mem_load.ensures.function c.mem_load.ensures.met.once (c.in-None.ensures.refusal p)))

pub returns-in-None-clause-reply : goal.returns-in-None-clause-reply
returns-in-None-clause-reply g c = λ p.
    ap (λ (a : Acted). a.reply) (done_read c.args.unit.now.accesses c.mem_load.new.self.accesses c.args.unit.now.function c.mem_load.new.self.function p c.args.at (length c.args.out.now)
    c.mem_load.ensures.function c.mem_load.ensures.met.once (c.in-None.ensures.refusal p))
    ∙ ap Bytes (held c.args.unit.now.accesses c.mem_load.new.self.accesses c.args.unit.now.function c.mem_load.new.self.function c.args.at c.mem_load.new.out c.args.out.now
    c.mem_load.ensures.function c.mem_load.ensures.met.once c.in-None.ensures.inside c.mem_load.ensures.bytes)

pub returns-in-None-clause-size : goal.returns-in-None-clause-size
returns-in-None-clause-size g c = ap size_of c.mem_load.ensures.function ∙ size_told c.args.unit.now.accesses c.mem_load.new.self.accesses c.args.unit.now.function c.mem_load.ensures.met.once

pub returns-in-None-clause-listed : goal.returns-in-None-clause-listed
returns-in-None-clause-listed g c = λ p.
    c.mem_load.ensures.listed
    ∙ ap (λ (t : List Access). c.args.unit.now.accesses ++ t) (sym (few_listed (met_function c.args.unit.now c.mem_load.new.self) p c.args.at (length c.args.out.now) c.in-None.ensures.short))
