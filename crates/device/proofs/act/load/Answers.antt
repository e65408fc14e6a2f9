-- The first cells hold what was read.
use Rattle.std.proofs.Common.{rules, arith, ◌≡◌, ◌<◌, ℕ, Some, ◌++◌, length, take, sym, ap, ◌∙◌}
use Rattle.std.proofs.lemmas.List.{length-take-le}
use Rattle.vf_unit.specs.Unit.{met_function}
use Rattle.vf_unit.proofs.Told.{met_nothing}
use Rattle.device.specs.declared.event.Event.TheVariants.{MemRead}
use Rattle.device.specs.Act.{Acted, act_accesses, refusal}
use Rattle.device.proofs.Loads.{refused_read, refused_listed, too_long}
use Rattle.device.proofs.act.load.Goals as goal
use Rattle.device.proofs.act.load.Goals.{After-unless_closed}
use Rattle.device.proofs.act.load.Given as given

-- ---- more bytes than one access may name

abbrev why : (g : given.Over) (c : After-unless_closed g) (p : ℕ) → refusal c.args.unit.now.function (MemRead p c.args.at c.args.count) ≡ Some c.unless_closed.result
why g c p =
    let long : 2048 < c.args.count = omega (arith, c.if-wanted-gt-MOST_BYTES.true, c.from-wanted.ensures) in
    too_long c.args.unit.now.function p c.args.at c.args.count c.unless_closed.result long c.unless_closed.ensures

pub returns-then-wanted-gt-MOST_BYTES-clause-function : goal.returns-then-wanted-gt-MOST_BYTES-clause-function
returns-then-wanted-gt-MOST_BYTES-clause-function g c = λ p.
    sym (ap (λ (a : Acted). a.function) (refused_read c.args.unit.now.accesses c.args.unit.now.function p c.args.at c.args.count c.unless_closed.result (why g c p)))

pub returns-then-wanted-gt-MOST_BYTES-clause-reply : goal.returns-then-wanted-gt-MOST_BYTES-clause-reply
returns-then-wanted-gt-MOST_BYTES-clause-reply g c = λ p.
    ap (λ (a : Acted). a.reply) (refused_read c.args.unit.now.accesses c.args.unit.now.function p c.args.at c.args.count c.unless_closed.result (why g c p))

pub returns-then-wanted-gt-MOST_BYTES-clause-met : goal.returns-then-wanted-gt-MOST_BYTES-clause-met
returns-then-wanted-gt-MOST_BYTES-clause-met g c = met_nothing _ _ _

pub returns-then-wanted-gt-MOST_BYTES-clause-listed : goal.returns-then-wanted-gt-MOST_BYTES-clause-listed
returns-then-wanted-gt-MOST_BYTES-clause-listed g c = λ p. refused_listed c.args.unit.now p c.args.at c.args.count c.unless_closed.result (why g c p)

-- ---- as many as it may

pub returns-in-Ok-clause-listed : goal.returns-in-Ok-clause-listed
returns-in-Ok-clause-listed g c = λ p.
    let size : length (take c.from-wanted.result c.args.cells.now) ≡ c.args.count = length-take-le c.from-wanted.result c.args.cells.now (search rules) ∙ c.from-wanted.ensures in
    c.mem_read_live.ensures.listed p
    ∙ ap (λ (k : ℕ). c.args.unit.now.accesses ++ act_accesses (met_function c.args.unit.now c.mem_read_live.new.unit) (MemRead p c.args.at k)) size

pub returns-in-Err-clause-listed : goal.returns-in-Err-clause-listed
returns-in-Err-clause-listed g c = λ p.
    let size : length (take c.from-wanted.result c.args.cells.now) ≡ c.args.count = length-take-le c.from-wanted.result c.args.cells.now (search rules) ∙ c.from-wanted.ensures in
    c.mem_read_live.ensures.listed p
    ∙ ap (λ (k : ℕ). c.args.unit.now.accesses ++ act_accesses (met_function c.args.unit.now c.mem_read_live.new.unit) (MemRead p c.args.at k)) size
