-- One call more is a turn of its caller, and in the end all of them are.
use Rattle.std.proofs.Common.{rules}
use Rattle.modes.proofs.Matches.{taken_all, taken_end, taken_next, taken_none}
use Rattle.modes.proofs.of_script.are_own.Goals as goal

pub loop-index-init : goal.loop-index-init
loop-index-init c = taken_none c.args.plan.now _ c.args.history.now.entries c.args.start c.no_turns-turns.ensures

pub loop-index-preserved : goal.loop-index-preserved
loop-index-preserved c =
    taken_next c.args.plan.now c.loop-index.turns c.take_turn.new.turns c.args.history.now.entries c.args.start c.loop-index.index (search rules) (search rules) c.loop-index.invariant (search rules)

pub returns : goal.returns
returns c = λ all.
    taken_all c.args.plan.now c.loop-index.turns _
    (taken_end c.args.plan.now c.loop-index.turns c.args.history.now.entries c.args.start c.loop-index.index (search rules) c.loop-index.invariant)
    (c.are_done.ensures all)
