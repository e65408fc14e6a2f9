-- Closing one function after another closes all.
use Rattle.std.proofs.Common.{ap, ◌∙◌, arith, set, get_or}
use Rattle.std.proofs.lemmas.List.Edits.{map_over_more}
use Rattle.device.specs.Units.{closed}
use Rattle.device.proofs.switching.end_all.Goals as goal

pub loop-unit-preserved : goal.loop-unit-preserved
loop-unit-preserved g c =
    let i = c.loop-unit.unit-index in
    let now = c.loop-unit.units in
    let here = get_or now i c.unit-item.result in
    ap (set now i) ((λ k. record { function = c.end.ensures.function k; accesses = c.end.ensures.accesses k }))
    ∙ map_over_more closed c.args.units.now now i here (omega arith) c.loop-unit.invariant (ap (λ d. get_or now i d) c.unit-item.is)
