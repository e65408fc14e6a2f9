-- The first region behind is found, or there is none.
use Rattle.std.proofs.Common.{arith, sym, ◌∙◌}
use Rattle.mapped_memory.specs.Mapping.{is_behind}
use Rattle.mapped_memory.proofs.MapLemmas.{behind_found, behind_missed}
use Rattle.mapped_memory.proofs.scans.place_behind.Goals as goal

pub returns-in-Some-clause-place : goal.returns-in-Some-clause-place
returns-in-Some-clause-place c = sym (behind_found (is_behind c.args.at) c.args.regions.now c.in-Some.place (sym c.first_behind.ensures ∙ c.in-Some.is)).0

pub returns-in-Some-clause-few : goal.returns-in-Some-clause-few
returns-in-Some-clause-few c =
    let below = (behind_found (is_behind c.args.at) c.args.regions.now c.in-Some.place (sym c.first_behind.ensures ∙ c.in-Some.is)).1 in
    omega (arith, below)

pub returns-in-None-clause-place : goal.returns-in-None-clause-place
returns-in-None-clause-place c = sym (behind_missed (is_behind c.args.at) c.args.regions.now (sym c.first_behind.ensures ∙ c.in-None.is))
