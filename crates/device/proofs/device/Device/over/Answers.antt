-- A closed function over each memory is the device as it is made.
use Rattle.std.proofs.Common.{◌∙◌, ap, arith, length}
use Rattle.std.proofs.lemmas.List.{length-map}
use Rattle.device.specs.Slots.{KeptFrames}
use Rattle.device.proofs.Sizes.{made, all_closed_over, all_noted}
use Rattle.device.proofs.Views.{functions_of, traces_of}
use Rattle.device.proofs.device.Device.over.Goals as goal

pub invariant_of-result : goal.invariant_of-result
invariant_of-result g c = (omega (arith, c.requires, ap length c.in_ok-units.ensures ∙ length-map c.args.memories.items _), ap (λ (k : KeptFrames). k.limit) c.in_ok-wire.ensures)

pub returns-clause-ok : goal.returns-clause-ok
returns-clause-ok g c = made (λ m. length (g.D.Dma.seen m)) c.args.memories.items c.args.profile c.in_ok-tables.tables.value (functions_of c.in_ok-units.units.items) c.in_ok-wire.wire c.in_ok-unclaimed.unclaimed c.in_ok-tables.ensures.ok (ap functions_of c.in_ok-units.ensures ∙ all_closed_over (λ m. length (g.D.Dma.seen m)) g.D.Dma.noted c.args.memories.items) c.in_ok-wire.ensures c.in_ok-unclaimed.ensures

pub returns-clause-untouched : goal.returns-clause-untouched
returns-clause-untouched g c = ap traces_of c.in_ok-units.ensures ∙ all_noted (λ m. length (g.D.Dma.seen m)) g.D.Dma.noted c.args.memories.items
