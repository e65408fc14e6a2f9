-- Each function writes what its memory answered, and then the event comes.
use Rattle.std.proofs.Common.{[], ◌∷◌, sym, ap, ◌∙◌, length}
use Rattle.std.specs.List.{range_with_len}
use Rattle.device.specs.World.{World, step}
use Rattle.device.specs.Live.{writes_of}
use Rattle.device.proofs.Append.{world_after_append}
use Rattle.device.proofs.LiveWrites.{written_by_each}
use Rattle.device.proofs.laws.live_events.Goals as goal

pub returns-clause-met : goal.returns-clause-met
returns-clause-met c = λ shared before now w traced. sym (written_by_each shared before now w traced)

pub returns-clause-world : goal.returns-clause-world
returns-clause-world c = λ shared before now old new e taken room takes.
    takes.takes.world ∙ ap (λ (w : World). (step w e).world) (sym (written_by_each shared before now old takes.met))
    ∙ sym (world_after_append old (writes_of before now (range_with_len 0 (length old.functions))) (e ∷ []))

pub returns-clause-answer : goal.returns-clause-answer
returns-clause-answer c = λ shared before now old new e taken room takes.
    takes.takes.answer ∙ ap (λ (w : World). (step w e).answer) (sym (written_by_each shared before now old takes.met))
