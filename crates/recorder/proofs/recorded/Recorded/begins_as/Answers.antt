-- The base is made like the live device, and so is the other one.
use Rattle.std.proofs.Common.{rules, ◌≡◌, sym, ap, ◌∙◌}
use Rattle.device.specs.World.{World, fresh, sizes_of}
use Rattle.recorder.proofs.SizeLemmas.{one_base}
use Rattle.recorder.proofs.recorded.Recorded.begins_as.Goals as goal

pub returns-then-folded-eq0-clause-base : goal.returns-then-folded-eq0-clause-base
returns-then-folded-eq0-clause-base g c = λ is one.
    let live : c.device.result.now.world ≡ c.args.self.now.live = search rules in
    let made : c.args.self.now.base ≡ fresh c.args.self.now.live.profile.limit (sizes_of c.args.self.now.live) = search rules in
    one_base c.args.self.now.base c.device.result.now.world c.args.other.now.world (made ∙ ap (λ (w : World). fresh w.profile.limit (sizes_of w)) (sym live)) (c.is_same_make.ensures.0 is) one
