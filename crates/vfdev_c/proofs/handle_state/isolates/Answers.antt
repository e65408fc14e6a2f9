-- The isolation law of one event, in a world of as many functions.
use Rattle.std.proofs.Common.{◌≤◌, ℕ, [], ◌∷◌, length, sym, subst}
use Rattle.vfdev_c.specs.Handle.{IsolatedStep}
use Rattle.vfdev_c.proofs.handle_state.isolates.Goals as goal

-- the law, at the list of the one event
pub returns : goal.returns
unfolding IsolatedStep
returns g c = λ w e same p within.
    let few : length w.functions ≤ 64 = subst (λ (n : ℕ). n ≤ 64) (sym same) c.functions-count.ensures.few in
    (c.isolation.ensures.seen p w (e ∷ []) within few, c.isolation.ensures.state p w (e ∷ []) within few)
