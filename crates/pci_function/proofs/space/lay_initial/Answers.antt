-- All bytes are as at first.
use Rattle.std.proofs.Common.{sym, ◌∙◌, arith}
use Rattle.std.proofs.lemmas.List.{same_lists, get_or_default}
use Rattle.std.proofs.lemmas.List.FromFn.{get_or-map-range_with_len, length-map-range_with_len}
use Rattle.pci_function.specs.Registers.{registers}
use Rattle.pci_function.specs.Rows.{initial_in}
use Rattle.pci_function.specs.Space.{initial}
use Rattle.pci_function.proofs.space.lay_initial.Goals as goal

pub returns : goal.returns
unfolding initial
returns c =
    let whole = c.loop-k.invariant.whole in
    same_lists c.loop-k.space initial (whole ∙ sym (length-map-range_with_len (initial_in registers) 0 256)) (λ k d h.
    get_or_default c.loop-k.space k d 0 (omega (arith, h))
    ∙ c.loop-k.invariant.first k (omega (arith, h, whole, c.loop-k-test.false))
    ∙ sym (get_or-map-range_with_len (initial_in registers) 0 256 k k d (omega (arith, h, whole)) (omega arith)))
