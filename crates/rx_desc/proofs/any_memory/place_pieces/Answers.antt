-- Placing is the definition's where there are too few descriptors.
use Rattle.std.proofs.Common.{◌≡◌, ℕ, ◌+◌, ◌-◌, ◌/◌, sym, ap, arith}
use Rattle.rx_desc.specs.Receive.{Delivery}
use Rattle.rx_desc.proofs.Pieces.{deliver-no_room}
use Rattle.rx_desc.proofs.any_memory.place_pieces.Goals as goal

counted : (b : ℕ) {l k : ℕ} → l ≡ k → (l + b - 1) / b ≡ (k + b - 1) / b
counted b e = ap (λ (n : ℕ). (n + b - 1) / b) e

pub returns-then-count-available-clause-placed : goal.returns-then-count-available-clause-placed
returns-then-count-available-clause-placed g c = ap (λ (d : Delivery). d.placed) (sym (deliver-no_room _ _ _ _ _ _ (counted c.args.size c.len.ensures) (omega arith)))

pub returns-then-count-available-clause-written : goal.returns-then-count-available-clause-written
returns-then-count-available-clause-written g c = ap (λ (d : Delivery). d.memory) (sym (deliver-no_room _ _ _ _ _ _ (counted c.args.size c.len.ensures) (omega arith)))

pub returns-then-count-available-clause-ring : goal.returns-then-count-available-clause-ring
returns-then-count-available-clause-ring g c = ap (λ (d : Delivery). d.ring) (sym (deliver-no_room _ _ _ _ _ _ (counted c.args.size c.len.ensures) (omega arith)))
