-- Placing is the definition's where there are too few descriptors, and where the bytes are one piece.
use Rattle.std.proofs.Common.{◌≡◌, ℕ, ◌+◌, ◌-◌, ◌/◌, List, ◌++◌, length, sym, ap, subst, arith, ◌∙◌}
use Rattle.live_memory.specs.Trace.{met}
use Rattle.live_memory.proofs.Accesses.{traced_none}
use Rattle.rx_desc.specs.Receive.{Delivers, deliver_pieces, pieces}
use Rattle.rx_desc.specs.Accesses.{pieces_accesses}
use Rattle.rx_desc.specs.Parts.{text_of}
use Rattle.rx_desc.proofs.Delivered.{on_still}
use Rattle.rx_desc.proofs.Listed.{few_accesses}
use Rattle.rx_desc.proofs.Pieces.{deliver-no_room, pieces-one, length-cut}
use Rattle.rx_desc.proofs.placing.place_data.Goals as goal

counted : (b : ℕ) {l k : ℕ} → l ≡ k → (l + b - 1) / b ≡ (k + b - 1) / b
counted b e = ap (λ (n : ℕ). (n + b - 1) / b) e

pub returns-then-count-available-clause-done : goal.returns-then-count-available-clause-done
returns-then-count-available-clause-done g c =
    on_still (λ (k : List ℕ). deliver_pieces c.args.back (pieces c.args.size (text_of c.args.source)) k c.args.ring.now) _ _ _ _
    (deliver-no_room _ _ _ _ _ _ (counted c.args.size c.len-2.ensures) (omega arith))

pub returns-then-count-available-clause-listed : goal.returns-then-count-available-clause-listed
returns-then-count-available-clause-listed g c =
    few_accesses _ _ _ _ _ (let count = length-cut c.args.size ((length (text_of c.args.source) + c.args.size - 1) / c.args.size) (text_of c.args.source) in let same = counted c.args.size c.len-2.ensures in omega (arith, count, same))

pub returns-then-count-available-clause-traced : goal.returns-then-count-available-clause-traced
returns-then-count-available-clause-traced g c = traced_none _ _ _

pub returns-then-len-size-clause-done : goal.returns-then-len-size-clause-done
returns-then-len-size-clause-done g c =
    let there = met c.args.memory.now.accesses c.place_one.new.memory.accesses (g.D.Dma.seen c.args.memory.now.memory) in
    subst (λ (ps : List (List ℕ)). Delivers (deliver_pieces c.args.back ps there c.args.ring.now) c.place_one.result (g.D.Dma.seen c.place_one.new.memory.memory) c.place_one.new.ring)
    (sym (pieces-one c.args.size (text_of c.args.source) c.requires.some (omega arith))) c.place_one.ensures.done

pub returns-then-len-size-clause-listed : goal.returns-then-len-size-clause-listed
returns-then-len-size-clause-listed g c =
    let there = met c.args.memory.now.accesses c.place_one.new.memory.accesses (g.D.Dma.seen c.args.memory.now.memory) in
    c.place_one.ensures.listed
    ∙ ap (λ (ps : List (List ℕ)). c.args.memory.now.accesses ++ pieces_accesses c.args.back ps there c.args.ring.now) (sym (pieces-one c.args.size (text_of c.args.source) c.requires.some (omega arith)))
