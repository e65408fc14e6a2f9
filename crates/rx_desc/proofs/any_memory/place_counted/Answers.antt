-- Each end of placing pieces is the definition's: a piece past the memory's end, or all writes in order.
use Rattle.std.proofs.Common.{List, sym, ap, ◌∙◌, arith}
use Rattle.rx_desc.specs.Receive.{Delivery, slots, cut, zip_writes, back_writes}
use Rattle.rx_desc.specs.Parts.{text_of}
use Rattle.guest_memory.specs.Memory.{Write, write_all}
use Rattle.rx_desc.proofs.Pieces.{deliver-faulted, deliver-put}
use Rattle.rx_desc.proofs.any_memory.place_counted.Goals as goal

pub returns-in_default-clause-placed : goal.returns-in_default-clause-placed
returns-in_default-clause-placed g c = ap (λ (d : Delivery). d.placed) (sym (deliver-faulted _ _ _ _ _ _ (omega arith) (sym c.in_default.ensures.variant)))

pub returns-in_default-clause-written : goal.returns-in_default-clause-written
returns-in_default-clause-written g c = ap (λ (d : Delivery). d.memory) (sym (deliver-faulted _ _ _ _ _ _ (omega arith) (sym c.in_default.ensures.variant)))

pub returns-in_default-clause-ring : goal.returns-in_default-clause-ring
returns-in_default-clause-ring g c = c.disable.ensures ∙ ap (λ (d : Delivery). d.ring) (sym (deliver-faulted _ _ _ _ _ _ (omega arith) (sym c.in_default.ensures.variant)))

pub returns-clause-placed : goal.returns-clause-placed
returns-clause-placed g c = ap (λ (d : Delivery). d.placed) (sym (deliver-put _ _ _ _ _ _ (omega arith) (sym c.in-Some.ensures.variant)))

pub returns-clause-written : goal.returns-clause-written
returns-clause-written g c =
    let first = (goal.GuestMem-dyn g c.args.memory.now).bytes c.args.memory.now.1 in
    let backs = λ (ws : List Write). back_writes c.args.back (slots c.args.ring.now) ws in
    c.write_back.ensures.written
    ∙ ap (write_all (backs (zip_writes c.in-Some.addresses (cut c.args.size c.args.count (text_of c.args.source))))) c.write_pieces.ensures.written
    ∙ ap (λ (ws : List Write). write_all (backs ws) (write_all ws first)) c.in-Some.ensures.value
    ∙ ap (λ (d : Delivery). d.memory) (sym (deliver-put _ _ _ _ _ _ (omega arith) (sym c.in-Some.ensures.variant)))

pub returns-clause-ring : goal.returns-clause-ring
returns-clause-ring g c = c.advance.ensures ∙ ap (λ (d : Delivery). d.ring) (sym (deliver-put _ _ _ _ _ _ (omega arith) (sym c.in-Some.ensures.variant)))
