-- Each end of placing pieces is the definition's, on the memory with the words that were read: a piece past the memory's end, or all writes in order.
use Rattle.std.proofs.Common.{◌≡◌, ℕ, List, ◌++◌, length, false, sym, ap, ◌∙◌}
use Rattle.guest_memory.specs.Memory.{Write}
use Rattle.live_memory.specs.Trace.{Access, wrotes, met, IsTraced}
use Rattle.live_memory.proofs.Accesses.{listed_then}
use Rattle.live_memory.proofs.Once.{traced_writes, met_writes}
use Rattle.rx_desc.specs.Receive.{slots, cut, data_writes, back_writes, passes_end}
use Rattle.rx_desc.specs.Accesses.{pieces_accesses}
use Rattle.rx_desc.specs.Parts.{text_of}
use Rattle.rx_desc.proofs.Delivered.{pieces_past, pieces_written}
use Rattle.rx_desc.proofs.Listed.{writes_once, backs_fit, past_accesses, put_accesses}
use Rattle.rx_desc.proofs.Slots.{slots_inside}
use Rattle.rx_desc.proofs.placing.place_many.Given as given
use Rattle.rx_desc.proofs.placing.place_many.Goals as goal

pub returns-in_default-clause-done : goal.returns-in_default-clause-done
returns-in_default-clause-done g c = pieces_past _ _ _ _ _ _ _ _ (sym c.in_default.ensures.met) c.disable.ensures c.requires.room (sym c.in_default.ensures.variant)

pub returns-in_default-clause-listed : goal.returns-in_default-clause-listed
returns-in_default-clause-listed g c =
    c.in_default.ensures.listed
    ∙ ap (λ (t : List Access). c.args.memory.now.accesses ++ t) (past_accesses c.args.size c.args.count c.args.back (text_of c.args.source) _ c.args.ring.now c.requires.room (sym c.in_default.ensures.variant))
    ∙ ap (λ (m : List ℕ). c.args.memory.now.accesses ++ pieces_accesses c.args.back (cut c.args.size c.args.count (text_of c.args.source)) m c.args.ring.now) c.in_default.ensures.met

-- words were read, and all else was writing
record Placing (g : given.Over) (c : goal.After-advance g) (there : List ℕ) (ws backs : List Write) : Type 0 where
  wrote : c.write_back.new.memory.accesses ≡ c.buffers.new.memory.accesses ++ (wrotes ws ++ wrotes backs)
  met_is : met c.args.memory.now.accesses c.write_back.new.memory.accesses (g.D.Dma.seen c.args.memory.now.memory) ≡ there
  traced : IsTraced g.D.Dma.shared (g.D.Dma.seen c.args.memory.now.memory) c.args.memory.now.accesses c.write_back.new.memory.accesses

data_of : (g : given.Over) (c : goal.After-advance g) → List Write
data_of g c = data_writes (slots c.args.ring.now) (cut c.args.size c.args.count (text_of c.args.source)) (g.D.Dma.seen c.buffers.new.memory.memory)

backs_of : (g : given.Over) (c : goal.After-advance g) → List Write
backs_of g c = back_writes c.args.back (slots c.args.ring.now) (data_of g c)

placing : (g : given.Over) (c : goal.After-advance g) → Placing g c (g.D.Dma.seen c.buffers.new.memory.memory) (data_of g c) (backs_of g c)
unfolding data_of backs_of
placing g c =
    let first = g.D.Dma.seen c.args.memory.now.memory in
    let there = g.D.Dma.seen c.buffers.new.memory.memory in
    let r = c.args.ring.now in
    let size : length there ≡ length first = c.in-Some.ensures.size in
    let ws = data_of g c in
    let backs = backs_of g c in
    let fits : passes_end (length first) ws ≡ false = ap (λ (n : ℕ). passes_end n ws) (sym size) ∙ sym c.in-Some.ensures.variant in
    let inside : passes_end (length first) backs ≡ false = backs_fit (length first) c.args.back (slots r) ws (λ j less. slots_inside r (length first) j c.requires.valid c.requires.inside less) in
    let all = writes_once (length first) ws backs fits inside in
    let wrote = listed_then _ _ _ (wrotes ws) (wrotes backs) (c.write_pieces.ensures.listed ∙ ap (λ (vs : List Write). c.buffers.new.memory.accesses ++ wrotes vs) c.in-Some.ensures.value)
    (c.write_back.ensures.listed ∙ ap (λ (vs : List Write). c.write_pieces.new.memory.accesses ++ wrotes (back_writes c.args.back (slots r) vs)) c.in-Some.ensures.value) in
    record {
      wrote = wrote;
      met_is = met_writes g.D.Dma.shared _ _ _ (wrotes ws ++ wrotes backs) first there c.in-Some.ensures.met c.in-Some.ensures.traced wrote all.unread;
      traced = traced_writes g.D.Dma.shared _ _ _ (wrotes ws ++ wrotes backs) first c.in-Some.ensures.traced wrote all.unread all.once;
    }

pub returns-clause-done : goal.returns-clause-done
returns-clause-done g c = pieces_written _ _ _ _ _ _ _ _ _ _ _ (placing g c).met_is c.in-Some.ensures.value c.write_pieces.ensures.written c.write_back.ensures.written c.advance.ensures c.requires.room (sym c.in-Some.ensures.variant)

pub returns-clause-listed : goal.returns-clause-listed
unfolding data_of backs_of
returns-clause-listed g c =
    listed_then _ _ _ _ _ c.in-Some.ensures.listed (placing g c).wrote
    ∙ ap (λ (t : List Access). c.args.memory.now.accesses ++ t) (put_accesses c.args.size c.args.count c.args.back (text_of c.args.source) (g.D.Dma.seen c.buffers.new.memory.memory) c.args.ring.now c.requires.room (sym c.in-Some.ensures.variant))
    ∙ ap (λ (m : List ℕ). c.args.memory.now.accesses ++ pieces_accesses c.args.back (cut c.args.size c.args.count (text_of c.args.source)) m c.args.ring.now) (sym (placing g c).met_is)

pub returns-clause-traced : goal.returns-clause-traced
returns-clause-traced g c = (placing g c).traced
