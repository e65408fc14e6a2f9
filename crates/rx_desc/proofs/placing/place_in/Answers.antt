-- A frame that keeps its tag and fits one buffer is placed as one piece.
use Rattle.std.proofs.Common.{◌≡◌, ◌≤◌, List, ◌++◌, length, sym, ap, true, arith, subst, ◌∙◌}
use Rattle.live_memory.specs.Trace.{Access, met}
use Rattle.rx_desc.specs.Receive.{Delivery, Delivers}
use Rattle.live_memory.proofs.Accesses.{traced_none}
use Rattle.rx_desc.proofs.Delivered.{off_still}
use Rattle.rx_desc.proofs.Listed.{whole_accesses}
use Rattle.rx_desc.proofs.Pieces.{deliver-whole}
use Rattle.rx_desc.proofs.placing.place_in.Goals as goal

pub returns-clause-done : goal.returns-clause-done
returns-clause-done g c =
    let on : c.args.ring.now.enabled ≡ true = sym c.is_enabled.ensures.value ∙ c.if-not-is_enabled.false in
    let some : 1 ≤ length c.args.frame.bytes.now = omega (arith, c.bytes-bytes.ensures.frame) in
    let fits : length c.bytes-bytes.result.now ≤ c.args.config.now.buffer_size = omega (arith, c.if-bytes-size.false) in
    let whole = deliver-whole c.args.config.now c.args.loopback c.args.frame.bytes.now _ (met c.args.memory.now.accesses c.place_one.new.memory.accesses (g.D.Dma.seen c.args.memory.now.memory)) c.sums_of.result c.args.ring.now c.sums_of.ensures on c.if-config.false some fits c.bytes-bytes.ensures.value in
    subst (λ (due : Delivery). Delivers due c.place_one.result (g.D.Dma.seen c.place_one.new.memory.memory) c.place_one.new.ring) (sym whole) c.place_one.ensures.done

pub returns-clause-listed : goal.returns-clause-listed
returns-clause-listed g c =
    let on : c.args.ring.now.enabled ≡ true = sym c.is_enabled.ensures.value ∙ c.if-not-is_enabled.false in
    let some : 1 ≤ length c.args.frame.bytes.now = omega (arith, c.bytes-bytes.ensures.frame) in
    let fits : length c.bytes-bytes.result.now ≤ c.args.config.now.buffer_size = omega (arith, c.if-bytes-size.false) in
    c.place_one.ensures.listed ∙ ap (λ (t : List Access). c.args.memory.now.accesses ++ t) (sym (whole_accesses c.args.config.now c.args.loopback c.args.frame.bytes.now _ (met c.args.memory.now.accesses c.place_one.new.memory.accesses (g.D.Dma.seen c.args.memory.now.memory)) c.sums_of.result c.args.ring.now c.sums_of.ensures on c.if-config.false some fits c.bytes-bytes.ensures.value))

pub returns-then-not-is_enabled-clause-done : goal.returns-then-not-is_enabled-clause-done
returns-then-not-is_enabled-clause-done g c = off_still _ _ _ _ _ _ (sym c.is_enabled.ensures.value ∙ c.if-not-is_enabled.true)

pub returns-then-not-is_enabled-clause-traced : goal.returns-then-not-is_enabled-clause-traced
returns-then-not-is_enabled-clause-traced g c = traced_none _ _ _
