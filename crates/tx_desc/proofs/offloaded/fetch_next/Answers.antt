-- No descriptor changes nothing; a segment reads nothing.
use Rattle.std.proofs.Common.{◌≡◌, ℕ, ◌+◌, ◌≤◌, arith, length, List, Option, Some, refl, sym, ap, ◌∙◌}
use Rattle.live_memory.specs.Trace.{met}
use Rattle.live_memory.proofs.Accesses.{traced_none, met_still}
use Rattle.rings.specs.Ring.{head_slot}
use Rattle.tx_desc.specs.declared.outcome.Progress.{Progress}
use Rattle.tx_desc.specs.declared.sending.Segments.{Segments}
use Rattle.tx_desc.specs.Lent.{fetched_in}
use Rattle.tx_desc.specs.Offloaded.{next_segment, served_at, served_next}
use Rattle.tx_desc.proofs.Unread.{reads_none}
use Rattle.tx_desc.proofs.Offloading.{serves_as, serves_then, met_done, keeps_done}
use Rattle.tx_desc.proofs.offloaded.fetch_next.Goals as goal

pub returns-in_default-clause-serves : goal.returns-in_default-clause-serves
returns-in_default-clause-serves g c =
    serves_as _ _ _ _ _ _ _ _ (ap (served_next c.args.terms.now _ c.args.ring.now c.args.sending.now) (sym c.in_default.ensures.value)) (record {
      outcome = ap (λ (p : Progress). fetched_in p c.args.frame.now) c.unreported.ensures.outcome;
      frame = refl;
      reported = c.unreported.ensures.reported;
      falls_short = c.unreported.ensures.falls_short;
      memory = sym (met_still _ _ _ refl);
      ring = refl;
      sending = refl;
    })

pub returns-in_default-clause-traced : goal.returns-in_default-clause-traced
returns-in_default-clause-traced g c = traced_none _ _ _

place_there : (at n base : ℕ) → at + 16 ≤ base → base ≤ n → at + 16 ≤ n
place_there at n base within inside = omega (arith, within, inside)

pub returns-clause-serves : goal.returns-clause-serves
returns-clause-serves g c =
    let t = c.args.terms.now in
    let s = c.args.sending.now in
    let m0 : List ℕ = g.D.Dma.seen c.args.memory.now.memory in
    let found : List ℕ = met c.args.memory.now.accesses c.conclude.new.memory.accesses m0 in
    let is : found ≡ m0 = met_done g.D.Dma.shared c.in-Some.at _ _ _ _ _ _ _ (reads_none _ _ _ _) c.conclude.ensures.listed in
    let due : served_next t found c.args.ring.now s (head_slot c.args.ring.now) ≡ served_at (Some c.in-Some-segments.segments) t m0 c.args.ring.now s c.in-Some.at =
    ap (served_next t found c.args.ring.now s) (sym c.in-Some.ensures.value)
    ∙ ap (λ (o : Option Segments). served_at o t found c.args.ring.now s c.in-Some.at) (sym c.in-Some-segments.ensures)
    ∙ ap (λ (l : List ℕ). served_at (Some c.in-Some-segments.segments) t l c.args.ring.now s c.in-Some.at) is in
    serves_as _ _ _ _ _ _ _ _ due
    (serves_then c.in-Some.at c.in-Some-segments.segments.last m0 c.args.ring.now (next_segment t s c.in-Some-segments.segments) (next_segment t s c.in-Some-segments.segments) _ _ _ _ _ _ _ refl c.next_segment-ending.ensures
    c.conclude.ensures.outcome c.conclude.ensures.reported c.conclude.ensures.falls_short c.conclude.ensures.memory c.conclude.ensures.ring)

pub returns-clause-traced : goal.returns-clause-traced
returns-clause-traced g c =
    let place = place_there c.in-Some.at (length (g.D.Dma.seen c.args.memory.now.memory)) _ c.in-Some.ensures.inside (c.requires.inside c.in-Some.ensures.on) in
    (keeps_done g.D.Dma.shared c.in-Some.at _ _ _ _ _ _ _ (reads_none _ _ _ _) c.conclude.ensures.listed place).traced
