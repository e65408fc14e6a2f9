-- A step of the loop does the first of the writes that are left, by one access.
use Rattle.std.proofs.Common.{[], refl, sym, ap, min, ◌∙◌, arith}
use Rattle.rx_desc.specs.Parts.{text_of}
use Rattle.rx_desc.proofs.Pieces.{rest_writes-none, rest_writes-all, write_all-none, steps_on, fits_on}
use Rattle.rx_desc.proofs.Listed.{wrotes_on, wrotes_all}
use Rattle.rx_desc.proofs.placing.write_pieces.Goals as goal

pub loop-i-init : goal.loop-i-init
loop-i-init g c =
    let none = rest_writes-none c.args.addresses.now c.args.size c.args.count (text_of c.args.source) in
    record {
      size = refl;
      fits = rw none c.requires.fits;
      written = rw none refl;
      listed = rw none refl;
    }

pub write_parts-requires-clause-inside : goal.write_parts-requires-clause-inside
write_parts-requires-clause-inside g c =
    let s = steps_on c.args.addresses.now c.args.size c.args.count c.loop-i.i _ (text_of c.loop-i.rest) _ _ [] _ _ (omega arith) (omega arith) refl (c.min.ensures ∙ ap (min c.args.size) c.len.ensures) c.split_at.ensures.front c.split_at.ensures.back in
    let f = fits_on _ _ _ _ _ _ _ _ _ _ _ s c.loop-i.invariant.fits in
    omega (arith, f.here, c.loop-i.invariant.size)

pub write_parts-requires-clause-fits : goal.write_parts-requires-clause-fits
write_parts-requires-clause-fits g c =
    let s = steps_on c.args.addresses.now c.args.size c.args.count c.loop-i.i _ (text_of c.loop-i.rest) _ _ [] _ _ (omega arith) (omega arith) refl (c.min.ensures ∙ ap (min c.args.size) c.len.ensures) c.split_at.ensures.front c.split_at.ensures.back in
    let f = fits_on _ _ _ _ _ _ _ _ _ _ _ s c.loop-i.invariant.fits in
    omega (arith, f.here, c.requires.small)

pub loop-i-preserved : goal.loop-i-preserved
loop-i-preserved g c =
    let now = g.D.Dma.seen c.loop-i.memory.memory in
    let s = steps_on c.args.addresses.now c.args.size c.args.count c.loop-i.i _ (text_of c.loop-i.rest) _ _ now _ _ (omega arith) (omega arith) refl (c.min.ensures ∙ ap (min c.args.size) c.len.ensures) c.split_at.ensures.front c.split_at.ensures.back in
    let f = fits_on _ _ _ _ _ _ _ _ _ _ _ s c.loop-i.invariant.fits in
    record {
      size = c.write_parts.ensures.size ∙ c.loop-i.invariant.size;
      fits = f.after;
      written = rw c.write_parts.ensures.written (s.written ∙ c.loop-i.invariant.written);
      listed = wrotes_on _ _ _ _ _ _ s.first c.write_parts.ensures.listed ∙ c.loop-i.invariant.listed;
    }

pub returns-clause-written : goal.returns-clause-written
returns-clause-written g c =
    sym (write_all-none _ _ (rest_writes-all c.args.addresses.now c.args.size c.args.count c.loop-i.i (text_of c.loop-i.rest) c.loop-i-test.false)) ∙ c.loop-i.invariant.written

pub returns-clause-listed : goal.returns-clause-listed
returns-clause-listed g c =
    wrotes_all _ _ (rest_writes-all c.args.addresses.now c.args.size c.args.count c.loop-i.i (text_of c.loop-i.rest) c.loop-i-test.false) ∙ c.loop-i.invariant.listed
