-- A step of the loop does the first of the write-backs that are left, by one access.
use Rattle.std.proofs.Common.{◌+◌, ◌<◌, ◌≤◌, length, eqb, refl, sym, ap, min, ◌∙◌, arith}
use Rattle.std.proofs.lemmas.List.{length-drop}
use Rattle.guest_memory.specs.Memory.{two_words}
use Rattle.live_memory.proofs.Written.{size_written}
use Rattle.rings.specs.Ring.{owned}
use Rattle.rx_desc.specs.Receive.{slots, status}
use Rattle.rx_desc.specs.Parts.{text_of}
use Rattle.rx_desc.proofs.Pieces.{rest_backs-none, rest_backs-all, write_all-none, write_all-more, back_step, get_or-slots, length-slots}
use Rattle.rx_desc.proofs.Listed.{length-two_words, wrotes_on, wrotes_all}
use Rattle.rx_desc.proofs.placing.write_back.Goals as goal

pub loop-i-init : goal.loop-i-init
loop-i-init g c =
    record {
      size = refl;
      short = c.requires.short;
      written = rw (rest_backs-none c.args.back (slots c.args.ring.now) c.args.addresses.now c.args.size c.args.count (text_of c.args.source)) refl;
      listed = rw (rest_backs-none c.args.back (slots c.args.ring.now) c.args.addresses.now c.args.size c.args.count (text_of c.args.source)) refl;
    }

pub loop-i-preserved : goal.loop-i-preserved
loop-i-preserved g c =
    let now = g.D.Dma.seen c.loop-i.memory.memory in
    let room : c.loop-i.i < length (owned c.args.ring.now) = omega arith in
    let places = length-slots c.args.ring.now in
    let count = length-two_words c.first_word-first.result c.status-second.result in
    let fits : c.slot.result + length (two_words c.first_word-first.result c.status-second.result) ≤ length now = omega (arith, count, c.slot.ensures.inside, c.requires.inside c.slot.ensures.on, c.loop-i.invariant.size) in
    let step = back_step c.args.back (slots c.args.ring.now) c.args.addresses.now c.args.size c.args.count c.loop-i.i _ (text_of c.loop-i.rest) _ _ _ _ _ (omega arith) (omega arith) (omega arith)
    (c.slot.ensures.value ∙ sym (get_or-slots c.args.ring.now c.loop-i.i room)) c.first_word-first.ensures (c.min.ensures ∙ ap (min c.args.size) c.len.ensures) c.split_at.ensures.front c.split_at.ensures.back (c.status-second.ensures ∙ ap (status c.args.back (eqb (c.loop-i.i + 1) c.args.count)) c.len-in-loop-i.ensures) in
    record {
      size = ap length c.store_words.ensures.seen ∙ size_written c.slot.result (two_words c.first_word-first.result c.status-second.result) now fits ∙ c.loop-i.invariant.size;
      short = rw (c.split_at.ensures.back, length-drop) (omega (arith, c.loop-i.invariant.short));
      written = rw c.store_words.ensures.seen (sym (write_all-more _ _ _ _ now step) ∙ c.loop-i.invariant.written);
      listed = wrotes_on _ _ _ _ _ _ step c.store_words.ensures.listed ∙ c.loop-i.invariant.listed;
    }

pub returns-clause-written : goal.returns-clause-written
returns-clause-written g c =
    sym (write_all-none _ _ (rest_backs-all c.args.back (slots c.args.ring.now) c.args.addresses.now c.args.size c.args.count c.loop-i.i (text_of c.loop-i.rest) c.loop-i-test.false)) ∙ c.loop-i.invariant.written

pub returns-clause-listed : goal.returns-clause-listed
returns-clause-listed g c =
    wrotes_all _ _ (rest_backs-all c.args.back (slots c.args.ring.now) c.args.addresses.now c.args.size c.args.count c.loop-i.i (text_of c.loop-i.rest) c.loop-i-test.false) ∙ c.loop-i.invariant.listed
