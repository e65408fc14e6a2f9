-- A step of the loop does the first of the write-backs that are left.
use Rattle.std.proofs.Common.{◌+◌, ◌<◌, length, eqb, refl, sym, ap, min, ◌∙◌, arith}
use Rattle.std.proofs.lemmas.List.{length-drop}
use Rattle.rings.specs.Ring.{owned}
use Rattle.rx_desc.specs.Receive.{slots, status}
use Rattle.rx_desc.specs.Parts.{text_of}
use Rattle.rx_desc.proofs.Pieces.{rest_backs-none, rest_backs-all, write_all-none, back_on, get_or-slots, length-slots}
use Rattle.rx_desc.proofs.any_memory.write_back.Goals as goal

pub loop-i-init : goal.loop-i-init
loop-i-init g c =
    record {
      size = refl;
      short = c.requires.short;
      written = rw (rest_backs-none c.args.back (slots c.args.ring.now) c.args.addresses.now c.args.size c.args.count (text_of c.args.source)) refl;
    }

pub loop-i-preserved : goal.loop-i-preserved
loop-i-preserved g c =
    let now = (goal.GuestMem-dyn g c.loop-i.memory.now).bytes c.loop-i.memory.now.1 in
    let room : c.loop-i.i < length (owned c.args.ring.now) = omega arith in
    let places = length-slots c.args.ring.now in
    let s = back_on c.args.back (slots c.args.ring.now) c.args.addresses.now c.args.size c.args.count c.loop-i.i _ (text_of c.loop-i.rest) _ _ now _ _ _ (omega arith) (omega arith) (omega arith)
    (c.slot.ensures.value ∙ sym (get_or-slots c.args.ring.now c.loop-i.i room)) c.first_word-first.ensures (c.min.ensures ∙ ap (min c.args.size) c.len.ensures) c.split_at.ensures.front c.split_at.ensures.back (c.status-second.ensures ∙ ap (status c.args.back (eqb (c.loop-i.i + 1) c.args.count)) c.len-in-loop-i.ensures) in
    record {
      size = c.write_words.ensures.size ∙ c.loop-i.invariant.size;
      short = rw (c.split_at.ensures.back, length-drop) (omega (arith, c.loop-i.invariant.short));
      written = rw c.write_words.ensures.written (s ∙ c.loop-i.invariant.written);
    }

pub returns-clause-written : goal.returns-clause-written
returns-clause-written g c =
    sym (write_all-none _ _ (rest_backs-all c.args.back (slots c.args.ring.now) c.args.addresses.now c.args.size c.args.count c.loop-i.i (text_of c.loop-i.rest) c.loop-i-test.false)) ∙ c.loop-i.invariant.written
