-- A note that was looked at stays, or its end is one event more and it is taken out, or the sweep stops there.
use Rattle.std.proofs.Common.{rules, [], ◌∷◌, ◌++◌, sym, ◌∙◌}
use Rattle.workers.proofs.Swept.{behind_more, behind_none, swept_out, taken_is, way_begins, way_ends, way_left, way_stops, way_taken}
use Rattle.workers.proofs.sweeping.take_ended.Goals as goal

pub loop-at-init : goal.loop-at-init
loop-at-init g c = record {
  way = ([], way_begins c.args.notes.now.items c.args.share.now, behind_none c.args.out.now.items c.args.keeps);
  caller = c.requires.service;
  count = search rules;
  more = search rules;
  capacity = search rules;
}

pub returns-in_err-ended-clause-swept : goal.returns-in_err-ended-clause-swept
returns-in_err-ended-clause-swept g c =
    let way = c.loop-at.invariant.way in
    swept_out c.args.notes.now.items _ way.0 c.args.out.now.items c.loop-at.out.items c.loop-at.at c.args.keeps c.args.share.now c.end_known.new.share
    (way_stops c.args.notes.now.items c.loop-at.notes.items way.0 c.loop-at.at c.index_mut.result.now c.end_known.new.note _ c.loop-at.share c.end_known.new.share (search rules) (search rules) c.in_err-ended.ensures.looked
    (search rules) way.1)
    way.2

pub loop-at-preserved-then-ended : goal.loop-at-preserved-then-ended
loop-at-preserved-then-ended g c =
    let way = c.loop-at.invariant.way in
    record {
      way = (
        way.0 ++ c.end_known.new.note ∷ [],
        way_taken c.args.notes.now.items c.loop-at.notes.items c.remove-note.new.self.items way.0 c.loop-at.at c.index_mut.result.now c.end_known.new.note _ c.loop-at.share c.end_known.new.share (search rules) (search rules)
            c.in_ok-ended.ensures.looked (sym c.in_ok-ended.ensures.knows ∙ c.if-ended.true) c.remove-note.ensures.by_index.2 (c.in_ok-ended.ensures.ended c.if-ended.true) way.1,
        behind_more c.args.out.now.items way.0 c.loop-at.out.items c.put.new.out.items c.remove-note.result c.end_known.new.note c.args.keeps
            (taken_is c.loop-at.notes.items c.loop-at.at c.end_known.new.note c.remove-note.result (search rules) c.remove-note.ensures.value) c.put.ensures.put way.2,
      );
      caller = search rules;
      count = search rules;
      more = search rules;
      capacity = search rules;
    }

pub loop-at-preserved : goal.loop-at-preserved
loop-at-preserved g c =
    let way = c.loop-at.invariant.way in
    record {
      way = (
        way.0,
        way_left c.args.notes.now.items c.loop-at.notes.items way.0 c.loop-at.at c.index_mut.result.now c.end_known.new.note _ c.loop-at.share c.end_known.new.share (search rules) (search rules) c.in_ok-ended.ensures.looked
            (sym c.in_ok-ended.ensures.knows ∙ c.if-ended.false) (c.in_ok-ended.ensures.live c.if-ended.false) way.1,
        way.2,
      );
      caller = search rules;
      count = search rules;
      more = search rules;
      capacity = search rules;
    }

pub returns-clause-swept : goal.returns-clause-swept
returns-clause-swept g c =
    let way = c.loop-at.invariant.way in
    swept_out c.args.notes.now.items c.loop-at.notes.items way.0 c.args.out.now.items c.loop-at.out.items c.loop-at.at c.args.keeps c.args.share.now c.loop-at.share way.1 way.2

pub returns-clause-all : goal.returns-clause-all
returns-clause-all g c =
    let way = c.loop-at.invariant.way in
    way_ends c.args.notes.now.items c.loop-at.notes.items way.0 c.loop-at.at c.args.share.now c.loop-at.share (search rules) way.1
