-- A comparison leaves one half.
use Rattle.std.proofs.Common.{arith, ◌+◌, ◌-◌, ◌/◌, ◌<◌, slice_index_or}
use Rattle.std.proofs.lemmas.Bool.Decides.{nat_tests}
use Rattle.pool_index.proofs.IndexLemmas.{all_lower, all_higher, some_left, halved_more}
use Rattle.pool_index.proofs.index.find.Goals as goal

pub overflow_add-compared : goal.overflow_add-compared
overflow_add-compared c =
    let l = c.loop-low in
    let far = l.invariant.halved 64 c.requires.fits in
    let more = some_left 64 l.compared (l.high - l.low) far.0 (omega arith) far.1 in
    omega (arith, more)

pub loop-low-preserved-then-here-key-2 : goal.loop-low-preserved-then-here-key-2
loop-low-preserved-then-here-key-2 c =
    let l = c.loop-low in
    record {
      within = omega arith;
      between = (all_lower c.args.kept.now c.args.key ((l.low + l.high) / 2) _ c.requires.rises (omega arith) c.if-here-key-2.true, l.invariant.between.1);
      halved = λ digits h.
          let far = l.invariant.halved digits h in
          let more = some_left digits l.compared (l.high - l.low) far.0 (omega arith) far.1 in
          (omega (arith, more), halved_more digits l.compared (l.high - l.low) _ more far.1 (omega arith));
    }

pub loop-low-preserved : goal.loop-low-preserved
loop-low-preserved c =
    let l = c.loop-low in
    let other : c.args.key < (slice_index_or c.args.kept.now ((l.low + l.high) / 2) (record { key = 0; pools = 0 })).key = grind (arith, nat_tests, c.if-here-key.false, c.if-here-key-2.false) in
    record {
      within = omega arith;
      between = (l.invariant.between.0, all_higher c.args.kept.now c.args.key ((l.low + l.high) / 2) _ c.requires.rises (omega arith) other);
      halved = λ digits h.
          let far = l.invariant.halved digits h in
          let more = some_left digits l.compared (l.high - l.low) far.0 (omega arith) far.1 in
          (omega (arith, more), halved_more digits l.compared (l.high - l.low) _ more far.1 (omega arith));
    }
