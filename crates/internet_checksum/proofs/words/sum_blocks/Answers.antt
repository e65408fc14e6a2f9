-- A block more.
use Rattle.std.proofs.Common.{◌≡◌, ℕ, ◌+◌, ◌*◌, length, ap, ◌∙◌, arith, length-drop}
use Rattle.std.proofs.lemmas.List.{take_rest}
use Rattle.internet_checksum.specs.Sum.{word_sum, folded}
use Rattle.internet_checksum.proofs.Adding.{word_sum-block}
use Rattle.internet_checksum.proofs.words.sum_blocks.Goals as goal

pub loop-rest-preserved : goal.loop-rest-preserved
loop-rest-preserved c =
    let rest = c.loop-rest.rest.now in
    let there = take_rest rest 64 in
    let count = ap length there ∙ length-drop 64 rest in
    let sums : ℕ = c.loop-rest.first + c.loop-rest.second + c.loop-rest.third + c.loop-rest.fourth in
    let a = c.number_at in
    let b = c.number_at-in-loop-rest-2 in
    let d = c.number_at-in-loop-rest-4 in
    let e = c.number_at-in-loop-rest-6 in
    let f = c.number_at-in-loop-rest in
    let g = c.number_at-in-loop-rest-3 in
    let h = c.number_at-in-loop-rest-5 in
    let i = c.number_at-in-loop-rest-7 in
    record {
      few = omega (arith, count, c.loop-rest.invariant.few, a.ensures.most, b.ensures.most, d.ensures.most, e.ensures.most, f.ensures.most, g.ensures.most, h.ensures.most, i.ensures.most);
      whole = λ n.
          ap folded (omega (arith, ap word_sum there))
          ∙ word_sum-block rest sums n a.result b.result d.result e.result f.result g.result h.result i.result (omega arith)
          a.ensures.number b.ensures.number d.ensures.number e.ensures.number f.ensures.number g.ensures.number h.ensures.number i.ensures.number
          ∙ c.loop-rest.invariant.whole n;
    }
