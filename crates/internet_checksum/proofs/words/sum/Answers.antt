-- Sixteen bytes more, eight more, and the rest.
use Rattle.std.proofs.Common.{◌≡◌, ℕ, ◌+◌, ◌*◌, List, length, drop, sym, ap, ◌∙◌, arith, length-drop, Bor}
use Rattle.std.proofs.lemmas.List.{take_rest}
use Rattle.byteorder.specs.Endian.{little_number}
use Rattle.internet_checksum.specs.Sum.{word_sum, folded}
use Rattle.internet_checksum.proofs.Adding.{word_sum-eight, word_sum-sixteen, folded-same_times}
use Rattle.internet_checksum.proofs.words.sum.Goals.{then-rest-ge8, else-rest-ge8}
use Rattle.internet_checksum.proofs.words.sum.Goals as goal

pub loop-rest-preserved : goal.loop-rest-preserved
loop-rest-preserved c =
    let rest = c.loop-rest.rest.now in
    let there = take_rest rest 16 in
    let count = ap length there ∙ length-drop 16 rest in
    record {
      few = omega (arith, count);
      whole =
          ap folded (omega (arith, ap word_sum there, ap (little_number 8) (take_rest rest 8)))
          ∙ word_sum-sixteen rest c.loop-rest.first c.loop-rest.second c.args.start (omega arith)
          ∙ c.loop-rest.invariant.whole;
    }

pub returns : goal.returns
returns c =
    let rest : List ℕ = c.loop-rest.rest.now in
    let left : List ℕ = c.if-rest-ge8.rest.now in
    let total : ℕ = c.if-rest-ge8.first + c.loop-rest.second in
    let narrow : ℕ = c.narrow.result in
    let whole : folded (256 * total + (c.args.start + word_sum left)) ≡ folded (c.args.start + word_sum c.args.bytes.now) =
    elim c.if-rest-ge8.branch [
      | then-rest-ge8 w ↦
          ap folded (omega (arith, w.first-is, ap (λ (r : Bor (List ℕ)). word_sum r.now) w.rest-is, ap word_sum (take_rest rest 8)))
          ∙ word_sum-eight rest (c.loop-rest.first + c.loop-rest.second) c.args.start (omega arith)
          ∙ c.loop-rest.invariant.whole
      | else-rest-ge8 w ↦ ap folded (omega (arith, w.first-is, ap (λ (r : Bor (List ℕ)). word_sum r.now) w.rest-is)) ∙ c.loop-rest.invariant.whole
    ] in
    c.folded.ensures
    ∙ ap folded (omega arith)
    ∙ c.short_sum.ensures.sum (256 * narrow + c.args.start)
    ∙ ap folded (omega arith)
    ∙ folded-same_times narrow total (c.args.start + word_sum left) c.narrow.ensures.sum
    ∙ whole
