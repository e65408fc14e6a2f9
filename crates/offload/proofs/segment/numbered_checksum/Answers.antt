-- The words that are written count instead of those that stand there.
use Rattle.std.proofs.Common.{◌≡◌, ℕ, ◌+◌, ◌-◌, List, drop, ap, ◌∙◌, arith}
use Rattle.internet_checksum.specs.Sum.{word_sum, folded, word_at, with_word}
use Rattle.internet_checksum.proofs.Adding.{folded-part}
use Rattle.offload.proofs.Parts.{numbered_sum}
use Rattle.offload.proofs.segment.numbered_checksum.Goals as goal

pub returns : goal.returns
returns c =
    let header : List ℕ = c.args.header.now in
    let rest : ℕ = word_sum (drop 12 header) in
    let put : ℕ = word_at 0 header + word_at 6 header + word_at 8 header + c.args.total + c.args.identification in
    let parts : c.from.result + c.from-2.result + c.from-3.result + c.from-4.result + c.from-5.result + c.from-6.result ≡ folded rest + put =
    omega (arith, c.from.ensures, c.from-2.ensures, c.from-3.ensures, c.from-4.ensures, c.from-5.ensures, c.from-6.ensures, c.load_word.ensures, c.load_word-2.ensures, c.load_word-3.ensures, c.sum_from-rest.ensures) in
    let whole : rest + put ≡ word_sum (with_word 10 0 (with_word 4 c.args.identification (with_word 2 c.args.total header))) =
    omega (arith, numbered_sum c.args.total c.args.identification header (omega (arith, c.requires)) (omega arith) (omega arith)) in
    ap (λ (s : ℕ). 65535 - s) (c.folded.ensures ∙ ap folded parts ∙ folded-part rest put ∙ ap folded whole)
