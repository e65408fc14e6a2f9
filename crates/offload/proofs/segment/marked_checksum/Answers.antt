-- The words that are written count instead of those that stand there.
use Rattle.std.proofs.Common.{◌≡◌, ℕ, ◌+◌, ◌-◌, ◌*◌, List, drop, get_or, set, ap, ◌∙◌, arith}
use Rattle.internet_checksum.specs.Sum.{word_sum, folded, word_at, with_word}
use Rattle.internet_checksum.proofs.Adding.{folded-part}
use Rattle.offload.proofs.Parts.{marked_sum}
use Rattle.offload.proofs.segment.marked_checksum.Goals as goal

pub returns : goal.returns
returns c =
    let bytes : List ℕ = c.args.bytes.now in
    let rest : ℕ = word_sum (drop 20 bytes) in
    let numbers : ℕ = word_at 4 bytes + word_at 6 bytes + word_at 8 bytes + word_at 10 bytes in
    let put : ℕ = word_at 0 bytes + word_at 2 bytes + numbers + (get_or bytes 12 0 * 256 + c.args.flags) + (word_at 14 bytes + word_at 18 bytes) + c.args.partial in
    let words : c.from.result + c.from-2.result + (c.from-3.result + c.from-4.result + c.from-5.result + c.from-6.result) ≡ word_at 0 bytes + word_at 2 bytes + numbers =
    omega (arith, c.from.ensures, c.from-2.ensures, c.from-3.ensures, c.from-4.ensures, c.from-5.ensures, c.from-6.ensures, c.load_word.ensures, c.load_word-2.ensures, c.load_word-3.ensures, c.load_word-4.ensures, c.load_word-5.ensures, c.load_word-6.ensures) in
    let parts : c.from.result + c.from-2.result + (c.from-3.result + c.from-4.result + c.from-5.result + c.from-6.result) + (c.from-7.result * 256 + c.from-8.result) + (c.from-9.result + c.from-10.result) + (c.from-11.result + c.from-12.result) ≡ folded rest + put =
    omega (arith, words, c.from-7.ensures, c.from-8.ensures, c.from-9.ensures, c.from-10.ensures, c.from-11.ensures, c.from-12.ensures, c.load_word-7.ensures, c.load_word-8.ensures, c.requires.rest) in
    let whole : rest + put ≡ word_sum (with_word 16 c.args.partial (set bytes 13 c.args.flags)) =
    omega (arith, marked_sum c.args.flags c.args.partial bytes c.requires.least (omega arith)) in
    ap (λ (s : ℕ). 65535 - s) (c.folded.ensures ∙ ap folded parts ∙ folded-part rest put ∙ ap folded whole)
