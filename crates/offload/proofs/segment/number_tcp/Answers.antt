-- The sequence number stands in the header's first 20 bytes.
use Rattle.std.proofs.Common.{◌≡◌, ℕ, List, drop, sym, ap, ◌∙◌, arith}
use Rattle.internet_checksum.specs.Sum.{word_sum, folded}
use Rattle.offload.proofs.Segmented.{drop-with_sequence}
use Rattle.offload.proofs.segment.number_tcp.Goals as goal

pub marked_checksum-sum-requires-clause-rest : goal.marked_checksum-sum-requires-clause-rest
marked_checksum-sum-requires-clause-rest c =
    c.requires.rest
    ∙ ap (λ (l : List ℕ). folded (word_sum l))
    (sym (ap (drop 20) c.move_sequence.ensures ∙ drop-with_sequence _ c.args.bytes.now 20 (omega arith) c.requires.tcp))
