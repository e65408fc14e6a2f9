-- The rest is the same from the header's place on.
use Rattle.std.proofs.Common.{◌≡◌, ℕ, ◌+◌, List, drop, sym, ap, ◌∙◌}
use Rattle.std.proofs.lemmas.List.{drop-drop, take_rest}
use Rattle.internet_checksum.specs.Sum.{word_sum, folded}
use Rattle.offload.proofs.segment.finish_tcp.Goals as goal

pub number_tcp-requires-clause-rest : goal.number_tcp-requires-clause-rest
number_tcp-requires-clause-rest c =
    let bytes : List ℕ = c.args.bytes.now in
    c.requires.rest
    ∙ ap (λ (l : List ℕ). folded (word_sum l))
    (sym (ap (drop 20) (take_rest bytes c.transport_at.result) ∙ drop-drop 20 c.transport_at.result bytes ∙ ap (λ (n : ℕ). drop (n + 20) bytes) c.transport_at.ensures))
