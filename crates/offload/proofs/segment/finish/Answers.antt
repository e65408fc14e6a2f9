-- The IP header stands in front of what was summed.
use Rattle.std.proofs.Common.{◌≡◌, ℕ, ◌+◌, List, drop, sym, ap, ◌∙◌}
use Rattle.internet_checksum.specs.Sum.{word_sum, folded}
use Rattle.offload.specs.declared.context.Context.{Context}
use Rattle.offload.proofs.Segmented.{drop_behind_ip}
use Rattle.offload.proofs.segment.finish.Goals as goal

pub finish_tcp-requires-clause-rest : goal.finish_tcp-requires-clause-rest
finish_tcp-requires-clause-rest c =
    let context : Context = c.args.context.now in
    let bytes : List ℕ = c.args.bytes.now in
    c.sum_from-rest.ensures
    ∙ ap (λ (l : List ℕ). folded (word_sum l))
    (ap (λ (n : ℕ). drop (n + 20) bytes) c.transport_at.ensures
    ∙ sym (drop_behind_ip context c.args.number bytes c.finish_ip.new.bytes (record { ip = c.requires.ip; tcp = c.requires.tcp }) c.finish_ip.ensures))
