-- The laws, from the events one by one.
use Rattle.transcript.proofs.Each.{kept_together, seen_together, seen_of_together, text_cut}
use Rattle.transcript.proofs.laws.numbered_lines.Goals as goal

pub returns : goal.returns
returns c = record { kept = kept_together; seen = seen_together; seen_of = seen_of_together; cut = text_cut }
