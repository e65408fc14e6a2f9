-- What was gathered, then the report.
use Rattle.std.proofs.Common.{ℕ, List, ◌++◌, sym, ap, ◌∙◌}
use Rattle.live_memory.proofs.Accesses.{listed_then}
use Rattle.tx_desc.specs.Transmit.{taken}
use Rattle.tx_desc.specs.Accesses.{joined_reads, report_write}
use Rattle.tx_desc.specs.declared.descriptor.Kind.TheVariants.{Data}
use Rattle.tx_desc.proofs.Taking.{fetches_as, met_report, keeps_report}
use Rattle.tx_desc.proofs.fetching.take_data.Goals as goal

pub returns-clause-fetches : goal.returns-clause-fetches
returns-clause-fetches g c =
    let is = met_report _ _ _ _ _ _ _ _ c.gather-outcome.ensures.reads c.report-reported.ensures.listed in
    fetches_as _ _ _ _ _ _ _ _ (ap (λ (m : List ℕ). taken Data c.args.limit c.args.rule m c.args.ring.now c.args.pending.now c.args.descriptor) is) (record {
      outcome = c.gather-outcome.ensures.outcome;
      frame = c.gather-outcome.ensures.frame;
      reported = c.report-reported.ensures.value;
      memory = c.report-reported.ensures.memory;
      ring = c.advance.ensures;
      pending = c.gather-outcome.ensures.pending;
    })

pub returns-clause-listed : goal.returns-clause-listed
returns-clause-listed g c =
    let is = met_report _ _ _ _ _ _ _ _ c.gather-outcome.ensures.reads c.report-reported.ensures.listed in
    listed_then _ _ _ _ _ c.gather-outcome.ensures.listed c.report-reported.ensures.listed
    ∙ ap (λ (m : List ℕ). c.args.memory.now.accesses ++ (joined_reads c.args.limit c.args.pending.now c.args.descriptor m ++ report_write c.args.descriptor)) (sym is)

pub returns-clause-apart : goal.returns-clause-apart
returns-clause-apart g c = keeps_report _ _ _ _ _ _ _ _ c.gather-outcome.ensures.reads c.report-reported.ensures.listed c.requires.stands.place
