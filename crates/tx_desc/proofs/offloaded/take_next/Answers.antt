-- The descriptor that was read is the one that stands there in the memory that was met.
use Rattle.std.proofs.Common.{refl, sym, ap, ◌∙◌, arith, append-nil}
use Rattle.tx_desc.specs.declared.outcome.Progress.{Progress}
use Rattle.tx_desc.specs.Lent.{fetched_in}
use Rattle.tx_desc.specs.declared.descriptor.Kind.TheVariants.{Data}
use Rattle.tx_desc.proofs.Taking.{at_place, met_after, traced_after}
use Rattle.tx_desc.proofs.Offloading.{serves_as, taken_there, listed_there}
use Rattle.tx_desc.proofs.Misused.{misused_there}
use Rattle.tx_desc.proofs.offloaded.take_next.Goals as goal

pub returns-in-Context-clause-serves : goal.returns-in-Context-clause-serves
returns-in-Context-clause-serves g c =
    let r = c.read_descriptor-descriptor in
    let read = r.ensures.read in
    let place = c.requires.place in
    serves_as _ _ _ _ _ _ _ _ (taken_there c.args.terms.now _ _ c.args.ring.now c.args.sending.now c.args.at c.size.result r.result _ (sym read.met_is) r.ensures.at r.ensures.holds r.ensures.buffer r.ensures.word (omega (arith, place, read.size, r.ensures.at)) (sym c.size.ensures) c.in-Context.ensures.value) (record {
      outcome = ap (λ (p : Progress). fetched_in p c.args.frame.now) c.unreported.ensures.outcome;
      frame = refl;
      reported = c.unreported.ensures.reported;
      falls_short = c.unreported.ensures.falls_short;
      memory = refl;
      ring = c.advance.ensures;
      sending = c.set_context.ensures;
    })

pub returns-in-Context-clause-listed : goal.returns-in-Context-clause-listed
returns-in-Context-clause-listed g c =
    let r = c.read_descriptor-descriptor in
    let read = r.ensures.read in
    let place = c.requires.place in
    listed_there c.args.terms.now _ _ c.args.sending.now c.args.at c.size.result r.result _ _ _ _ (sym read.met_is) r.ensures.at r.ensures.holds r.ensures.buffer r.ensures.word (omega (arith, place, read.size, r.ensures.at)) (sym c.size.ensures) c.in-Context.ensures.value r.ensures.listed (sym (append-nil _))

pub returns-in-Unusable-clause-serves : goal.returns-in-Unusable-clause-serves
returns-in-Unusable-clause-serves g c =
    let r = c.read_descriptor-descriptor in
    let read = r.ensures.read in
    let place = c.requires.place in
    serves_as _ _ _ _ _ _ _ _ (taken_there c.args.terms.now _ _ c.args.ring.now c.args.sending.now c.args.at c.size.result r.result _ (sym read.met_is) r.ensures.at r.ensures.holds r.ensures.buffer r.ensures.word (omega (arith, place, read.size, r.ensures.at)) (sym c.size.ensures) c.in-Unusable.ensures.value) (record {
      outcome = ap (λ (p : Progress). fetched_in p c.args.frame.now) c.unreported-in-Unusable.ensures.outcome;
      frame = refl;
      reported = c.unreported-in-Unusable.ensures.reported;
      falls_short = c.unreported-in-Unusable.ensures.falls_short;
      memory = refl;
      ring = c.disable.ensures;
      sending = c.clear.ensures;
    })

pub returns-in-Unusable-clause-listed : goal.returns-in-Unusable-clause-listed
returns-in-Unusable-clause-listed g c =
    let r = c.read_descriptor-descriptor in
    let read = r.ensures.read in
    let place = c.requires.place in
    listed_there c.args.terms.now _ _ c.args.sending.now c.args.at c.size.result r.result _ _ _ _ (sym read.met_is) r.ensures.at r.ensures.holds r.ensures.buffer r.ensures.word (omega (arith, place, read.size, r.ensures.at)) (sym c.size.ensures) c.in-Unusable.ensures.value r.ensures.listed (sym (append-nil _))

pub returns-in-Data-clause-serves : goal.returns-in-Data-clause-serves
returns-in-Data-clause-serves g c =
    let r = c.read_descriptor-descriptor in
    let read = r.ensures.read in
    let place = c.requires.place in
    let apart = at_place _ _ _ _ _ _ r.ensures.at c.take_data.ensures.apart in
    serves_as _ _ _ _ _ _ _ _ (taken_there c.args.terms.now _ _ c.args.ring.now c.args.sending.now c.args.at c.size.result r.result _ (met_after _ _ _ _ _ _ _ read apart) r.ensures.at (r.ensures.holds ∙ sym c.take_data.ensures.apart.kept) r.ensures.buffer r.ensures.word (omega (arith, place, read.size, r.ensures.at, apart.size)) (apart.size ∙ sym c.size.ensures) c.in-Data.ensures.value) c.take_data.ensures.serves

pub returns-in-Data-clause-listed : goal.returns-in-Data-clause-listed
returns-in-Data-clause-listed g c =
    let r = c.read_descriptor-descriptor in
    let read = r.ensures.read in
    let place = c.requires.place in
    let apart = at_place _ _ _ _ _ _ r.ensures.at c.take_data.ensures.apart in
    listed_there c.args.terms.now _ _ c.args.sending.now c.args.at c.size.result r.result Data _ _ _ (met_after _ _ _ _ _ _ _ read apart) r.ensures.at (r.ensures.holds ∙ sym c.take_data.ensures.apart.kept) r.ensures.buffer r.ensures.word (omega (arith, place, read.size, r.ensures.at, apart.size)) (apart.size ∙ sym c.size.ensures) c.in-Data.ensures.value r.ensures.listed c.take_data.ensures.listed

pub returns-in-Data-clause-traced : goal.returns-in-Data-clause-traced
returns-in-Data-clause-traced g c =
    let r = c.read_descriptor-descriptor in
    traced_after _ _ _ _ _ _ _ _ _ r.ensures.listed r.ensures.read (at_place _ _ _ _ _ _ r.ensures.at c.take_data.ensures.apart)

pub returns-in-Context-clause-misuse : goal.returns-in-Context-clause-misuse
returns-in-Context-clause-misuse g c =
    let r = c.read_descriptor-descriptor in
    let read = r.ensures.read in
    let place = c.requires.place in
    misused_there c.args.terms.now.offloads _ _ c.args.at c.size.result r.result _ (sym read.met_is) r.ensures.at r.ensures.holds r.ensures.buffer r.ensures.word (omega (arith, place, read.size, r.ensures.at)) (sym c.size.ensures) (c.unreported.ensures.misuse ∙ sym (c.in-Context.ensures.context refl))

pub returns-in-Unusable-clause-misuse : goal.returns-in-Unusable-clause-misuse
returns-in-Unusable-clause-misuse g c =
    let r = c.read_descriptor-descriptor in
    let read = r.ensures.read in
    let place = c.requires.place in
    misused_there c.args.terms.now.offloads _ _ c.args.at c.size-in-Unusable.result r.result _ (sym read.met_is) r.ensures.at r.ensures.holds r.ensures.buffer r.ensures.word (omega (arith, place, read.size, r.ensures.at)) (sym c.size-in-Unusable.ensures) c.misuse.ensures

pub returns-in-Data-clause-misuse : goal.returns-in-Data-clause-misuse
returns-in-Data-clause-misuse g c =
    let r = c.read_descriptor-descriptor in
    let read = r.ensures.read in
    let place = c.requires.place in
    let apart = at_place _ _ _ _ _ _ r.ensures.at c.take_data.ensures.apart in
    misused_there c.args.terms.now.offloads _ _ c.args.at c.size.result r.result _ (met_after _ _ _ _ _ _ _ read apart) r.ensures.at (r.ensures.holds ∙ sym c.take_data.ensures.apart.kept) r.ensures.buffer r.ensures.word (omega (arith, place, read.size, r.ensures.at, apart.size)) (apart.size ∙ sym c.size.ensures) (c.take_data.ensures.misuse ∙ sym (c.in-Data.ensures.usable refl))
