-- The descriptor that was read is the one that stands there in the memory that was met.
use Rattle.std.proofs.Common.{ℕ, ◌+◌, ◌≤◌, length, refl, sym, ap, ◌∙◌, arith, append-nil}
use Rattle.live_memory.proofs.Accesses.{traced_none}
use Rattle.tx_desc.specs.declared.outcome.Progress.{Progress}
use Rattle.tx_desc.specs.Lent.{fetched_in}
use Rattle.tx_desc.specs.declared.descriptor.Kind.TheVariants.{Data}
use Rattle.tx_desc.proofs.Listing.{accesses_none}
use Rattle.tx_desc.proofs.Taking.{fetches_as, due_on, due_none, at_place, met_after, traced_after, listed_some}
use Rattle.offload.specs.declared.offloads.Offloads.{Offloads}
use Rattle.offload.specs.Offloads.{no_offloads}
use Rattle.tx_desc.specs.Misuses.{misuse_of}
use Rattle.tx_desc.proofs.Misused.{misused_head}
use Rattle.tx_desc.proofs.fetching.fetch_into.Goals as goal

pub returns-in_default-clause-fetches : goal.returns-in_default-clause-fetches
returns-in_default-clause-fetches g c =
    fetches_as _ _ _ _ _ _ _ _ (due_none c.args.limit c.args.rule c.args.memory.now.accesses _ c.args.ring.now c.args.pending.now c.in_default.ensures.value) (record {
      outcome = ap (λ (p : Progress). fetched_in p c.args.frame.now) c.unreported.ensures.outcome;
      frame = refl;
      reported = c.unreported.ensures.reported;
      memory = refl;
      ring = refl;
      pending = refl;
    })

pub returns-in_default-clause-listed : goal.returns-in_default-clause-listed
returns-in_default-clause-listed g c = accesses_none c.args.limit _ c.args.ring.now c.args.pending.now _ c.in_default.ensures.value

pub returns-in_default-clause-traced : goal.returns-in_default-clause-traced
returns-in_default-clause-traced g c = traced_none _ _ _

place_there : (at n base : ℕ) → at + 16 ≤ base → base ≤ n → at + 16 ≤ n
place_there at n base within inside = omega (arith, within, inside)

pub take_data-requires-clause-stands : goal.take_data-requires-clause-stands
take_data-requires-clause-stands g c =
    let r = c.read_descriptor-descriptor in
    let place = place_there c.in-Some.at (length (g.D.Dma.seen c.args.memory.now.memory)) _ c.in-Some.ensures.inside (c.requires.inside c.in-Some.ensures.on) in
    let read = r.ensures.read in
    let bytes = c.in-Data.ensures.inside refl in
    record {
      holds = r.ensures.holds;
      place = omega (arith, place, read.size, r.ensures.at);
      inside = omega (arith, bytes, c.size.ensures);
      small = omega (arith, c.size.ensures);
    }

pub returns-in-Context-clause-fetches : goal.returns-in-Context-clause-fetches
returns-in-Context-clause-fetches g c =
    let r = c.read_descriptor-descriptor in
    let place = place_there c.in-Some.at (length (g.D.Dma.seen c.args.memory.now.memory)) _ c.in-Some.ensures.inside (c.requires.inside c.in-Some.ensures.on) in
    let read = r.ensures.read in
    fetches_as _ _ _ _ _ _ _ _ (due_on c.args.limit c.args.rule _ _ c.args.ring.now c.args.pending.now c.in-Some.at c.size.result r.result _ (sym read.met_is) c.in-Some.ensures.value r.ensures.at r.ensures.holds r.ensures.buffer r.ensures.word (omega (arith, place, read.size, r.ensures.at)) (sym c.size.ensures) c.in-Context.ensures.value) (record {
      outcome = ap (λ (p : Progress). fetched_in p c.args.frame.now) c.unreported-in-Context.ensures.outcome;
      frame = refl;
      reported = c.unreported-in-Context.ensures.reported;
      memory = refl;
      ring = c.advance.ensures;
      pending = refl;
    })

pub returns-in-Context-clause-listed : goal.returns-in-Context-clause-listed
returns-in-Context-clause-listed g c =
    let r = c.read_descriptor-descriptor in
    let place = place_there c.in-Some.at (length (g.D.Dma.seen c.args.memory.now.memory)) _ c.in-Some.ensures.inside (c.requires.inside c.in-Some.ensures.on) in
    let read = r.ensures.read in
    listed_some c.args.limit _ _ c.args.ring.now c.args.pending.now c.in-Some.at c.size.result r.result _ _ _ _ (sym read.met_is) c.in-Some.ensures.value r.ensures.at r.ensures.holds r.ensures.buffer r.ensures.word (omega (arith, place, read.size, r.ensures.at)) (sym c.size.ensures) c.in-Context.ensures.value r.ensures.listed (sym (append-nil _))

pub returns-in-Unusable-clause-fetches : goal.returns-in-Unusable-clause-fetches
returns-in-Unusable-clause-fetches g c =
    let r = c.read_descriptor-descriptor in
    let place = place_there c.in-Some.at (length (g.D.Dma.seen c.args.memory.now.memory)) _ c.in-Some.ensures.inside (c.requires.inside c.in-Some.ensures.on) in
    let read = r.ensures.read in
    fetches_as _ _ _ _ _ _ _ _ (due_on c.args.limit c.args.rule _ _ c.args.ring.now c.args.pending.now c.in-Some.at c.size.result r.result _ (sym read.met_is) c.in-Some.ensures.value r.ensures.at r.ensures.holds r.ensures.buffer r.ensures.word (omega (arith, place, read.size, r.ensures.at)) (sym c.size.ensures) c.in-Unusable.ensures.value) (record {
      outcome = ap (λ (p : Progress). fetched_in p c.args.frame.now) c.unreported-in-Unusable.ensures.outcome;
      frame = refl;
      reported = c.unreported-in-Unusable.ensures.reported;
      memory = refl;
      ring = c.disable.ensures;
      pending = c.clear.ensures;
    })

pub returns-in-Unusable-clause-listed : goal.returns-in-Unusable-clause-listed
returns-in-Unusable-clause-listed g c =
    let r = c.read_descriptor-descriptor in
    let place = place_there c.in-Some.at (length (g.D.Dma.seen c.args.memory.now.memory)) _ c.in-Some.ensures.inside (c.requires.inside c.in-Some.ensures.on) in
    let read = r.ensures.read in
    listed_some c.args.limit _ _ c.args.ring.now c.args.pending.now c.in-Some.at c.size.result r.result _ _ _ _ (sym read.met_is) c.in-Some.ensures.value r.ensures.at r.ensures.holds r.ensures.buffer r.ensures.word (omega (arith, place, read.size, r.ensures.at)) (sym c.size.ensures) c.in-Unusable.ensures.value r.ensures.listed (sym (append-nil _))

pub returns-in-Data-clause-fetches : goal.returns-in-Data-clause-fetches
returns-in-Data-clause-fetches g c =
    let r = c.read_descriptor-descriptor in
    let place = place_there c.in-Some.at (length (g.D.Dma.seen c.args.memory.now.memory)) _ c.in-Some.ensures.inside (c.requires.inside c.in-Some.ensures.on) in
    let read = r.ensures.read in
    let apart = at_place _ _ _ _ _ _ r.ensures.at c.take_data.ensures.apart in
    fetches_as _ _ _ _ _ _ _ _ (due_on c.args.limit c.args.rule _ _ c.args.ring.now c.args.pending.now c.in-Some.at c.size.result r.result _ (met_after _ _ _ _ _ _ _ read apart) c.in-Some.ensures.value r.ensures.at (r.ensures.holds ∙ sym c.take_data.ensures.apart.kept) r.ensures.buffer r.ensures.word (omega (arith, place, read.size, r.ensures.at, apart.size)) (apart.size ∙ sym c.size.ensures) c.in-Data.ensures.value) c.take_data.ensures.fetches

pub returns-in-Data-clause-listed : goal.returns-in-Data-clause-listed
returns-in-Data-clause-listed g c =
    let r = c.read_descriptor-descriptor in
    let place = place_there c.in-Some.at (length (g.D.Dma.seen c.args.memory.now.memory)) _ c.in-Some.ensures.inside (c.requires.inside c.in-Some.ensures.on) in
    let read = r.ensures.read in
    let apart = at_place _ _ _ _ _ _ r.ensures.at c.take_data.ensures.apart in
    listed_some c.args.limit _ _ c.args.ring.now c.args.pending.now c.in-Some.at c.size.result r.result Data _ _ _ (met_after _ _ _ _ _ _ _ read apart) c.in-Some.ensures.value r.ensures.at (r.ensures.holds ∙ sym c.take_data.ensures.apart.kept) r.ensures.buffer r.ensures.word (omega (arith, place, read.size, r.ensures.at, apart.size)) (apart.size ∙ sym c.size.ensures) c.in-Data.ensures.value r.ensures.listed c.take_data.ensures.listed

pub returns-in-Context-clause-traced : goal.returns-in-Context-clause-traced
returns-in-Context-clause-traced g c = c.read_descriptor-descriptor.ensures.read.traced

pub returns-in-Context-clause-size : goal.returns-in-Context-clause-size
returns-in-Context-clause-size g c = c.read_descriptor-descriptor.ensures.read.size

pub returns-in-Unusable-clause-traced : goal.returns-in-Unusable-clause-traced
returns-in-Unusable-clause-traced g c = c.read_descriptor-descriptor.ensures.read.traced

pub returns-in-Unusable-clause-size : goal.returns-in-Unusable-clause-size
returns-in-Unusable-clause-size g c = c.read_descriptor-descriptor.ensures.read.size

pub returns-in-Data-clause-traced : goal.returns-in-Data-clause-traced
returns-in-Data-clause-traced g c =
    let r = c.read_descriptor-descriptor in
    traced_after _ _ _ _ _ _ _ _ _ r.ensures.listed r.ensures.read (at_place _ _ _ _ _ _ r.ensures.at c.take_data.ensures.apart)

pub returns-in-Data-clause-size : goal.returns-in-Data-clause-size
returns-in-Data-clause-size g c = c.take_data.ensures.size ∙ c.read_descriptor-descriptor.ensures.read.size

pub returns-in-Context-clause-misuse : goal.returns-in-Context-clause-misuse
returns-in-Context-clause-misuse g c =
    let r = c.read_descriptor-descriptor in
    let place = place_there c.in-Some.at (length (g.D.Dma.seen c.args.memory.now.memory)) _ c.in-Some.ensures.inside (c.requires.inside c.in-Some.ensures.on) in
    let read = r.ensures.read in
    misused_head no_offloads _ _ c.args.ring.now c.in-Some.at c.size.result r.result _ c.in-Some.ensures.value (sym read.met_is) r.ensures.at r.ensures.holds r.ensures.buffer r.ensures.word (omega (arith, place, read.size, r.ensures.at)) (sym c.size.ensures) (c.unreported-in-Context.ensures.misuse ∙ sym (c.in-Context.ensures.context refl))

pub returns-in-Unusable-clause-misuse : goal.returns-in-Unusable-clause-misuse
returns-in-Unusable-clause-misuse g c =
    let r = c.read_descriptor-descriptor in
    let place = place_there c.in-Some.at (length (g.D.Dma.seen c.args.memory.now.memory)) _ c.in-Some.ensures.inside (c.requires.inside c.in-Some.ensures.on) in
    let read = r.ensures.read in
    let why = c.misuse.ensures ∙ ap (λ (o : Offloads). misuse_of o c.size-in-Unusable.result r.result) c.none.ensures in
    misused_head no_offloads _ _ c.args.ring.now c.in-Some.at c.size-in-Unusable.result r.result _ c.in-Some.ensures.value (sym read.met_is) r.ensures.at r.ensures.holds r.ensures.buffer r.ensures.word (omega (arith, place, read.size, r.ensures.at)) (sym c.size-in-Unusable.ensures) why

pub returns-in-Data-clause-misuse : goal.returns-in-Data-clause-misuse
returns-in-Data-clause-misuse g c =
    let r = c.read_descriptor-descriptor in
    let place = place_there c.in-Some.at (length (g.D.Dma.seen c.args.memory.now.memory)) _ c.in-Some.ensures.inside (c.requires.inside c.in-Some.ensures.on) in
    let read = r.ensures.read in
    let apart = at_place _ _ _ _ _ _ r.ensures.at c.take_data.ensures.apart in
    misused_head no_offloads _ _ c.args.ring.now c.in-Some.at c.size.result r.result _ c.in-Some.ensures.value (met_after _ _ _ _ _ _ _ read apart) r.ensures.at (r.ensures.holds ∙ sym c.take_data.ensures.apart.kept) r.ensures.buffer r.ensures.word (omega (arith, place, read.size, r.ensures.at, apart.size)) (apart.size ∙ sym c.size.ensures) (c.take_data.ensures.misuse ∙ sym (c.in-Data.ensures.usable refl))
