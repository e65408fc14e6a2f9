-- The bytes are joined, the frame goes on or ends, and then comes the report.
use Rattle.std.proofs.Common.{◌≡◌, ℕ, List, ◌++◌, sym, ap, ◌∙◌}
use Rattle.live_memory.proofs.Accesses.{listed_then}
use Rattle.tx_desc.specs.Transmit.{joined}
use Rattle.tx_desc.specs.Fetches.{data_of}
use Rattle.tx_desc.specs.Accesses.{joined_reads}
use Rattle.tx_desc.specs.Offloaded.{first_word, most_bytes, after_joining, taken_with}
use Rattle.tx_desc.specs.OffloadedAccesses.{done_write, taken_with_accesses}
use Rattle.tx_desc.specs.declared.descriptor.Kind.TheVariants.{Data}
use Rattle.tx_desc.proofs.Offloading.{serves_as, serves_then, met_done, keeps_done}
use Rattle.tx_desc.proofs.offloaded.take_data.Goals as goal

pub returns-clause-serves : goal.returns-clause-serves
returns-clause-serves g c =
    let t = c.args.terms.now in
    let s = c.args.sending.now in
    let d = c.args.descriptor in
    let m : List ℕ = g.D.Dma.seen c.join.new.memory.memory in
    let is = met_done _ _ _ _ _ _ _ _ _ c.join.ensures.reads c.conclude.ensures.listed in
    let first = c.first_word-first.ensures in
    let gathered : c.join.new.self ≡ joined (most_bytes t (first_word s.stage d.word)) s.pending (data_of m d) =
    c.join.ensures.joined ∙ ap (λ (n : ℕ). joined n s.pending (data_of m d)) (c.most_bytes.ensures.value ∙ ap (most_bytes t) first) in
    serves_as _ _ _ _ _ _ _ _ (ap (λ (l : List ℕ). taken_with Data t l c.args.ring.now s d) is)
    (serves_then d.at d.word m c.args.ring.now _ _ _ _ _ _ _ _ _ (λ i. after_joining t s (first i) d.word (gathered i)) c.after_joining-ending.ensures
    c.conclude.ensures.outcome c.conclude.ensures.reported c.conclude.ensures.falls_short c.conclude.ensures.memory c.conclude.ensures.ring)

pub returns-clause-listed : goal.returns-clause-listed
returns-clause-listed g c =
    let t = c.args.terms.now in
    let s = c.args.sending.now in
    let d = c.args.descriptor in
    let m : List ℕ = g.D.Dma.seen c.join.new.memory.memory in
    let is = met_done _ _ _ _ _ _ _ _ _ c.join.ensures.reads c.conclude.ensures.listed in
    let first = c.first_word-first.ensures in
    let most = c.most_bytes.ensures.value ∙ ap (most_bytes t) first in
    let gathered : c.join.new.self ≡ joined (most_bytes t (first_word s.stage d.word)) s.pending (data_of m d) =
    c.join.ensures.joined ∙ ap (λ (n : ℕ). joined n s.pending (data_of m d)) most in
    let done : c.after_joining-ending.result.is_done ≡ (after_joining t s (first_word s.stage d.word) d.word (joined (most_bytes t (first_word s.stage d.word)) s.pending (data_of m d))).is_done =
    c.after_joining-ending.ensures.is_done ∙ (λ i. (after_joining t s (first i) d.word (gathered i)).is_done) in
    listed_then _ _ _ _ _ c.join.ensures.listed c.conclude.ensures.listed
    ∙ (λ i. c.args.memory.now.accesses ++ (joined_reads (most i) s.pending d m ++ done_write (done i) d))
    ∙ ap (λ (l : List ℕ). c.args.memory.now.accesses ++ taken_with_accesses Data t l s d) (sym is)

pub returns-clause-apart : goal.returns-clause-apart
returns-clause-apart g c = keeps_done _ _ _ _ _ _ _ _ _ c.join.ensures.reads c.conclude.ensures.listed c.requires.stands.place
