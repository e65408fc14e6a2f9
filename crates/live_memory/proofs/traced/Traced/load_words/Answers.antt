-- One access read the words, and their bytes are those that were answered.
use Rattle.std.proofs.Common.{◌≡◌, ◌+◌, ◌≤◌, ℕ, List, [], ◌∷◌, ◌++◌, length, slice_range, sym, ap, subst, ◌∙◌}
use Rattle.guest_memory.specs.Memory.{overwrite, two_words}
use Rattle.live_memory.specs.Trace.{Read, HasRead, with_access}
use Rattle.live_memory.proofs.Reading.{has_read}
use Rattle.live_memory.proofs.Written.{written_there}
use Rattle.live_memory.proofs.traced.Traced.load_words.Given as given
use Rattle.live_memory.proofs.traced.Traced.load_words.Goals as goal

fits : (g : given.Over) (c : goal.After-self-1 g) → c.args.addr + 16 ≤ length (g.D.Dma.seen c.self.inside.memory)
fits g c = subst (λ m. c.args.addr + 16 ≤ length (g.D.Dma.seen m.memory)) (sym c.self.view_is) c.requires

answered : (g : given.Over) (c : goal.After-self-1 g) → two_words c.load_words-low.result.0 c.load_words-low.result.1 ≡ g.D.Dma.answer c.self.inside.memory c.args.addr 16
answered g c =
    let was = c.self.inside.memory in
    c.load_words-low.ensures.both ∙ ap (λ (m : List ℕ). slice_range m c.args.addr (c.args.addr + 16)) c.load_words-low.ensures.seen
    ∙ written_there c.args.addr 16 (g.D.Dma.answer was c.args.addr 16) (g.D.Dma.seen was) (g.D.Dma.whole was c.args.addr 16 (fits g c)) (fits g c)

pub returns-clause-seen : goal.returns-clause-seen
returns-clause-seen g c =
    subst (λ m. g.D.Dma.seen c.load_words-low.new.self ≡ overwrite c.args.addr (two_words c.load_words-low.result.0 c.load_words-low.result.1) (g.D.Dma.seen m.memory)) c.self.view_is
    (c.load_words-low.ensures.seen ∙ ap (λ (bytes : List ℕ). overwrite c.args.addr bytes (g.D.Dma.seen c.self.inside.memory)) (sym (answered g c)))

pub returns-clause-read : goal.returns-clause-read
returns-clause-read g c =
    let was = c.self.inside.memory in
    let listed = c.trace-self-inside.ensures ∙ ap (λ (bytes : List ℕ). c.self.inside.trace.accesses ++ Read c.args.addr bytes ∷ []) (c.bytes_of_two.ensures.value ∙ answered g c) in
    subst (λ m. HasRead g.D.Dma.shared (g.D.Dma.seen m.memory) (g.D.Dma.seen c.load_words-low.new.self) m.accesses c.trace-self-inside.result.accesses) c.self.view_is
    (has_read g.D.Dma.shared _ _ c.args.addr 16 (g.D.Dma.answer was c.args.addr 16) _ _ c.load_words-low.ensures.seen listed (g.D.Dma.whole was c.args.addr 16 (fits g c)) (fits g c) (g.D.Dma.steady was c.args.addr 16))

pub returns-clause-answer : goal.returns-clause-answer
returns-clause-answer g c = subst (λ m. two_words c.load_words-low.result.0 c.load_words-low.result.1 ≡ g.D.Dma.answer m.memory c.args.addr 16) c.self.view_is (answered g c)

pub returns-clause-noted : goal.returns-clause-noted
returns-clause-noted g c =
    subst (λ m. g.D.Dma.noted c.load_words-low.new.self ≡ with_access g.D.Dma.shared (g.D.Dma.noted m.memory) (Read c.args.addr (two_words c.load_words-low.result.0 c.load_words-low.result.1))) c.self.view_is
    (c.load_words-low.ensures.noted ∙ ap (λ (bytes : List ℕ). with_access g.D.Dma.shared (g.D.Dma.noted c.self.inside.memory) (Read c.args.addr bytes)) (sym (answered g c)))
