-- A write within a page that is stored changes the bytes only where it is.
use Rattle.std.proofs.Common.{ℕ, ◌+◌, ◌*◌, ◌%◌, ◌≤◌, length, arith, ap, ◌∙◌}
use Rattle.guest_memory.specs.Memory.{word_bytes}
use Rattle.guest_memory.proofs.PagesLemmas.{length_paged, write_stored}
use Rattle.guest_memory.proofs.WordsLemmas.{length_word}
use Rattle.guest_memory.proofs.flat.FlatMemGuestMem.write_word.Goals as goal

pub returns-then-start-le-PAGE-clause-written : goal.returns-then-start-le-PAGE-clause-written
returns-then-start-le-PAGE-clause-written c =
    let ends : c.args.addr + length (word_bytes c.args.word) ≤ c.self.inside.size = grind (arith, length_paged, length_word) in
    let place = c.place-place.ensures in
    rw (c.write_word_within.ensures.cells, ← c.self.view_is) (write_stored _ _ _ _ _ _ _ _ c.self.invariant (ap (λ (n : ℕ). n * 2048 + c.args.addr % 2048) place) (omega (arith, length_word c.args.word, c.if-start-le-PAGE.true)) ends (λ mark. c.if-place.true (place ∙ mark)))
