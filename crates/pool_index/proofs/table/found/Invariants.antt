-- What is found is what the entries up to here say.
use Rattle.std.proofs.Common.{◌≡◌, ℕ, ◌<◌}
use Rattle.wire_frame.specs.Bits.{has_bit}
use Rattle.pool_index.specs.Entries.{is_held, is_given}
use Rattle.pool_index.proofs.table.found.Given as goal

abbrev pub invariant-loop-e : goal.invariant-loop-e
invariant-loop-e g l =
    let t = g.W.KeyedWords.entries l.words in
    (l.is_held ≡ is_held l.e t l.key) × ((p : ℕ) → p < 64 → has_bit l.pools p ≡ is_given l.e t p l.key)
