-- An entry that holds the key gives its pools, and any other gives none.
use Rattle.std.proofs.Common.{arith, ◌≡◌, sym, ◌∙◌}
use Rattle.pool_index.proofs.EntryLemmas.{none_held, none_given, held_more, given_same, given_more, unheld_not_given}
use Rattle.pool_index.proofs.table.found.Goals as goal
use Rattle.pool_index.proofs.table.found.Goals.{then-holds, else-holds}

pub loop-e-init : goal.loop-e-init
loop-e-init g c =
    let t = g.W.KeyedWords.entries c.args.words.now in
    (none_held t c.args.key, λ p h. none_given t c.args.key p)

pub loop-e-preserved : goal.loop-e-preserved
loop-e-preserved g c =
    let t = g.W.KeyedWords.entries c.args.words.now in
    let l = c.loop-e in (
      rw c.holds-holds.ensures (held_more l.is_held l.e t c.args.key l.invariant.0),
      λ p h. elim c.if-holds.branch [
        | then-holds w ↦ rw w.pools-is (given_more l.pools p l.e t c.args.key (l.invariant.1 p h) c.holds-holds.result c.holds-holds.ensures c.pools-given.result (c.pools-given.ensures p h) w.if-holds.true)
        | else-holds w ↦ rw w.pools-is (given_same l.pools p l.e t c.args.key (l.invariant.1 p h) c.holds-holds.result c.holds-holds.ensures w.if-holds.false)
      ],
    )

pub returns-else-is_held : goal.returns-else-is_held
returns-else-is_held g c =
    let t = g.W.KeyedWords.entries c.args.words.now in
    let end : c.loop-e.e ≡ g.row.N = omega (arith, c.loop-e.auto.e-end, c.loop-e-test.false) in
    let none = sym c.if-is_held.false ∙ (rw end at c.loop-e.invariant.0) in
    (none, λ p h. unheld_not_given g.row.N t c.args.key none p)
