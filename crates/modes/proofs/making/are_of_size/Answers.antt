-- One memory more has the size.
use Rattle.std.proofs.Common.{rules, arith, ◌≡◌, ℕ, ◌+◌, ◌<◌, List, [], ◌∷◌, ◌++◌, length, map, take, replicate, get_or, sym, ap, ◌∙◌}
use Rattle.std.proofs.lemmas.List.{take_more, take_all, map-append, replicate_more}
use Rattle.modes.proofs.making.are_of_size.Goals as goal

one_more : {X : Type 0} (f : X → ℕ) (xs : List X) (i n : ℕ) (x : X) → i < length xs → x ≡ get_or xs i x → f x ≡ n
    → map f (take i xs) ≡ replicate i n → map f (take (i + 1) xs) ≡ replicate (i + 1) n
one_more f xs i n x less is size before =
    ap (map f) (take_more xs i x less) ∙ map-append f (take i xs) (get_or xs i x ∷ [])
    ∙ (λ k. before k ++ (ap f (sym is) ∙ size) k ∷ []) ∙ replicate_more i n

pub loop-memory-preserved : goal.loop-memory-preserved
loop-memory-preserved g c = one_more (λ m. length (g.M.GuestMem.bytes m)) c.args.memories.now c.loop-memory.memory-index c.args.size c.memory-item.result (search rules) c.memory-item.is (search rules) c.loop-memory.invariant

pub returns : goal.returns
returns g c =
    let all = c.args.memories.now in
    let i = c.loop-memory.memory-index in
    let many : i ≡ c.args.count = omega (arith, c.loop-memory-test.false, c.loop-memory.auto.memory-index-end, c.if-memories-from.false, c.from.ensures) in
    λ _. ap (map (λ m. length (g.M.GuestMem.bytes m))) (sym (take_all i all c.loop-memory-test.false)) ∙ c.loop-memory.invariant ∙ ap (λ (n : ℕ). replicate n c.args.size) many
