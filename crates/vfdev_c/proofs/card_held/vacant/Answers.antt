-- As many vacant functions, and the pool of the number.
use Rattle.std.proofs.Common.{◌≡◌, ◌≤◌, ℕ, ◌&&◌, Bool, true, List, length, map, nat_le, replicate, ap, ◌∙◌, subst, arith, IfOk, Option}
use Rattle.std.proofs.lemmas.Bool.Decides.{nat_tests}
use Rattle.device.specs.Guests.{is_for_guests}
use Rattle.hosted.specs.Hosted.{host_of_ids}
use Rattle.card.specs.Card.{IsMade}
use Rattle.mapped_memory.specs.Regions.{Regions}
use Rattle.vfdev_c.proofs.CardLemmas.{no_memory_then, noted_vacant, pool_at, sizes_vacant, vacant_for_guests}
use Rattle.vfdev_c.proofs.card_held.vacant.Goals as goal

can : (ids sizes : List ℕ) (n : ℕ) → length ids ≤ 64 → 1 ≤ n → n ≤ 64 → sizes ≡ replicate n 0 → (nat_le (length ids) 64 && is_for_guests sizes) ≡ true
can ids sizes n few least most is =
    ap (λ (ss : List ℕ). nat_le (length ids) 64 && is_for_guests ss) is
    ∙ ap (λ (b : Bool). nat_le (length ids) 64 && b) (vacant_for_guests n least most)
    ∙ ap (λ (b : Bool). b && true) within
  where
    within : nat_le (length ids) 64 ≡ true
    within = grind (arith, nat_tests)

pub returns-clause-made : goal.returns-clause-made
returns-clause-made c =
    subst (λ (pool : Option ℕ). IfOk c.for_guests.result (IsMade (host_of_ids c.args.ids.now pool c.args.limit) c.args.offloads (replicate c.args.functions 0)))
    (pool_at c.new-default_pool.result c.args.default_function c.new-default_pool.ensures.variant c.new-default_pool.ensures.value)
    (subst (λ (sizes : List ℕ). IfOk c.for_guests.result (IsMade (host_of_ids c.args.ids.now c.new-default_pool.result c.args.limit) c.args.offloads sizes))
    (sizes_vacant c.args.functions c.in_ok-memories.memories.items c.in_ok-memories.ensures.ok)
    c.for_guests.ensures.made)

pub returns-clause-untouched : goal.returns-clause-untouched
returns-clause-untouched c =
    subst (λ noted. IfOk c.for_guests.result (λ made. made.hosted.device.accesses ≡ noted))
    (noted_vacant c.args.functions c.in_ok-memories.memories.items c.in_ok-memories.ensures.ok)
    c.for_guests.ensures.untouched

pub returns-clause-no_memory : goal.returns-clause-no_memory
returns-clause-no_memory c =
    no_memory_then c.for_guests.result (nat_le (length c.args.ids.now) 64 && is_for_guests (map (λ (m : Regions). length m.seen) c.in_ok-memories.memories.items))
    (can c.args.ids.now (map (λ (m : Regions). length m.seen) c.in_ok-memories.memories.items) c.args.functions c.requires.ids c.requires.least c.requires.most
    (sizes_vacant c.args.functions c.in_ok-memories.memories.items c.in_ok-memories.ensures.ok))
    c.for_guests.ensures.no_memory
