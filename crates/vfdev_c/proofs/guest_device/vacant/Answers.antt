-- As many vacant functions.
use Rattle.std.proofs.Common.{◌≡◌, ◌≤◌, ℕ, ◌&&◌, Bool, true, List, length, map, replicate, ap, ◌∙◌, subst, arith, IfOk}
use Rattle.std.proofs.lemmas.Bool.Decides.{nat_tests}
use Rattle.device.specs.Guests.{is_for_guests}
use Rattle.device.specs.World.{fresh_with, is_frame_limit}
use Rattle.mapped_memory.specs.Regions.{Regions}
use Rattle.vfdev_c.proofs.CardLemmas.{no_memory_then, noted_vacant, sizes_vacant, vacant_for_guests}
use Rattle.vfdev_c.proofs.guest_device.vacant.Goals as goal

can : (limit : ℕ) (sizes : List ℕ) (n : ℕ) → 1518 ≤ limit → limit ≤ 9018 → 1 ≤ n → n ≤ 64 → sizes ≡ replicate n 0 → (is_frame_limit limit && is_for_guests sizes) ≡ true
can limit sizes n short long least most is =
    ap (λ (ss : List ℕ). is_frame_limit limit && is_for_guests ss) is
    ∙ ap (λ (b : Bool). is_frame_limit limit && b) (vacant_for_guests n least most)
    ∙ ap (λ (b : Bool). b && true) within
  where
    within : is_frame_limit limit ≡ true
    within = grind (arith, nat_tests)

pub returns-clause-made : goal.returns-clause-made
returns-clause-made c =
    subst (λ (sizes : List ℕ). IfOk c.for_guests.result (λ made. made.world ≡ fresh_with (record { limit = c.args.limit; offloads = c.args.offloads }) sizes))
    (sizes_vacant c.args.functions c.in_ok-memories.memories.items c.in_ok-memories.ensures.ok)
    c.for_guests.ensures.ok

pub returns-clause-untouched : goal.returns-clause-untouched
returns-clause-untouched c =
    subst (λ noted. IfOk c.for_guests.result (λ made. made.accesses ≡ noted))
    (noted_vacant c.args.functions c.in_ok-memories.memories.items c.in_ok-memories.ensures.ok)
    c.for_guests.ensures.untouched

pub returns-clause-no_memory : goal.returns-clause-no_memory
returns-clause-no_memory c =
    no_memory_then c.for_guests.result (is_frame_limit c.args.limit && is_for_guests (map (λ (m : Regions). length m.seen) c.in_ok-memories.memories.items))
    (can c.args.limit (map (λ (m : Regions). length m.seen) c.in_ok-memories.memories.items) c.args.functions c.requires.shortest c.requires.longest c.requires.least c.requires.most
    (sizes_vacant c.args.functions c.in_ok-memories.memories.items c.in_ok-memories.ensures.ok))
    c.for_guests.ensures.no_memory
