-- No memory so far was refused.
use Rattle.std.proofs.Common.{◌≡◌, length, map, drop}
use Rattle.std.specs.List.{list_all}
use Rattle.device.specs.Guests.{is_in_space}
use Rattle.device.proofs.guests.is_for_guests.Given as goal

-- the memories that are left decide
abbrev pub invariant-loop-memory : goal.invariant-loop-memory
invariant-loop-memory g l =
    list_all is_in_space (map (λ m. length (g.D.Dma.seen m)) (drop l.memory-index l.memories))
    ≡ list_all is_in_space (map (λ m. length (g.D.Dma.seen m)) l.memories)
