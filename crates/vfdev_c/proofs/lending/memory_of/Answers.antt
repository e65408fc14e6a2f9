-- A memory with one region, which is the block.
use Rattle.std.proofs.Common.{◌≡◌, ℕ, List, [], false, length, replicate, refl, sym, ap, subst, ◌∙◌}
use Rattle.std.proofs.lemmas.List.{length-replicate}
use Rattle.mapped_memory.specs.Regions.{Regions}
use Rattle.mapped_memory.specs.Mapping.{inserted, with_part}
use Rattle.vfdev_c.specs.Spans.{IsBlock, block_of}
use Rattle.vfdev_c.proofs.lending.memory_of.Goals as goal

made : (m : Regions) (bytes : List ℕ) → m ≡ with_part (record { parts = []; seen = replicate (length bytes) 0; accesses = [] }) (record { at = 0; bytes = bytes; is_read_only = false })
    → IsBlock m × (block_of m ≡ bytes)
unfolding IsBlock inserted
made m bytes is = subst (λ (m : Regions). IsBlock m × (block_of m ≡ bytes)) (sym is) ((refl, length-replicate (length bytes) 0, refl), refl)

both : (c : goal.In-Ok) → IsBlock c.map.new.self × (block_of c.map.new.self ≡ c.args.cells.now)
both c = made c.map.new.self c.args.cells.now (c.in-Ok.ensures.mapped ∙ ap (λ m. with_part m (record { at = 0; bytes = c.args.cells.now; is_read_only = false })) c.in_ok-memory.ensures.ok)

pub returns-clause-block : goal.returns-clause-block
returns-clause-block c = (both c).0

pub returns-clause-bytes : goal.returns-clause-bytes
returns-clause-bytes c = (both c).1
