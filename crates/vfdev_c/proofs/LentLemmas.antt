-- Blocks that are lent, and the device over them.
use Rattle.std.proofs.Common.{◌≡◌, ℕ, suc, true, List, [], ◌∷◌, ◌++◌, length, map, refl, sym, ap, subst, ◌∙◌}
use Rattle.std.specs.Prelude.{Some}
use Rattle.mapped_memory.specs.Regions.{Regions}
use Rattle.device.specs.Events.{Event}
use Rattle.device.specs.declared.response.Response.{Response}
use Rattle.device.specs.declared.room.Room.{Room}
use Rattle.device.specs.Accesses.{accesses_by}
use Rattle.device.specs.Live.{TracedWorld, AreListed, TakesLive}
use Rattle.device.specs.World.{World, step}
use Rattle.device.proofs.LiveLemmas.{length_told}
use Rattle.vfdev_c.specs.declared.lending.BlockSpan.{BlockSpan}
use Rattle.vfdev_c.specs.Spans.{span, lent, one_more, block_of, blocks_of, IsBlock, AreBlocks, no_access}
use Rattle.vfdev_c.specs.declared.handed.Handed.{Handed}
use Rattle.vfdev_c.specs.declared.handle_state.HandleState.TheVariants.{Lent}
use Rattle.vfdev_c.specs.declared.wanted.Wanted.{Wanted}
use Rattle.vfdev_c.specs.Handle.{IsolatedStep}
use Rattle.vfdev_c.specs.LentWorld.{met_by, AreAllListed, AreOnce}
use Rattle.vfdev_c.specs.Recorded.{kept_as}
use Rattle.vfdev_c.specs.Wanted.{event_in, Hands, HandsOver, IsWanted}
use Rattle.vfdev_c.proofs.HandleLemmas.{Isolates}
use Rattle.vfdev_c.proofs.WantedLemmas.{Comes, alike, comes_of}

-- ---- one block more

pub blocks_more : (ms : List Regions) (m : Regions) → AreBlocks ms → IsBlock m → AreBlocks (ms ++ m ∷ [])
unfolding AreBlocks
blocks_more [] m are is = (is, tt)
blocks_more (n ∷ ms) m are is = (are.0, blocks_more ms m are.1 is)

-- they have the lengths of the blocks
pub sizes_of_blocks : (ms : List Regions) → AreBlocks ms → map (λ (m : Regions). length m.seen) ms ≡ map length (blocks_of ms)
unfolding AreBlocks IsBlock
sizes_of_blocks [] are = refl
sizes_of_blocks (m ∷ ms) are = λ i. are.0.1 i ∷ sizes_of_blocks ms are.1 i

-- and no access was made to them
pub untouched_blocks : (ms : List Regions) → AreBlocks ms → map (λ (m : Regions). m.accesses) ms ≡ map no_access (blocks_of ms)
unfolding AreBlocks IsBlock
untouched_blocks [] are = refl
untouched_blocks (m ∷ ms) are = λ i. are.0.2 i ∷ untouched_blocks ms are.1 i

-- and there are as many
pub as_many : (ms : List Regions) → length (blocks_of ms) ≡ length ms
as_many [] = refl
as_many (m ∷ ms) = ap suc (as_many ms)

-- what was lent, with one block more
pub lent_more : (ms : List Regions) (spans : List BlockSpan) (m : Regions) (address len : ℕ) → IsBlock m → len ≡ length m.seen
    → lent (blocks_of (ms ++ m ∷ [])) (spans ++ span address len ∷ []) ≡ one_more (lent (blocks_of ms) spans) address (block_of m)
unfolding IsBlock
lent_more ms spans m address len is same = λ i. lent (blocks ms i) (spans ++ span address ((same ∙ is.1) i) ∷ [])
  where
    blocks : (ms : List Regions) → blocks_of (ms ++ m ∷ []) ≡ blocks_of ms ++ block_of m ∷ []
    blocks [] = refl
    blocks (n ∷ ms) = ap (λ xs. block_of n ∷ xs) (blocks ms)

-- ---- the device over them

-- the law holds of the world that a call met
isolated_met : (old new : TracedWorld) (e : Event) → new.world ≡ (step (met_by old new).world e).world → Isolates old.world → IsolatedStep (met_by old new).world e new.world
isolated_met old new e is law =
    subst (λ v. IsolatedStep (met_by old new).world e v) (sym is) (law (met_by old new).world e (length_told old.accesses new.accesses old.world.functions))

-- what comes of an event in the world that was met, and whose accesses are listed, is handed on
pub lent_from : (seen old new : TracedWorld) (e : Event) (handed : Handed) (before after : List ℕ) → seen ≡ old → Comes (met_by seen new).world e new.world handed before after
    → AreAllListed seen e new → AreOnce seen new → Isolates seen.world → Hands (Some (Lent old)) e (Some (Lent new)) handed before after
lent_from seen old new e handed before after is comes listed once law = subst (λ old. Hands (Some (Lent old)) e (Some (Lent new)) handed before after) is record {
  gives = record {
    called = record {
      held = ap (λ (v : World). Some (Lent (record { world = v; accesses = new.accesses }))) comes.world;
      replied = comes.replied;
      isolated = isolated_met seen new e comes.world law;
      once = once;
      listed = listed;
    };
    raises = comes.raises;
  };
  left = comes.left;
  frame = comes.frame;
  bytes = comes.bytes;
}

-- it takes an event
pub lent_hands : (seen old new : TracedWorld) (wanted : Wanted) (d : Event) (response : Response) (room : Room) (handed : Handed) (before after : List ℕ) → seen ≡ old → IsWanted wanted
    → d ≡ kept_as (event_in wanted) → TakesLive true seen.accesses new.accesses seen.world d new.world response room → AreAllListed seen d new
    → HandsOver response room handed before after → Isolates seen.world → Hands (Some (Lent old)) (event_in wanted) (Some (Lent new)) handed before after
lent_hands seen old new wanted d response room handed before after is wants so takes listed over =
    let w = (met_by seen new).world in
    let same = ap (accesses_by w) so ∙ (alike w wanted wants).lists in
    lent_from seen old new (event_in wanted) handed before after is (comes_of w new.world wanted d response room handed before after wants so takes.takes over)
    (subst (λ own. AreListed own seen.accesses new.accesses) same listed) takes.met
