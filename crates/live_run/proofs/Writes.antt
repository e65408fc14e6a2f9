-- What is kept for a function of the writes of all functions is its own writes.
use Rattle.std.proofs.Common.{◌≡◌, ◌≢◌, ℕ, zero, suc, ◌+◌, ◌<◌, ◌≤◌, ◌⊎◌, inl, inr, true, false, eqb, List, [], ◌∷◌, ◌++◌, map, arith, refl, ap, ◌∙◌}
use Rattle.std.proofs.lemmas.Bool.Decides.{eqb_tells}
use Rattle.std.proofs.lemmas.List.{append-nil}
use Rattle.std.specs.List.{range_with_len}
use Rattle.guest_memory.specs.Memory.{Write}
use Rattle.live_memory.specs.Trace.{reads, since}
use Rattle.device.specs.declared.event.Event.TheVariants.{MemWrite}
use Rattle.device.specs.World.{World, step, world_after}
use Rattle.device.specs.Lone.{Item, OwnEvent, keep}
use Rattle.device.specs.Live.{trace_of, own_writes, writes_of}
use Rattle.live_run.specs.Live.{Noted}
use Rattle.device.proofs.Append.{keep_append}

own_kept : (p : ℕ) (w : World) (ws : List Write) → eqb p p ≡ true → keep p w (map (λ v. MemWrite p v.at v.bytes) ws) ≡ map OwnEvent (map (λ v. MemWrite p v.at v.bytes) ws)
own_kept p w [] same = refl
own_kept p w (v ∷ ws) same = rw same (ap (λ (ks : List Item). OwnEvent (MemWrite p v.at v.bytes) ∷ ks) (own_kept p (step w (MemWrite p v.at v.bytes)).world ws same))

others_kept : (p q : ℕ) (w : World) (ws : List Write) → eqb q p ≡ false → keep p w (map (λ v. MemWrite q v.at v.bytes) ws) ≡ []
others_kept p q w [] other = refl
others_kept p q w (v ∷ ws) other = rw other (others_kept p q (step w (MemWrite q v.at v.bytes)).world ws other)

-- none of the pools from a on is p
none_kept : (p a m : ℕ) (b t : Noted) (w : World) → p < a → keep p w (writes_of b t (range_with_len a m)) ≡ []
none_kept p a zero b t w before = refl
none_kept p a (suc m) b t w before =
    keep_append p w (own_writes b t a) (writes_of b t (range_with_len (a + 1) m))
    ∙ (λ i. others_kept p a w (reads (since (trace_of b a) (trace_of t a))) (other (eqb_tells a p)) i ++ none_kept p (a + 1) m b t (world_after w (own_writes b t a)) (omega (arith, before)) i)
  where
    other : ((eqb a p ≡ true) × (a ≡ p)) ⊎ ((eqb a p ≡ false) × (a ≢ p)) → eqb a p ≡ false
    other (inl same) = absurd (omega (arith, before, same.1))
    other (inr not) = not.0

here_kept : (p m : ℕ) (b t : Noted) (w : World) → keep p w (writes_of b t (p ∷ range_with_len (p + 1) m)) ≡ map OwnEvent (own_writes b t p)
here_kept p m b t w =
    keep_append p w (own_writes b t p) (writes_of b t (range_with_len (p + 1) m))
    ∙ (λ i. own_kept p w (reads (since (trace_of b p) (trace_of t p))) (mine (eqb_tells p p)) i ++ none_kept p (p + 1) m b t (world_after w (own_writes b t p)) (omega arith) i)
    ∙ append-nil (map OwnEvent (own_writes b t p))
  where
    mine : ((eqb p p ≡ true) × (p ≡ p)) ⊎ ((eqb p p ≡ false) × (p ≢ p)) → eqb p p ≡ true
    mine (inl same) = same.0
    mine (inr other) = absurd (other.1 refl)

before_kept : (p a m : ℕ) (b t : Noted) (w : World) → eqb a p ≡ false → ((v : World) → keep p v (writes_of b t (range_with_len (a + 1) m)) ≡ map OwnEvent (own_writes b t p)) → keep p w (writes_of b t (a ∷ range_with_len (a + 1) m)) ≡ map OwnEvent (own_writes b t p)
before_kept p a m b t w other rest =
    keep_append p w (own_writes b t a) (writes_of b t (range_with_len (a + 1) m))
    ∙ (λ i. others_kept p a w (reads (since (trace_of b a) (trace_of t a))) other i ++ rest (world_after w (own_writes b t a)) i)

pub kept_writes : (p a m : ℕ) (b t : Noted) (w : World) → a ≤ p → p < a + m → keep p w (writes_of b t (range_with_len a m)) ≡ map OwnEvent (own_writes b t p)
kept_writes p a zero b t w from to = absurd (omega (arith, from, to))
kept_writes p a (suc m) b t w from to = at (eqb_tells a p) (λ other v. kept_writes p (a + 1) m b t v (omega (arith, from, other)) (omega (arith, to)))
  where
    at : ((eqb a p ≡ true) × (a ≡ p)) ⊎ ((eqb a p ≡ false) × (a ≢ p)) → (a ≢ p → (v : World) → keep p v (writes_of b t (range_with_len (a + 1) m)) ≡ map OwnEvent (own_writes b t p)) → keep p w (writes_of b t (range_with_len a (suc m))) ≡ map OwnEvent (own_writes b t p)
    at (inl same) rest = ap (λ (k : ℕ). keep p w (writes_of b t (k ∷ range_with_len (k + 1) m))) same.1 ∙ here_kept p m b t w
    at (inr other) rest = before_kept p a m b t w other.0 (rest other.1)
