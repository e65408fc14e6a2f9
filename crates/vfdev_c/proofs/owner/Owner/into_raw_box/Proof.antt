-- `into_raw_box` gives the pointer back, with what it owns.
use Rattle.std.proofs.Common.{◌≡◌, List, [], ◌∷◌, ◌++◌, refl, sym, subst, true, Option, is_some}
use mir.Val.{Val, vptr}
use mir.Raw.{raw as bare}
use base.Logic.{SProp, ent, id⊢, never, fst∗}
use types.Logic.{sem}
use denote.Memory.{lone}
use Rattle.std.specs.Box.Ownership.{box_owns}
use Rattle.core.proofs.alloc.Calls.{handle_tells}
use base.Fml.{ftrue}
use prog.Wp.{WpFn}
use types.Kit.{fpick, ‵, raw, ◌⊛◌, ◌$◌, ◌∵◌, !, qed, move, keep, drop, split, join, fsplit, fjoin, suffices, use1, rewrite, done}
use types.Run.{stop, fld, of_opd, no_more, and_then, returns, enter}
use types.ByLocal.{alloc_all, pass_all, free_all, look_at, get, get_in, sets}
use types.Part.{agg, sub, whole}
use contract.Monad.{fact}
use contract.Running.{tables}
use denote.Exit.{yes}
use denote.RattleType.{owns}
use denote.RawPtr.{Ptr, block_ptr, null_ptr, ptr_val, in_a_block}
use denote.Signature.{Slot, types_at, plain}
use denote.Steps.{nothing, heard}
use denote.Triple.Walked.{Stays, stay_dropped, says, walk_of, ends_at, Goes-dropped}
use Rattle.std.proofs.raw_atomic.Walks.{proved_at}
use Rattle.std_heap.specs.contracts.Global as heap
use Rattle.std_heap.specs.contracts.GlobalAllocator.TheImpl.{ghosts}
use Rattle.std_heap.proofs.Global.TheLaws as heap_laws
use Rattle.vfdev_c.specs.Ownership.{state_row, state_owns}
use Rattle.vfdev_c.proofs.Values.{some_of, both, al, RawBox, loose_good, loose_in, Owner, single, single_good, owner_out}
use Rattle.vfdev_c.specs.contracts.owner.Owner.into_raw_box.{ended, clauses}
use Rattle.vfdev_c.specs.contracts.owner.Owner.into_raw_box.Key.{name as #self}
use Rattle.vfdev_c.proofs.owner.Owner.into_raw_box.Statement.{statement}
use Rattle.vfdev_c.proofs.owner.Owner.into_raw_box.Code as code

abbrev From : Slot 0
From = plain (λ _. Owner)

abbrev Heap : Slot 0
Heap = plain (λ _. heap.the_row)

pub into_raw_box_spec : {M : Type 1} → statement M
into_raw_box_spec 𝓤 𝓛 𝓜 𝓡 wired =
    let En = ended in let c = clauses 𝓛 𝓜.mem 𝓡.returns in let 𝓣 = tables 𝓤 𝓛.H 𝓜 𝓡 𝓡.env in let fn = code.function in
    let hs : Stays En.signature.params En.kept = (stay_dropped From yes, (stay_dropped Heap yes, tt)) in
    proved_at 𝓛 En hs c 𝓜 𝓡 (Goes-dropped 𝓛 0 From yes (λ κs x f. refl), (Goes-dropped 𝓛 0 Heap yes (λ κs x f. refl), tt)) #self fn (code.unfolded 𝓤 𝓛.H 𝓜 𝓡 wired) (λ z are.
    let v = z.0.3.0 in let a = z.0.3.1.0 in let Post : Val → SProp 𝓤 = (walk_of 𝓛 En hs c).post z in let Run : List Val → SProp 𝓤 = λ ws. WpFn 𝓤 𝓛.H 𝓣.C 𝓣.Λ fn ws Post in
    qed 𝓛 ((‵ ftrue ⊛ ‵ (owns (types_at En.signature.params z.0.0) z.0.3 z.0.4)) ∷ raw ((c z.0.0 z.0.3).requires z.1) ∷ []) ∵ split ! $ drop ! $ fsplit ! $ move ! (2 ∷ []) $
    use1 𝓛 (raw (fact 𝓤 (is_some v.held ≡ true))) (id⊢ 𝓤 _) $ heard ! (is_some v.held ≡ true) (λ live. let s = some_of v.held live in owner_out ! v z.0.4.0 (λ ws.
    rewrite ! 0 (λ (y : Option state_row.Denot). ‵ (state_owns v.at y)) s.1 refl $
    fpick ! (λ heap'. in_a_block ! v.at (λ p. box_owns (ghosts.dealloc_token heap') state_row p s.0) (fst∗ 𝓤 (never 𝓤) (sem 𝓛 (ghosts.dealloc_token heap' (bare (lone state_row.mir)) null_ptr))) (λ b o e.
    move ! (1 ∷ []) $ fsplit ! $ handle_tells (al state_row heap.the_row heap_laws.the_row_laws ghosts) ! a z.0.4.1.0 (λ h ea fits.
    let w : Val = single (vptr b o) in let made : (RawBox state_row heap.the_row heap_laws.the_row_laws ghosts).Denot = record { at = block_ptr b o; alloc = a; value = s.0 } in
    let told : z.0.4.0 ≡ w ∷ [] = subst (λ (p : Ptr). z.0.4.0 ≡ single (ptr_val p) ∷ []) e ws in
    let good = loose_good state_row heap.the_row heap_laws.the_row_laws ghosts b o h fits in
    keep ! (2 ∷ 0 ∷ []) $
    suffices ! (Run (w ∷ h ∷ [])) (subst (λ (us : List Val). ent 𝓤 (Run (w ∷ h ∷ [])) (Run us)) (sym (λ i. told i ++ (ea i ++ []))) (id⊢ 𝓤 (Run (w ∷ h ∷ [])))) $
    enter ! 𝓣.C 𝓣.Λ fn (w ∷ h ∷ []) Post $ alloc_all ! (λ l. pass_all ! refl (single_good (block_ptr b o), (fits, tt)) $
    sets ! (of_opd ! (get_in ! (fld ! refl (stop !)) (sub ! 0 refl (whole !)))) refl (tt, tt) $
    sets ! (of_opd ! (get ! refl)) refl (tt, tt) $
    sets ! (agg ! (and_then ! (get ! refl) (and_then ! (get ! refl) (no_more !)))) refl good $
    returns ! (look_at ! 0 refl) $ free_all ! refl $ loose_in state_row heap.the_row heap_laws.the_row_laws ghosts ! b o h a s.0 $
    suffices ! _ (ends_at 𝓛 En hs c z (both (vptr b o) h) made (tt, (tt, tt)) (tt, (tt, tt))) $ says ! (sym s.1) $
    nothing ! $ nothing ! $ fjoin ! $ nothing ! $ fjoin ! $ join ! $ nothing ! $ join ! $ done !)))))))
