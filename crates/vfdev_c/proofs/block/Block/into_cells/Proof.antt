-- `into_cells` lends the bytes for as long as the caller asks.
use Rattle.std.proofs.Common.{◌≡◌, ℕ, ◌*◌, ◌^◌, ◌<◌, List, [], ◌∷◌, ◌++◌, length, refl, sym, subst, arith, w64}
use base.Fraction.{full_share}
use base.Stored.{coded_list}
use mir.Syntax.{named}
use mir.Val.{Val, vptr, vint, vstruct, vcons, vnil, of_list}
use base.Logic.{SProp, ent, id⊢, never}
use base.Fml.{Lft, ftrue, fsep, feq, flft, fauth}
use prog.Wp.{WpFn}
use types.SemTy.{Arr, cells}
use types.Tokens.{name_new, bor_new}
use types.Kit.{‵, raw, ◌⊛◌, at_ret, ◌$◌, ◌∵◌, !, qed, move, keep, drop, split, join, fsplit, fjoin, fpick, fpack, feq_l, feq_i, flt_l, suffices, use1, use2, rewrite, done}
use types.Run.{stop, fld, of_opd, no_more, and_then, first, blocks, exec, returns, enter}
use types.ByLocal.{alloc_all, pass_all, free_all, look_at, get, get_in, sets, sets_last, env}
use types.Part.{agg, sub, whole}
use contract.Running.{tables}
use denote.Exit.{yes}
use denote.RattleType.{owns}
use denote.Memory.{mem}
use denote.RawPtr.{Ptr, ptr_val, in_a_block, lies_at}
use denote.RawPtr.Bytes.{bytes, bytes_apart}
use denote.Array.{Array}
use denote.Builtin.{u8}
use denote.Index.{whole_in}
use denote.Slice.{MutSlice, slice_val}
use denote.FollowSlice.{slice_of}
use denote.Signature.{Slot, types_at, plain}
use denote.Steps.{nothing}
use denote.Triple.Walked.{Stays, stay_dropped, says, walk_of, ends_at, Goes-dropped}
use Rattle.core.proofs.alloc.Shapes.{after}
use Rattle.std.proofs.raw_atomic.Walks.{proved_at}
use Rattle.vfdev_c.specs.contracts.block.Block.{the_row}
use Rattle.vfdev_c.specs.contracts.block.Block.into_cells.{ended, clauses}
use Rattle.vfdev_c.specs.contracts.block.Block.into_cells.Key.{name as #self}
use Rattle.vfdev_c.proofs.block.Block.into_cells.Statement.{statement}
use Rattle.vfdev_c.proofs.block.Block.into_cells.Code as code

abbrev From : Slot 1
From = plain (λ _. the_row)

abbrev both : Val → Val → Val
both v w = vstruct (vcons v (vcons w vnil))

pub into_cells_spec : {M : Type 1} → statement M
into_cells_spec 𝓤 𝓛 𝓜 𝓡 wired =
    let En = ended in let c = clauses 𝓛 𝓜.mem 𝓡.returns in let 𝓣 = tables 𝓤 𝓛.H 𝓜 𝓡 𝓡.env in let fn = code.function in
    let hs : Stays En.signature.params En.kept = (stay_dropped From yes, tt) in
    proved_at 𝓛 En hs c 𝓜 𝓡 (Goes-dropped 𝓛 1 From yes (λ κs x f. refl), tt) #self fn (code.unfolded 𝓤 𝓛.H 𝓜 𝓡 wired) (λ z are.
    let κ : Lft = z.0.0.0 in let q = z.0.1.0 in
    let v = z.0.3.0 in let xs : List ℕ = v.bytes in let Post : Val → SProp 𝓤 = (walk_of 𝓛 En hs c).post z in let Run : List Val → SProp 𝓤 = λ ws. WpFn 𝓤 𝓛.H 𝓣.C 𝓣.Λ fn ws Post in
    qed 𝓛 (((‵ (flft κ q) ⊛ ‵ ftrue) ⊛ ‵ (owns (types_at En.signature.params z.0.0) z.0.3 z.0.4)) ∷ raw ((c z.0.0 z.0.3).requires z.1) ∷ []) ∵ split ! $ split ! $ move ! (2 ∷ 0 ∷ []) $ fsplit ! $
    fsplit ! $ fpick ! (λ vss. fsplit ! $ feq_l ! (λ ev. fsplit ! $ feq_l ! (λ ep. fsplit ! $ fsplit ! $ feq_l ! (λ el. flt_l ! (λ fl. drop ! $
    in_a_block ! v.at (λ p. lies_at (Array u8 v.len) full_share p xs) (id⊢ 𝓤 (never 𝓤)) (λ b o e.
    use1 𝓛 (‵ (fsep (feq ℕ (length xs) v.len) (bytes full_share xs b o))) (bytes_apart 𝓛 full_share v.len xs b o) $ fsplit ! $ feq_l ! (λ en.
    use1 𝓛 (‵ (cells (mem u8) xs b o)) (whole_in 𝓛 u8 xs b o) $
    let w : Val = both (vptr b o) (vint w64 v.len) in
    let small : v.len < 2 ^ 63 = v.small in
    let n : length xs < 2 ^ 63 = subst (λ (m : ℕ). m < 2 ^ 63) (sym en) small in
    let fits : length xs < 2 ^ 64 = omega (arith, n) in let room : length xs * 1 < 2 ^ 63 = omega (arith, n) in
    let told : z.0.4.0 ≡ w ∷ [] =
    subst (λ (p : Ptr). z.0.4.0 ≡ both (ptr_val p) (vint w64 v.len) ∷ []) e
    (subst (λ (ls : List Val). z.0.4.0 ≡ vstruct (of_list (ptr_val v.at ∷ (ls ++ []))) ∷ []) el (subst (λ (ps : List Val). z.0.4.0 ≡ vstruct (of_list (ps ++ (vss.1.0 ++ []))) ∷ []) ep ev)) in
    keep ! (0 ∷ 2 ∷ []) $
    suffices ! (Run (w ∷ [])) (subst (λ (us : List Val). ent 𝓤 (Run (w ∷ [])) (Run us)) (sym (λ i. told i ++ [])) (id⊢ 𝓤 (Run (w ∷ [])))) $
    enter ! 𝓣.C 𝓣.Λ fn (w ∷ []) Post $ alloc_all ! (λ l. pass_all ! refl ((tt, (tt, (record { fits = fl }, tt))), tt) $
    let Ev = env fn.locals l in
    sets ! (of_opd ! (get_in ! (fld ! refl (stop !)) (sub ! 0 refl (whole !)))) refl (tt, tt) $
    sets ! (of_opd ! (get_in ! (fld ! refl (stop !)) (sub ! 1 refl (whole !)))) refl (tt, record { fits = fl }) $
    first ! $ blocks ! $ sets_last ! (agg ! (and_then ! (get ! refl) (and_then ! (get ! refl) (no_more !)))) refl (tt, (tt, (record { fits = fl }, tt))) $
    exec ! 𝓣.C 𝓣.Λ Ev (after 3 fn.body) (at_ret Ev Post) $
    feq_i ! ℕ (length xs) (length xs) refl $ fjoin ! $
    name_new ! tt ((coded_list u8.coded).code xs) (λ γ. move ! (2 ∷ 1 ∷ []) $ fjoin ! $
    fpack ! (List ℕ) (λ (ys : List ℕ). fsep ((Arr (mem u8) (length xs)).own_at ys b o) (fauth γ ((Arr (mem u8) (length xs)).coded.code ys))) xs $ bor_new ! tt κ $
    sets ! (of_opd ! (get ! refl)) refl (tt, (tt, (record { fits = fl }, tt))) $
    let r : (MutSlice (named 0) κ u8).Denot = record { ref_ptr = (b, o); ghost_name = γ; now = xs } in
    move ! (2 ∷ 0 ∷ []) $ use2 𝓛 (‵ ((MutSlice (named 0) κ u8).own_val r (slice_val (b, o) (length xs) ∷ []))) (slice_of 𝓛 u8 (named 0) κ b o γ xs (fits, room)) $
    rewrite ! 0 (λ (j : ℕ). ‵ ((MutSlice (named 0) κ u8).own_val r (slice_val (b, o) j ∷ []))) en refl $
    returns ! (look_at ! 0 refl) $ free_all ! refl $ keep ! (0 ∷ 2 ∷ []) $
    suffices ! _ (ends_at 𝓛 En hs c z (slice_val (b, o) v.len) r (tt, tt) (tt, tt)) $ says ! refl $
    nothing ! $ nothing ! $ fjoin ! $ join ! $ nothing ! $ move ! (2 ∷ 0 ∷ []) $ join ! $ join ! $ done !))))))))))
