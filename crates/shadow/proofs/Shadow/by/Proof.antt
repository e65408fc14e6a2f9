-- `by` makes a value of no bytes, whose ghost field is what the source shows.
use mathlib.Core.Path.{refl}
use mathlib.Core.List.{[], ◌∷◌}
use mir.Syntax.{a_type, dcons, dnil, named}
use mir.Val.{Val, vptr, vstruct, vcons, vnil}
use mir.MapTy.{inst_fn}
use base.Fml.{Fml}
use prog.Wp.{WpFn, Tables}
use contract.Running.{tables, tables_of}
use sound.WpLaws.{WpFn-mono}
use types.Kit.{‵, raw, ◌⊛◌, ◌$◌, ◌∵◌, !, qed, move, keep, split, join, fjoin, use0, suffices, done}
use types.Run.{no_more, and_then, returns, enter}
use types.Part.{agg}
use types.ByLocal.{alloc_all, pass_all, free_all, look_at, get, sets}
use denote.RattleType.{owns}
use denote.Exit.{yes}
use denote.Param.{param, bounded}
use denote.Ref.{shr_vals, shr_Tells}
use denote.Shadow.{makes_shadow}
use denote.Builtin.{RefOf}
use denote.Signature.{Slot, types_at, type_at, plain}
use denote.Steps.{nothing}
use denote.Triple.Clauses.{closing}
use denote.Triple.Entry.{alive, Res}
use denote.Triple.Spec.{triple_of}
use denote.Triple.Table.{entered}
use denote.Triple.Walked.{says, Stays, stay_dropped, walk_of, walked, ends_at, Goes-dropped, walk_Meets}
use Rattle.shadow.specs.contracts.Shadow.by.{ended, clauses}
use Rattle.shadow.specs.contracts.Shadow.by.Key.{name as #self}
use Rattle.shadow.proofs.Shadow.by.Statement.{statement}
use Rattle.shadow.proofs.Shadow.by.Code as code

pub by_spec : {M : Type 1} → statement M
unfolding tables_of
by_spec 𝓤 𝓛 𝓜 𝓡 wired T S _ _ g d _ =
    let H = 𝓛.H in let 𝓣 : Tables 𝓤 H = tables_of 𝓤 H 𝓜 (tables 𝓤 H 𝓜 𝓡 𝓡.env) in
    let at_types = bounded (a_type ∷ a_type ∷ []) (T, (S, tt)) (dcons d dnil) in let function = inst_fn at_types code.function in
    let En = ended T S g d in let c = clauses T S g d 𝓛 𝓜.mem 𝓡.returns in
    let source : Slot 3 = RefOf (0 ∷ []) tt (plain (λ _. param 1 S)) (λ _. tt) in let hs : Stays En.signature.params En.kept = (stay_dropped source yes, tt) in
    let run = WpFn 𝓤 H 𝓣.C 𝓣.Λ function in
    entered 𝓤 H (triple_of 𝓛 En.signature (closing 𝓛 En c)) 𝓣.C 𝓣.Λ (#self at_types) function (code.unfolded 𝓤 H 𝓜 𝓡 wired (T, (S, tt)) d)
    (walk_Meets 𝓛 En hs (Goes-dropped 𝓛 3 source yes (λ κs x f. refl), tt) c run (WpFn-mono 𝓤 H 𝓛.laws 𝓣 function)
    (walked 𝓛 En hs c run (λ κs. (shr_vals, tt)) (λ κs. (shr_Tells (named 0) κs.0 (param 1 S), tt)) (λ κs qs bounds a gh are.
    let at : Val = vptr a.0.ref_ptr.0 a.0.ref_ptr.1 in let v : Val = vstruct (vcons (vstruct vnil) vnil) in
    let r : Res En.signature κs = record { marker = record {}; value = g.shown a.0.now } in
    let made : Fml = (type_at En.signature.result κs).own_val r (v ∷ []) in
    let y : (walk_of 𝓛 En hs c).Ghost = ((κs, qs, bounds, a, (at ∷ [], tt)), gh) in
    qed 𝓛 ((raw (alive 𝓛 En.signature κs qs) ⊛ ‵ (owns (types_at En.signature.params κs) a y.0.4)) ∷ raw ((c κs a).requires gh) ∷ []) ∵ split ! $ keep ! (0 ∷ []) $
    enter ! 𝓣.C 𝓣.Λ function (at ∷ []) ((walk_of 𝓛 En hs c).post y) $ alloc_all ! (λ l. pass_all ! refl ((tt, tt), tt) $
    sets ! (agg ! (no_more !)) refl (tt, tt) $ sets ! (agg ! (and_then ! (get ! refl) (no_more !))) refl (tt, (tt, tt)) $
    returns ! (look_at ! 0 refl) $ free_all ! refl $
    use0 𝓛 (‵ made) (makes_shadow 𝓛 made ((λ vss. (tt, ((λ uss. (tt, tt)), tt))), tt) (((vstruct vnil ∷ [], tt), (refl, ((tt, (refl, tt)), tt))), tt)) $
    suffices ! _ (ends_at 𝓛 En hs c y v r (tt, tt) (tt, tt)) $ says ! refl $
    nothing ! $ nothing ! $ fjoin ! $ join ! $ move ! (1 ∷ 0 ∷ []) $ join ! $ done !))))
