-- `none` makes a null pointer, which owns nothing.
use Rattle.std.proofs.Common.{[], ◌∷◌, refl, None}
use mir.Val.{Val}
use base.Logic.{SProp}
use base.Fml.{ftrue}
use types.Kit.{‵, raw, ◌⊛◌, ◌$◌, ◌∵◌, !, qed, keep, split, join, suffices, done}
use types.Run.{lit, no_more, and_then, returns, enter}
use types.ByLocal.{alloc_all, pass_all, free_all, look_at, sets}
use types.Part.{agg}
use contract.Running.{tables}
use denote.RawPtr.{null_ptr, ptr_val}
use denote.Steps.{nothing}
use denote.Triple.Walked.{Stays, says, walk_of, ends_at}
use Rattle.std.proofs.raw_atomic.Walks.{proved_at}
use Rattle.vfdev_c.proofs.Values.{Owner, single, single_good, owner_in}
use Rattle.vfdev_c.specs.contracts.owner.Owner.none.{ended, clauses}
use Rattle.vfdev_c.specs.contracts.owner.Owner.none.Key.{name as #self}
use Rattle.vfdev_c.proofs.owner.Owner.none.Statement.{statement}
use Rattle.vfdev_c.proofs.owner.Owner.none.Code as code

pub none_spec : {M : Type 1} → statement M
none_spec 𝓤 𝓛 𝓜 𝓡 wired =
    let En = ended in let c = clauses 𝓛 𝓜.mem 𝓡.returns in let 𝓣 = tables 𝓤 𝓛.H 𝓜 𝓡 𝓡.env in let fn = code.function in
    let hs : Stays En.signature.params En.kept = tt in
    proved_at 𝓛 En hs c 𝓜 𝓡 tt #self fn (code.unfolded 𝓤 𝓛.H 𝓜 𝓡 wired) (λ z are.
    let Post : Val → SProp 𝓤 = (walk_of 𝓛 En hs c).post z in
    let made : Owner.Denot = record { at = null_ptr; held = None } in
    qed 𝓛 ((‵ ftrue ⊛ ‵ ftrue) ∷ raw ((c z.0.0 z.0.3).requires z.1) ∷ []) ∵ split ! $
    enter ! 𝓣.C 𝓣.Λ fn [] Post $ alloc_all ! (λ l. pass_all ! refl tt $
    sets ! (agg ! (and_then ! (lit ! tt) (no_more !))) refl (single_good null_ptr) $
    returns ! (look_at ! 0 refl) $ free_all ! refl $ keep ! (0 ∷ []) $ owner_in ! made $
    suffices ! _ (ends_at 𝓛 En hs c z (single (ptr_val null_ptr)) made tt tt) $ says ! refl $
    nothing ! $ join ! $ nothing ! $ join ! $ done !))
