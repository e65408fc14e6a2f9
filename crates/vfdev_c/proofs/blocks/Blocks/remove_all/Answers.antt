-- Those that are left are apart, as all were.
use Rattle.std.proofs.Common.{sym, subst, nat_eq}
use Rattle.std.specs.Prelude.{not}
use Rattle.vfdev_c.specs.GuestDevices.{AreApart}
use Rattle.vfdev_c.specs.declared.blocks.MappedBlock.{MappedBlock}
use Rattle.vfdev_c.proofs.BlockLemmas.{apart_without, still_room}
use Rattle.vfdev_c.proofs.blocks.Blocks.remove_all.Goals as goal

pub invariant_of-self : goal.invariant_of-self
invariant_of-self c = (
  subst AreApart (sym c.keep_of_others.ensures.items) (apart_without (λ (b : MappedBlock). not (nat_eq b.function c.args.function)) c.self.inside.mapped.items c.self.invariant.0),
  still_room c.keep_of_others.ensures.capacity c.self.invariant.1,
)
