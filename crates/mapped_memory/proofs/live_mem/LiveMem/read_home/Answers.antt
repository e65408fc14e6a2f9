-- The region that has all of the bytes has just those of the memory.
use Rattle.std.proofs.Common.{length, subst, sym, ap, ◌∙◌}
use Rattle.mapped_memory.specs.Regions.{Regions, bytes_at}
use Rattle.mapped_memory.specs.Mapping.{IsHome, has_all}
use Rattle.mapped_memory.proofs.HomeLemmas.{home_read}
use Rattle.mapped_memory.proofs.live_mem.LiveMem.read_home.Goals as goal

abbrev home : (c : goal.After-slice_known-2-1) → IsHome c.args.addr (length c.args.out.now) c.args.place c.self.inside.regions.items
home c = subst (λ (m : Regions). IsHome c.args.addr (length c.args.out.now) c.args.place m.parts) (sym c.self.view_is) c.requires.home

pub returns : goal.returns
returns c =
    home_read c.self.inside.size c.self.inside.regions.items c.args.place c.args.addr c.args.out.now c.read_own.new.out c.index.result.now c.self.invariant.4 (home c).there c.index.ensures
    (ap (has_all c.args.addr (length c.args.out.now)) c.index.ensures ∙ (home c).whole c.index.result.now) c.read_own.ensures
    ∙ ap (λ (m : Regions). bytes_at m.parts c.args.addr (length c.args.out.now)) c.self.view_is
