-- A write to the region that has all of the addresses is one to the memory, and leaves where the regions lie.
use Rattle.std.proofs.Common.{◌≡◌, List, length, map, set, arith, subst, sym, ap, ◌∙◌}
use Rattle.std.proofs.lemmas.List.{length-map}
use Rattle.mapped_memory.specs.Known.{known}
use Rattle.mapped_memory.specs.Regions.{Part, Regions, written}
use Rattle.mapped_memory.specs.Mapping.{AreMapped, IsHome, has_all}
use Rattle.mapped_memory.proofs.HomeLemmas.{home_written}
use Rattle.mapped_memory.proofs.MappedLemmas.{mapped_written}
use Rattle.mapped_memory.proofs.live_mem.LiveMem.write_home.Goals as goal

abbrev home : (c : goal.After-self-1) → IsHome c.args.addr (length c.args.source.now) c.args.place c.self.inside.regions.items
home c = subst (λ (m : Regions). IsHome c.args.addr (length c.args.source.now) c.args.place m.parts) (sym c.self.view_is) c.requires.home

abbrev parts : (c : goal.After-self-1) → set c.self.inside.regions.items c.args.place c.write_own.new.self ≡ map (written c.args.addr c.args.source.now) c.self.inside.regions.items
parts c =
    home_written c.self.inside.size c.self.inside.regions.items c.args.place c.args.addr c.args.source.now c.index_mut.result.now c.write_own.new.self c.self.invariant.4 (home c).there c.index_mut.ensures.value
    (ap (has_all c.args.addr (length c.args.source.now)) c.index_mut.ensures.value ∙ (home c).whole c.index_mut.result.now) c.write_own.ensures

pub returns : goal.returns
returns c =
    ap (λ (ps : List Part). record { parts = ps; seen = known c.self.inside.size c.self.inside.accesses.accesses; accesses = c.self.inside.accesses.accesses }) (parts c)
    ∙ ap (λ (m : Regions). record m { parts = map (written c.args.addr c.args.source.now) m.parts }) c.self.view_is

pub invariant_of-self : goal.invariant_of-self
invariant_of-self c =
    let same = ap length (parts c) ∙ length-map c.self.inside.regions.items (written c.args.addr c.args.source.now) in
    (c.self.invariant.0, c.self.invariant.1, omega (arith, same, c.self.invariant.2), c.self.invariant.3, subst (AreMapped c.self.inside.size) (sym (parts c)) (mapped_written c.self.inside.size c.args.addr c.args.source.now c.self.inside.regions.items c.self.invariant.4))
