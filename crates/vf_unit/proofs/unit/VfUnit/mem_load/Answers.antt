-- Nothing is done with the memory of a function that is closed, nor past the end of its memory.
use Rattle.std.proofs.Common.{◌≡◌, ◌+◌, ◌≤◌, ◌++◌, length, false, subst, arith, rules}
use Rattle.vf_unit.specs.Unit.{TracedFunction, told_of, has_range, load_accesses}
use Rattle.vf_unit.proofs.Told.{met_nothing, none_loaded, some_loaded}
use Rattle.vf_unit.proofs.unit.VfUnit.mem_load.Goals as goal

pub returns-then-not-self-clause-met : goal.returns-then-not-self-clause-met
returns-then-not-self-clause-met g c = met_nothing _ _ _

pub returns-then-not-self-clause-listed : goal.returns-then-not-self-clause-listed
returns-then-not-self-clause-listed g c =
    let outside : has_range c.args.self.now.function c.args.at (length c.args.out.now) ≡ false = search rules in
    none_loaded c.args.self.now c.args.at (length c.args.out.now) outside

pub returns-clause-listed : goal.returns-clause-listed
returns-clause-listed g c =
    let size : length c.mem_load.new.self.state.memory ≡ length c.self.inside.inner.state.memory = c.mem_load.ensures.size in
    let inside : c.args.at + length c.args.out.now ≤ length c.mem_load.new.self.state.memory = omega (arith, size, c.if-at-size.false, c.if-len-size.false, c.memory_size-size.ensures) in
    subst (λ (f : TracedFunction). c.mem_load.new.self.accesses ≡ f.accesses ++ load_accesses (told_of f.accesses c.mem_load.new.self.accesses f.function) c.args.at (length c.args.out.now)) c.self.view_is
    (rw c.if-not-self.false (some_loaded c.self.inside.inner c.mem_load.new.self c.args.at (length c.args.out.now) c.mem_load.new.out c.mem_load.ensures.state inside c.mem_load.ensures.bytes c.mem_load.ensures.listed))
