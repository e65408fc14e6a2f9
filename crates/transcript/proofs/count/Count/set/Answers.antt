-- The digits that are written end before index 20.
use Rattle.std.proofs.Common.{rules, ◌<◌, length, arith}
use Rattle.std.specs.Prelude.{decimal}
use Rattle.std.proofs.lemmas.Fmt.{decimal_nonempty, length-decimal-le}
use Rattle.transcript.proofs.Room.{digits_end}
use Rattle.transcript.proofs.count.Count.set.Goals as goal

pub write_digits-self-inside-requires : goal.write_digits-self-inside-requires
write_digits-self-inside-requires c = search (rules, length-decimal-le 20)

pub invariant_of-self : goal.invariant_of-self
invariant_of-self c =
    let written = c.write_digits-self-inside.ensures in
    let some : 0 < length (decimal c.args.number) = decimal_nonempty c.args.number (search rules) in
    (omega (arith, written.start, some), digits_end _ _ _ _ written.start written.written)
