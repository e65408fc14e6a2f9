-- Six letters that are read are one of the names.
use Rattle.std.proofs.Common.{◌≡◌, refl, rules, arith}
use Rattle.std.specs.Prelude.{codes}
use Rattle.std.proofs.lemmas.Slice.Eq.{text_from_reads}
use Rattle.script.specs.Kinds.{kind_of}
use Rattle.script.proofs.kind.Kind.named.Goals as goal

pub returns-in-preset : goal.returns-in-preset
unfolding kind_of
returns-in-preset c =
    let same : c.args.name.now ≡ codes "preset" = text_from_reads _ _ (omega arith) (search rules) in
    rw same refl
