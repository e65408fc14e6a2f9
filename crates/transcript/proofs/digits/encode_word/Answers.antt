-- The digits of its bytes, one after another.
use Rattle.transcript.proofs.Tables.{word_digits}
use Rattle.transcript.proofs.digits.encode_word.Goals as goal

pub returns : goal.returns
returns c = word_digits c.args.value _ _ _ _ _ c.to_be_bytes.ensures c.pair-a.ensures c.pair-b.ensures c.pair-c.ensures c.pair-d.ensures
