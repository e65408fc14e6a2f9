-- All of the word was written.
use Rattle.std.proofs.Common.{arith}
use Rattle.transcript.proofs.Room.{front_text}
use Rattle.transcript.proofs.text.put_front.Goals as goal

pub returns-clause-text : goal.returns-clause-text
returns-clause-text g c = front_text _ _ _ _ c.put_word.result _ (omega (arith, c.requires.fits)) (omega (arith, c.put_word.ensures.end)) (omega (arith, c.requires.some)) c.put_word.ensures.text
