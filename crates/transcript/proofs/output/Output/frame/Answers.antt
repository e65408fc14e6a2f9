-- The parts of the line follow one another.
use Rattle.std.proofs.Common.{◌++◌}
use Rattle.std.specs.Prelude.{codes}
use Rattle.hex.specs.Hex.{encode_lower}
use Rattle.transcript.specs.Text.{frame_line}
use Rattle.transcript.proofs.Known.{sent_thrice, began_first, began_second, began_third, on_err, ok_then, err_then}
use Rattle.transcript.proofs.output.Output.frame.Goals as goal

pub returns-in_err-piece-clause-err : goal.returns-in_err-piece-clause-err
unfolding frame_line
returns-in_err-piece-clause-err g c = on_err c.from_residual.result (began_first _ _ c.args.self.now (codes "out ") (encode_lower c.args.bytes.now ++ codes "\n") c.in_err-piece.ensures.err)

pub returns-in_err-digits-clause-err : goal.returns-in_err-digits-clause-err
unfolding frame_line
returns-in_err-digits-clause-err g c = on_err c.from_residual-in_err-digits.result (began_second _ _ _ _ _ _ _ _ c.in_ok-piece.ensures.ok c.in_err-digits.ensures.err)

pub returns-clause-ok : goal.returns-clause-ok
unfolding frame_line
returns-clause-ok g c = ok_then c.piece-2.result c.piece-2.ensures.ok (sent_thrice _ _ _ _ _ _ _ _ _ _ _ c.in_ok-piece.ensures.ok c.in_ok-digits.ensures.ok)

pub returns-clause-err : goal.returns-clause-err
unfolding frame_line
returns-clause-err g c = err_then c.piece-2.result c.piece-2.ensures.err (began_third _ _ _ _ _ _ _ _ _ _ c.in_ok-piece.ensures.ok c.in_ok-digits.ensures.ok)
