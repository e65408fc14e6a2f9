-- What is written of the script is isolated.
use Rattle.transcript.proofs.Known.{err_then, ok_then}
use Rattle.modes.proofs.Isolated.{began_isolated, wrote_isolated}
use Rattle.modes.proofs.drive.read_and_play.Goals as goal

pub returns-clause-isolated : goal.returns-clause-isolated
returns-clause-isolated g c =
    ok_then c.play.result c.play.ensures.ok
    (wrote_isolated c.args.mode _ _ _ c.in_ok-script.script _ c.in_ok-task.task c.in_ok-script.ensures.ok c.shape-shape.ensures c.shape-shape.result.most c.in_ok-task.ensures.ok)

pub returns-clause-isolated_so_far : goal.returns-clause-isolated_so_far
returns-clause-isolated_so_far g c =
    err_then c.play.result c.play.ensures.err
    (began_isolated c.args.mode _ _ _ c.in_ok-script.script _ c.in_ok-task.task c.in_ok-script.ensures.ok c.shape-shape.ensures c.shape-shape.result.most c.in_ok-task.ensures.ok)
