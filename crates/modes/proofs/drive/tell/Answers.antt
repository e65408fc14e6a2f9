-- Each task's text is that of its mode.
use Rattle.modes.proofs.drive.tell.Goals as goal

pub returns-in-Run-clause-ok : goal.returns-in-Run-clause-ok
returns-in-Run-clause-ok g c = rw c.in-Run.is c.run_and_end.ensures.ok

pub returns-in-Run-clause-err : goal.returns-in-Run-clause-err
returns-in-Run-clause-err g c = rw c.in-Run.is c.run_and_end.ensures.err

pub returns-in-Keep-clause-ok : goal.returns-in-Keep-clause-ok
returns-in-Keep-clause-ok g c = rw c.in-Keep.is c.keep.ensures.ok

pub returns-in-Keep-clause-err : goal.returns-in-Keep-clause-err
returns-in-Keep-clause-err g c = rw c.in-Keep.is c.keep.ensures.err

pub returns-in_ok-new-in-Lone-clause-ok : goal.returns-in_ok-new-in-Lone-clause-ok
returns-in_ok-new-in-Lone-clause-ok g c = rw c.in-Lone.is c.lone_function.ensures.ok

pub returns-in_ok-new-in-Lone-clause-err : goal.returns-in_ok-new-in-Lone-clause-err
returns-in_ok-new-in-Lone-clause-err g c = rw c.in-Lone.is c.lone_function.ensures.err
