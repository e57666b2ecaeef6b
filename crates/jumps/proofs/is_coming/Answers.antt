-- The task is tested first, then whether the job may run.
use Rattle.jumps.proofs.WakeLaws.{comes_own, comes_other}
use Rattle.jumps.proofs.is_coming.Goals as goal

pub returns-then-task-p : goal.returns-then-task-p
returns-then-task-p c =
    let a = c.args in
    comes_other a.task.now a.ready.now a.n a.i a.t a.p c.if-task-p.true

pub returns : goal.returns
returns c =
    let a = c.args in
    comes_own a.task.now a.ready.now a.n a.i a.t a.p _ c.if-task-p.false c.may_run.ensures
