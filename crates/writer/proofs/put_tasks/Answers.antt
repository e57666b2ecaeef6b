use Prim.Native.Nat.{◌+◌, ◌≤◌}
use native.Mathlib.Omega.{arith}
use lib.ListN.{length, get_or}
use Rattle.taskset.specs.TaskSet.{no_task}
use Rattle.fileformat.specs.Records.{task_size}
use Rattle.writer.proofs.StoreLaws.{stored_long, tasks_none, tasks_room, tasks_next, tasks_all, tasks_end}
use Rattle.writer.proofs.put_tasks.Goals.{In-loop-i}
use Rattle.writer.proofs.put_tasks.Goals as goal

-- there is room for the task that is due
room
    : (c : In-loop-i) → let l = c.loop-i in
    let s = c.args.s in l.at + task_size (get_or s.tasks l.i no_task).low ≤ length l.out
room c = tasks_room _ _ _ _ _ _ _ c.loop-i.invariant c.loop-i-test.true

pub loop-i-init : goal.loop-i-init
loop-i-init c = tasks_none _ _ _ c.requires.0 c.requires.1 c.requires.2

pub put_task-requires : goal.put_task-requires
put_task-requires c = room (goal.at.put_task-requires c).In-loop-i

pub overflow_add-at : goal.overflow_add-at
overflow_add-at c = omega (arith, c.task_size-at.ensures, room (goal.at.overflow_add-at c).In-loop-i)

pub loop-i-preserved : goal.loop-i-preserved
loop-i-preserved c =
    tasks_next _ _ _ _ _ _ _ c.loop-i.invariant _ _ c.loop-i-test.true c.put_task.ensures (stored_long _ _ _ _ c.put_task.ensures)
    c.task_size-at.ensures

pub returns : goal.returns
returns c =
    let p = c.loop-i.invariant in
    (record {
      bytes = tasks_all _ _ _ _ _ _ _ p c.loop-i-test.false;
      end = tasks_end _ _ _ _ _ _ _ p c.loop-i-test.false;
    })
