-- A start tick that t has not reached is the task's next; else its place goes on.
use Prim.Native.Nat.{◌≤◌}
use mathlib.Core.Path.{◌≡◌}
use native.Mathlib.Omega.{arith}
use lib.ListN.{length}
use Rattle.jumps.proofs.WakeLaws.{due_next, moved_next, moved_awake}
use Rattle.jumps.proofs.next_due.Goals.{Start}
use Rattle.jumps.proofs.next_due.Goals as goal

-- the sheet has at most 32 tasks, and both columns have 32 slots
few : (c : Start) → c.args.tasks ≤ 32
few c = c.requires.0.few_tasks

long : (c : Start) → length c.args.coming.now ≡ 32
long c = c.requires.1.long

due_long : (c : Start) → length c.args.due.now ≡ 32
due_long c = c.requires.1.due_long

pub offset_bounds-due-i : goal.offset_bounds-due-i
offset_bounds-due-i c = omega (arith, few (goal.at.offset_bounds-due-i c).Start)

pub bounds-due-i : goal.bounds-due-i
bounds-due-i c = omega (arith, few (goal.at.bounds-due-i c).Start, due_long (goal.at.bounds-due-i c).Start)

pub returns-then-t-soon : goal.returns-then-t-soon
returns-then-t-soon c = (c.requires.1, due_next _ _ _ _ c.requires.0 _ _ _ c.requires.1 _ c.requires.2 c.if-t-soon.true)

pub overflow_cast-i : goal.overflow_cast-i
overflow_cast-i c = omega (arith, few (goal.at.overflow_cast-i c).Start)

pub offset_bounds-coming-i : goal.offset_bounds-coming-i
offset_bounds-coming-i c = omega (arith, few (goal.at.offset_bounds-coming-i c).Start)

pub bounds-coming-i : goal.bounds-coming-i
bounds-coming-i c = omega (arith, few (goal.at.bounds-coming-i c).Start, long (goal.at.bounds-coming-i c).Start)

pub coming_of-p-requires : goal.coming_of-p-requires
coming_of-p-requires c = (c.requires.1.within _ c.requires.2, c.requires.0.task_long, c.requires.0.timely)

pub wake_of-later-requires : goal.wake_of-later-requires
wake_of-later-requires c = c.requires.0.timely

pub offset_bounds-coming-i-2 : goal.offset_bounds-coming-i-2
offset_bounds-coming-i-2 c = omega (arith, few (goal.at.offset_bounds-coming-i-2 c).Start)

pub bounds-coming-i-2 : goal.bounds-coming-i-2
bounds-coming-i-2 c = omega (arith, few (goal.at.bounds-coming-i-2 c).Start, long (goal.at.bounds-coming-i-2 c).Start)

pub offset_bounds-due-i-2 : goal.offset_bounds-due-i-2
offset_bounds-due-i-2 c = omega (arith, few (goal.at.offset_bounds-due-i-2 c).Start)

pub bounds-due-i-2 : goal.bounds-due-i-2
bounds-due-i-2 c = omega (arith, few (goal.at.bounds-due-i-2 c).Start, due_long (goal.at.bounds-due-i-2 c).Start)

pub returns : goal.returns
returns c =
    let e = c.coming_of-p.ensures in (
      moved_awake _ _ _ _ c.requires.0 _ _ _ c.requires.1 _ c.requires.2 _ e _ c.wake_of-later.ensures,
      rw c.wake_of-later.ensures (moved_next _ _ _ _ c.requires.0 _ _ _ c.requires.1 _ c.requires.2 _ e),
    )
