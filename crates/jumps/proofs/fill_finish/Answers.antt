use Prim.Native.Nat.{◌+◌, ◌≤◌}
use mathlib.Core.Path.{refl, sym}
use native.Mathlib.Omega.{arith}
use lib.ListN.{get_or}
use Rattle.model.specs.Frame.{ours_in}
use Rattle.frame.specs.Reached.{Reached}
use Rattle.frame.specs.WindowColumns.{frame_in}
use Rattle.queues.specs.Queues.{max_finish}
use Rattle.queues.proofs.ColumnLaws.{timely}
use Rattle.jumps.proofs.MomentLaws.{Front, queued, stops_few, moment_start, moment_wait, moment_cut, moment_done, moment_end, front, some_ticks, end_soon, cut_less}
use Rattle.jumps.proofs.fill_finish.Goals.{After-top_started-i, Else-i-tasks, After-reach, Else-i-tasks-unread}
use Rattle.jumps.proofs.fill_finish.Goals as goal

-- the stops fit
room : (c : After-top_started-i) → c.loop-head.stops ≤ 2048
room c =
    let m = c.loop-head.invariant in
    omega (arith, m.counted, stops_few _ _ _ _ _ _ _ _ m.can c.loop-head.t m.time, m.can.few)

found : (c : Else-i-tasks)
    → Front c.args.n c.args.tasks c.loop-head.head c.loop-head.left c.top_started-i.result
found c =
    let m = c.loop-head.invariant in
    let w = c.next_wake-wake.ensures in
    front _ _ _ _ _ _ _ _ m.can _ _ _ _ _ _ _ _ _ m _ _ _ w.0 w.1 _ c.top_started-i.ensures c.if-i-tasks.false

-- the same before the column is read
found_unread : (c : Else-i-tasks-unread)
    → Front c.args.n c.args.tasks c.loop-head.head c.loop-head.left c.top_started-i.result
found_unread c =
    let m = c.loop-head.invariant in
    let w = c.next_wake-wake.ensures in
    front _ _ _ _ _ _ _ _ m.can _ _ _ _ _ _ _ _ _ m _ _ _ w.0 w.1 _ c.top_started-i.ensures c.if-i-tasks.false

-- the ticks that its work left takes, and when it ends at the earliest
takes : (c : After-reach)
    → Reached (ours_in (frame_in c.args.supply.now)) c.loop-head.t (get_or c.loop-head.left c.top_started-i.result 0) c.reach.result
takes c = rw c.from.ensures at c.reach.ensures.reached

soon : (c : After-reach) → c.loop-head.t + c.reach.result ≤ max_finish
soon c =
    let m = c.loop-head.invariant in
    let w = c.next_wake-wake.ensures in
    end_soon _ _ _ _ _ _ _ _ m.can _ _ _ _ _ _ _ _ _ m _ _ _ w.0 w.1 _ c.top_started-i.ensures c.if-i-tasks.false _ (takes c)

later : (c : After-reach) → 1 ≤ c.reach.result
later c =
    let m = c.loop-head.invariant in
    let w = c.next_wake-wake.ensures in
    some_ticks _ _ _ _ _ _ _ _ m.can _ _ _ _ _ _ _ _ _ m _ _ _ w.0 w.1 _ c.top_started-i.ensures c.if-i-tasks.false _ (takes c)

pub first_starts-since-requires : goal.first_starts-since-requires
first_starts-since-requires c = let r = c.requires.runnable in (r.few_tasks, timely _ _ _ _ _ _ _ _ r)

pub first_work-left-requires : goal.first_work-left-requires
first_work-left-requires c = let r = c.requires.runnable in (r.few_tasks, r.workable)

pub loop-head-init : goal.loop-head-init
loop-head-init c =
    moment_start _ _ _ _ _ _ _ _ c.requires.runnable _ _ _ c.first_jobs-head.ensures c.first_starts-since.ensures
    c.first_work-left.ensures

pub slice_bounds-next_wake-end : goal.slice_bounds-next_wake-end
slice_bounds-next_wake-end c = sym c.loop-head.invariant.waking.awake.long

pub slice_bounds-next_wake-end-in-loop-head : goal.slice_bounds-next_wake-end-in-loop-head
slice_bounds-next_wake-end-in-loop-head c = sym c.loop-head.invariant.waking.awake.due_long

pub next_wake-wake-requires : goal.next_wake-wake-requires
next_wake-wake-requires c =
    let m = c.loop-head.invariant in
    (queued _ _ _ _ _ _ _ _ m.can, m.waking, omega (arith, m.time))

pub top_started-i-requires : goal.top_started-i-requires
top_started-i-requires c = c.loop-head.invariant.can.few_tasks

pub shape_of-finish-then-wake : goal.shape_of-finish-then-wake
shape_of-finish-then-wake c = c.loop-head.invariant.written.long

pub returns-then-wake : goal.returns-then-wake
returns-then-wake c =
    let m = c.loop-head.invariant in
    let w = c.next_wake-wake.ensures in
    let r = moment_end _ _ _ _ _ _ _ _ m.can _ _ _ _ _ _ _ _ _ m _ _ _ w.0 w.1 _ c.top_started-i.ensures c.if-i-tasks.true c.if-wake.true in record { finishes = r.0; stops = r.1 }

pub overflow_add-stops : goal.overflow_add-stops
overflow_add-stops c = omega (arith, room (goal.at.overflow_add-stops c).After-top_started-i)

pub loop-head-preserved-then-i-tasks : goal.loop-head-preserved-then-i-tasks
loop-head-preserved-then-i-tasks c =
    let m = c.loop-head.invariant in
    let w = c.next_wake-wake.ensures in
    moment_wait _ _ _ _ _ _ _ _ m.can _ _ _ _ _ _ _ _ _ m _ _ _ w.0 w.1 _ c.top_started-i.ensures c.if-i-tasks.true c.if-wake.false

pub loop-head-smaller-then-i-tasks : goal.loop-head-smaller-then-i-tasks
loop-head-smaller-then-i-tasks c =
    omega (
      arith,
      (let m = c.loop-head.invariant in
          let w = c.next_wake-wake.ensures in
          moment_wait _ _ _ _ _ _ _ _ m.can _ _ _ _ _ _ _ _ _ m _ _ _ w.0 w.1 _ c.top_started-i.ensures c.if-i-tasks.true c.if-wake.false).time,
      c.next_wake-wake.ensures.1,
    )

pub offset_bounds-left-i : goal.offset_bounds-left-i
offset_bounds-left-i c = omega (arith, found_unread c, c.loop-head.invariant.can.few_tasks)

pub bounds-left-i : goal.bounds-left-i
bounds-left-i c = omega (arith, found_unread c, c.loop-head.invariant.can.few_tasks)

pub reach-requires : goal.reach-requires
reach-requires c =
    (record {
      supplies = c.requires.supplies;
      d_le_max_tick = omega (arith, found (goal.at.reach-requires c).Else-i-tasks, c.from.ensures);
    })

pub overflow_add-end : goal.overflow_add-end
overflow_add-end c = omega (arith, soon c)

pub offset_bounds-left-i-then-wake-end : goal.offset_bounds-left-i-then-wake-end
offset_bounds-left-i-then-wake-end c = omega (arith, found (goal.at.offset_bounds-left-i-then-wake-end c).Else-i-tasks, c.loop-head.invariant.can.few_tasks)

pub bounds-left-i-then-wake-end : goal.bounds-left-i-then-wake-end
bounds-left-i-then-wake-end c = omega (arith, found (goal.at.bounds-left-i-then-wake-end c).Else-i-tasks, c.loop-head.invariant.can.few_tasks)

pub left_after-requires : goal.left_after-requires
left_after-requires c =
    let m = c.loop-head.invariant in
    let w = c.next_wake-wake.ensures in (record {
      supplies = c.requires.supplies;
      t_le_u = omega (arith, w.1);
      t_bound = omega (
        arith,
        cut_less _ _ _ _ _ _ _ _ m.can _ _ _ _ _ _ _ _ _ m _ _ _ w.0 w.1 _ c.top_started-i.ensures c.if-i-tasks.false _ (takes (goal.at.left_after-requires c).After-reach) c.if-wake-end.true,
      );
    })

pub offset_bounds-left-i-then-wake-end-2 : goal.offset_bounds-left-i-then-wake-end-2
offset_bounds-left-i-then-wake-end-2 c = omega (arith, found (goal.at.offset_bounds-left-i-then-wake-end-2 c).Else-i-tasks, c.loop-head.invariant.can.few_tasks)

pub bounds-left-i-then-wake-end-2 : goal.bounds-left-i-then-wake-end-2
bounds-left-i-then-wake-end-2 c = omega (arith, found (goal.at.bounds-left-i-then-wake-end-2 c).Else-i-tasks, c.loop-head.invariant.can.few_tasks)

pub overflow_add-stops-then-wake-end : goal.overflow_add-stops-then-wake-end
overflow_add-stops-then-wake-end c = omega (arith, room (goal.at.overflow_add-stops-then-wake-end c).After-top_started-i)

pub loop-head-preserved-then-wake-end : goal.loop-head-preserved-then-wake-end
loop-head-preserved-then-wake-end c =
    let m = c.loop-head.invariant in
    let w = c.next_wake-wake.ensures in
    moment_cut _ _ _ _ _ _ _ _ m.can _ _ _ _ _ _ _ _ _ m _ _ _ w.0 w.1 _ c.top_started-i.ensures c.if-i-tasks.false _ (takes (goal.at.loop-head-preserved-then-wake-end c).After-reach) c.if-wake-end.true _
    c.left_after.ensures

pub loop-head-smaller-then-wake-end : goal.loop-head-smaller-then-wake-end
loop-head-smaller-then-wake-end c =
    omega (
      arith,
      (let m = c.loop-head.invariant in
          let w = c.next_wake-wake.ensures in
          moment_cut _ _ _ _ _ _ _ _ m.can _ _ _ _ _ _ _ _ _ m _ _ _ w.0 w.1 _ c.top_started-i.ensures c.if-i-tasks.false _ (takes (goal.at.loop-head-smaller-then-wake-end c).After-reach) c.if-wake-end.true _
          c.left_after.ensures).time,
      c.next_wake-wake.ensures.1,
    )

pub offset_bounds-head-i : goal.offset_bounds-head-i
offset_bounds-head-i c = omega (arith, found (goal.at.offset_bounds-head-i c).Else-i-tasks, c.loop-head.invariant.can.few_tasks)

pub bounds-head-i : goal.bounds-head-i
bounds-head-i c = omega (arith, found (goal.at.bounds-head-i c).Else-i-tasks, c.loop-head.invariant.can.few_tasks)

pub offset_bounds-finish-p : goal.offset_bounds-finish-p
offset_bounds-finish-p c = omega (arith, found (goal.at.offset_bounds-finish-p c).Else-i-tasks, c.loop-head.invariant.can.few)

pub bounds-finish-p : goal.bounds-finish-p
bounds-finish-p c =
    let m = c.loop-head.invariant in
    omega (arith, found (goal.at.bounds-finish-p c).Else-i-tasks, m.written.long, m.written.enough)

pub overflow_cast-i : goal.overflow_cast-i
overflow_cast-i c = omega (arith, found (goal.at.overflow_cast-i c).Else-i-tasks, c.loop-head.invariant.can.few_tasks)

pub overflow_add-p : goal.overflow_add-p
overflow_add-p c = omega (arith, found (goal.at.overflow_add-p c).Else-i-tasks, c.loop-head.invariant.can.few)

pub next_of-next-requires : goal.next_of-next-requires
next_of-next-requires c =
    let m = c.loop-head.invariant in
    omega (arith, found (goal.at.next_of-next-requires c).Else-i-tasks, m.can.task_long)

pub offset_bounds-head-i-in-loop-head : goal.offset_bounds-head-i-in-loop-head
offset_bounds-head-i-in-loop-head c = omega (arith, found (goal.at.offset_bounds-head-i-in-loop-head c).Else-i-tasks, c.loop-head.invariant.can.few_tasks)

pub bounds-head-i-in-loop-head : goal.bounds-head-i-in-loop-head
bounds-head-i-in-loop-head c = omega (arith, found (goal.at.bounds-head-i-in-loop-head c).Else-i-tasks, c.loop-head.invariant.can.few_tasks)

pub wake_of-requires : goal.wake_of-requires
wake_of-requires c = timely _ _ _ _ _ _ _ _ c.loop-head.invariant.can

pub offset_bounds-since-i : goal.offset_bounds-since-i
offset_bounds-since-i c = omega (arith, found (goal.at.offset_bounds-since-i c).Else-i-tasks, c.loop-head.invariant.can.few_tasks)

pub bounds-since-i : goal.bounds-since-i
bounds-since-i c = omega (arith, found (goal.at.bounds-since-i c).Else-i-tasks, c.loop-head.invariant.can.few_tasks)

pub work_of-requires : goal.work_of-requires
work_of-requires c = c.loop-head.invariant.can.workable

pub offset_bounds-left-i-in-loop-head : goal.offset_bounds-left-i-in-loop-head
offset_bounds-left-i-in-loop-head c = omega (arith, found (goal.at.offset_bounds-left-i-in-loop-head c).Else-i-tasks, c.loop-head.invariant.can.few_tasks)

pub bounds-left-i-in-loop-head : goal.bounds-left-i-in-loop-head
bounds-left-i-in-loop-head c = omega (arith, found (goal.at.bounds-left-i-in-loop-head c).Else-i-tasks, c.loop-head.invariant.can.few_tasks)

pub overflow_add-stops-in-loop-head : goal.overflow_add-stops-in-loop-head
overflow_add-stops-in-loop-head c = omega (arith, room (goal.at.overflow_add-stops-in-loop-head c).After-top_started-i)

pub loop-head-preserved : goal.loop-head-preserved
loop-head-preserved c =
    let m = c.loop-head.invariant in
    let w = c.next_wake-wake.ensures in
    moment_done _ _ _ _ _ _ _ _ m.can _ _ _ _ _ _ _ _ _ m _ _ _ w.0 w.1 _ c.top_started-i.ensures c.if-i-tasks.false _ (takes (goal.at.loop-head-preserved c).After-reach) _ _ _ _
    refl
    c.if-wake-end.false
    c.next_of-next.ensures
    c.wake_of.ensures
    c.work_of.ensures

pub loop-head-smaller : goal.loop-head-smaller
loop-head-smaller c =
    omega (
      arith,
      (let m = c.loop-head.invariant in
          let w = c.next_wake-wake.ensures in
          moment_done _ _ _ _ _ _ _ _ m.can _ _ _ _ _ _ _ _ _ m _ _ _ w.0 w.1 _ c.top_started-i.ensures c.if-i-tasks.false _ (takes (goal.at.loop-head-smaller c).After-reach) _ _ _ _
          refl
          c.if-wake-end.false
          c.next_of-next.ensures
          c.wake_of.ensures
          c.work_of.ensures).time,
      later (goal.at.loop-head-smaller c).After-reach,
    )
