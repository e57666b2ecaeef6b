use mathlib.Core.Path.{◌≡◌, refl, sym, ap, ◌∙◌}
use mathlib.Core.Bool.{true, not}
use native.Mathlib.Omega.{arith}
use Rattle.model.specs.Frame.{ours_in}
use Rattle.frame.specs.WindowColumns.{frame_in}
use Rattle.frame.proofs.ColumnLaws.{ours_absent}
use Rattle.queues.specs.Queues.{jobs_of}
use Rattle.queues.proofs.ColumnLaws.{timely}
use Rattle.schedule.proofs.FinishFillLaws.{Top, fill_start, fill_sleep, fill_idle, some_soon, fill_off, fill_top, fill_run, fill_done, fill_end}
use Rattle.schedule.proofs.fill_finish.Goals.{Joined-supply, Joined-supply-unread, then-supply+else-not-is_ours, else-supply}
use Rattle.schedule.proofs.fill_finish.Goals as goal

-- the tick is ours: it was asked, or there is no frame
ours : (c : Joined-supply) → ours_in (frame_in c.args.supply.now) c.loop-t.t ≡ true
ours c =
    elim c.if-supply.branch [
      | then-supply+else-not-is_ours w ↦ sym w.is_ours.ensures ∙ w.if-not-is_ours.false
      | else-supply w ↦ ours_absent _ _ _ _ _ (ap not w.if-supply.false) c.loop-t.t
    ]

-- which job runs
top : (c : Joined-supply)
    → let a = c.args in
    Top (jobs_of (frame_in c.args.supply.now) a.n a.task.now a.cost.now a.charge a.ready.now) a.tasks c.loop-t.t c.loop-t.head c.loop-t.left
    c.top_ready-i.result
top c = fill_top _ _ _ _ _ _ _ _ c.loop-t.invariant.can _ _ _ _ _ c.loop-t.invariant.state _ c.top_ready-i.ensures c.if-i-tasks.false (ours c)

-- the same before the column is read
ours_unread : (c : Joined-supply-unread) → ours_in (frame_in c.args.supply.now) c.loop-t.t ≡ true
ours_unread c =
    elim c.if-supply.branch [
      | then-supply+else-not-is_ours v ↦ sym v.is_ours.ensures ∙ v.if-not-is_ours.false
      | else-supply v ↦ ours_absent _ _ _ _ _ (ap not v.if-supply.false) c.loop-t.t
    ]

top_unread : (c : Joined-supply-unread)
    → let a = c.args in
    Top (jobs_of (frame_in c.args.supply.now) a.n a.task.now a.cost.now a.charge a.ready.now) a.tasks c.loop-t.t c.loop-t.head c.loop-t.left
    c.top_ready-i.result
top_unread c = fill_top _ _ _ _ _ _ _ _ c.loop-t.invariant.can _ _ _ _ _ c.loop-t.invariant.state _ c.top_ready-i.ensures c.if-i-tasks.false (ours_unread c)

pub first_work-left-requires : goal.first_work-left-requires
first_work-left-requires c = let r = c.requires.runnable in (r.few_tasks, r.workable)

pub loop-t-init : goal.loop-t-init
loop-t-init c = fill_start _ _ _ _ _ _ _ _ c.requires.runnable _ _ c.first_jobs-head.ensures c.first_work-left.ensures

pub loop-t-preserved-then-t-wake : goal.loop-t-preserved-then-t-wake
loop-t-preserved-then-t-wake c = fill_sleep _ _ _ _ _ _ _ _ c.loop-t.invariant.can _ _ _ _ _ c.loop-t.invariant.state c.if-t-wake.true

pub loop-t-smaller-then-t-wake : goal.loop-t-smaller-then-t-wake
loop-t-smaller-then-t-wake c = omega (arith, (fill_sleep _ _ _ _ _ _ _ _ c.loop-t.invariant.can _ _ _ _ _ c.loop-t.invariant.state c.if-t-wake.true).state.time)

pub top_ready-i-requires : goal.top_ready-i-requires
top_ready-i-requires c = let r = c.loop-t.invariant.can in (r.few_tasks, timely _ _ _ _ _ _ _ _ r)

pub wake_all-wake-requires : goal.wake_all-wake-requires
wake_all-wake-requires c = let r = c.loop-t.invariant.can in (r.few_tasks, timely _ _ _ _ _ _ _ _ r)

pub shape_of-finish-then-wake : goal.shape_of-finish-then-wake
shape_of-finish-then-wake c = c.loop-t.invariant.state.written.long

pub returns-then-wake : goal.returns-then-wake
returns-then-wake c =
    fill_end _ _ _ _ _ _ _ _ c.loop-t.invariant.can _ _ _ _ _
    c.loop-t.invariant.state
    (sym c.wake_all-wake.ensures ∙ c.if-wake.true)

pub overflow_add-t-then-i-tasks : goal.overflow_add-t-then-i-tasks
overflow_add-t-then-i-tasks c = omega (arith, c.loop-t.invariant.state.time)

pub loop-t-preserved-then-i-tasks : goal.loop-t-preserved-then-i-tasks
loop-t-preserved-then-i-tasks c =
    fill_idle _ _ _ _ _ _ _ _ c.loop-t.invariant.can _ _ _ _ _
    c.loop-t.invariant.state
    _
    _
    c.top_ready-i.ensures
    c.if-i-tasks.true
    c.wake_all-wake.ensures
    c.if-wake.false

pub loop-t-smaller-then-i-tasks : goal.loop-t-smaller-then-i-tasks
loop-t-smaller-then-i-tasks c =
    omega (
      arith,
      (fill_idle _ _ _ _ _ _ _ _ c.loop-t.invariant.can _ _ _ _ _
          c.loop-t.invariant.state
          _
          _
          c.top_ready-i.ensures
          c.if-i-tasks.true
          c.wake_all-wake.ensures
          c.if-wake.false).state.time,
    )

pub is_ours-requires : goal.is_ours-requires
is_ours-requires c = c.requires.frame_columns

pub overflow_add-t-then-not-is_ours : goal.overflow_add-t-then-not-is_ours
overflow_add-t-then-not-is_ours c = omega (arith, some_soon _ _ _ _ _ _ _ _ c.loop-t.invariant.can _ _ _ _ _ c.loop-t.invariant.state _ c.top_ready-i.ensures c.if-i-tasks.false)

pub loop-t-preserved-then-not-is_ours : goal.loop-t-preserved-then-not-is_ours
loop-t-preserved-then-not-is_ours c =
    fill_off _ _ _ _ _ _ _ _ c.loop-t.invariant.can _ _ _ _ _ c.loop-t.invariant.state _ c.top_ready-i.ensures c.if-i-tasks.false
    c.if-t-wake.false (sym c.is_ours.ensures ∙ c.if-not-is_ours.true)

pub loop-t-smaller-then-not-is_ours : goal.loop-t-smaller-then-not-is_ours
loop-t-smaller-then-not-is_ours c =
    omega (
      arith,
      (fill_off _ _ _ _ _ _ _ _ c.loop-t.invariant.can _ _ _ _ _ c.loop-t.invariant.state _ c.top_ready-i.ensures c.if-i-tasks.false
          c.if-t-wake.false
          (sym c.is_ours.ensures ∙ c.if-not-is_ours.true)).state.time,
    )

pub offset_bounds-left-i : goal.offset_bounds-left-i
offset_bounds-left-i c = omega (arith, top_unread c)

pub bounds-left-i : goal.bounds-left-i
bounds-left-i c = omega (arith, top_unread c)

pub overflow_sub-rest : goal.overflow_sub-rest
overflow_sub-rest c = omega (arith, top c)

pub overflow_add-t-in-loop-t : goal.overflow_add-t-in-loop-t
overflow_add-t-in-loop-t c = omega (arith, top c)

pub offset_bounds-left-i-then-rest-ne0 : goal.offset_bounds-left-i-then-rest-ne0
offset_bounds-left-i-then-rest-ne0 c = omega (arith, top (goal.at.offset_bounds-left-i-then-rest-ne0 c).Joined-supply)

pub bounds-left-i-then-rest-ne0 : goal.bounds-left-i-then-rest-ne0
bounds-left-i-then-rest-ne0 c = omega (arith, top (goal.at.bounds-left-i-then-rest-ne0 c).Joined-supply)

pub loop-t-preserved-then-rest-ne0 : goal.loop-t-preserved-then-rest-ne0
loop-t-preserved-then-rest-ne0 c =
    fill_run _ _ _ _ _ _ _ _ c.loop-t.invariant.can _ _ _ _ _ c.loop-t.invariant.state
    _
    _
    (top (goal.at.loop-t-preserved-then-rest-ne0 c).Joined-supply)
    c.if-t-wake.false
    refl
    c.if-rest-ne0.true

pub loop-t-smaller-then-rest-ne0 : goal.loop-t-smaller-then-rest-ne0
loop-t-smaller-then-rest-ne0 c =
    omega (
      arith,
      (fill_run _ _ _ _ _ _ _ _ c.loop-t.invariant.can _ _ _ _ _ c.loop-t.invariant.state
          _
          _
          (top (goal.at.loop-t-smaller-then-rest-ne0 c).Joined-supply)
          c.if-t-wake.false
          refl
          c.if-rest-ne0.true).state.time,
    )

pub offset_bounds-head-i : goal.offset_bounds-head-i
offset_bounds-head-i c = omega (arith, top (goal.at.offset_bounds-head-i c).Joined-supply)

pub bounds-head-i : goal.bounds-head-i
bounds-head-i c = omega (arith, top (goal.at.bounds-head-i c).Joined-supply)

pub offset_bounds-finish-p : goal.offset_bounds-finish-p
offset_bounds-finish-p c = omega (arith, top (goal.at.offset_bounds-finish-p c).Joined-supply)

pub bounds-finish-p : goal.bounds-finish-p
bounds-finish-p c = omega (arith, top (goal.at.bounds-finish-p c).Joined-supply, c.loop-t.invariant.state.written)

pub overflow_cast-i : goal.overflow_cast-i
overflow_cast-i c = omega (arith, top (goal.at.overflow_cast-i c).Joined-supply)

pub overflow_add-p : goal.overflow_add-p
overflow_add-p c = omega (arith, top (goal.at.overflow_add-p c).Joined-supply)

pub next_of-next-requires : goal.next_of-next-requires
next_of-next-requires c = omega (arith, top (goal.at.next_of-next-requires c).Joined-supply)

pub offset_bounds-head-i-in-loop-t : goal.offset_bounds-head-i-in-loop-t
offset_bounds-head-i-in-loop-t c = omega (arith, top (goal.at.offset_bounds-head-i-in-loop-t c).Joined-supply)

pub bounds-head-i-in-loop-t : goal.bounds-head-i-in-loop-t
bounds-head-i-in-loop-t c = omega (arith, top (goal.at.bounds-head-i-in-loop-t c).Joined-supply)

pub work_of-requires : goal.work_of-requires
work_of-requires c = c.loop-t.invariant.can.workable

pub offset_bounds-left-i-in-loop-t : goal.offset_bounds-left-i-in-loop-t
offset_bounds-left-i-in-loop-t c = omega (arith, top (goal.at.offset_bounds-left-i-in-loop-t c).Joined-supply)

pub bounds-left-i-in-loop-t : goal.bounds-left-i-in-loop-t
bounds-left-i-in-loop-t c = omega (arith, top (goal.at.bounds-left-i-in-loop-t c).Joined-supply)

pub loop-t-preserved : goal.loop-t-preserved
loop-t-preserved c =
    fill_done _ _ _ _ _ _ _ _ c.loop-t.invariant.can _ _ _ _ _ c.loop-t.invariant.state
    _
    _
    _
    _
    (top (goal.at.loop-t-preserved c).Joined-supply)
    c.if-t-wake.false
    refl
    c.if-rest-ne0.false
    c.next_of-next.ensures
    c.work_of.ensures

pub loop-t-smaller : goal.loop-t-smaller
loop-t-smaller c =
    omega (
      arith,
      (fill_done _ _ _ _ _ _ _ _ c.loop-t.invariant.can _ _ _ _ _ c.loop-t.invariant.state
          _
          _
          _
          _
          (top (goal.at.loop-t-smaller c).Joined-supply)
          c.if-t-wake.false
          refl
          c.if-rest-ne0.false
          c.next_of-next.ensures
          c.work_of.ensures).state.time,
    )
