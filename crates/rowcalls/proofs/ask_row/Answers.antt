-- The refusal, 13, or the row.
use Prim.Native.Nat.{◌≤◌}
use mathlib.Core.List.{[]}
use mathlib.Core.Path.{refl}
use Rattle.frame.specs.FrameView.{framed_of}
use Rattle.admission.specs.Offers.{ask_call}
use Rattle.plan.specs.PlanView.{task_entry}
use Rattle.rowcalls.proofs.RowEndLaws.{ask_short, ask_refused, ask_few, ask_written}
use Rattle.rowcalls.proofs.ask_row.Goals.{In-Ok}
use Rattle.rowcalls.proofs.ask_row.Goals as goal

-- the new sheet has at most 32 tasks
short : (c : In-Ok) → c.in-Ok.plan.tasks.count ≤ 32
short c =
    let a = c.args in
    ask_short (ask_call (framed_of a.s a.f) (task_entry a.t) a.place) [] c.in-Ok.plan a.f c.in-Ok.ensures _ _ _ refl

pub returns-in-Err : goal.returns-in-Err
returns-in-Err c =
    let a = c.args in
    ask_refused (ask_call (framed_of a.s a.f) (task_entry a.t) a.place) _ _ _ _ c.in-Err.ensures c.slots_code.ensures

pub returns-then-row-lt227 : goal.returns-then-row-lt227
returns-then-row-lt227 c =
    let a = c.args in
    ask_few (ask_call (framed_of a.s a.f) (task_entry a.t) a.place) _ c.in-Ok.plan a.f c.in-Ok.ensures _ c.if-row-lt227.true c.short_code.ensures

pub put_plan-requires : goal.put_plan-requires
put_plan-requires c = (c.if-row-lt227.false, short (goal.at.put_plan-requires c).In-Ok)

pub returns-else-row-lt227 : goal.returns-else-row-lt227
returns-else-row-lt227 c =
    let a = c.args in
    ask_written (ask_call (framed_of a.s a.f) (task_entry a.t) a.place) a.row.now c.in-Ok.plan a.f c.in-Ok.ensures _
    c.if-row-lt227.false (short (goal.at.returns-else-row-lt227 c).In-Ok) (c.put_plan.ensures a.f)
