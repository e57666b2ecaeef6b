-- Each way out is the refusal of one check, those before it having passed.
use mathlib.Core.Path.{◌≡◌, sym, ◌∙◌}
use mathlib.Core.Option.{none}
use Rattle.model.specs.Checks.{check_tasks}
use Rattle.model.proofs.CheckLaws.{valid_of}
use Rattle.model.proofs.OrderLaws.{refused_tasks}
use Rattle.model.proofs.FramedLaws.{kept_alike}
use Rattle.refusal.proofs.PassedOn.{passed_on}
use Rattle.taskset.specs.TaskSet.{view_of}
use Rattle.frame.specs.FrameView.{frame_of, framed_of}
use Rattle.demand.proofs.TaskCallLaws.{call_task, call_slots, call_kept}
use Rattle.demand.proofs.check_framed.Goals.{In_ok-check_sheet}
use Rattle.demand.proofs.check_framed.Goals as goal

fine : (c : In_ok-check_sheet) → none ≡ check_tasks (framed_of c.args.s c.args.f)
fine c = c.in_ok-check_sheet.ensures

pub returns-in_err-check_sheet : goal.returns-in_err-check_sheet
returns-in_err-check_sheet c = passed_on _ _ c.from_residual.ensures.1 (refused_tasks _ _ c.in_err-check_sheet.ensures)

pub returns-then-count-task : goal.returns-then-count-task
returns-then-count-task c = call_task _ _ c.args.kept.now (fine (goal.at.returns-then-count-task c).In_ok-check_sheet) c.if-count-task.true

pub returns-then-kept-count : goal.returns-then-kept-count
returns-then-kept-count c =
    call_slots _ _ c.args.kept.now (fine (goal.at.returns-then-kept-count c).In_ok-check_sheet) c.if-count-task.false c.if-kept-count.true

pub check_kept-requires : goal.check_kept-requires
check_kept-requires c = ((valid_of _ (sym (fine (goal.at.check_kept-requires c).In_ok-check_sheet))).few_tasks, c.if-kept-count.false)

pub returns : goal.returns
returns c =
    c.check_kept.ensures
    ∙ kept_alike (frame_of c.args.f) (view_of c.args.s) _
    ∙ call_kept (framed_of c.args.s c.args.f) _ c.args.kept.now (fine (goal.at.returns c).In_ok-check_sheet) c.if-count-task.false c.if-kept-count.false
