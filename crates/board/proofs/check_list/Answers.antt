-- Each check in turn.
use Rattle.refusal.proofs.PassedOn.{passed_on}
use Prim.Native.Nat.{◌≤◌}
use mathlib.Core.Path.{◌≡◌, sym, ap, ◌∙◌}
use mathlib.Core.Option.{some, none}
use mathlib.Core.List.{[], ◌∷◌}
use native.Mathlib.Omega.{arith}
use lib.ListN.{take}
use Rattle.model.specs.Choice.{column}
use Rattle.model.specs.Checks.{check_tasks, check_count, check_slots, check_kept}
use Rattle.model.specs.Calls.{lends}
use Rattle.model.proofs.CheckLaws.{valid_of}
use Rattle.model.proofs.FramedLaws.{releases_alike}
use Rattle.taskset.specs.TaskSet.{view_of}
use Rattle.refusal.specs.Refusal.{refusal_in}
use Rattle.frame.specs.FrameView.{frame_of, framed_of}
use Rattle.releases.proofs.ReleaseLaws.{columns_of}
use Rattle.plan.specs.PlanView.{board_view}
use Rattle.board.proofs.CommitLaws.{kept_check, list_sheet, list_count, list_slots, list_kept, list_releases}
use Rattle.board.proofs.check_list.Goals.{In_ok-check_sheet, In_ok-check_count, In_ok-check_columns, After-check_kept}
use Rattle.board.proofs.check_list.Goals as goal

-- the sheet in force, the count, the columns
sheet_fine : (c : In_ok-check_sheet) → let a = c.args in none ≡ check_tasks (framed_of a.b.plan.tasks a.b.frame)
sheet_fine c = c.in_ok-check_sheet.ensures

few : (c : In_ok-check_sheet) → c.args.b.plan.tasks.count ≤ 32
few c = (valid_of _ (sym (sheet_fine c))).few_tasks

count_fine : (c : In_ok-check_count) → none ≡ check_count (some c.args.list.now.count)
count_fine c = c.in_ok-check_count.ensures

slots_fine
    : (c : In_ok-check_columns)
    → let a = c.args in
    none ≡ check_slots (lends a.list.now.count a.list.now.task.now ∷ lends a.list.now.count a.list.now.tick.now ∷ lends a.list.now.count a.list.now.cost.now ∷ [])
slots_fine c = c.in_ok-check_columns.ensures

-- the kept jitters in force
kept_same
    : (c : After-check_kept)
    → let a = c.args in
    refusal_in c.check_kept.result
    ≡ check_kept (framed_of a.b.plan.tasks a.b.frame) (some (column (take a.b.plan.tasks.count a.b.plan.keep)))
kept_same c =
    let a = c.args in
    c.check_kept.ensures ∙ kept_check (frame_of a.b.frame) (view_of a.b.plan.tasks) a.b.plan.keep _ c.kept_of-kept.ensures

pub returns-in_err-check_sheet : goal.returns-in_err-check_sheet
returns-in_err-check_sheet c =
    let a = c.args in
    passed_on _ _ c.from_residual.ensures.1 (list_sheet (board_view a.b) _ _ _ _ _ (c.in_err-check_sheet.ensures))

pub returns-in_err-check_count : goal.returns-in_err-check_count
returns-in_err-check_count c =
    let a = c.args in
    passed_on _ _ c.from_residual-in_err-check_count.ensures.1 (list_count (board_view a.b) _ _ _ _ _ (sheet_fine (goal.at.returns-in_err-check_count c).In_ok-check_sheet) c.in_err-check_count.ensures)

pub returns-in_err-check_columns : goal.returns-in_err-check_columns
returns-in_err-check_columns c =
    let a = c.args in
    passed_on _ _ c.from_residual-in_err-check_columns.ensures.1 (list_slots (board_view a.b) _ _ _ _ _ (sheet_fine (goal.at.returns-in_err-check_columns c).In_ok-check_sheet) (count_fine
    (goal.at.returns-in_err-check_columns c).In_ok-check_count) (c.in_err-check_columns.ensures))

pub kept_of-kept-requires : goal.kept_of-kept-requires
kept_of-kept-requires c = few (goal.at.kept_of-kept-requires c).In_ok-check_sheet

pub check_kept-requires : goal.check_kept-requires
check_kept-requires c = (few (goal.at.check_kept-requires c).In_ok-check_sheet, omega (arith, few (goal.at.check_kept-requires c).In_ok-check_sheet, c.kept_of-kept.ensures.long))

pub returns-in_err-check_kept : goal.returns-in_err-check_kept
returns-in_err-check_kept c =
    let a =
    c.args
    in
    passed_on _ _ c.from_residual-in_err-check_kept.ensures.1 (list_kept (board_view a.b) _ _ _ _ _ (sheet_fine
    (goal.at.returns-in_err-check_kept c).In_ok-check_sheet) (count_fine
    (goal.at.returns-in_err-check_kept c).In_ok-check_count) (slots_fine (goal.at.returns-in_err-check_kept c).In_ok-check_columns) (sym (ap refusal_in c.in_err-check_kept.was) ∙ kept_same (goal.at.returns-in_err-check_kept c).After-check_kept))

pub check_releases-requires : goal.check_releases-requires
check_releases-requires c =
    let a =
    c.args
    in
    let k = columns_of a.list.now.count a.list.now.task.now a.list.now.tick.now a.list.now.cost.now (slots_fine (goal.at.check_releases-requires c).In_ok-check_columns) in
    (few (goal.at.check_releases-requires c).In_ok-check_sheet, k.task_long, k.tick_long, k.cost_long)

pub returns : goal.returns
returns c =
    let a =
    c.args
    in
    c.check_releases.ensures ∙ releases_alike (frame_of a.b.frame) (view_of a.b.plan.tasks) _ _ _ ∙ list_releases (board_view a.b) _ _ _ _ (sheet_fine
    (goal.at.returns c).In_ok-check_sheet) (count_fine
    (goal.at.returns c).In_ok-check_count) (slots_fine (goal.at.returns c).In_ok-check_columns) (sym (ap refusal_in c.in_ok-check_kept.was) ∙ kept_same (goal.at.returns c).After-check_kept)
