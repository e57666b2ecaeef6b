-- Each check decides where those before it pass.
use Rattle.refusal.proofs.PassedOn.{passed_on}
use mathlib.Core.Path.{◌≡◌, sym, ◌∙◌}
use mathlib.Core.Option.{some, none}
use mathlib.Core.List.{[], ◌∷◌}
use Rattle.model.specs.Checks.{check_tasks, check_count, check_slots}
use Rattle.model.proofs.CheckLaws.{valid_of}
use Rattle.taskset.specs.TaskSet.{view_of}
use Rattle.model.specs.Calls.{lends}
use Rattle.model.proofs.OrderLaws.{no_single, no_kept, no_unfit, refused_tasks, refused_count, refused_slots, releases_decide}
use Rattle.releases.proofs.ReleaseLaws.{columns_of}
use Rattle.releases.proofs.check_list.Goals.{In_ok-check, In_ok-check_count, In_ok-check_columns}
use Rattle.releases.proofs.check_list.Goals as goal

sheet_fine : (c : In_ok-check) → none ≡ check_tasks (view_of c.args.s)
sheet_fine c = c.in_ok-check.ensures

count_fine : (c : In_ok-check_count) → none ≡ check_count (some c.args.list.now.count)
count_fine c = c.in_ok-check_count.ensures

columns_fine
    : (c : In_ok-check_columns) → let a =
    c.args in none ≡ check_slots (lends a.list.now.count a.list.now.task.now ∷ lends a.list.now.count a.list.now.tick.now ∷ lends a.list.now.count a.list.now.cost.now ∷ [])
columns_fine c = c.in_ok-check_columns.ensures

pub returns-in_err-check : goal.returns-in_err-check
returns-in_err-check c = passed_on _ _ c.from_residual.ensures.1 (refused_tasks _ _ (c.in_err-check.ensures))

pub returns-in_err-check_count : goal.returns-in_err-check_count
returns-in_err-check_count c =
    passed_on _ _ c.from_residual-in_err-check_count.ensures.1 (refused_count _ _ (sheet_fine (goal.at.returns-in_err-check_count c).In_ok-check) (no_single _)
    (c.in_err-check_count.ensures))

pub returns-in_err-check_columns : goal.returns-in_err-check_columns
returns-in_err-check_columns c =
    passed_on _ _ c.from_residual-in_err-check_columns.ensures.1 (refused_slots _ _ (sheet_fine (goal.at.returns-in_err-check_columns c).In_ok-check) (no_single _) (count_fine (goal.at.returns-in_err-check_columns c).In_ok-check_count)
    (c.in_err-check_columns.ensures))

pub check_releases-requires : goal.check_releases-requires
check_releases-requires c =
    let a = c.args in
    let long = columns_of a.list.now.count a.list.now.task.now a.list.now.tick.now a.list.now.cost.now (columns_fine (goal.at.check_releases-requires c).In_ok-check_columns) in
    ((valid_of _ (sym (sheet_fine (goal.at.check_releases-requires c).In_ok-check))).few_tasks, long.task_long, long.tick_long, long.cost_long)

pub returns : goal.returns
returns c =
    c.check_releases.ensures
    ∙ releases_decide _ (sheet_fine (goal.at.returns c).In_ok-check) (no_single _) (count_fine (goal.at.returns c).In_ok-check_count) (columns_fine (goal.at.returns c).In_ok-check_columns)
    (no_kept _) no_unfit
