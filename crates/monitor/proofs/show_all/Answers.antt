-- The window's checks, then the columns'; then the columns are filled.
use Rattle.refusal.proofs.PassedOn.{passed_on}
use mathlib.Core.Path.{◌≡◌, ◌∙◌}
use mathlib.Core.Option.{none}
use native.Mathlib.Omega.{arith}
use lib.ListN.{length}
use Rattle.model.specs.Checks.{check_slots}
use Rattle.model.proofs.OrderLaws.{column_kept, column_written}
use Rattle.model.proofs.TableLaws.{length_table}
use Rattle.monitor.specs.Layout.{tasks_in}
use Rattle.monitor.specs.MonitorCalls.{check_window, columns_lent}
use Rattle.monitor.proofs.WindowLaws.{usable_of}
use Rattle.monitor.proofs.ColumnLaws.{columns_of, all_window, all_columns}
use Rattle.monitor.proofs.show_all.Goals.{In_ok-check_window, In_ok-check_columns}
use Rattle.monitor.proofs.show_all.Goals as goal

fine : (c : In_ok-check_window) → none ≡ check_window c.args.window.now
fine c = c.in_ok-check_window.ensures

room : (c : In_ok-check_columns) → let a =
    c.args in none ≡ check_slots
    (columns_lent (tasks_in a.window.now) (length a.jobs.now) (length a.late.now) (length a.largest.now))
room c = c.in_ok-check_columns.ensures

pub returns-in_err-check_window : goal.returns-in_err-check_window
returns-in_err-check_window c =
    let a = c.args in
    let e = all_window a.window.now a.jobs.now a.late.now a.largest.now _ c.in_err-check_window.ensures in
    (record {
      code = passed_on _ _ c.from_residual.ensures.1 e;
      jobs_shown = column_kept _ _ _ _ e;
      late_shown = column_kept _ _ _ _ e;
      largest_shown = column_kept _ _ _ _ e;
    })

pub bounds-window-0 : goal.bounds-window-0
bounds-window-0 c = omega (arith, (usable_of _ (fine (goal.at.bounds-window-0 c).In_ok-check_window)).long)

pub returns-in_err-check_columns : goal.returns-in_err-check_columns
returns-in_err-check_columns c =
    let a = c.args in
    let e =
    c.in_err-check_columns.ensures
    ∙ all_columns a.window.now a.jobs.now a.late.now a.largest.now (fine (goal.at.returns-in_err-check_columns c).In_ok-check_window) in
    (record {
      code = passed_on _ _ c.from_residual-in_err-check_columns.ensures.1 e;
      jobs_shown = column_kept _ _ _ _ e;
      late_shown = column_kept _ _ _ _ e;
      largest_shown = column_kept _ _ _ _ e;
    })

pub count_all-requires : goal.count_all-requires
count_all-requires c =
    let u = usable_of _ (fine (goal.at.count_all-requires c).In_ok-check_window) in
    let r = columns_of _ _ _ _ (room (goal.at.count_all-requires c).In_ok-check_columns) in
    (u.long, u.few_tasks, r.0, r.1, r.2)

pub returns : goal.returns
returns c =
    let a = c.args in
    let e = room (goal.at.returns c).In_ok-check_columns ∙ all_columns a.window.now a.jobs.now a.late.now a.largest.now (fine (goal.at.returns c).In_ok-check_window) in
    let counted = c.count_all.ensures in (record {
      code = e;
      jobs_shown = counted.jobs_after ∙ column_written _ _ _ _ e (length_table _ _);
      late_shown = counted.late_after ∙ column_written _ _ _ _ e (length_table _ _);
      largest_shown = counted.largest_after ∙ column_written _ _ _ _ e (length_table _ _);
    })
