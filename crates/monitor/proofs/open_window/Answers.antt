-- The checks come first; then the slots are written.
use Rattle.refusal.proofs.PassedOn.{passed_on}
use Prim.Native.Nat.{◌+◌}
use mathlib.Core.Path.{◌≡◌, sym, ◌∙◌}
use mathlib.Core.Option.{none}
use native.Mathlib.Omega.{arith}
use Rattle.taskset.specs.TaskSet.{view_of}
use Rattle.model.specs.Checks.{check_tasks}
use Rattle.model.proofs.CheckLaws.{valid_of}
use Rattle.model.proofs.OrderLaws.{column_kept, column_written}
use Rattle.model.proofs.TableLaws.{length_table}
use Rattle.monitor.specs.Layout.{opened_on}
use Rattle.monitor.proofs.WindowLaws.{open_sheet, open_short, open_fine}
use Rattle.monitor.proofs.open_window.Goals.{In_ok-check}
use Rattle.monitor.proofs.open_window.Goals as goal

fine : (c : In_ok-check) → none ≡ check_tasks (view_of c.args.s)
fine c = c.in_ok-check.ensures

pub returns-in_err-check : goal.returns-in_err-check
returns-in_err-check c =
    let e = open_sheet _ c.args.window.now _ c.in_err-check.ensures in
    (record {
      code = passed_on _ _ c.from_residual.ensures.1 e;
      slots = column_kept _ _ _ _ e;
    })

pub returns-then-window-lt-SLOTS : goal.returns-then-window-lt-SLOTS
returns-then-window-lt-SLOTS c =
    let e = open_short _ c.args.window.now (fine (goal.at.returns-then-window-lt-SLOTS c).In_ok-check) c.if-window-lt-SLOTS.true in (record {
      code = e;
      slots = column_kept _ _ _ _ e;
    })

pub put_deadlines-requires : goal.put_deadlines-requires
put_deadlines-requires c = ((valid_of _ (sym (fine (goal.at.put_deadlines-requires c).In_ok-check))).few_tasks, c.if-window-lt-SLOTS.false)

pub returns : goal.returns
returns c =
    let a = c.args in
    let e = open_fine (view_of a.s) a.window.now (fine (goal.at.returns c).In_ok-check) c.if-window-lt-SLOTS.false in (record {
      code = e;
      slots = c.put_deadlines.ensures ∙ column_written _ (2 + a.s.count) (opened_on (view_of a.s)) a.window.now e
          (omega (arith, length_table (view_of a.s).deadline a.s.count));
    })
