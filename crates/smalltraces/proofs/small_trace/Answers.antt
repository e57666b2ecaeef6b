-- The search, then the columns, then the rows are written to them.
use Rattle.refusal.proofs.PassedOn.{passed}
use native.Mathlib.Omega.{arith}
use Rattle.releases.proofs.ReleaseLaws.{columns_of}
use Rattle.smalltraces.proofs.SmallEndLaws.{
  call_refused,
  call_past,
  call_short,
  call_trace,
  found_refused,
  found_past,
  found_trace,
  found_columns,
  ends_refused,
  ends_past,
  ends_trace,
}
use Rattle.smalltraces.proofs.small_trace.Goals as goal

pub returns-in_err-found : goal.returns-in_err-found
returns-in_err-found c =
    rw (passed _ _ c.from_residual.ensures.1)
    (ends_refused _ _ _ _ _ (call_refused _ _ _ _ _ _ _ _ (found_refused _ _ _ _ _ c.in_err-found.ensures)))

pub returns-in_default : goal.returns-in_default
returns-in_default c = ends_past _ _ _ _ (call_past _ _ _ _ _ _ _ (found_past _ _ _ _ (rw c.in_default.is at c.in_ok-found.ensures)))

pub returns-in_err-check_columns : goal.returns-in_err-check_columns
returns-in_err-check_columns c =
    rw (passed _ _ c.from_residual-in_err-check_columns.ensures.1)
    (ends_refused _ _ _ _ _
    (call_short _ _ _ _ _ _ _ _ (found_trace _ _ _ _ _ (rw c.in-Some.is at c.in_ok-found.ensures)) _ c.in_err-check_columns.ensures))

pub put_rows-requires : goal.put_rows-requires
put_rows-requires c = (
  found_columns _ _ _ _ _ (rw c.in-Some.is at c.in_ok-found.ensures)
      (record {
        task_long = omega (arith, c.find.auto.task);
        tick_long = omega (arith, c.find.auto.tick);
        cost_long = omega (arith, c.find.auto.cost);
      }),
  columns_of _ _ _ _ c.in_ok-check_columns.ensures,
)

pub returns : goal.returns
returns c =
    let h = found_trace _ _ _ _ _ (rw c.in-Some.is at c.in_ok-found.ensures) in
    ends_trace _ _ _ _ _ _ _ _ _ _ _ h.trace h.long (c.find.ensures.rows _ h.is)
    (found_columns _ _ _ _ _ (rw c.in-Some.is at c.in_ok-found.ensures)
    (record {
      task_long = omega (arith, c.find.auto.task);
      tick_long = omega (arith, c.find.auto.tick);
      cost_long = omega (arith, c.find.auto.cost);
    }))
    (record {
      task_put = c.put_rows.ensures.task_column;
      tick_put = c.put_rows.ensures.tick_column;
      cost_put = c.put_rows.ensures.cost_column;
    })
    (call_trace _ _ _ _ _ _ _ _ h c.in_ok-check_columns.ensures)
