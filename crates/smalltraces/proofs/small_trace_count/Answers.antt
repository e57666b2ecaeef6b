-- The checks, the grid of the sheet, and the search for the largest position in it.
use native.Mathlib.Omega.{arith}
use Rattle.refusal.proofs.PassedOn.{passed_answer}
use Rattle.enumeration.proofs.FaultLaws.{passed_of}
use Rattle.smalltraces.proofs.GridLaws.{grid_all, grid_seekable}
use Rattle.smalltraces.proofs.FindLaws.{counts_refused, counts_never, counts_all}
use Rattle.smalltraces.proofs.small_trace_count.Goals as goal

pub returns-in_err-check_small : goal.returns-in_err-check_small
returns-in_err-check_small c = passed_answer _ _ _ c.from_residual.ensures.1 (counts_refused _ _ _ _ c.in_err-check_small.ensures)

pub grid_of-g-requires : goal.grid_of-g-requires
grid_of-g-requires c =
    let q = passed_of _ _ _ c.in_ok-check_small.ensures in
    (q.few_tasks, q.few_ticks)

pub search-requires : goal.search-requires
search-requires c =
    rw c.grid_of-g.ensures (grid_seekable c.args.s _ _ _ _ _ (passed_of _ _ _ c.in_ok-check_small.ensures)
    (record { task_long = omega arith; tick_long = omega arith; cost_long = omega arith }))

pub returns-in-Break : goal.returns-in-Break
returns-in-Break c =
    absurd (counts_never _ _ _ c.in_ok-check_small.ensures _
    (grid_all c.args.s _ (passed_of _ _ _ c.in_ok-check_small.ensures).few_tasks _
    c.grid_of-g.ensures _) _ _ _ _ c.search.ensures _ c.in-Break.is)

pub returns-in-Continue : goal.returns-in-Continue
returns-in-Continue c =
    counts_all _ _ _ c.in_ok-check_small.ensures _
    (grid_all c.args.s _ (passed_of _ _ _ c.in_ok-check_small.ensures).few_tasks _ c.grid_of-g.ensures _) _ _ _ _
    c.search.ensures _ c.in-Continue.is
