-- The checks, the grid of the sheet, and the search in it.
use Rattle.refusal.proofs.PassedOn.{passed}
use Rattle.enumeration.proofs.FaultLaws.{passed_of}
use Rattle.smalltraces.proofs.GridLaws.{grid_all, grid_seekable}
use Rattle.smalltraces.proofs.FindLaws.{finds_refused, finds_either}
use Rattle.smalltraces.proofs.find.Goals as goal

pub returns-in_err-check_small : goal.returns-in_err-check_small
returns-in_err-check_small c = rw (passed _ _ c.from_residual.ensures.1) (finds_refused _ _ _ _ _ _ _ _ c.in_err-check_small.ensures)

pub grid_of-g-requires : goal.grid_of-g-requires
grid_of-g-requires c =
    let q = passed_of _ _ _ c.in_ok-check_small.ensures in
    (q.few_tasks, q.few_ticks)

pub search-requires : goal.search-requires
search-requires c = rw c.grid_of-g.ensures (grid_seekable c.args.s _ _ _ _ _ (passed_of _ _ _ c.in_ok-check_small.ensures) c.requires)

pub returns : goal.returns
returns c =
    rw c.break_value.ensures.value
    (finds_either _ _ _ _ c.in_ok-check_small.ensures _
    (grid_all c.args.s _ (passed_of _ _ _ c.in_ok-check_small.ensures).few_tasks _ c.grid_of-g.ensures _) _ _ _ _ c.search.ensures)
