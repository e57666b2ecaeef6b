-- An empty row is no frame; else two numbers and the windows make one.
use Rattle.frame.proofs.RowLaws.{empty_row, full_row}
use Rattle.frame.proofs.frame_from.Goals as goal

pub returns-then-row-eq0 : goal.returns-then-row-eq0
returns-then-row-eq0 c = empty_row c.args.row.now c.if-row-eq0.true

pub returns : goal.returns
returns c = full_row c.args.row.now _ _ _ c.if-row-eq0.false c.number_at-ticks.ensures c.number_at-count.ensures c.windows_from-windows.ensures
