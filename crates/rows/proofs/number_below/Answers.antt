-- A number below the count, else 0.
use mathlib.Core.Path.{◌∙◌}
use Rattle.rows.proofs.RowLaws.{below_count, past_count}
use Rattle.rows.proofs.number_below.Goals as goal

pub returns-then-i-count : goal.returns-then-i-count
returns-then-i-count c =
    let from = c.args in
    c.number_at.ensures ∙ below_count from.column.now from.count from.i 0 c.if-i-count.true

pub returns : goal.returns
returns c = past_count _ _ _ _ c.if-i-count.false
