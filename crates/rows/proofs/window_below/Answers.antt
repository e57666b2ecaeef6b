-- A window below the count, else 0.
use Rattle.rows.proofs.RowLaws.{below_count, past_count}
use Rattle.rows.proofs.window_below.Goals as goal

pub returns-then-k-count : goal.returns-then-k-count
returns-then-k-count c = below_count _ _ _ _ c.if-k-count.true

pub returns : goal.returns
returns c = past_count _ _ _ _ c.if-k-count.false
