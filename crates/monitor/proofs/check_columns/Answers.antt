-- Each test is one of the columns, in their order.
use native.Mathlib.Omega.{arith}
use Rattle.monitor.proofs.ColumnLaws.{jobs_short, late_short, largest_short, columns_fine}
use Rattle.monitor.proofs.check_columns.Goals as goal

pub returns-then-jobs-n : goal.returns-then-jobs-n
returns-then-jobs-n c = jobs_short _ _ _ _ (omega arith)

pub returns-then-late-n : goal.returns-then-late-n
returns-then-late-n c = late_short _ _ _ _ (omega arith) (omega arith)

pub returns-then-largest-n : goal.returns-then-largest-n
returns-then-largest-n c = largest_short _ _ _ _ (omega arith) (omega arith) (omega arith)

pub returns : goal.returns
returns c = columns_fine _ _ _ _ (omega arith) (omega arith) (omega arith)
