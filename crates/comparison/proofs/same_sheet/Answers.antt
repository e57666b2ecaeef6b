-- The counts, the charges, then the tasks.
use native.Mathlib.Omega.{arith}
use Rattle.comparison.proofs.SheetTestLaws.{count_differs, charge_differs, tasks_decide, none_same}
use Rattle.comparison.proofs.same_sheet.Goals as goal

pub returns-then-a-b : goal.returns-then-a-b
returns-then-a-b c = count_differs _ _ (λ e. omega arith)

pub returns-then-a-b-2 : goal.returns-then-a-b-2
returns-then-a-b-2 c = charge_differs _ _ (omega arith) (λ e. omega arith)

pub returns : goal.returns
returns c = tasks_decide _ _ _ (omega arith) (omega arith) c.first_difference.ensures none_same
