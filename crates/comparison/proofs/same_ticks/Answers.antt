-- The ticks, the counts, then the windows.
use mathlib.Core.Path.{◌∙◌}
use native.Mathlib.Omega.{arith}
use Rattle.comparison.proofs.SheetTestLaws.{ticks_differ, windows_differ, windows_decide}
use Rattle.comparison.proofs.same_ticks.Goals as goal

pub returns-then-f-g : goal.returns-then-f-g
returns-then-f-g c = ticks_differ _ _ (λ e. omega arith)

pub returns-then-f-g-2 : goal.returns-then-f-g-2
returns-then-f-g-2 c = windows_differ _ _ (omega arith) (λ e. omega arith)

pub returns : goal.returns
returns c = c.same_windows.ensures ∙ windows_decide _ _ (omega arith) (omega arith)
