use mathlib.Core.Path.{sym, ◌∙◌}
use native.Mathlib.Omega.{arith}
use Rattle.refusal.proofs.PassedOn.{passed}
use Rattle.loader.proofs.LoadLaws.{closed_refused, closed_open, closed_none, closed_fine, finishes}
use Rattle.loader.proofs.finish.Goals as goal

pub returns-in_err-l : goal.returns-in_err-l
returns-in_err-l c = finishes _ _ (passed _ _ c.from_residual.ensures.1 ∙ closed_refused _ _ c.in_err-l.was)

pub returns-then-has_begun : goal.returns-then-has_begun
returns-then-has_begun c = finishes _ _ (closed_open _ c.in_ok-l.was (sym c.has_begun.ensures ∙ c.if-has_begun.true))

pub returns-then-l-eq0 : goal.returns-then-l-eq0
returns-then-l-eq0 c = finishes _ _ (closed_none _ c.in_ok-l.was (sym c.has_begun.ensures ∙ c.if-has_begun.false) c.if-l-eq0.true)

pub returns : goal.returns
returns c = finishes _ _ (closed_fine _ c.in_ok-l.was (sym c.has_begun.ensures ∙ c.if-has_begun.false) (omega arith))
