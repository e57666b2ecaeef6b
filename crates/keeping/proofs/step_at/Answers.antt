-- The answer of a step, by its two tests.
use Prim.Native.Nat.{ℕ, ◌+◌, ◌-◌, max}
use mathlib.Core.Path.{◌≡◌, ap, ap₂, ◌∙◌}
use native.Mathlib.Omega.{arith}
use Rattle.model.specs.Processor.{pickup}
use Rattle.keeping.specs.Keeping.{next_high}
use Rattle.keeping.proofs.ChoiceStepLaws.{step_over, step_keep, step_next}
use Rattle.keeping.proofs.step_at.Goals.{After-max-next, After-saturating_sub-keep}
use Rattle.keeping.proofs.step_at.Goals as goal

-- the largest W(q) + pickup + J − qP so far
next_is
    : (c : After-max-next)
    → c.max-next.result ≡ next_high c.args.period c.args.jitter c.args.high c.args.q c.args.w
next_is c =
    c.max-next.ensures
    ∙ ap₂ max c.from-2.ensures
    (c.saturating_sub-2.ensures
    ∙ ap₂ ◌-◌ (ap₂ ◌+◌ (ap (λ (x : ℕ). x + pickup) c.from-t.ensures) c.from-3.ensures) c.product-base.ensures.is)

-- the least K so far
kept : (c : After-saturating_sub-keep) → c.saturating_sub-keep.result ≡ c.max-next.result - c.args.deadline
kept c = c.saturating_sub-keep.ensures ∙ ap (◌-◌ c.max-next.result) c.from-d.ensures

pub returns-then-d-saturating_sub : goal.returns-then-d-saturating_sub
returns-then-d-saturating_sub c = step_over _ _ _ _ _ _ (omega arith)

pub returns-then-t-gap : goal.returns-then-t-gap
returns-then-t-gap c =
    step_keep _ _ _ _ _ _ (omega arith) _ _ _ (next_is (goal.at.returns-then-t-gap c).After-max-next) (kept (goal.at.returns-then-t-gap c).After-saturating_sub-keep) (omega arith)
    (omega (arith, c.gap.ensures))

pub returns : goal.returns
returns c =
    step_next _ _ _ _ _ _ (omega arith) _ (next_is (goal.at.returns c).After-max-next)
    (rw (← kept (goal.at.returns c).After-saturating_sub-keep) (omega (arith, c.gap.ensures)))
