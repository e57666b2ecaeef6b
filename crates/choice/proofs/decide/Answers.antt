-- The ordinary choice, and the other where it ends in 15.
use mathlib.Core.Path.{sym, ◌∙◌}
use native.Mathlib.Omega.{arith}
use Rattle.choice.proofs.DecideLaws.{decided_first, decided_second, decided_same}
use Rattle.choice.proofs.decide.Goals as goal

pub returns-then-s-fitted : goal.returns-then-s-fitted
returns-then-s-fitted c = decided_first _ _ c.choices_of-first.ensures c.if-s-fitted.true

pub any_low-requires : goal.any_low-requires
any_low-requires c = omega (arith, c.if-s-fitted.false, c.requires.few_tasks)

pub returns-then-any_low : goal.returns-then-any_low
returns-then-any_low c = decided_second _ _ c.choices_of-first.ensures (omega (arith, c.if-s-fitted.false)) _ c.choices_of-second.ensures

pub returns : goal.returns
returns c = decided_same _ _ c.choices_of-first.ensures (omega (arith, c.if-s-fitted.false)) (sym c.any_low.ensures ∙ c.if-any_low.false)
