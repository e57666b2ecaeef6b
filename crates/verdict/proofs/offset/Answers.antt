-- The product and the difference fit, so what is read back is the definition's x.
use mathlib.Core.Path.{◌≡◌, ◌∙◌}
use native.Mathlib.Omega.{arith}
use lib.IntN.{◌-ℤ◌, ◌*ℤ◌}
use mir.Syntax.{w64}
use mir.Val.{to_z, of_z, SFits}
use mir.ValLaws.{to_z-of_z}
use Rattle.model.specs.Bound as model
use Rattle.verdict.proofs.ResponseLaws.{product_fits, offset_sum, offset_mag}
use Rattle.verdict.proofs.offset.Goals.{Start}
use Rattle.verdict.proofs.offset.Goals as goal

is_offset
    : (c : Start)
    → to_z w64 c.args.jitter -ℤ to_z w64 (of_z w64 (to_z w64 c.args.q *ℤ to_z w64 c.args.period)) ≡ model.offset c.args.period c.args.jitter c.args.q
is_offset c = offset_sum _ _ _ c.requires.period_bound (omega arith) c.requires.q_bound

pub overflow_mul-result : goal.overflow_mul-result
overflow_mul-result c = product_fits _ c.args.jitter _ c.requires.period_bound (omega arith) c.requires.q_bound

-- the difference fits
fits : (c : Start) → SFits w64 (to_z w64 c.args.jitter -ℤ to_z w64 (of_z w64 (to_z w64 c.args.q *ℤ to_z w64 c.args.period)))
fits c = rw (is_offset c) (record { sfits = offset_mag _ _ _ c.requires.period_bound (omega arith) c.requires.q_bound })

pub overflow_sub-result : goal.overflow_sub-result
overflow_sub-result c = rw (is_offset (goal.at.overflow_sub-result c).Start) (record { sfits = offset_mag _ _ _ c.requires.period_bound (omega arith) c.requires.q_bound })

pub returns : goal.returns
returns c = to_z-of_z w64 _ (fits (goal.at.returns c).Start) ∙ is_offset (goal.at.returns c).Start
