-- The sum is R(q), which is a natural number here.
use Prim.Native.Nat.{ℕ, ◌+◌}
use mathlib.Core.Path.{◌≡◌, ◌∙◌, sym, ap}
use native.Mathlib.Omega.{arith}
use lib.IntN.{pos, ◌+ℤ◌}
use mir.Syntax.{w64}
use mir.Val.{to_z, of_z, SFits}
use mir.ValLaws.{to_z-of_z}
use Rattle.model.specs.Processor.{pickup}
use Rattle.verdict.proofs.SignedLaws.{back, plain}
use Rattle.verdict.proofs.ResponseLaws.{offset_less_mag, response_of, response_is, response_low, response_high, response_sum}
use Rattle.verdict.proofs.response.Goals.{After-from-picked}
use Rattle.verdict.proofs.response.Goals as goal

summed : (c : After-from-picked)
    → to_z w64 (c.from-picked.result + pickup) +ℤ to_z w64 (of_z w64 c.max-shift.result)
    ≡ pos (response_of c.args.period c.args.jitter c.args.keep c.args.q c.args.w)
summed c =
    response_sum _ _ _ _ _ c.requires _ _ _ _ c.offset-x.type_inv c.min.type_inv c.max-shift.type_inv
    c.offset-x.ensures
    c.min.ensures.value
    c.max-shift.ensures.value
    (ap (λ (n : ℕ). n + pickup) c.from-picked.ensures)

-- it fits
fits : (c : After-from-picked) → SFits w64 (to_z w64 (c.from-picked.result + pickup) +ℤ to_z w64 (of_z w64 c.max-shift.result))
fits c = rw (summed c) (record { sfits = omega (arith, response_high _ _ _ _ _ c.requires) })

whole : (c : After-from-picked)
    → to_z w64 (of_z w64 (to_z w64 (c.from-picked.result + pickup) +ℤ to_z w64 (of_z w64 c.max-shift.result)))
    ≡ pos (response_of c.args.period c.args.jitter c.args.keep c.args.q c.args.w)
whole c = to_z-of_z w64 _ (fits c) ∙ summed c

pub overflow_sub-x : goal.overflow_sub-x
overflow_sub-x c =
    rw (back _ c.offset-x.type_inv, c.offset-x.ensures, plain c.args.keep (omega arith))
    (record {
      sfits = offset_less_mag c.args.period c.args.jitter c.args.q c.requires.period_high (omega arith)
          c.requires.q_high c.args.keep (omega arith);
    })

pub overflow_add-picked : goal.overflow_add-picked
overflow_add-picked c = omega (arith, c.from-picked.ensures, c.requires.w_high)

pub overflow_cast-result : goal.overflow_cast-result
overflow_cast-result c = omega (arith, c.from-picked.ensures, c.requires.w_high)

pub overflow_add-result : goal.overflow_add-result
overflow_add-result c = rw (summed (goal.at.overflow_add-result c).After-from-picked) (record { sfits = omega (arith, response_high _ _ _ _ _ c.requires) })

pub overflow_cast-result-2 : goal.overflow_cast-result-2
overflow_cast-result-2 c = rw (whole (goal.at.overflow_cast-result-2 c).After-from-picked) (tt, omega (arith, response_high _ _ _ _ _ c.requires))

pub returns : goal.returns
returns c = rw (whole (goal.at.returns c).After-from-picked) (record { is = sym (response_is _ _ _ _ _ c.requires); low = response_low _ _ _ _ _ c.requires })
