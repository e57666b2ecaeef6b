use mathlib.Core.Path.{◌≡◌, ap, ◌∙◌}
use native.Mathlib.Omega.{arith}
use Rattle.taskset.specs.TaskSet.{view_of}
use Rattle.choice.specs.Choices.{any_low}
use Rattle.choice.proofs.DecideLaws.{low_start, low_next, low_found}
use Rattle.choice.proofs.any_low.Goals as goal

pub loop-i-init : goal.loop-i-init
loop-i-init c = record { few = omega arith; within = omega arith; none_low = low_start _ }

pub returns-then-t : goal.returns-then-t
returns-then-t c = low_found _ c.loop-i.i _ (omega arith) c.if-t.true

pub loop-i-preserved : goal.loop-i-preserved
loop-i-preserved c = record { few = omega arith; within = omega arith; none_low = low_next _ _ c.loop-i.invariant.none_low c.if-t.false }

pub returns : goal.returns
returns c =
    let e : c.loop-i.i ≡ c.args.n = omega (arith, c.loop-i.invariant.within) in
    c.loop-i.invariant.none_low ∙ ap (λ m. any_low (view_of c.args.s).low m) e
