-- One release more: of another task it changes nothing, of the same task it raises the floor.
use native.Mathlib.Omega.{arith}
use Rattle.generator.proofs.FloorLaws.{gap_small, raised_other, raised_same}
use Rattle.generator.proofs.raise.Goals as goal

pub overflow_add-after : goal.overflow_add-after
overflow_add-after c =
    omega (
      arith,
      gap_small c.args.t.period c.args.t.jitter c.args.f.places (omega arith) c.requires.few,
    )

pub returns-then-same : goal.returns-then-same
returns-then-same c = raised_same _ _ _ _ _ _ _ c.if-same.true c.gap.ensures c.max.ensures

pub returns : goal.returns
returns c = raised_other _ _ _ _ _ c.if-same.false
