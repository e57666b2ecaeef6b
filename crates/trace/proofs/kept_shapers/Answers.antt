use native.Mathlib.Omega.{arith}
use Rattle.trace.proofs.StandingLaws.{standing_none, standing_more, standing_all}
use Rattle.trace.proofs.kept_shapers.Goals as goal

pub loop-i-init : goal.loop-i-init
loop-i-init c = (omega arith, standing_none _ _ _ _ c.new-unused.ensures)

pub offset_bounds-s-i : goal.offset_bounds-s-i
offset_bounds-s-i c = omega (arith, c.requires)

pub bounds-s-i : goal.bounds-s-i
bounds-s-i c = omega (arith, c.requires)

pub offset_bounds-kept-i : goal.offset_bounds-kept-i
offset_bounds-kept-i c = omega (arith, c.requires)

pub bounds-kept-i : goal.bounds-kept-i
bounds-kept-i c = omega (arith, c.requires)

pub offset_bounds-all-i : goal.offset_bounds-all-i
offset_bounds-all-i c = omega (arith, c.requires)

pub bounds-all-i : goal.bounds-all-i
bounds-all-i c = omega (arith, c.requires)

pub loop-i-preserved : goal.loop-i-preserved
loop-i-preserved c = (
  omega arith,
  standing_more _ _ _ _ _ c.loop-i.invariant.1 (omega (arith, c.requires)) c.new.ensures,
)

pub returns : goal.returns
returns c = standing_all _ _ _ _ _ _ c.loop-i.invariant.1 (omega arith)
