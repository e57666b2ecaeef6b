use Prim.Native.Nat.{◌<◌}
use lib.ListN.{get_or}
use native.Mathlib.Omega.{arith}
use Rattle.model.specs.Limits.{max_tasks}
use Rattle.model.specs.Choice.{column}
use Rattle.taskset.specs.TaskSet.{view_of}
use Rattle.trace.proofs.CloseWalkLaws.{walk_small, Step}
use Rattle.trace.proofs.ReadyFillLaws.{Filling, filling_none, filling_next, filling_all}
use Rattle.trace.proofs.fill_ready.Goals.{At-loop-p, In-loop-p, After-shape-got}
use Rattle.trace.proofs.fill_ready.Goals as goal

-- the invariant for the sheet
filled
    : (c : At-loop-p)
    → Filling (view_of c.args.s) (column c.args.kept.now) c.args.count c.args.task.now c.args.tick.now
    c.args.ready.now c.loop-p.all.of c.loop-p.ready c.loop-p.p
filled c = c.loop-p.invariant _ c.requires.0 c.kept_shapers-all.ensures

-- the release at p is of a task of the sheet, which has a place in the array
placed : (c : In-loop-p) → get_or c.args.task.now c.loop-p.p 0 < max_tasks
placed c = omega (arith, c.requires.0.known _ c.loop-p-test.true, c.requires.0.few_tasks)

-- the release at p has gone through its shaper
stepped
    : (c : After-shape-got)
    → Step c.args.task.now c.args.tick.now
    c.loop-p.all.of c.loop-p.p c.shape-got.result
stepped c = record { none = _; shapes = c.shape-got.ensures }

pub kept_shapers-all-requires : goal.kept_shapers-all-requires
kept_shapers-all-requires c = (c.requires.0.few_tasks, c.requires.1)

pub loop-p-init : goal.loop-p-init
loop-p-init c = λ s w st. filling_none s _ _ _ _ _ _ st

pub overflow_cast-i : goal.overflow_cast-i
overflow_cast-i c = omega arith

pub offset_bounds-all-i : goal.offset_bounds-all-i
offset_bounds-all-i c = omega (arith, placed (goal.at.offset_bounds-all-i c).In-loop-p)

pub bounds-all-i : goal.bounds-all-i
bounds-all-i c = omega (arith, placed (goal.at.bounds-all-i c).In-loop-p)

pub shape-got-requires : goal.shape-got-requires
shape-got-requires c =
    walk_small _ _ _ _ _ c.requires.0 _ _ (filled (goal.at.shape-got-requires c).At-loop-p).walking
    c.loop-p-test.true _

pub offset_bounds-all-i-in-loop-p : goal.offset_bounds-all-i-in-loop-p
offset_bounds-all-i-in-loop-p c = omega (arith, placed (goal.at.offset_bounds-all-i-in-loop-p c).In-loop-p)

pub bounds-all-i-in-loop-p : goal.bounds-all-i-in-loop-p
bounds-all-i-in-loop-p c = omega (arith, placed (goal.at.bounds-all-i-in-loop-p c).In-loop-p)

pub bounds-ready-p : goal.bounds-ready-p
bounds-ready-p c = omega (arith, (filled (goal.at.bounds-ready-p c).At-loop-p).long)

pub loop-p-preserved : goal.loop-p-preserved
loop-p-preserved c =
    λ s w st. filling_next s _ _ _ _ _ w c.requires.2 _ _ _
    (c.loop-p.invariant s w st) c.loop-p-test.true _ (stepped (goal.at.loop-p-preserved c).After-shape-got)

pub shape_of-ready : goal.shape_of-ready
shape_of-ready c = omega (arith, (filled (goal.at.shape_of-ready c).At-loop-p).long)

pub returns : goal.returns
returns c = filling_all _ _ _ _ _ _ _ _ _ (filled (goal.at.returns c).At-loop-p) c.loop-p-test.false
