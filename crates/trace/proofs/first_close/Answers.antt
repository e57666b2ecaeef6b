use Prim.Native.Nat.{◌<◌}
use lib.ListN.{get_or}
use native.Mathlib.Omega.{arith}
use Rattle.model.specs.Limits.{max_tasks}
use Rattle.taskset.specs.TaskSet.{view_of}
use Rattle.trace.proofs.CloseWalkLaws.{walk_small, Step}
use Rattle.trace.proofs.CloseLaws.{Tracing, tracing_none, tracing_close, tracing_next, tracing_all}
use Rattle.trace.proofs.first_close.Goals.{At-loop-p, In-loop-p, After-shape-got}
use Rattle.trace.proofs.first_close.Goals as goal

-- the invariant for the sheet
traced
    : (c : At-loop-p)
    → Tracing (view_of c.args.s) c.args.list.now.count c.args.list.now.task.now c.args.list.now.tick.now c.loop-p.all.of c.loop-p.p
traced c = c.loop-p.invariant _ c.requires c.full_shapers-all.ensures

-- the release at p is of a task of the sheet, which has a place in the array
placed : (c : In-loop-p) → get_or c.args.list.now.task.now c.loop-p.p 0 < max_tasks
placed c = omega (arith, c.requires.known _ c.loop-p-test.true, c.requires.few_tasks)

-- the release at p has gone through its shaper
stepped
    : (c : After-shape-got)
    → Step c.args.list.now.task.now c.args.list.now.tick.now
    c.loop-p.all.of c.loop-p.p c.shape-got.result
stepped c = record { none = _; shapes = c.shape-got.ensures }

pub full_shapers-all-requires : goal.full_shapers-all-requires
full_shapers-all-requires c = c.requires.few_tasks

pub loop-p-init : goal.loop-p-init
loop-p-init c = λ s w st. tracing_none s _ _ _ _ st

pub overflow_cast-i : goal.overflow_cast-i
overflow_cast-i c = omega (arith, c.type_inv.task c.loop-p.p)

pub offset_bounds-all-i : goal.offset_bounds-all-i
offset_bounds-all-i c = omega (arith, placed (goal.at.offset_bounds-all-i c).In-loop-p)

pub bounds-all-i : goal.bounds-all-i
bounds-all-i c = omega (arith, placed (goal.at.bounds-all-i c).In-loop-p)

pub shape-got-requires : goal.shape-got-requires
shape-got-requires c =
    walk_small _ _ _ _ _ c.requires _ _ (traced (goal.at.shape-got-requires c).At-loop-p).walking
    c.loop-p-test.true _

pub returns-then-at-got : goal.returns-then-at-got
returns-then-at-got c =
    tracing_close _ _ _ _ c.requires _ _
    (traced (goal.at.returns-then-at-got c).At-loop-p) c.loop-p-test.true _
    (stepped (goal.at.returns-then-at-got c).After-shape-got) c.if-at-got.true

pub offset_bounds-all-i-in-loop-p : goal.offset_bounds-all-i-in-loop-p
offset_bounds-all-i-in-loop-p c = omega (arith, placed (goal.at.offset_bounds-all-i-in-loop-p c).In-loop-p)

pub bounds-all-i-in-loop-p : goal.bounds-all-i-in-loop-p
bounds-all-i-in-loop-p c = omega (arith, placed (goal.at.bounds-all-i-in-loop-p c).In-loop-p)

pub loop-p-preserved : goal.loop-p-preserved
loop-p-preserved c =
    λ s w st. tracing_next s _ _ _ w _ _ (c.loop-p.invariant s w st)
    c.loop-p-test.true _ (stepped (goal.at.loop-p-preserved c).After-shape-got)
    c.if-at-got.false

pub returns : goal.returns
returns c = tracing_all _ _ _ _ _ _ (traced (goal.at.returns c).At-loop-p) c.loop-p-test.false
