-- The generator: pair after pair, each trace one release deeper.
use mathlib.Core.Path.{refl}
use native.Mathlib.Omega.{arith}
use Rattle.generator.specs.Generator.{grid_tasks}
use Rattle.generator.proofs.DeeperLaws.{
  branch_none,
  seeks_none,
  seeks_ended,
  seeks_deeper,
  seeking_none,
  seeking_room,
  seeking_all,
  seeking_found,
  seeking_next,
}
use Rattle.generator.proofs.+place_seek.Goals as goal

pub place-returns-then-now-floor_of : goal.place-returns-then-now-floor_of
place-returns-then-now-floor_of t c =
    seeks_none _ _ _ _ _ _ _ (branch_none (grid_tasks c.args.g) _ _ _ _ (rw (c.floor_of.ensures c.args.cost.now) at c.if-now-floor_of.true))

pub place-returns-then-n-eq0 : goal.place-returns-then-n-eq0
place-returns-then-n-eq0 t c =
    seeks_deeper (grid_tasks c.args.g) _ _ _ _ _ _ _ _ _ _ _ refl refl refl (omega (arith, c.requires.0.task_long))
    (omega (arith, c.requires.0.tick_long)) (omega (arith, c.requires.0.cost_long)) _ _ _ _
    (rw (c.floor_of.ensures c.args.cost.now) at c.if-now-floor_of.false) (seeks_ended _ _ _ _ _ _ _ _ _ _ c.if-n-eq0.true c.ended.ensures)

pub place-returns : goal.place-returns
place-returns t c =
    seeks_deeper (grid_tasks c.args.g) _ _ _ _ _ _ _ _ _ _ _ refl refl refl (omega (arith, c.requires.0.task_long))
    (omega (arith, c.requires.0.tick_long)) (omega (arith, c.requires.0.cost_long)) _ _ _ _
    (rw (c.floor_of.ensures c.args.cost.now) at c.if-now-floor_of.false) c.seek.ensures

pub seek-returns-then-n-eq0 : goal.seek-returns-then-n-eq0
seek-returns-then-n-eq0 t c = seeks_ended _ _ _ _ _ _ _ _ _ _ c.if-n-eq0.true c.ended.ensures

pub seek-loop-y-init : goal.seek-loop-y-init
seek-loop-y-init t c = seeking_none _ _ _ _ _ _ _ _ (omega arith)

pub seek-place-requires : goal.seek-place-requires
seek-place-requires t c = (
  omega (arith, c.decreases, c.loop-y.invariant.some_left),
  (seeking_room _ _ _ _ _ _ _ _ _ _ _ _ _ c.loop-y.invariant c.requires, c.loop-y-test.true),
)

pub seek-returns-in_err-left : goal.seek-returns-in_err-left
seek-returns-in_err-left t c =
    rw c.from_residual.ensures
    (seeking_found _ _ _ _ _ _ _ _ _ _ _ _ _ c.loop-y.invariant c.loop-y-test.true _ _ _ _ c.place.ensures _ c.in_err-left.was)

pub seek-loop-y-preserved : goal.seek-loop-y-preserved
seek-loop-y-preserved t c =
    seeking_next _ _ _ _ _ _ _ _ _ _ _ _ _ c.loop-y.invariant c.loop-y-test.true _ _ _ _ c.place.ensures _ c.in_ok-left.was
    c.place.auto.task c.place.auto.tick c.place.auto.cost

pub seek-returns : goal.seek-returns
seek-returns t c = seeking_all _ _ _ _ _ _ _ _ _ _ _ _ _ c.loop-y.invariant c.loop-y-test.false
