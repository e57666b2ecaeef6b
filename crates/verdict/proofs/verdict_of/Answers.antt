-- The checks refuse, or the walk over the columns gives the verdict.
use mathlib.Core.Path.{◌≡◌, sym, ap, subst, ◌∙◌}
use mathlib.Core.Option.{none}
use native.Mathlib.Omega.{arith}
use Rattle.model.specs.Refusal.{answered}
use Rattle.model.specs.Choice.{column}
use Rattle.model.specs.Evaluations.{judged}
use Rattle.model.specs.Checks.{refusal_of}
use Rattle.model.specs.Calls.{task_inputs, verdict_call}
use Rattle.model.proofs.OrderLaws.{answers, refuses}
use Rattle.model.proofs.FramedLaws.{bare_valid}
use Rattle.refusal.proofs.PassedOn.{passed_answer}
use Rattle.taskset.specs.TaskSet.{view_of, entry_of}
use Rattle.frame.specs.FrameView.{frame_of, framed_of}
use Rattle.frame.specs.WindowColumns.{IsSupply, supply_lent}
use Rattle.demand.specs.Columns.{HasFactors, factors_lent}
use Rattle.demand.proofs.FlatColumnLaws.{factored}
use Rattle.demand.proofs.TaskCallLaws.{Passed, passed_of}
use Rattle.verdict.specs.Walking.{Walkable, tasks_in}
use Rattle.verdict.specs.VerdictAnswer.{judged_in}
use Rattle.verdict.proofs.WalkableLaws.{walkable, above_periods, flat_judged}
use Rattle.verdict.proofs.verdict_of.Goals.{In_ok-check_framed}
use Rattle.verdict.proofs.verdict_of.Goals as goal

fine : (c : In_ok-check_framed)
    → none ≡ refusal_of (task_inputs (framed_of c.args.s c.args.f) c.args.task c.args.kept.now)
fine c = c.in_ok-check_framed.ensures

passed : (c : In_ok-check_framed) → Passed (framed_of c.args.s c.args.f) c.args.task c.args.kept.now
passed c = passed_of (framed_of c.args.s c.args.f) c.args.task c.args.kept.now (fine c)

pub columns_of-columns-requires : goal.columns_of-columns-requires
columns_of-columns-requires c = bare_valid (frame_of c.args.f) (view_of c.args.s) (passed (goal.at.columns_of-columns-requires c).In_ok-check_framed).valid

pub factors_of-factors-requires : goal.factors_of-factors-requires
factors_of-factors-requires c = above_periods _ c.args.f _ _ _ _ (passed (goal.at.factors_of-factors-requires c).In_ok-check_framed) c.columns_of-columns.ensures

pub supply_of-supply-requires : goal.supply_of-supply-requires
supply_of-supply-requires c = (passed (goal.at.supply_of-supply-requires c).In_ok-check_framed).valid.framed

pub offset_bounds-s-task : goal.offset_bounds-s-task
offset_bounds-s-task c = omega (arith, passed (goal.at.offset_bounds-s-task c).In_ok-check_framed)

pub bounds-s-task : goal.bounds-s-task
bounds-s-task c = omega (arith, passed (goal.at.bounds-s-task c).In_ok-check_framed)

pub walk-requires : goal.walk-requires
walk-requires c =
    let p = passed (goal.at.walk-requires c).In_ok-check_framed in
    let f = c.columns_of-columns.ensures in
    let made = c.factors_of-factors.ensures in
    let framed = c.args.f in
    let own = entry_of c.args.s c.args.task in
    (record {
      walkable = subst (λ x. Walkable x.loads x.periods c.args.kept.now c.args.task own.jitter) (sym c.slices-lent_columns.ensures) (walkable _ framed _ _ _ _ p f);
      factored =
          subst (λ x. HasFactors x (factors_lent c.slices-lent_factors.result) c.args.task) (sym c.slices-lent_columns.ensures)
          (subst (λ x. HasFactors c.columns_of-columns.result x c.args.task) (sym c.slices-lent_factors.ensures)
          (factored _ _ _ _ _ made (above_periods _ framed _ _ _ _ p f).few (omega arith)));
      supplies = subst IsSupply (sym c.slices-lent_supply.ensures) c.supply_of-supply.ensures.supplies;
    })

pub returns-in_err-check_framed : goal.returns-in_err-check_framed
unfolding verdict_call
returns-in_err-check_framed c =
    passed_answer _ _ _ c.from_residual.ensures.1
    (refuses (task_inputs (framed_of c.args.s c.args.f) c.args.task c.args.kept.now) _ _ c.in_err-check_framed.ensures)

pub returns : goal.returns
unfolding verdict_call
returns c =
    let own = entry_of c.args.s c.args.task in
    ap answered
    (subst
    (λ x. judged_in c.walk.result ≡ judged (tasks_in x c.columns_of-columns.result own.jitter own.deadline) (column c.args.kept.now) c.args.task)
    c.slices-lent_supply.ensures
    (subst
    (λ x. judged_in c.walk.result ≡ judged (tasks_in (supply_lent c.slices-lent_supply.result) x own.jitter own.deadline) (column c.args.kept.now) c.args.task)
    c.slices-lent_columns.ensures
    c.walk.ensures)
    ∙ flat_judged _ c.args.f _ _ _ _ (passed (goal.at.returns c).In_ok-check_framed) c.columns_of-columns.ensures _ c.supply_of-supply.ensures.same)
    ∙ answers (task_inputs (framed_of c.args.s c.args.f) c.args.task c.args.kept.now) _ (fine (goal.at.returns c).In_ok-check_framed)
