use mathlib.Core.Path.{sym, subst}
use native.Mathlib.Omega.{arith}
use Rattle.model.specs.Tasks.{Valid}
use Rattle.model.proofs.FramedLaws.{bare_valid}
use Rattle.taskset.specs.TaskSet.{view_of}
use Rattle.frame.specs.WindowColumns.{Prepared}
use Rattle.demand.specs.Columns.{Copied, HasFactors, factors_lent}
use Rattle.demand.proofs.FlatColumnLaws.{copied_periods, factored}
use Rattle.choice.proofs.ChoosingLaws.{choosing_none, choosing_walk, choosing_unfit, choosing_few, choosing_next, choosing_all}
use Rattle.choice.proofs.choices_of.Goals.{Start}
use Rattle.choice.proofs.choices_of.Goals as goal

-- the sheet is valid without its frame too
bare : (c : Start) → Valid (view_of c.args.s)
bare c = bare_valid _ (view_of c.args.s) c.requires

pub columns_of-columns-requires : goal.columns_of-columns-requires
columns_of-columns-requires c = bare (goal.at.columns_of-columns-requires c).Start

pub factors_of-factors-requires : goal.factors_of-factors-requires
factors_of-factors-requires c = copied_periods _ _ _ _ (bare (goal.at.factors_of-factors-requires c).Start) c.columns_of-columns.ensures (omega arith)

pub supply_of-supply-requires : goal.supply_of-supply-requires
supply_of-supply-requires c = c.requires.framed

pub loop-i-init : goal.loop-i-init
loop-i-init c = choosing_none _ _ _ _ _ (bare (goal.at.loop-i-init c).Start)
    (subst (λ x. Copied c.args.s c.args.s.count x.loads x.periods) (sym c.slices-lent_columns.ensures) c.columns_of-columns.ensures)

pub keep_for-found-requires : goal.keep_for-found-requires
keep_for-found-requires c =
    let f = c.loop-i.invariant in
    let below = c.loop-i-test.true in (record {
      walkable = choosing_walk _ _ _ _ _ _ _ _ _ f below;
      factored =
          subst (λ x. HasFactors x (factors_lent c.slices-lent_factors.result) c.loop-i.i) (sym c.slices-lent_columns.ensures)
          (subst (λ x. HasFactors c.columns_of-columns.result x c.loop-i.i) (sym c.slices-lent_factors.ensures)
          (factored _ _ _ _ c.loop-i.i c.factors_of-factors.ensures (omega (arith, f.valid.few_tasks)) (omega (arith, below))));
      supplies = (subst (Prepared c.args.f) (sym c.slices-lent_supply.ensures) c.supply_of-supply.ensures).supplies;
    })

pub returns-in_default : goal.returns-in_default
returns-in_default c =
    choosing_unfit _ _ _ _ _ _ _ _ _ c.loop-i.invariant c.loop-i-test.true _ (subst (Prepared c.args.f) (sym c.slices-lent_supply.ensures) c.supply_of-supply.ensures).same _
    c.is_spared-spared.ensures (rw c.in_default.is at c.keep_for-found.ensures)

pub overflow_add-evaluations : goal.overflow_add-evaluations
overflow_add-evaluations c =
    let f = c.loop-i.invariant in
    omega (
      arith,
      f.valid.few_tasks,
      choosing_few _ _ _ _ _ _ _ _ _ f c.loop-i-test.true _ _ _ _ _ c.is_spared-spared.ensures
          (rw c.in-Some.is at c.keep_for-found.ensures),
    )

pub loop-i-preserved : goal.loop-i-preserved
loop-i-preserved c =
    choosing_next _ _ _ _ _ _ _ _ _ c.loop-i.invariant c.loop-i-test.true _ _ _ _ _ c.is_spared-spared.ensures
    (rw c.in-Some.is at c.keep_for-found.ensures)

pub returns : goal.returns
returns c = choosing_all _ _ _ _ _ _ _ _ _ c.loop-i.invariant _ (subst (Prepared c.args.f) (sym c.slices-lent_supply.ensures) c.supply_of-supply.ensures).same c.loop-i-test.false
