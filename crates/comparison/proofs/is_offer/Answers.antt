-- The place, the ask, the comparison.
use mathlib.Core.Path.{refl, ◌∙◌}
use mathlib.Core.Option.{some, none}
use native.Mathlib.Omega.{arith}
use Rattle.taskset.specs.TaskSet.{view_of}
use Rattle.frame.specs.FrameView.{framed_of}
use Rattle.admission.specs.Offers.{answer_by}
use Rattle.admission.specs.Boards.{differs}
use Rattle.plan.specs.PlanView.{plan_view}
use Rattle.comparison.proofs.OfferTestLaws.{end_most, full_none, offer_refused, offer_few, offer_planned}
use Rattle.comparison.proofs.is_offer.Goals as goal

pub returns-then-s-ge32 : goal.returns-then-s-ge32
returns-then-s-ge32 c = full_none _ _ c.if-s-ge32.true

pub offset_bounds-o-place : goal.offset_bounds-o-place
offset_bounds-o-place c =
    let a = c.args in
    omega (arith, c.first_difference-place.ensures, end_most (differs (view_of a.s) (view_of a.o.tasks)) a.s.count)

pub bounds-o-place : goal.bounds-o-place
bounds-o-place c =
    let a = c.args in
    omega (arith, c.first_difference-place.ensures, end_most (differs (view_of a.s) (view_of a.o.tasks)) a.s.count)

pub same_plan-requires : goal.same_plan-requires
unfolding answer_by
same_plan-requires c =
    let a = c.args in
    offer_few (framed_of a.s a.f) (plan_view a.o a.f) _ none _ c.first_difference-place.ensures c.in-Ok.ensures refl

pub returns-in-Ok : goal.returns-in-Ok
unfolding answer_by
returns-in-Ok c =
    let a = c.args in
    c.same_plan.ensures a.f
    ∙ offer_planned (framed_of a.s a.f) (plan_view a.o a.f) _ none _ c.first_difference-place.ensures c.in-Ok.ensures refl

pub returns-in-Err : goal.returns-in-Err
unfolding answer_by
returns-in-Err c =
    let a = c.args in
    offer_refused (framed_of a.s a.f) (plan_view a.o a.f) _ (some _) (plan_view a.o a.f) c.first_difference-place.ensures c.in-Err.ensures _ refl
