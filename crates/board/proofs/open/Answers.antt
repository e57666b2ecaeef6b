-- The board holds what was planned.
use mathlib.Core.Option.{some, none}
use Rattle.refusal.proofs.PassedOn.{passed_answer}
use Rattle.frame.specs.FrameView.{framed_of}
use Rattle.admission.specs.Offers.{answer_by}
use Rattle.admission.specs.Offers.{plan_of as planned}
use Rattle.board.proofs.CommitLaws.{opened}
use Rattle.plan.specs.PlanView.{plan_view}
use Rattle.board.proofs.open.Goals as goal

pub returns-in_err-plan : goal.returns-in_err-plan
unfolding answer_by
returns-in_err-plan c = passed_answer _ _ _ c.from_residual.ensures.1 (opened _ (some _) (planned (framed_of c.args.s c.args.f)) c.in_err-plan.ensures)

pub returns : goal.returns
unfolding answer_by
returns c = opened _ none (plan_view c.in_ok-plan.plan c.args.f) c.in_ok-plan.ensures
