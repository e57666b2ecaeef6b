-- The columns hold the choice.
use native.Mathlib.Omega.{arith}
use Rattle.refusal.proofs.PassedOn.{passed_answer}
use Rattle.choice.specs.Choices.{scope_told}
use Rattle.offer.proofs.PlanLaws.{made, not_made}
use Rattle.offer.proofs.plan_of.Goals as goal

pub returns-in_err-extent : goal.returns-in_err-extent
unfolding scope_told
returns-in_err-extent c =
    passed_answer _ _ _ c.from_residual.ensures.1
    (not_made _ _ c.choose.new.kept c.choose.new.worst (omega arith) _ c.in_err-extent.ensures.result_value)

pub returns : goal.returns
unfolding scope_told
returns c =
    let told = c.in_ok-extent.ensures in
    made _ _ _ _ (omega arith) _ _ told.result_value c.is_partial.ensures told.kept_after told.worst_after
