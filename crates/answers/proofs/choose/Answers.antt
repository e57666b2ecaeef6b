use Prim.Native.Nat.{ℕ, ◌≤◌}
use mathlib.Core.Path.{sym}
use mathlib.Core.List.{List}
use lib.ListN.{length, replicate}
use Rattle.model.specs.Choice.{choice}
use Rattle.model.specs.Calls.{kept_column}
use Rattle.model.proofs.CheckLaws.{valid_of}
use Rattle.refusal.proofs.PassedOn.{passed}
use Rattle.taskset.specs.TaskSet.{view_of}
use Rattle.choice.specs.Choices.{scope_told}
use Rattle.answers.proofs.SaidLaws.{not_chosen, made, zeros_rest}
use Rattle.answers.proofs.choose.Goals.{Start}
use Rattle.answers.proofs.choose.Goals as goal

abbrev zeros : List ℕ
zeros = replicate 32 0

-- a task set within the limits has at most 32 tasks
few : (c : Start) → c.args.s.count ≤ 32
few c = (valid_of (view_of c.args.s) (sym c.requires)).few_tasks

pub returns-in_err-extent : goal.returns-in_err-extent
unfolding scope_told
returns-in_err-extent c =
    let r : Start = (goal.at.returns-in_err-extent c).Start in
    rw (passed _ _ c.from_residual.ensures.1) (not_chosen (view_of r.args.s) zeros zeros r.requires (few r) (few r) _ _ c.in_err-extent.ensures.result_value)

pub returns : goal.returns
unfolding scope_told
returns c =
    let r : Start = (goal.at.returns c).Start in
    made (view_of r.args.s) zeros zeros r.requires (few r) (few r) _ c.in_ok-extent.ensures.result_value c.in_ok-extent.ensures.kept_after c.in_ok-extent.ensures.worst_after
    (zeros_rest 32 (length (kept_column (choice (view_of r.args.s)))))
