-- What an opening and a commit answer.
use Rattle.std.specs.Prelude as std
use Rattle.std.specs.Prelude.{ℕ, Result, Bool, ◌||◌, List, [], ◌∷◌, ltb}
use Rattle.std.proofs.Math.Option.{Option, some}
use Rattle.model.specs.Run.{finish_list}
use Rattle.model.specs.Choice.{column}
use Rattle.model.specs.Refusal as model
use Rattle.model.specs.Refusal.{Answer, first_refusal}
use Rattle.model.specs.Checks.{check_tasks, check_count, check_slots, check_kept, check_releases}
use Rattle.model.specs.Calls.{lends, releases_of}
use Rattle.taskset.specs.declared.TaskSet.{TaskSet}
use Rattle.refusal.specs.declared.Refusal.{Refusal}
use Rattle.refusal.specs.Refusal.{answer_in}
use Rattle.frame.specs.declared.Frame.{Frame}
use Rattle.frame.specs.FrameView.{framed_of}
use Rattle.admission.specs.Boards as admission_boards
use Rattle.plan.specs.declared.Plan.{Plan}
use Rattle.plan.specs.declared.Board.{Board}
use Rattle.plan.specs.PlanView.{plan_view, board_view}

-- an answer as the definitions have it
abbrev pub board_in : Result Board Refusal → Answer admission_boards.Board
board_in = answer_in board_view

-- what goes into a commit: an offer holds no frame of its own, it is about the frame that it was asked with
abbrev pub commit_of : Plan → TaskSet → std.Option Frame → ℕ → List ℕ → List ℕ → List ℕ → ℕ → admission_boards.Commit
commit_of o s f n task tick cost at = record {
  asked = framed_of s f;
  offer = plan_view o f;
  count = n;
  task = task;
  tick = tick;
  cost = cost;
  at = at;
}

-- what a commit checks before the offer
unfoldable pub list_refusal : admission_boards.Board → ℕ → List ℕ → List ℕ → List ℕ → Option model.Refusal
list_refusal b n task tick cost =
    first_refusal
    (check_tasks b.plan.tasks
    ∷ check_count (some n)
    ∷ check_slots (lends n task ∷ lends n tick ∷ lends n cost ∷ [])
    ∷ check_kept b.plan.tasks (some (column b.plan.kept))
    ∷ check_releases b.plan.tasks b.last 0 (releases_of n task tick cost)
    ∷ [])

-- a tick before the last commit's, or before a finish of the run of these releases
unfoldable pub soon_after : admission_boards.Board → ℕ → List ℕ → List ℕ → List ℕ → ℕ → Bool
soon_after b n task tick cost at =
    ltb at b.last || admission_boards.any_over at (finish_list b.plan.tasks (column b.plan.kept) (releases_of n task tick cost))
