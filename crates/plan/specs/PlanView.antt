-- A sheet with its choice, and a board, by value as the definitions see them.
use Rattle.std.specs.Prelude.{Option, take}
use Rattle.model.specs.Choice.{scope_in}
use Rattle.taskset.specs.declared.Task.{Task}
use Rattle.frame.specs.declared.Frame.{Frame}
use Rattle.frame.specs.FrameView.{framed_of}
use Rattle.admission.specs.Offers as admission_offers
use Rattle.admission.specs.Boards as admission_boards
use Rattle.plan.specs.declared.Plan.{Plan}
use Rattle.plan.specs.declared.Board.{Board}

-- a task as an entry of the definitions
abbrev pub task_entry : Task → admission_offers.Entry
task_entry t = record { period = t.period; jitter = t.jitter; cost = t.cost; deadline = t.deadline; low = t.low }

-- the sheet of a record with this frame, and the choice in it: slots past the count are not looked at
abbrev pub plan_view : Plan → Option Frame → admission_offers.Plan
plan_view p f = record {
  tasks = framed_of p.tasks f;
  kept = take p.tasks.count p.keep;
  worst = take p.tasks.count p.worst;
  scope = scope_in p.partial;
}

-- the sheet in force with its frame and its choice, and the tick of the last commit
abbrev pub board_view : Board → admission_boards.Board
board_view b = record { plan = plan_view b.plan b.frame; last = b.last }
