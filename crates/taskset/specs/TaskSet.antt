-- A task set as the definitions see it.
use Rattle.std.specs.Prelude.{ℕ, false, get_or}
use Rattle.std.proofs.Math.Option.{none}
use Rattle.model.specs.Tasks.{Tasks}
use Rattle.taskset.specs.declared.Task.{Task}
use Rattle.taskset.specs.declared.TaskSet.{TaskSet}

abbrev pub no_task : Task
no_task = record { period = 0; jitter = 0; cost = 0; deadline = 0; low = false }

-- the entry of a task
abbrev pub entry_of : TaskSet → ℕ → Task
entry_of s i = get_or s.tasks i no_task

-- the sheet of a task set, without a frame
abbrev pub view_of : TaskSet → Tasks
view_of s = record {
  count = s.count;
  period = λ i. (entry_of s i).period;
  jitter = λ i. (entry_of s i).jitter;
  cost = λ i. (entry_of s i).cost;
  deadline = λ i. (entry_of s i).deadline;
  low = λ i. (entry_of s i).low;
  charge = s.charge;
  frame = none;
}
