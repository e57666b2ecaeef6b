-- A list of releases that passed its checks, and kept jitters that did: what is printed of their run.
use Rattle.std.specs.Prelude.{ℕ, ◌≤◌, ◌≡◌, List, length}
use Rattle.std.proofs.Math.Option.{some, none}
use Rattle.model.specs.Limits.{max_releases}
use Rattle.model.specs.Tasks.{Tasks}
use Rattle.model.specs.Ready.{ready_list}
use Rattle.model.specs.Run.{finish_list}
use Rattle.model.specs.Checks.{check_tasks, check_kept, check_releases}
use Rattle.model.specs.Choice.{column}
use Rattle.model.specs.Calls.{releases_of}
use Rattle.report.specs.Report.{run_text}

-- a task set and n releases in columns that pass their checks
pub record Listed (s : Tasks) (n : ℕ) (task tick cost : List ℕ) : Type 0 where
  pub sheet : none ≡ check_tasks s
  pub few : n ≤ max_releases
  pub task_long : n ≤ length task
  pub tick_long : n ≤ length tick
  pub cost_long : n ≤ length cost
  pub list : none ≡ check_releases s 0 0 (releases_of n task tick cost)

-- a column of kept jitters that passes its check
pub record Kept (s : Tasks) (kept : List ℕ) : Type 0 where
  pub long : s.count ≤ length kept
  pub within : none ≡ check_kept s (some (column kept))

-- the text of the run of n releases in columns
unfoldable pub kept_text : Tasks → List ℕ → ℕ → List ℕ → List ℕ → List ℕ → List ℕ
kept_text s kept n task tick cost =
    run_text n task tick (ready_list s (column kept) (releases_of n task tick cost)) (finish_list s (column kept) (releases_of n task tick cost))
