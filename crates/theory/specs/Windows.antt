-- Windows of ticks in a run of any jobs: what tasks use, and what they leave over.
use Rattle.std.specs.Prelude.{ℕ, ◌+◌, ◌<◌, ◌≡◌, Bool, true, ◌&&◌, not}
use Rattle.model.specs.Series.{on, sum}
use Rattle.model.specs.Run.{Jobs, left_at, runs}
use Rattle.model.specs.Claims.{of_tasks}

-- of the t ticks from u on, those in which a job of such a task runs
unfoldable pub used_by : Jobs → (ℕ → Bool) → ℕ → ℕ → ℕ
used_by j us u t = sum (λ n. on (of_tasks us j (runs j (u + n))) 1) t

-- of the t ticks from u on, those that are ours and in which no job of such a task runs
unfoldable pub idle_by : Jobs → (ℕ → Bool) → ℕ → ℕ → ℕ
idle_by j us u t = sum (λ n. on (j.ours (u + n) && not (of_tasks us j (runs j (u + n)))) 1) t

-- every job of such a task that may run before tick u has no work left at u
abbrev pub Clear : Jobs → (ℕ → Bool) → ℕ → Type 0
Clear j us u = (p : ℕ) → p < j.count → us (j.task p) ≡ true → j.start p < u → left_at j u p ≡ 0
