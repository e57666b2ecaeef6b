-- The six facts of a run, for any start ticks, work and ticks that are ours; proofs/Facts.antt proves them (`facts`).
use Rattle.std.specs.Prelude.{ℕ, ◌+◌, ◌≤◌, ◌<◌, ◌≡◌, true}
use Rattle.std.proofs.Math.Option.{some}
use Rattle.model.specs.Series.{on, sum}
use Rattle.model.specs.Run.{Jobs, left_at, runs, runs_in}

-- of the ticks before t, those in which job p runs
unfoldable pub ran_before : Jobs → ℕ → ℕ → ℕ
ran_before j p t = sum (λ u. on (runs_in j p u) 1) t

pub record Facts (j : Jobs) : Type 0 where
  -- 1: at most one job runs in a tick, and only in one of ours
  pub one_job : (t p q : ℕ) → runs j t ≡ some p → runs j t ≡ some q → p ≡ q
  pub in_ours : (t p : ℕ) → runs j t ≡ some p → j.ours t ≡ true
  -- 2: a job runs only from its start tick on
  pub from_start : (t p : ℕ) → runs j t ≡ some p → j.start p ≤ t
  -- 3: the ticks in which it ran and the work that it has left are its work
  pub no_more : (t p : ℕ) → ran_before j p t + left_at j t p ≡ j.work p
  -- 4: where it runs no job of a task above is pending
  pub above_first
      : (t p q : ℕ) → runs j t ≡ some p → q < j.count → j.task q < j.task p → j.start q ≤ t → left_at j t q ≡ 0
  -- 5: nor an earlier job of its task
  pub older_first
      : (t p q : ℕ) → runs j t ≡ some p → q < j.count → j.task q ≡ j.task p → q < p → j.start q ≤ t → left_at j t q ≡ 0
  -- 6: where a job of a task up to i is pending in a tick of ours, a job of such a task runs
  pub no_idle
      : (t i q : ℕ) → j.ours t ≡ true → q < j.count → j.task q ≤ i → j.start q ≤ t → 0 < left_at j t q
      → (p : ℕ) × (runs j t ≡ some p) × (j.task p ≤ i)
