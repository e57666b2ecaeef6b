-- Laws of finish: where every turn has a tick of ours, each job finishes, and it is finished from its finish on and not before.
use Prim.Native.Nat.{ℕ, zero, suc, ◌+◌, ◌*◌, ◌≤◌, ◌<◌}
use mathlib.Core.Path.{◌≡◌, refl, sym, ap}
use mathlib.Core.Bool.{Bool, true, false, not}
use mathlib.Core.Option.{Option, some, none}
use mathlib.Core.Logic.{◌⊎◌, inl, inr}
use native.Mathlib.Nat.{eq-zero-or-pos, mul-le-mul, mul-le-mul_right}
use native.Mathlib.Omega.{arith}
use borrow.Author.Tests.{eq-eqb, eqb-true, le-ltb}
use lib.Dec.{ltb}
use Rattle.model.specs.Series.{on, sum, most}
use Rattle.model.specs.Run.{Jobs, left_at, runs, is_job, runs_in, end_of, finish_of}
use Rattle.model.proofs.SeriesLaws.{le_by, le_or_lt, clash, on_true, on_nil, on_le, sum_add, sum_ge, most_ge, most_le}
use Rattle.model.proofs.SupplyLaws.{supply_high, supply_stretches}
use Rattle.theory.proofs.JobWindows.{Served, supply, came, rest}
use Rattle.theory.proofs.RunLaws.{runs_some, left_zero, left_ran, left_later, finished_rests}
use Rattle.theory.proofs.WorkLaws.{busy, Latest, latest, latest_done}

-- all jobs
abbrev pub every : ℕ → Bool
every p = true

-- a term under a test and under its opposite
on_not : (b : Bool) (x : ℕ) → on b x + on (not b) x ≡ x
unfolding on
on_not true x = omega arith
on_not false x = omega arith

-- the work that has come and the rest are all work
all_work : (j : Jobs) (t : ℕ) → came j every t + rest j t ≡ sum j.work j.count
unfolding came rest
all_work j t = sum_add _ _ _ j.count (λ q l. on_not (ltb (j.start q) t) (j.work q))

module _ (j : Jobs) (p : ℕ) where
  -- a tick in which the job runs and from which on it is finished
  abbrev pub LastTick : ℕ → Type 0
  LastTick u = (runs j u ≡ some p) × (left_at j (suc u) p ≡ 0)

  -- a job that is finished at t ran for the last time before
  pub last_tick : (t : ℕ) → 1 ≤ j.work p → left_at j t p ≡ 0 → (u : ℕ) × (u < t) × LastTick u
  last_tick zero h e = absurd (omega (arith, left_zero j p))
  last_tick (suc t) h e = go (eq-zero-or-pos (left_at j t p)) (last_tick t h)
    where
      go : (left_at j t p ≡ 0) ⊎ (0 < left_at j t p) → (left_at j t p ≡ 0 → (u : ℕ) × (u < t) × LastTick u) → (u : ℕ) × (u < suc t) × LastTick u
      go (inl z) i = let r : (u : ℕ) × (u < t) × LastTick u = i z in (r.0, omega arith, r.2)
      go (inr z) i = (t, omega arith, (left_ran j t p (omega arith), e))

  -- after its last tick it does not run
  pub last_over : (u t : ℕ) → LastTick u → u < t → runs j t ≡ some p → ⊥
  last_over u t k l h = finished_rests j t p (left_later j (suc u) t p l k.1) h

  -- in and before its last tick it is not finished
  pub last_not : (u t : ℕ) → LastTick u → t ≤ u → left_at j t p ≡ 0 → ⊥
  last_not u t k l h = finished_rests j u p (left_later j t u p l h) k.0

  -- a job runs in a tick, as a test
  pub runs_in_lem : (t : ℕ) → runs j t ≡ some p → runs_in j p t ≡ true
  unfolding runs_in
  runs_in_lem t h = rw h (eq-eqb p p refl)

  -- the test tells that it runs
  pub in_runs : (t : ℕ) → runs_in j p t ≡ true → runs j t ≡ some p
  unfolding runs_in
  in_runs t h = go (runs j t) h
    where
      go : (o : Option ℕ) → is_job o p ≡ true → o ≡ some p
      go none e = clash false e refl
      go (some q) e = ap some (sym (eqb-true p q e))

  -- the finish, where the last tick is known
  finish_is : (u : ℕ) → LastTick u → u < end_of j → finish_of j p ≡ suc u
  unfolding finish_of
  finish_is u k l = omega (arith, low, high)
    where
      low : suc u ≤ most (λ t. on (runs_in j p t) (suc t)) (end_of j)
      low = rw (on_true _ _ (runs_in_lem u k.0)) at (most_ge (λ t. on (runs_in j p t) (suc t)) (end_of j) u l)

      small : (t : ℕ) → (t ≤ u) ⊎ (u < t) → on (runs_in j p t) (suc t) ≤ suc u
      small t (inl a) = omega (arith, on_le (runs_in j p t) (suc t))
      small t (inr a) = omega (arith, on_nil (runs_in j p t) (suc t) (λ e. absurd (last_over u t k a (in_runs t e))))

      high : most (λ t. on (runs_in j p t) (suc t)) (end_of j) ≤ suc u
      high = most_le _ (end_of j) (suc u) (λ t a. small t (le_or_lt t u))

-- such a turn has a tick
pub turn_some : (j : Jobs) → Served j → 1 ≤ j.turn
turn_some j served = omega (arith, served 0, supply_high j.ours 0 j.turn)

module _ (j : Jobs) (served : Served j) (p : ℕ) (hp : p < j.count) (h1 : 1 ≤ j.work p) where
  -- from the last tick up to its start at which nothing is behind, a turn for each tick of the work that starts later is time enough for a job to finish
  pub rest_done : (k : Latest j every (j.start p)) → left_at j (k.tick + rest j k.tick * j.turn) p ≡ 0
  unfolding rest
  rest_done k =
      latest_done j every p hp refl k (rest j k.tick * j.turn)
      (busy j every (λ a b e f. refl) k.tick (rest j k.tick * j.turn) k.quiet long enough)
    where
      work : 1 ≤ rest j k.tick
      work =
          let e : on (not (ltb (j.start p) k.tick)) (j.work p) ≡ j.work p = rw (le-ltb (j.start p) k.tick k.before) (on_true true (j.work p) refl) in
          omega (arith, sum_ge (λ q. on (not (ltb (j.start q) k.tick)) (j.work q)) j.count p hp)

      long : 0 < rest j k.tick * j.turn
      long = omega (arith, mul-le-mul {n₁ = 1} {m₁ = 1} {n₂ = rest j k.tick} {m₂ = j.turn} work (turn_some j served))

      enough : came j every (k.tick + rest j k.tick * j.turn) ≤ came j every k.tick + supply j k.tick (rest j k.tick * j.turn)
      enough =
          omega (
            arith,
            all_work j k.tick,
            all_work j (k.tick + rest j k.tick * j.turn),
            supply_stretches j.ours j.turn served k.tick (rest j k.tick),
          )

  -- every job finishes
  pub all_done : (t : ℕ) → end_of j ≤ t → left_at j t p ≡ 0
  unfolding end_of
  all_done t h =
      let k : Latest j every (j.start p) = latest j every (j.start p) in
      let r : rest j k.tick * j.turn ≤ sum j.work j.count * j.turn = mul-le-mul_right j.turn (omega (arith, all_work j k.tick)) in
      left_later j (k.tick + rest j k.tick * j.turn) t p (omega (arith, k.before, most_ge j.start j.count p hp)) (rest_done k)

  -- the last tick it ran, plus 1
  pub finish_ran : (u : ℕ) × (finish_of j p ≡ suc u) × LastTick j p u
  finish_ran =
      let r : (u : ℕ) × (u < end_of j) × LastTick j p u = last_tick j p (end_of j) h1 (all_done (end_of j) (omega arith)) in
      (r.0, finish_is j p r.0 r.2 r.1, r.2)

  -- a job with no work left has finished
  pub finish_by : (t : ℕ) → left_at j t p ≡ 0 → finish_of j p ≤ t
  finish_by t e = le_by _ t (λ l. last_not j p finish_ran.0 t finish_ran.2 (omega (arith, finish_ran.1)) e)

  -- from its finish on a job has no work left
  pub finish_done : (t : ℕ) → finish_of j p ≤ t → left_at j t p ≡ 0
  finish_done t h = left_later j (suc finish_ran.0) t p (omega (arith, finish_ran.1)) finish_ran.2.1

  -- a job with work left has not finished
  pub finish_not : (t : ℕ) → 0 < left_at j t p → t < finish_of j p
  finish_not t h = le_by (suc t) (finish_of j p) (λ l. omega (arith, finish_done t (omega arith)))

  -- the finish is the last tick, plus 1
  pub finish_last : (u : ℕ) → LastTick j p u → finish_of j p ≡ suc u
  finish_last u k = omega (arith, finish_by (suc u) k.1, le_by (suc u) (finish_of j p) (λ l. last_not j p u u k (omega arith) (finish_done u (omega arith))))

  -- a job starts before it finishes
  pub finish_late : j.start p < finish_of j p
  finish_late = omega (arith, finish_ran.1, (runs_some j finish_ran.0 p finish_ran.2.0).started)

  -- from its finish on a job does not run
  pub finish_over : (t : ℕ) → finish_of j p ≤ t → runs j t ≡ some p → ⊥
  finish_over t h = finished_rests j t p (finish_done t h)
