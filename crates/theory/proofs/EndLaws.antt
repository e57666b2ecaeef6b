-- Where every turn has a tick of ours: a bound of every finish, from bounds of the work and of the start ticks of the jobs.
use Prim.Native.Nat.{ℕ, zero, suc, ◌+◌, ◌*◌, ◌≤◌, ◌<◌}
use mathlib.Core.Path.{◌≡◌, refl}
use mathlib.Core.Bool.{Bool, true, false, not}
use native.Mathlib.Nat.{mul-zero, mul-le-mul_left, mul-le-mul_right}
use native.Mathlib.Omega.{arith}
use borrow.Author.Tests.{eqb-true, lt-ltb}
use lib.Dec.{ltb, eqb}
use Rattle.model.specs.Series.{on, sum}
use Rattle.model.specs.Run.{Jobs, finish_of}
use Rattle.model.proofs.SeriesLaws.{le_by, sum_le, sum_longer}
use Rattle.theory.proofs.JobWindows.{place, rest, Served}
use Rattle.theory.proofs.WorkLaws.{Latest, latest}
use Rattle.theory.proofs.FinishLaws.{every, turn_some, rest_done, finish_by}
use Rattle.theory.proofs.FitsOfJobs.{Lead, lead_of_lem}

-- X for each member of a set, and terms of at most X for the others
parts_le : (v : ℕ → Bool) (w : ℕ → ℕ) (X n : ℕ) → ((p : ℕ) → p < n → w p ≤ X) → X * sum (λ p. on (v p) 1) n + sum (λ p. on (not (v p)) (w p)) n ≤ X * n
unfolding sum on
parts_le v w X zero h = omega (arith, mul-zero X)
parts_le v w X (suc n) h = go (v n) (parts_le v w X n (λ p l. h p (omega arith)))
  where
    go : (b : Bool) → X * sum (λ p. on (v p) 1) n + sum (λ p. on (not (v p)) (w p)) n ≤ X * n
        → X * (sum (λ p. on (v p) 1) n + on b 1) + (sum (λ p. on (not (v p)) (w p)) n + on (not b) (w n)) ≤ X * suc n
    go true i = omega arith
    go false i = omega (arith, h n (omega arith))

-- how many jobs start before tick u
unfoldable pub started_by : Jobs → ℕ → ℕ
started_by j u = sum (λ q. on (ltb (j.start q) u) 1) j.count

module _ (j : Jobs) (T X : ℕ) where
  -- jobs that start at T + X × their place among their task's jobs or before: where some job starts at u or later, u is at most T + X × the jobs that start before u
  pub start_high
      : ((p : ℕ) → p < j.count → j.start p ≤ T + X * place j.task (j.task p) p)
      → (u p : ℕ)
      → p < j.count
      → u ≤ j.start p
      → u ≤ T + X * started_by j u
  unfolding started_by place on
  start_high h u p l le = go (lead_of_lem j (j.task p) u p refl le)
    where
      go : Lead j (j.task p) u p → u ≤ T + X * started_by j u
      go m =
          let own : j.start m.job ≤ T + X * place j.task (j.task p) m.job = rw m.own at (h m.job (omega (arith, m.job_le))) in
          omega (arith, m.not_before, mul-le-mul_left X earlier)
        where
          before : (q : ℕ) → q < m.job → (b : Bool) → eqb (j.task q) (j.task p) ≡ b → on b 1 ≤ on (ltb (j.start q) u) 1
          before q a true e = rw (lt-ltb (j.start q) u (le_by (suc (j.start q)) u (λ x. omega (arith, m.first q (eqb-true _ _ e) (omega arith))))) (omega arith)
          before q a false e = omega arith

          earlier : place j.task (j.task p) m.job ≤ started_by j u
          earlier =
              omega (
                arith,
                sum_le (λ q. on (eqb (j.task q) (j.task p)) 1) (λ q. on (ltb (j.start q) u) 1) m.job (λ q a. before q a (eqb (j.task q) (j.task p)) refl),
                sum_longer (λ q. on (ltb (j.start q) u) 1) m.job j.count (omega (arith, m.job_le)),
              )

  -- jobs of which that holds, each of work X or less: every finish is at most T + X turns for each job
  pub finish_high
      : Served j
      → ((p : ℕ) → p < j.count → j.work p ≤ X)
      → ((u p : ℕ) → p < j.count → u ≤ j.start p → u ≤ T + X * started_by j u)
      → (p : ℕ)
      → p < j.count
      → 1 ≤ j.work p
      → finish_of j p ≤ T + X * j.count * j.turn
  unfolding started_by rest
  finish_high served small high p h l =
      let k : Latest j every (j.start p) = latest j every (j.start p) in
      omega (
        arith,
        finish_by j served p h l (k.tick + rest j k.tick * j.turn) (rest_done j served p h l k),
        high k.tick p h k.before,
        mul-le-mul_left (X * started_by j k.tick) (turn_some j served),
        mul-le-mul_right j.turn (parts_le (λ q. ltb (j.start q) k.tick) j.work X j.count small),
      )
