-- "After the last finish its ticks go on, idle."
use Prim.Native.Nat.{ℕ, suc, ◌≤◌, ◌<◌}
use mathlib.Core.Path.{◌≡◌, refl, ap}
use mathlib.Core.Option.{Option, some, none}
use mathlib.Core.List.{List}
use native.Mathlib.Omega.{arith}
use lib.ListN.{length}
use Rattle.model.specs.Series.{most}
use Rattle.model.specs.Tasks.{Tasks, Release}
use Rattle.model.specs.Run.{jobs, runs, finish_at}
use Rattle.model.specs.Claims.{Trace}
use Rattle.model.proofs.SeriesLaws.{le_by, most_ge, most_is}
use Rattle.theory.proofs.RunLaws.{runs_some}
use Rattle.theory.proofs.FinishLaws.{finish_ran, finish_over}
use Rattle.processor.specs.FinishBound.{Framed}
use Rattle.guarantee.specs.Idle.{IdleAfterLast}
use Rattle.guarantee.proofs.BoardRun.{served, works}

-- a largest value that is not 0 is one of some values
some_value : (f : ℕ → ℕ) (n t : ℕ) → most f n ≡ suc t → 1 ≤ n
unfolding most
some_value f n t e = le_by 1 n (λ l. let z : n ≡ 0 = omega arith in omega (arith, ap (most f) z))

module _ (s : Tasks) (v : Framed s) (k : ℕ → ℕ) (l : List Release) (tr : Trace s l) where
  -- in a tick that no job's finish is over, no job runs
  pub idle_at : (t : ℕ) → ((p : ℕ) → p < length l → finish_at s k l p ≤ t) → runs (jobs s k l) t ≡ none
  unfolding finish_at
  idle_at t h = go (runs (jobs s k l) t) refl
    where
      go : (o : Option ℕ) → runs (jobs s k l) t ≡ o → runs (jobs s k l) t ≡ none
      go none e = e
      go (some p) e =
          let b : p < length l = (runs_some (jobs s k l) t p e).in_list in
          absurd (finish_over (jobs s k l) (served s v k l) p b (works s k l tr p b) t (h p b) e)

  -- in the tick before the last finish a job runs
  pub busy_last : (t : ℕ) → most (finish_at s k l) (length l) ≡ suc t → (p : ℕ) × (p < length l) × (runs (jobs s k l) t ≡ some p)
  unfolding finish_at
  busy_last t e =
      let m : (p : ℕ) × (p < length l) × (most (finish_at s k l) (length l) ≡ finish_at s k l p) = most_is (finish_at s k l) (length l)
      (some_value (finish_at s k l) (length l) t e) in
      let r = finish_ran (jobs s k l) (served s v k l) m.0 m.1 (works s k l tr m.0 m.1) in
      let u : r.0 ≡ t = omega (arith, r.1, m.2) in
      (m.0, m.1, rw u at r.2.0)

-- from the last finish on, every tick is idle
pub idle_from : IdleAfterLast
idle_from s v k l tr t h = idle_at s v k l tr t (λ p b. omega (arith, most_ge (finish_at s k l) (length l) p b))
