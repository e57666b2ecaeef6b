-- Limit and share, over any jobs.
use Prim.Native.Nat.{ℕ, zero, suc, ◌+◌, ◌*◌, ◌≤◌, ◌<◌}
use mathlib.Core.Path.{◌≡◌, refl}
use mathlib.Core.Bool.{Bool, true, false, ◌&&◌, not}
use mathlib.Core.Option.{Option, some, none}
use native.Mathlib.Nat.{add-zero, add-suc, le_trans}
use native.Mathlib.Omega.{arith}
use Rattle.model.specs.Series.{on, sum}
use Rattle.model.specs.Run.{Jobs, runs}
use Rattle.model.specs.Claims.{is_task, is_above, of_tasks}
use Rattle.model.proofs.SeriesLaws.{sum_longer}
use Rattle.model.proofs.SupplyLaws.{supply_none, supply_next}
use Rattle.theory.proofs.JobWindows.{supply, Spaced, Bounded, done_by, of_set, ran, win, of_those}
use Rattle.theory.specs.Windows.{used_by, idle_by, Clear}
use Rattle.theory.proofs.WorkLaws.{done_back, done_suc, back_zero}
use Rattle.theory.proofs.LoadLaws.{came_win, win_own, win_above}

-- the tick in which a job of some tasks runs is one in which a job of their set does
these : (us : ℕ → Bool) (j : Jobs) (o : Option ℕ) → of_tasks us j o ≡ of_set (of_those j us) o
these us j none = refl
these us j (some p) = refl

-- a tick of ours is used, or left over
part : (o x : Bool) → on o 1 ≤ on (o && not x) 1 + on x 1
unfolding on
part true true = omega arith
part true false = omega arith
part false x = omega arith

module _ (j : Jobs) (us : ℕ → Bool) (u : ℕ) where
  -- the ticks used are the work done
  pub used_done : (t : ℕ) → done_by j (of_those j us) (u + t) ≡ done_by j (of_those j us) u + used_by j us u t
  unfolding used_by sum ran
  used_done zero = rw (add-zero u) (omega arith)
  used_done (suc t) = rw (add-suc u t, these us j (runs j (u + t))) (omega (arith, used_done t, done_suc j (of_those j us) (u + t)))

  -- from a clear tick on the ticks used are at most the work that comes
  pub used_win : (t : ℕ) → Clear j us u → used_by j us u t ≤ win j (of_those j us) u t
  used_win t h =
      omega (arith, used_done t, came_win j u t (of_those j us), done_back j (of_those j us) u, done_back j (of_those j us) (u + t), back_zero j (of_those j us) u h)

  -- ticks of ours are used or left over
  pub supply_part : (t : ℕ) → supply j u t ≤ idle_by j us u t + used_by j us u t
  unfolding idle_by used_by sum
  supply_part zero = omega (arith, supply_none j.ours u)
  supply_part (suc t) = omega (arith, supply_next j.ours u t, supply_part t, part (j.ours (u + t)) (of_tasks us j (runs j (u + t))))

  -- more ticks leave no less over
  pub idle_longer : (m n : ℕ) → m ≤ n → idle_by j us u m ≤ idle_by j us u n
  unfolding idle_by
  idle_longer m n h = sum_longer _ m n h

-- limit: from a tick at which its own jobs that started before are finished, a task runs at most C × c of the next t ticks
pub limit_core : (j : Jobs) (i C : ℕ) (g : ℕ → ℕ) (c u t : ℕ)
    → ((p : ℕ) → p < j.count → j.task p ≡ i → j.work p ≤ C)
    → Spaced j i g
    → g 0 ≡ 0
    → ((k : ℕ) → g k < t → k < c)
    → Clear j (is_task i) u
    → used_by j (is_task i) u t ≤ C * c
limit_core j i C g c u t hw sp z h clear = le_trans (used_win j (is_task i) u t clear) (win_own j u t i C g c hw sp (λ l. h 0 (omega arith)) h)

-- share: from a tick at which the jobs of the tasks above i that started before are finished, the next t ticks leave over at least
-- the supply of the first n of them less the work that may come in those
pub share_core : (j : Jobs) (i : ℕ) (C : ℕ → ℕ) (g c : ℕ → ℕ → ℕ)
    → Bounded j i C g c
    → (u t n : ℕ)
    → n ≤ t
    → Clear j (is_above i) u
    → supply j u n ≤ idle_by j (is_above i) u t + sum (λ k. C k * c k n) i
share_core j i C g c b u t n l clear =
    omega (arith, supply_part j (is_above i) u n, idle_longer j (is_above i) u n t l, used_win j (is_above i) u n clear, win_above j u n i C g c b)
