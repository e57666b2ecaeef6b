-- Windows of ticks over any jobs: places of jobs, supply, work that came, was done and is left; sets of jobs.
use Prim.Native.Nat.{ℕ, ◌+◌, ◌-◌, ◌≤◌, ◌<◌}
use mathlib.Core.Path.{◌≡◌}
use mathlib.Core.Bool.{Bool, true, false, ◌&&◌, ◌||◌, not}
use mathlib.Core.Option.{Option, some, none}
use lib.Dec.{leb, ltb, eqb}
use Rattle.model.specs.Series.{on, sum}
use Rattle.model.specs.Frame as Frame
use Rattle.model.specs.Run.{Jobs, left_at, runs}

-- the jobs of task i among the first n
unfoldable pub place : (ℕ → ℕ) → ℕ → ℕ → ℕ
place task i n = sum (λ p. on (eqb (task p) i) 1) n

-- the ticks of ours among the t from s on
abbrev pub supply : Jobs → ℕ → ℕ → ℕ
supply j = Frame.supply j.ours

-- of a turn of ticks in a row, from any tick on, one at least is ours
abbrev pub Served : Jobs → Type 0
Served j = (u : ℕ) → 1 ≤ supply j u j.turn

-- a job of task i starts at least g k after the one k places before it
abbrev pub Spaced : Jobs → ℕ → (ℕ → ℕ) → Type 0
Spaced j i g =
    (m n : ℕ)
    → m < n
    → n < j.count
    → j.task m ≡ i
    → j.task n ≡ i
    → j.start m + g (place j.task i n - place j.task i m) ≤ j.start n

-- the tasks below number i: a job of task k takes at most C k, they keep gaps g k, and a gap below n is one of fewer than c k n places
pub record Bounded (j : Jobs) (i : ℕ) (C : ℕ → ℕ) (g c : ℕ → ℕ → ℕ) : Type 0 where
  pub most_work : (p : ℕ) → p < j.count → j.task p < i → j.work p ≤ C (j.task p)
  pub spaced : (k : ℕ) → k < i → Spaced j k (g k)
  pub zero_gap : (k : ℕ) → k < i → g k 0 ≡ 0
  pub counted : (k n x : ℕ) → k < i → g k x < n → x < c k n

-- the work that the jobs of a set have done at tick t
unfoldable pub done_by : Jobs → (ℕ → Bool) → ℕ → ℕ
done_by j u t = sum (λ p. on (u p) (j.work p - left_at j t p)) j.count

-- the work of the jobs of a set that start before tick t
unfoldable pub came : Jobs → (ℕ → Bool) → ℕ → ℕ
came j u t = sum (λ p. on (u p && ltb (j.start p) t) (j.work p)) j.count

-- of that, what is left at t
unfoldable pub back : Jobs → (ℕ → Bool) → ℕ → ℕ
back j u t = sum (λ p. on (u p && ltb (j.start p) t) (left_at j t p)) j.count

-- the work of all jobs that start at tick t or later
unfoldable pub rest : Jobs → ℕ → ℕ
rest j t = sum (λ p. on (not (ltb (j.start p) t)) (j.work p)) j.count

-- a job of a set runs
abbrev pub of_set : (ℕ → Bool) → Option ℕ → Bool
of_set u none = false
of_set u (some p) = u p

-- the jobs of some tasks
abbrev pub of_those : Jobs → (ℕ → Bool) → ℕ → Bool
of_those j us p = us (j.task p)

-- 1 where a job of a set runs in tick t, else 0
unfoldable pub ran : Jobs → (ℕ → Bool) → ℕ → ℕ
ran j u t = on (of_set u (runs j t)) 1

-- the work of the jobs of a set that start in the t ticks from s on
unfoldable pub win : Jobs → (ℕ → Bool) → ℕ → ℕ → ℕ
win j u s t = sum (λ p. on (u p && (leb s (j.start p) && ltb (j.start p) (s + t))) (j.work p)) j.count

-- job p goes before job q where both are pending
abbrev pub Before : (ℕ → ℕ) → ℕ → ℕ → Type 0
Before task p q = (task p ≤ task q) × (task p ≡ task q → p ≤ q)

-- a set that holds every job which goes before one of its jobs
abbrev pub Down : Jobs → (ℕ → Bool) → Type 0
Down j u = (p q : ℕ) → u q ≡ true → Before j.task p q → u p ≡ true

-- the jobs of the tasks above task i, and those of task i up to job n
unfoldable pub upto : Jobs → ℕ → ℕ → ℕ → Bool
upto j i n p = ltb (j.task p) i || (eqb (j.task p) i && leb p n)
