-- Laws of the searches over tasks and jobs.
use Prim.Native.Nat.{ℕ, zero, suc, ◌+◌, ◌-◌, ◌≤◌, ◌<◌, min}
use mathlib.Core.Path.{◌≡◌, refl, sym, ap, ◌∙◌}
use mathlib.Core.Logic.{◌⊎◌, inl, inr}
use mathlib.Core.Bool.{Bool, true, false}
use mathlib.Core.Option.{Option, some, none}
use mathlib.Core.List.{List}
use native.Mathlib.Omega.{arith}
use lib.ListN.{get_or}
use borrow.Author.Tests.{lt-ltb, le-ltb}
use Rattle.model.specs.Search.{first}
use Rattle.model.specs.Processor.{plain}
use Rattle.model.proofs.SearchLaws.{Found, first_found, first_nothing, search_here, search_next, search_end}
use Rattle.model.proofs.SeriesLaws.{below_suc, le_or_lt}
use Rattle.queues.specs.Queues.{start_of, or_else, first_from, never, wake_of, work_of, earliest}

-- a loop that looks at from, from + 1, .., n - 1 in turn and has passed all below p
pub record Passed (test : ℕ → Bool) (n from p : ℕ) : Type 0 where
  pub low : from ≤ p
  pub high : p ≤ n
  pub rest : first test (n - from) from ≡ first test (n - p) p

module _ (test : ℕ → Bool) (n from : ℕ) where
  pub passed_none : from ≤ n → Passed test n from from
  passed_none h = record { low = omega arith; high = h; rest = refl }

  pub passed_next : (p : ℕ) → Passed test n from p → p < n → test p ≡ false → Passed test n from (p + 1)
  passed_next p f l h = record { low = omega arith; high = omega arith; rest = f.rest ∙ search_next test n p l h }

  pub passed_here : (p : ℕ) → Passed test n from p → p < n → test p ≡ true → p ≡ first_from test n from
  unfolding or_else
  passed_here p f l h = sym (ap (or_else n) (f.rest ∙ search_here test n p l h))

  pub passed_all : (p : ℕ) → Passed test n from p → n ≤ p → n ≡ first_from test n from
  unfolding or_else
  passed_all p f l = sym (ap (or_else n) (f.rest ∙ search_end test n p l))

-- r is the first of from, .., n - 1 at which the test holds, or n
pub record Least (test : ℕ → Bool) (n from r : ℕ) : Type 0 where
  pub low : from ≤ r
  pub high : r ≤ n
  pub found : r < n → test r ≡ true
  pub before : (x : ℕ) → from ≤ x → x < r → test x ≡ false

pub least_is : (test : ℕ → Bool) (n from r : ℕ) → from ≤ n → r ≡ first_from test n from → Least test n from r
unfolding or_else
least_is test n from r h e = rw e (go (first test (n - from) from) refl)
  where
    go : (o : Option ℕ) → first test (n - from) from ≡ o → Least test n from (or_else n o)
    go none g =
        record {
          low = h;
          high = omega arith;
          found = λ l. absurd (omega arith);
          before = λ x a b. first_nothing test (n - from) from g x a (omega arith);
        }
    go (some p) g =
        let f : Found test (n - from) from p = first_found test (n - from) from p g in
        record { low = f.low; high = omega arith; found = λ l. f.holds; before = f.before }

-- the tick from which the job at p may run
module _ (ready : List ℕ) (n p : ℕ) where
  pub wake_in : p < n → wake_of ready n p ≡ start_of (get_or ready p 0)
  unfolding wake_of
  wake_in h = rw (lt-ltb p n h)

  pub wake_out : n ≤ p → wake_of ready n p ≡ never
  unfolding wake_of
  wake_out h = rw (le-ltb p n h)

-- the work of the job at p
module _ (cost : List ℕ) (charge n p : ℕ) where
  pub work_in : p < n → work_of cost charge n p ≡ (plain charge).work (get_or cost p 0)
  unfolding work_of
  work_in h = rw (lt-ltb p n h)

  pub work_out : n ≤ p → work_of cost charge n p ≡ 0
  unfolding work_of
  work_out h = rw (le-ltb p n h)

-- the least of some values is over none of them, and is one of them or never
pub earliest_le : (f : ℕ → ℕ) (n k : ℕ) → k < n → earliest f n ≤ f k
unfolding earliest
earliest_le f zero k h = absurd (omega arith)
earliest_le f (suc n) k h = go (below_suc k n h) (earliest_le f n k)
  where
    go : (k < n) ⊎ (k ≡ n) → (k < n → earliest f n ≤ f k) → min (earliest f n) (f n) ≤ f k
    go (inl l) i = omega (arith, i l)
    go (inr e) i = rw e (omega arith)

pub earliest_is : (f : ℕ → ℕ) (n : ℕ) → (earliest f n ≡ never) ⊎ ((k : ℕ) × (k < n) × (earliest f n ≡ f k))
unfolding earliest
earliest_is f zero = inl refl
earliest_is f (suc n) = go (earliest_is f n) (le_or_lt (earliest f n) (f n))
  where
    go : (earliest f n ≡ never) ⊎ ((k : ℕ) × (k < n) × (earliest f n ≡ f k))
        → (earliest f n ≤ f n) ⊎ (f n < earliest f n)
        → (min (earliest f n) (f n) ≡ never) ⊎ ((k : ℕ) × (k < suc n) × (min (earliest f n) (f n) ≡ f k))
    go (inl e) (inl l) = inl (omega arith)
    go (inr (k, a, e)) (inl l) = inr (k, omega arith, omega arith)
    go g (inr l) = inr (n, omega arith, omega arith)

pub earliest_next : (f : ℕ → ℕ) (n w : ℕ) → w ≡ earliest f n → min w (f n) ≡ earliest f (n + 1)
unfolding earliest
earliest_next f n w e = let s : n + 1 ≡ suc n = omega arith in rw (s, e)
