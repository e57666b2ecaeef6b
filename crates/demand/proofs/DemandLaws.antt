-- Laws of the demand, and of the search for W(q) by a rising list.
use Prim.Native.Nat.{ℕ, zero, suc, ◌+◌, ◌*◌, ◌≤◌, ◌<◌}
use mathlib.Core.Path.{◌≡◌}
use mathlib.Core.Logic.{dite}
use native.Mathlib.Omega.{arith}
use native.Mathlib.Nat.{le-mul_of_pos_right}
use native.Mathlib.Decide.{dec_lt}
use Rattle.model.specs.Series.{sum}
use Rattle.model.specs.Tasks.{Tasks, load, board_of, our_ticks}
use Rattle.model.specs.Demand.{above_load, demand}
use Rattle.model.proofs.SeriesLaws.{sum_le, on_le}
use Rattle.model.proofs.SupplyLaws.{supply_next, supply_high}
use Rattle.response.proofs.LoadSums.{Periodic, loads_rise}
use Rattle.response.proofs.WindowLaws.{Window, TooShortFrom}
use Rattle.demand.proofs.ArrivalCountLaws.{arrivals_some}
use Rattle.demand.specs.Searching.{TooShort}

module _ (s : Tasks) (k : ℕ → ℕ) (i : ℕ) (p : Periodic s i) where
  -- in more ticks the tasks above bring no less
  pub above_mono : (t u : ℕ) → t ≤ u → above_load s k i t ≤ above_load s k i u
  unfolding above_load
  above_mono = loads_rise (load s) s.period k k i p (λ j l. omega arith)

  -- from one tick on, each task above brings one job at least
  pub above_once : (t : ℕ) → 1 ≤ t → sum (load s) i ≤ above_load s k i t
  unfolding above_load
  above_once t h = sum_le _ _ i (λ j l. le-mul_of_pos_right (load s j) (arrivals_some _ _ t (p j l) h))

  -- and so the demand does not fall
  pub demand_mono : (q t u : ℕ) → t ≤ u → demand s k i q t ≤ demand s k i q u
  unfolding demand
  demand_mono q t u h = omega (arith, above_mono t u h)

-- one job more brings one load more
pub demand_next : (s : Tasks) (k : ℕ → ℕ) (i q t : ℕ) → demand s k i (suc q) t ≡ demand s k i q t + load s i
unfolding demand
demand_next s k i q t = omega arith

-- the jobs of the task itself
pub demand_own : (s : Tasks) (k : ℕ → ℕ) (i q t : ℕ) → suc q * load s i ≤ demand s k i q t
unfolding demand
demand_own s k i q t = omega arith

-- below the first member of the list of t, and below the next one, every t is too short
module _ (s : Tasks) (k : ℕ → ℕ) (i : ℕ) (p : Periodic s i) where
  -- what is below the first member is too short
  pub short_start : (q : ℕ) → TooShort s k i q (suc q * load s i + sum (load s) i)
  unfolding demand
  short_start q x l h = omega (arith, above_once s k i p x l)

  -- and what is below the next one
  pub short_next : (q t : ℕ) → TooShort s k i q t → TooShort s k i q (demand s k i q t)
  short_next q t f x l h = dite (dec_lt x t) (λ b. f x l b) (λ b. omega (arith, demand_mono s k i p q t x (omega arith)))

-- the same from a start u: t' is the least number of ticks among which, from u on, as many as some demand are ours
module _ (s : Tasks) (k : ℕ → ℕ) (i : ℕ) (p : Periodic s i) (q u : ℕ) where
  -- what is below the first number tried is too short
  pub from_start : (t : ℕ) → ((x : ℕ) → x < t → our_ticks s u x < suc q * load s i + sum (load s) i) → TooShortFrom s k i q u t
  unfolding demand
  from_start t h x a b = omega (arith, h x b, above_once s k i p x a)

  -- and what is below the next one
  pub from_next
      : (t t' : ℕ) → TooShortFrom s k i q u t → ((x : ℕ) → x < t' → our_ticks s u x < demand s k i q t) → TooShortFrom s k i q u t'
  from_next t t' f h x a b = dite (dec_lt x t) (λ l. f x a l) (λ l. omega (arith, h x b, demand_mono s k i p q t x (omega arith)))

module _ (s : Tasks) (k : ℕ → ℕ) (i : ℕ) where
  -- with one job more it is longer
  pub window_rises : Periodic s i → 1 ≤ load s i → (q v w : ℕ) → Window s k i q v → Window s k i (suc q) w → v < w
  window_rises p h q v w f g = go (g.met f.worst)
    where
      go : (t : ℕ) × (1 ≤ t) × (t ≤ w) × (demand s k i (suc q) t ≤ our_ticks s f.worst t) → v < w
      go (zero, low, high, met) = absurd (omega arith)
      go (suc t, low, high, met) = dite (dec_lt t v) (λ b. absurd (shorter b)) (λ b. omega arith)
        where
          one : our_ticks s f.worst (suc t) ≤ suc (our_ticks s f.worst t)
          one = omega (arith, supply_next (board_of s).ours f.worst t, on_le ((board_of s).ours (f.worst + t)) 1)

          -- the tick before would do for q
          some_tick : 1 ≤ t
          some_tick =
              omega (arith, met, demand_next s k i q (suc t), demand_own s k i q (suc t), supply_high (board_of s).ours f.worst (suc t))

          shorter : t < v → ⊥
          shorter b =
              omega (arith, one, met, demand_next s k i q (suc t), demand_mono s k i p q t (suc t) (omega arith), f.least t some_tick b)
