-- Demand and supply on any processor: the demand rises with q and t, a larger q is met later, and demands met one after the other are met together.
use Prim.Native.Nat.{ℕ, suc, ◌+◌, ◌≤◌, ◌<◌}
use native.Mathlib.Omega.{arith}
use native.Mathlib.Nat.{mul-le-mul_right}
use Rattle.model.specs.Processor.{Processor}
use Rattle.model.specs.Tasks.{Tasks}
use Rattle.model.proofs.SeriesLaws.{on_le}
use Rattle.model.proofs.SupplyLaws.{supply_next, supply_append}
use Rattle.response.proofs.LoadSums.{loads_rise, loads_add}
use Rattle.processor.specs.ProcessorDemand.{load_on, supply_on, above_on, demand_on}

module _ (m : Processor) (s : Tasks) (k : ℕ → ℕ) (i : ℕ) (periods : (j : ℕ) → j < i → 1 ≤ s.period j) where
  pub above_rises : (t u : ℕ) → t ≤ u → above_on m s k i t ≤ above_on m s k i u
  unfolding above_on
  above_rises = loads_rise (load_on m s) s.period k k i periods (λ j g. omega arith)

  -- the demand rises with q and with t
  pub demand_rises : (p q t u : ℕ) → p ≤ q → t ≤ u → demand_on m s k i p t ≤ demand_on m s k i q u
  unfolding demand_on
  demand_rises p q t u h g = omega (arith, above_rises t u g, mul-le-mul_right {m = suc p} {n = suc q} (load_on m s i) (omega arith))

  -- where the demand of q + 1 is met, that of q is met a tick before
  pub met_sooner
      : (from q t : ℕ) → 1 ≤ load_on m s i → demand_on m s k i (suc q) (suc t) ≤ supply_on m from (suc t) → demand_on m s k i q t ≤ supply_on m from t
  unfolding demand_on
  met_sooner from q t c h = omega (arith, above_rises t (suc t) (omega arith), supply_next m.ours from t, on_le (m.ours (from + t)) 1)

  pub above_add : (t u : ℕ) → above_on m s k i (t + u) ≤ above_on m s k i t + above_on m s k i u
  unfolding above_on
  above_add = loads_add (load_on m s) s.period k i periods

  -- the demand of a, and that of b from the end of its window on: both together meet that of a + 1 + b
  pub met_add
      : (from a b t u : ℕ) → demand_on m s k i a t ≤ supply_on m from t → demand_on m s k i b u ≤ supply_on m (from + t) u
      → demand_on m s k i (suc (a + b)) (t + u) ≤ supply_on m from (t + u)
  unfolding demand_on
  met_add from a b t u h g = omega (arith, supply_append m.ours from t u, above_add t u)
