-- Smaller kept jitters above give no larger demand, and no later W(q).
use Prim.Native.Nat.{ℕ, ◌≤◌, ◌<◌}
use mathlib.Core.Path.{◌≡◌, refl}
use mathlib.Core.Option.{Option, some, none}
use native.Mathlib.Omega.{arith}
use Rattle.model.specs.Tasks.{Tasks, load}
use Rattle.model.specs.Demand.{above_load, demand, window}
use Rattle.model.proofs.SeriesLaws.{le_by}
use Rattle.model.proofs.FrameLaws.{Ruled}
use Rattle.response.proofs.LoadSums.{Periodic, loads_rise}
use Rattle.response.proofs.WindowLaws.{Window, window_some, window_none}

module _
    (s : Tasks) (i : ℕ) (periods : Periodic s i) (k above : ℕ → ℕ)
    (kept : (j : ℕ) → j < i → k j ≤ above j) where
  -- the tasks above bring no more
  pub above_keeps : (t : ℕ) → above_load s k i t ≤ above_load s above i t
  unfolding above_load
  above_keeps t = loads_rise (load s) s.period k above i periods kept t t (omega arith)

  -- the demand is no larger
  pub demand_keeps : (q t : ℕ) → demand s k i q t ≤ demand s above i q t
  unfolding demand
  demand_keeps q t = omega (arith, above_keeps t)

  -- W(q) is no later
  pub window_keeps : Ruled s.frame → (q w : ℕ) → window s above i q ≡ some w → (v : ℕ) × (window s k i q ≡ some v) × (v ≤ w)
  window_keeps r q w h = go (window s k i q) refl (window_some s above i r q w h)
    where
      go : (o : Option ℕ) → window s k i q ≡ o → Window s above i q w → (v : ℕ) × (window s k i q ≡ some v) × (v ≤ w)
      go none e g =
          let n = window_none s k i q e in
          let m = g.met n.0 in
          absurd (omega (arith, n.1 m.0 m.1 (omega (arith, m.2, g.high)), demand_keeps q m.0, m.3))
      go (some v) e g =
          let f : Window s k i q v = window_some s k i r q v e in
          let m = g.met f.worst in
          (v, e, le_by v w (λ l. omega (arith, f.least m.0 m.1 (omega (arith, m.2)), demand_keeps q m.0, m.3)))
