-- W(q) over the ends of the windows is W(q) over all starts in the frame, also where some start has none up to H.
use Prim.Native.Nat.{ℕ, ◌≤◌, ◌<◌}
use mathlib.Core.Path.{◌≡◌, refl, sym, ◌∙◌}
use mathlib.Core.Option.{Option, some, none}
use native.Mathlib.Omega.{arith}
use borrow.Author.Tests.{leb-true, leb-false, le-leb, lt-leb}
use Rattle.model.specs.Limits.{horizon_tick}
use Rattle.model.specs.Frame.{ours_in, turn_of, supply}
use Rattle.model.specs.Tasks.{Tasks}
use Rattle.model.specs.Demand.{demand, meets, window_from, largest, window}
use Rattle.model.proofs.SearchLaws.{Found, first_found, first_is, first_none, first_nothing}
use Rattle.model.proofs.LargestLaws.{IsLargest, largest_found, largest_is, largest_none, largest_missing}
use Rattle.model.proofs.FrameLaws.{Ruled}
use Rattle.frame.specs.Starts.{start_at, starts_of}
use Rattle.frame.proofs.StartLaws.{Dominated, dominated, start_in_lem}
use Rattle.frame.proofs.MeetLaws.{Met, Below, met_later}

module _ (s : Tasks) (k : ℕ → ℕ) (i q : ℕ) where
  -- what a start has is the least number that is met, up to H
  pub from_met : (u t : ℕ) → window_from s k i q u ≡ some t → (Met (demand s k i q) (ours_in s.frame) u t) × (t ≤ horizon_tick)
  unfolding window_from meets
  from_met u t e = go (first_found (meets s k i q u) horizon_tick 1 t e)
    where
      go : Found (meets s k i q u) horizon_tick 1 t → (Met (demand s k i q) (ours_in s.frame) u t) × (t ≤ horizon_tick)
      go f = (record { low = f.low; met = leb-true _ _ f.holds; least = λ x a b. leb-false _ _ (f.before x a b) }, omega arith)

  pub met_from : (u t : ℕ) → Met (demand s k i q) (ours_in s.frame) u t → t ≤ horizon_tick → window_from s k i q u ≡ some t
  unfolding window_from meets
  met_from u t m l =
      first_is (meets s k i q u) horizon_tick 1 t
      (record { holds = le-leb _ _ m.met; low = m.low; high = omega arith; before = λ x a b. lt-leb _ _ (m.least x a b) })

  -- it has none where the search has passed H
  pub below_none : (u t : ℕ) → Below (demand s k i q) (ours_in s.frame) u t → horizon_tick < t → window_from s k i q u ≡ none
  unfolding window_from meets
  below_none u t b l = first_none (meets s k i q u) horizon_tick 1 (λ x a h. lt-leb _ _ (b.short x a (omega arith)))

  -- a start from which no fewer are ours has one where the other has, and no larger
  from_below
      : (y u t : ℕ) → ((n : ℕ) → supply (ours_in s.frame) y n ≤ supply (ours_in s.frame) u n) → window_from s k i q y ≡ some t
      → (v : ℕ) × (window_from s k i q u ≡ some v) × (v ≤ t)
  unfolding window_from meets
  from_below y u t h e = go (window_from s k i q u) refl
    where
      a : (Met (demand s k i q) (ours_in s.frame) y t) × (t ≤ horizon_tick)
      a = from_met y t e

      go : (o : Option ℕ) → window_from s k i q u ≡ o → (v : ℕ) × (window_from s k i q u ≡ some v) × (v ≤ t)
      go (some v) g = (v, g, met_later (demand s k i q) (ours_in s.frame) y u v t h a.0 (from_met u v g).0)
      go none g =
          absurd (omega (
            arith,
            leb-false (demand s k i q t) (supply (ours_in s.frame) u t) (first_nothing (meets s k i q u) horizon_tick 1 g t a.0.low (omega (arith, a.1))),
            a.0.met,
            h t,
          ))

  -- the largest over all starts in the frame is that over the ends of the windows
  pub window_ends : Ruled s.frame → window s k i q ≡ largest (λ n. window_from s k i q (start_at s.frame n)) (starts_of s.frame)
  unfolding window
  window_ends h = go (largest (λ n. window_from s k i q (start_at s.frame n)) (starts_of s.frame)) refl
    where
      ends : ℕ → Option ℕ
      ends n = window_from s k i q (start_at s.frame n)

      some_start : 1 ≤ starts_of s.frame
      some_start = let d = dominated s.frame h 0 in omega (arith, d.known)

      found : (w : ℕ) → IsLargest ends (starts_of s.frame) w → IsLargest (window_from s k i q) (turn_of s.frame) w
      found w r =
          record {
            each = λ u l. each u;
            at = start_at s.frame r.at;
            at_low = start_in_lem s.frame h r.at;
            is = r.is;
          }
        where
          each : (u : ℕ) → (t : ℕ) × (window_from s k i q u ≡ some t) × (t ≤ w)
          each u =
              let d : Dominated s.frame u = dominated s.frame h u in
              let e : (t : ℕ) × (ends d.which ≡ some t) × (t ≤ w) = r.each d.which d.known in
              let b : (v : ℕ) × (window_from s k i q u ≡ some v) × (v ≤ e.0) = from_below (start_at s.frame d.which) u e.0 d.below e.1 in
              (b.0, b.1, omega (arith, b.2, e.2))

      go : (o : Option ℕ) → largest ends (starts_of s.frame) ≡ o → largest (window_from s k i q) (turn_of s.frame) ≡ largest ends (starts_of s.frame)
      go (some w) e = largest_is (window_from s k i q) (turn_of s.frame) w (found w (largest_found ends (starts_of s.frame) w some_start e)) ∙ sym e
      go none e =
          let m : (n : ℕ) × (n < starts_of s.frame) × (ends n ≡ none) = largest_missing ends (starts_of s.frame) e in
          largest_none (window_from s k i q) (turn_of s.frame) (start_at s.frame m.0) (start_in_lem s.frame h m.0) m.2 ∙ sym e
