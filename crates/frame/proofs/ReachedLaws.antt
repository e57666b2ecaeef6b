-- Laws of the least number of ticks among which d are ours.
use Prim.Native.Nat.{ℕ, zero, suc, ◌+◌, ◌-◌, ◌*◌, ◌≤◌, ◌<◌}
use mathlib.Core.Path.{◌≡◌, refl}
use mathlib.Core.Bool.{Bool, true, false}
use mathlib.Core.Option.{Option, some, none}
use native.Mathlib.Omega.{arith}
use borrow.Author.Tests.{leb-true, leb-false, le-leb}
use lib.Dec.{leb}
use Rattle.model.specs.Search.{first}
use Rattle.model.specs.Frame.{Frame, ours_in, turn_of, supply}
use Rattle.model.proofs.SeriesLaws.{le_by, clash, on_le, on_false}
use Rattle.model.proofs.SearchLaws.{Found, first_found, first_nothing}
use Rattle.model.proofs.SupplyLaws.{supply_none, supply_next, supply_append, supply_longer, supply_from, supply_all, supply_stretches}
use Rattle.model.proofs.FrameLaws.{Ruled, turn_served}
use Rattle.frame.specs.Reached.{Reached}

module _ (ours : ℕ → Bool) where
  -- nothing takes no tick
  pub reached_none : (u : ℕ) → Reached ours u 0 0
  reached_none u = record { enough = omega arith; least = λ x l. absurd (omega arith) }

  -- where every tick is ours, d of them take d ticks
  pub reached_all : ((t : ℕ) → ours t ≡ true) → (u d : ℕ) → Reached ours u d d
  reached_all h u d = record { enough = omega (arith, supply_all ours h u d); least = λ x l. omega (arith, supply_all ours h u x) }

  -- no more than d are ours among them
  pub reached_exact : (u d t : ℕ) → Reached ours u d t → supply ours u t ≡ d
  reached_exact u d zero r = omega (arith, r.enough, supply_none ours u)
  reached_exact u d (suc t) r = omega (arith, r.enough, r.least t (omega arith), supply_next ours u t, on_le (ours (u + t)) 1)

  -- the last of them is ours
  pub reached_last : (u d t : ℕ) → Reached ours u d (suc t) → ours (u + t) ≡ true
  reached_last u d t r = go (ours (u + t)) refl
    where
      go : (b : Bool) → ours (u + t) ≡ b → b ≡ true
      go true e = refl
      go false e = absurd (omega (arith, r.enough, r.least t (omega arith), supply_next ours u t, on_false (ours (u + t)) 1 e))

  -- some take a tick
  pub reached_low : (u d t : ℕ) → 1 ≤ d → Reached ours u d t → 1 ≤ t
  reached_low u d zero h r = absurd (omega (arith, r.enough, supply_none ours u))
  reached_low u d (suc t) h r = omega arith

  -- there is one such number
  pub reached_one : (u d t v : ℕ) → Reached ours u d t → Reached ours u d v → t ≡ v
  reached_one u d t v a b =
      let x : t ≤ v = le_by t v (λ l. omega (arith, a.least v l, b.enough)) in
      let y : v ≤ t = le_by v t (λ l. omega (arith, b.least t l, a.enough)) in
      omega arith

  -- more take longer
  pub reached_rises : (u d e t v : ℕ) → d ≤ e → Reached ours u d t → Reached ours u e v → t ≤ v
  reached_rises u d e t v h a b = le_by t v (λ l. omega (arith, a.least v l, b.enough))

  -- no longer than any number that will do
  pub reached_high : (u d t v : ℕ) → Reached ours u d t → d ≤ supply ours u v → t ≤ v
  reached_high u d t v r h = le_by t v (λ l. omega (arith, r.least v l))

  -- what is left to take after x of the ticks
  pub reached_rest : (u d t x : ℕ) → x ≤ t → Reached ours u d t → Reached ours (u + x) (d - supply ours u x) (t - x)
  reached_rest u d t x h r =
      let e : x + (t - x) ≡ t = omega arith in
      let a : supply ours u t ≡ supply ours u x + supply ours (u + x) (t - x) = rw e at (supply_append ours u x (t - x)) in
      record {
        enough = omega (arith, r.enough, a);
        least = λ y l. omega (arith, r.least (x + y) (omega arith), supply_append ours u x y);
      }

  -- d and then e
  pub reached_append : (u d e t v : ℕ) → 1 ≤ e → Reached ours u d t → Reached ours (u + t) e v → Reached ours u (d + e) (t + v)
  reached_append u d e t v h a b =
      record { enough = omega (arith, supply_append ours u t v, reached_exact u d t a, b.enough); least = below }
    where
      below : (x : ℕ) → x < t + v → supply ours u x < d + e
      below x l =
          le_by (suc (supply ours u x)) (d + e) (λ n.
          let y : t ≤ x = le_by t x (λ m. omega (arith, a.least x m)) in
          let i : t + (x - t) ≡ x = omega arith in
          let j : supply ours u x ≡ supply ours u t + supply ours (u + t) (x - t) = rw i at (supply_append ours u t (x - t)) in
          omega (arith, j, reached_exact u d t a, b.least (x - t) (omega arith)))

  -- where some number will do there is a least one
  pub reached_some : (u d v : ℕ) → d ≤ supply ours u v → (t : ℕ) × (Reached ours u d t)
  reached_some u d v h = go (first (λ x. leb d (supply ours u x)) (suc v) 0) refl
    where
      made : (t : ℕ) → Found (λ x. leb d (supply ours u x)) (suc v) 0 t → Reached ours u d t
      made t f = record { enough = leb-true _ _ f.holds; least = λ x l. leb-false _ _ (f.before x (omega arith) l) }

      go : (o : Option ℕ) → first (λ x. leb d (supply ours u x)) (suc v) 0 ≡ o → (t : ℕ) × (Reached ours u d t)
      go (some t) e = (t, made t (first_found (λ x. leb d (supply ours u x)) (suc v) 0 t e))
      go none e =
          clash (leb d (supply ours u v)) (le-leb _ _ h) (first_nothing (λ x. leb d (supply ours u x)) (suc v) 0 e v (omega arith) (omega arith))

  -- the last tick brings the number up to d
  reached : (u d t : ℕ) → supply ours u t ≡ d → (0 < t → suc (supply ours u (t - 1)) ≡ d) → Reached ours u d t
  reached u d t h g =
      record { enough = omega arith; least = λ x l. omega (arith, g (omega arith), supply_longer ours u x (t - 1) (omega arith)) }

  -- from y on, by what is ours from 0 on
  pub reached_from
      : (y a d v : ℕ) → supply ours 0 y ≡ a → 1 ≤ d → 1 ≤ v → supply ours 0 v ≡ a + d → suc (supply ours 0 (v - 1)) ≡ a + d
      → (y < v) × Reached ours y d (v - y)
  reached_from y a d v h g low e b =
      let l : y < v = le_by (suc y) v (λ n. omega (arith, supply_longer ours 0 v y (omega arith))) in
      let i : y + (v - y) ≡ v = omega arith in
      let j : y + (v - y - 1) ≡ v - 1 = omega arith in
      let k : supply ours 0 v ≡ supply ours 0 y + supply ours y (v - y) = rw i at (supply_from ours y (v - y)) in
      let m : supply ours 0 (v - 1) ≡ supply ours 0 y + supply ours y (v - y - 1) = rw j at (supply_from ours y (v - y - 1)) in
      (l, reached y d (v - y) (omega arith) (λ z. omega arith))

  -- starts with as many of ours
  pub reached_same : (y u d t : ℕ) → ((n : ℕ) → supply ours y n ≡ supply ours u n) → Reached ours y d t → Reached ours u d t
  reached_same y u d t h r = record { enough = omega (arith, h t, r.enough); least = λ x l. omega (arith, h x, r.least x l) }

  -- a start with fewer of ours takes longer
  pub reached_later : (y u d t v : ℕ) → ((n : ℕ) → supply ours y n ≤ supply ours u n) → Reached ours y d v → Reached ours u d t → t ≤ v
  reached_later y u d t v h a b = le_by t v (λ l. omega (arith, b.least v l, a.enough, h v))

module _ (o : Option Frame) (h : Ruled o) where
  -- d turns have d of ours
  supply_many : (u d : ℕ) → d ≤ supply (ours_in o) u (d * turn_of o)
  supply_many u d = supply_stretches (ours_in o) (turn_of o) (turn_served o h) u d

  -- so there is such a number, and it is at most the ticks of d turns
  pub reach_high : (u d t : ℕ) → Reached (ours_in o) u d t → t ≤ d * turn_of o
  reach_high u d t r = reached_high (ours_in o) u d t (d * turn_of o) r (supply_many u d)

  pub reach_some : (u d : ℕ) → (t : ℕ) × (Reached (ours_in o) u d t) × (t ≤ d * turn_of o)
  reach_some u d =
      let r : (t : ℕ) × (Reached (ours_in o) u d t) = reached_some (ours_in o) u d (d * turn_of o) (supply_many u d) in
      (r.0, r.1, reach_high u d r.0 r.1)
