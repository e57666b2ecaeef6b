-- The least number of ticks whose demand is met by those of ours: its search from one start, whatever the demand.
use Prim.Native.Nat.{ℕ, suc, ◌+◌, ◌≤◌, ◌<◌}
use mathlib.Core.Path.{◌≡◌}
use mathlib.Core.Bool.{Bool}
use native.Mathlib.Omega.{arith}
use Rattle.model.specs.Frame.{supply}
use Rattle.model.proofs.SeriesLaws.{le_by}
use Rattle.model.proofs.SupplyLaws.{supply_longer, supply_append}
use Rattle.frame.specs.Reached.{Reached}
use Rattle.frame.proofs.ReachedLaws.{reached_low}

-- t is the least number of ticks, from 1 on, whose demand is at most our ticks among the t from u on
pub record Met (dem : ℕ → ℕ) (ours : ℕ → Bool) (u t : ℕ) : Type 0 where
  pub low : 1 ≤ t
  pub met : dem t ≤ supply ours u t
  pub least : (x : ℕ) → 1 ≤ x → x < t → supply ours u x < dem x

-- no number of ticks below t will do
pub record Below (dem : ℕ → ℕ) (ours : ℕ → Bool) (u t : ℕ) : Type 0 where
  pub low : 1 ≤ t
  pub short : (x : ℕ) → 1 ≤ x → x < t → supply ours u x < dem x

module _ (dem : ℕ → ℕ) (ours : ℕ → Bool) (u : ℕ) where
  -- the search begins where as many are ours as every demand has at least
  pub below_start : (base t : ℕ) → 1 ≤ base → ((x : ℕ) → 1 ≤ x → base ≤ dem x) → Reached ours u base t → Below dem ours u t
  below_start base t h g r = record { low = reached_low ours u base t h r; short = λ x a b. omega (arith, r.least x b, g x a) }

  -- it goes on to where as many are ours as the demand just tried
  pub below_next
      : (t v : ℕ) → ((x y : ℕ) → x ≤ y → dem x ≤ dem y) → 1 ≤ dem t → Below dem ours u t → Reached ours u (dem t) v → Below dem ours u v
  below_next t v rise h b r = record { low = reached_low ours u (dem t) v h r; short = short }
    where
      short : (x : ℕ) → 1 ≤ x → x < v → supply ours u x < dem x
      short x a l =
          le_by (suc (supply ours u x)) (dem x) (λ e.
          let y : t ≤ x = le_by t x (λ n. omega (arith, b.short x a n)) in
          omega (arith, r.least x l, rise t x y))

  -- it ends where it stays
  pub below_met : (t v : ℕ) → Below dem ours u t → Reached ours u (dem t) v → v ≤ t → Met dem ours u t
  below_met t v b r h = record { low = b.low; met = omega (arith, r.enough, supply_longer ours u v t h); least = b.short }

  -- there is one least number
  pub met_one : (t v : ℕ) → Met dem ours u t → Met dem ours u v → t ≡ v
  met_one t v a b =
      let x : t ≤ v = le_by t v (λ l. omega (arith, a.least v b.low l, b.met)) in
      let y : v ≤ t = le_by v t (λ l. omega (arith, b.least t a.low l, a.met)) in
      omega arith

-- a start with fewer of ours takes longer
pub met_later
    : (dem : ℕ → ℕ) (ours : ℕ → Bool) (y u t v : ℕ) → ((n : ℕ) → supply ours y n ≤ supply ours u n) → Met dem ours y v → Met dem ours u t → t ≤ v
met_later dem ours y u t v h a b = le_by t v (λ l. omega (arith, b.least v a.low l, a.met, h v))

-- a demand that is at most two others together is met, at the latest, in the one's ticks and then the other's
pub met_append
    : (ours : ℕ → Bool) (a b c : ℕ → ℕ) → ((x y : ℕ) → c (x + y) ≤ a x + b y) → (u t v w : ℕ) → Met a ours u t → Met b ours (u + t) v
    → Met c ours u w → w ≤ t + v
met_append ours a b c h u t v w m n o =
    le_by w (t + v) (λ l. omega (arith, o.least (t + v) (omega (arith, m.low)) l, h t v, m.met, n.met, supply_append ours u t v))
