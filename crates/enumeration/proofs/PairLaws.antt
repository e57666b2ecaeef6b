-- Laws of the numbers of pairs (tick, task): their order is "by tick, then task", and every release of full cost has one.
use Prim.Native.Nat.{ℕ, ◌+◌, ◌*◌, ◌/◌, ◌%◌, ◌≤◌, ◌<◌}
use mathlib.Core.Path.{◌≡◌, ap, subst, ◌∙◌}
use mathlib.Core.Logic.{inl, inr, ⊎_elim, dite}
use native.Mathlib.Omega.{arith}
use native.Mathlib.Decide.{dec_lt, dec_le}
use native.Mathlib.Nat.{
  eq-or-lt_of_le,
  mod-lt,
  mod-eq_of_lt,
  div-eq_of_lt,
  div-add-mod',
  div-mul-le_self,
  le-div_iff_mul-le,
  div-lt_iff_lt-mul,
  mul-add-div_right,
  mul-add-mod_self_right,
  mul-le-mul_right,
  suc-mul,
}
use Rattle.model.specs.Tasks.{Tasks, Release}
use Rattle.enumeration.specs.SmallTraces.{pair_release}
use Rattle.enumeration.specs.EveryTrace.{Before}

-- of two releases at most one is before the other
pub before_once : (r q : Release) → Before r q → Before q r → ⊥
before_once r q h g =
    ⊎_elim (λ a. ⊎_elim (λ b. omega arith) (λ b. omega arith) g) (λ a. ⊎_elim (λ b. omega arith) (λ b. omega arith) g) h

-- the number of the pair of a release
abbrev pub pair_number : Tasks → Release → ℕ
pair_number s r = r.tick * s.count + r.task

module _ (s : Tasks) (some_task : 1 ≤ s.count) where
  -- the pair of a smaller number is before that of a larger one ..
  pub pair_before : (x y : ℕ) → x < y → Before (pair_release s x) (pair_release s y)
  pair_before x y h = dite (dec_lt (x / s.count) (y / s.count)) (λ a. inl a) (λ a. inr (same a, later (same a)))
    where
      same : (x / s.count < y / s.count → ⊥) → x / s.count ≡ y / s.count
      same a = let b : x / s.count ≤ y / s.count = (le-div_iff_mul-le some_task).1 (omega (arith, div-mul-le_self x s.count)) in omega arith

      later : x / s.count ≡ y / s.count → x % s.count < y % s.count
      later e = omega (arith, ap (λ (z : ℕ). z * s.count) e, div-add-mod' x s.count, div-add-mod' y s.count)

  -- .. and no pair is before that of a number not larger than its own
  pub pair_not_before : (x y : ℕ) → x ≤ y → Before (pair_release s y) (pair_release s x) → ⊥
  pair_not_before x y h g =
      ⊎_elim
      (λ e. let c : Before (pair_release s y) (pair_release s y) = rw e at g in before_once (pair_release s y) (pair_release s y) c c)
      (λ i. before_once (pair_release s x) (pair_release s y) (pair_before x y i) g)
      (eq-or-lt_of_le h)

  -- the task of a pair is one of the set ..
  pub pair_known : (x : ℕ) → (pair_release s x).task < s.count
  pair_known x = mod-lt x some_task

  -- .. and its tick is below t where its number is below t times the count
  pub pair_early : (t x : ℕ) → x < t * s.count → (pair_release s x).tick < t
  pair_early t x h = (div-lt_iff_lt-mul some_task).1 h

  -- every release of a task of the set with full cost is that of its pair's number
  pub pair_of : (r : Release) → r.task < s.count → r.cost ≡ s.cost r.task → pair_release s (pair_number s r) ≡ r
  pair_of r h e = rw (task_is, tick_is, ← e)
    where
      task_is : pair_number s r % s.count ≡ r.task
      task_is = mul-add-mod_self_right r.tick s.count r.task ∙ mod-eq_of_lt h

      tick_is : pair_number s r / s.count ≡ r.tick
      tick_is = mul-add-div_right some_task r.tick r.task ∙ omega (arith, div-eq_of_lt h)

  -- that number is below t times the count where the tick is below t
  pub pair_number_lem : (r : Release) (t : ℕ) → r.task < s.count → r.tick < t → pair_number s r < t * s.count
  pair_number_lem r t h g = omega (arith, mul-le-mul_right s.count g, suc-mul r.tick s.count)

  -- where a release q is not before r, the number of r is not above that of q
  pub pair_order
      : (r q : Release)
      → r.task < s.count
      → q.task < s.count
      → r.cost ≡ s.cost r.task
      → q.cost ≡ s.cost q.task
      → (Before q r → ⊥)
      → pair_number s r ≤ pair_number s q
  pair_order r q h k e f n = dite (dec_le (pair_number s r) (pair_number s q)) (λ a. a) (λ a. absurd (n (turned (omega arith))))
    where
      turned : pair_number s q < pair_number s r → Before q r
      turned a =
          subst (λ (z : Release). Before z r) (pair_of q k f)
          (subst (λ (z : Release). Before (pair_release s (pair_number s q)) z) (pair_of r h e) (pair_before (pair_number s q) (pair_number s r) a))
