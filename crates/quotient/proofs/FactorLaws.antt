-- Why the products with the factor give the quotient: m · P is over 2^44 by less than P, and y times that does not reach 2^44.
use Prim.Native.Nat.{ℕ, ◌+◌, ◌*◌, ◌/◌, ◌-◌, ◌^◌, ◌≤◌, ◌<◌}
use mathlib.Core.Path.{◌≡◌, refl, sym, ap, ◌∙◌}
use native.Mathlib.Omega.{arith}
use native.Mathlib.Nat.{mul-div-mul_right, div-div-eq-div-mul, mul-add-div_right, div-eq_of_lt, div-le_self, mul-le-mul, mul_assoc, mul-add}
use native.Mathlib.Nat.{lt-div-mul-add, div-mul-le_self, div-add-mod', mod-lt}
use Rattle.model.specs.Limits.{max_time, horizon_tick}
use Rattle.model.specs.Arrival.{ceil_div}
use Rattle.quotient.specs.Factor.{factor, high_of, low_of, Divided}

-- the factor as the code computes it
pub factor_at : (P : ℕ) → factor P ≡ (17592186044416 + P - 1) / P
unfolding factor ceil_div
factor_at P = refl

-- m · P is over 2^44 by less than P
record Near (P m : ℕ) : Type 0 where
  over : ℕ
  is : m * P ≡ 2 ^ 44 + over
  small : over < P

near : (P : ℕ) → 1 ≤ P → Near P (factor P)
near P l =
    let y = 17592186044416 + P - 1 in
    let m = y / P in
    let a : m * P ≤ y = div-mul-le_self y P in
    let b : y < m * P + P = lt-div-mul-add {a = y} {b = P} (omega arith) in
    rw (factor_at P) (record { over = m * P - 17592186044416; is = omega arith; small = omega arith })

-- and so m is at most 2^44 and P more
pub factor_high : (P : ℕ) → 1 ≤ P → factor P ≤ 17592186044415 + P
factor_high P l =
    let f = near P l in
    omega (arith, f.is, f.small, mul-le-mul {n₁ = factor P} {m₁ = 1} {n₂ = factor P} {m₂ = P} (omega arith) l)

-- both parts are small
pub high_small : (P : ℕ) → 1 ≤ P → P ≤ 1000000 → high_of P ≤ 16777216
high_small P l u = omega (arith, factor_high P l, div-mul-le_self (factor P) (2 ^ 20))

pub low_small : (P : ℕ) → low_of P < 2 ^ 20
low_small P = mod-lt (factor P) (omega arith)

-- a product with m, divided by N, is a division by P where m · P is over N by an e for which y · e does not reach N
by_product : (y P m e N : ℕ) → 0 < P → 0 < N → m * P ≡ N + e → y * e < N → y * m / N ≡ y / P
by_product y P m e N p n f h =
    sym (mul-div-mul_right (y * m) N p)
    ∙ ap (λ z. z / (N * P)) (mul_assoc y m P ∙ ap (λ z. y * z) f ∙ mul-add y N e)
    ∙ sym (div-div-eq-div-mul (y * N + y * e) N P)
    ∙ ap (λ z. z / P) (mul-add-div_right n y (y * e) ∙ ap (λ z. y + z) (div-eq_of_lt h) ∙ omega arith)

-- a product in two parts
by_parts : (y h l a b : ℕ) → 0 < a → (y * h + y * l / a) / b ≡ y * (h * a + l) / (a * b)
by_parts y h l a b p =
    ap (λ z. z / b) (sym (mul-add-div_right p (y * h) (y * l)) ∙ ap (λ z. z / a) (ap (λ z. z + y * l) (mul_assoc y h a) ∙ sym (mul-add y (h * a) l)))
    ∙ div-div-eq-div-mul (y * (h * a + l)) a b

-- what the search meets, divided and rounded up, is small
pub ceil_high : (x P : ℕ) → x ≤ horizon_tick + max_time → P ≤ max_time → ceil_div x P ≤ 12000000
unfolding ceil_div
ceil_high x P a b = omega (arith, div-le_self (x + P - 1) P)

module _ (x P h l : ℕ) (d : Divided x P h l) where
  dividend_high : x + P - 1 ≤ 11999999
  dividend_high = omega (arith, d.dividend, d.period_low, d.period_high)

  -- the products stay far below 64 bits
  pub high_product : (x + P - 1) * h ≤ 11999999 * 16777216
  high_product = mul-le-mul {n₂ = 11999999} {m₂ = 16777216} dividend_high (rw d.by.high_is (high_small P d.period_low d.period_high))

  pub low_product : (x + P - 1) * l ≤ 11999999 * 1048576
  low_product = mul-le-mul {n₂ = 11999999} {m₂ = 1048576} dividend_high (rw d.by.low_is (omega (arith, low_small P)))

  -- and give the quotient rounded up
  pub ceil_is : ((x + P - 1) * h + (x + P - 1) * l / 2 ^ 20) / 2 ^ 24 ≡ ceil_div x P
  unfolding ceil_div
  ceil_is =
      let f = near P d.period_low in
      let g : (x + P - 1) * f.over ≤ 12000000 * 1000000 =
      mul-le-mul {n₂ = 12000000} {m₂ = 1000000} (omega (arith, dividend_high)) (omega (arith, f.small, d.period_high)) in
      by_parts (x + P - 1) h l (2 ^ 20) (2 ^ 24) (omega arith)
      ∙ ap (λ m. (x + P - 1) * m / 2 ^ 44) (rw (d.by.high_is, d.by.low_is) (div-add-mod' (factor P) (2 ^ 20)))
      ∙ by_product (x + P - 1) P (factor P) f.over (2 ^ 44) (omega (arith, d.period_low)) (omega arith) f.is (omega (arith, g))
