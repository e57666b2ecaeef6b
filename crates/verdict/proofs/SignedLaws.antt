-- Laws of signed 64-bit numbers: differences of natural numbers, and what is read back from bits.
use Prim.Native.Nat.{ℕ, ◌+◌, ◌*◌, ◌≤◌, ◌<◌}
use mathlib.Core.Path.{◌≡◌, sym, ap, ◌∙◌}
use mathlib.Core.Logic.{dite}
use native.Mathlib.Omega.{arith}
use native.Mathlib.Nat.{mul-le-mul}
use native.Mathlib.Decide.{dec_le}
use lib.IntN.{ℤ, pos, sub_ℕ, ◌+ℤ◌, ◌-ℤ◌, ◌*ℤ◌, neg_ℤ, +ℤ_assoc, neg_ℤ-+ℤ, pos-+ℤ-pos, pos-*ℤ-pos}
use lib.Signed.{mag}
use mir.Syntax.{w64}
use mir.Val.{to_z, of_z}
use mir.ValLaws.{to_z_pos, to_z-of_z}
use Rattle.response.proofs.BoundLaws.{minus, sub_ge, sub_lt}

-- what is read back of an integer that fits is the integer
pub back : (z : ℤ) → mag z < 9223372036854775808 → to_z w64 (of_z w64 z) ≡ z
back z h = to_z-of_z w64 z (record { sfits = h })

-- a natural number that fits
pub plain : (n : ℕ) → n < 9223372036854775808 → to_z w64 n ≡ pos n
plain n h = to_z_pos w64 n h

-- a difference of numbers that fit fits
sub_mag : (a b : ℕ) → a < 9223372036854775808 → b ≤ 9223372036854775808 → mag (sub_ℕ a b) < 9223372036854775808
sub_mag a b h g =
    dite (dec_le b a)
    (λ l. let e = sub_ge a b l in rw e (omega arith))
    (λ l. let e = sub_lt a b (omega arith) in rw e (omega arith))

-- so does a difference of two integers
pub difference_mag : (a b : ℕ) → a < 9223372036854775808 → b ≤ 9223372036854775808 → mag (pos a -ℤ pos b) < 9223372036854775808
difference_mag a b h g = rw (minus a b) (sub_mag a b h g)

-- one more number taken away
pub difference_less : (a b c : ℕ) → pos a -ℤ pos b -ℤ pos c ≡ pos a -ℤ pos (b + c)
difference_less a b c =
    +ℤ_assoc (pos a) (neg_ℤ (pos b)) (neg_ℤ (pos c)) ∙ ap (λ (z : ℤ). pos a +ℤ z) (sym (neg_ℤ-+ℤ (pos b) (pos c)) ∙ ap neg_ℤ (pos-+ℤ-pos b c))

-- a product of natural numbers
pub product : (a b : ℕ) → a ≤ 10000000 → b ≤ 1000000 → to_z w64 a *ℤ to_z w64 b ≡ pos (a * b)
product a b h g = rw (plain a (omega arith), plain b (omega arith)) (pos-*ℤ-pos a b)

-- which is small
pub product_small : (a b : ℕ) → a ≤ 10000000 → b ≤ 1000000 → a * b ≤ 10000000000000
product_small a b h g = mul-le-mul {n₂ = 10000000} {m₂ = 1000000} h g
