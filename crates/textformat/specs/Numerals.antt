-- Numbers in decimal digits. "Decimal digits without signs, spaces or leading zeros (0 itself is allowed)."
use Rattle.std.specs.Prelude.{ℕ, ◌+◌, ◌*◌, ◌-◌, Bool, true, false, ◌&&◌, not, List, [], ◌∷◌, leb, eqb}

-- a byte is a decimal digit
unfoldable pub is_digit : ℕ → Bool
is_digit b = leb 48 b && leb b 57

-- decimal digits alone
unfoldable pub all_digits : List ℕ → Bool
all_digits [] = true
all_digits (b ∷ l) = is_digit b && all_digits l

-- a number: at least one digit, and no leading zero where there are more
unfoldable pub is_numeral : List ℕ → Bool
is_numeral [] = false
is_numeral (b ∷ []) = is_digit b
is_numeral (b ∷ c ∷ l) = not (eqb b 48) && all_digits (b ∷ c ∷ l)

-- the number that digits stand for, however many they are: those before them stand for n
unfoldable pub value_from : ℕ → List ℕ → ℕ
value_from n [] = n
value_from n (b ∷ l) = value_from (10 * n + (b - 48)) l

-- the number that all digits of a field stand for
unfoldable pub value : List ℕ → ℕ
value l = value_from 0 l
