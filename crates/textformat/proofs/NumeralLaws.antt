-- Laws of numbers in decimal digits: which bytes are one, what it stands for, and that each number has just one.
use Prim.Native.Nat.{ℕ, zero, suc, ◌+◌, ◌*◌, ◌-◌, ◌/◌, ◌%◌, ◌≤◌, ◌<◌}
use mathlib.Core.Path.{◌≡◌, refl, sym, ap, ◌∙◌}
use mathlib.Core.Bool.{Bool, true, false, not}
use mathlib.Core.List.{List, [], ◌∷◌, ◌++◌, append_assoc, append-nil}
use native.Mathlib.Omega.{arith}
use borrow.Author.Tests.{le-leb, leb-true, ltb-true, ltb-false, ne_eqb, eqb-false, not-true}
use lib.Dec.{leb, ltb, eqb}
use Rattle.model.proofs.CheckLaws.{is_false, both}
use Rattle.text.specs.Text.{decimal}
use Rattle.text.proofs.TextLaws.{decimal_one, decimal_more}
use Rattle.textformat.specs.Numerals.{is_digit, all_digits, is_numeral, value_from, value}

-- the bytes 48 to 57 are digits ..
pub digit_is : (b : ℕ) → 48 ≤ b → b ≤ 57 → is_digit b ≡ true
unfolding is_digit
digit_is b l h = rw (is_digit, le-leb 48 b l, le-leb b 57 h)

-- .. and no others
pub digit_of : (b : ℕ) → is_digit b ≡ true → (48 ≤ b) × (b ≤ 57)
unfolding is_digit
digit_of b e = let h = both (leb 48 b) (leb b 57) e in (leb-true _ _ h.0, leb-true _ _ h.1)

value_from_snoc : (n : ℕ) (g : List ℕ) (b : ℕ) → value_from n (g ++ (b ∷ [])) ≡ 10 * value_from n g + (b - 48)
unfolding value_from
value_from_snoc n [] b = refl
value_from_snoc n (a ∷ g) b = value_from_snoc (10 * n + (a - 48)) g b

-- one digit more stands for ten times as much and the digit
pub value_snoc : (g : List ℕ) (b : ℕ) → value (g ++ (b ∷ [])) ≡ 10 * value g + (b - 48)
unfolding value
value_snoc g b = value_from_snoc 0 g b

-- what a digit stands for
pub value_one : (b : ℕ) → value (b ∷ []) ≡ b - 48
unfolding value value_from
value_one b = omega arith

-- more digits never stand for less
value_from_le : (n : ℕ) (l : List ℕ) → n ≤ value_from n l
unfolding value_from
value_from_le n [] = omega arith
value_from_le n (b ∷ l) = omega (arith, value_from_le (10 * n + (b - 48)) l)

-- digits, and digits after them
pub all_digits_append : (g l : List ℕ) → all_digits g ≡ true → all_digits l ≡ true → all_digits (g ++ l) ≡ true
unfolding all_digits
all_digits_append [] l h k = k
all_digits_append (b ∷ g) l h k = let e = both (is_digit b) (all_digits g) h in rw (all_digits, e.0) (all_digits_append g l e.1 k)

digits_not : (g l : List ℕ) (b : ℕ) → is_digit b ≡ false → all_digits (g ++ (b ∷ l)) ≡ true → ⊥
unfolding all_digits
digits_not [] l b h e = let z : true ≡ false = sym (both (is_digit b) (all_digits l) e).0 ∙ h in let y : ◌≡◌ {A = ℕ} 0 1 = cc in omega arith
digits_not (a ∷ g) l b h e = digits_not g l b h (both (is_digit a) (all_digits (g ++ (b ∷ l))) e).1

-- a number has digits alone
pub numeral_digits : (g : List ℕ) → is_numeral g ≡ true → all_digits g ≡ true
unfolding is_numeral all_digits
numeral_digits [] e = refl
numeral_digits (b ∷ []) e = rw (all_digits, e)
numeral_digits (b ∷ c ∷ l) e = (both (not (eqb b 48)) (all_digits (b ∷ c ∷ l)) e).1

-- a digit by itself is a number
pub numeral_one : (b : ℕ) → is_digit b ≡ true → is_numeral (b ∷ []) ≡ true
unfolding is_numeral
numeral_one b h = h

-- a number other than 0 and one digit more are a number
pub numeral_snoc : (g : List ℕ) (b : ℕ) → is_numeral g ≡ true → 1 ≤ value g → is_digit b ≡ true → is_numeral (g ++ (b ∷ [])) ≡ true
unfolding is_numeral all_digits
numeral_snoc [] b e l h = let z : ◌≡◌ {A = ℕ} 0 1 = cc in absurd (omega arith)
numeral_snoc (a ∷ []) b e l h =
    let n : (a ≡ 48 → ⊥) = λ z. omega (arith, value_one a) in
    rw (is_numeral, ne_eqb a 48 n, all_digits, e, h)
numeral_snoc (a ∷ c ∷ g) b e l h =
    let s = both (not (eqb a 48)) (all_digits (a ∷ c ∷ g)) e in
    rw (is_numeral, s.0) (all_digits_append (a ∷ c ∷ g) (b ∷ []) s.1 (numeral_digits (b ∷ []) h))

-- 0 is the one number that stands for 0
pub zero_alone : (g : List ℕ) → is_numeral g ≡ true → value g ≡ 0 → g ≡ 48 ∷ []
unfolding is_numeral all_digits value value_from
zero_alone [] e z = let z : ◌≡◌ {A = ℕ} 0 1 = cc in absurd (omega arith)
zero_alone (b ∷ []) e z = let d = digit_of b e in ap (λ x. x ∷ []) (omega arith)
zero_alone (b ∷ c ∷ l) e z =
    let s = both (not (eqb b 48)) (all_digits (b ∷ c ∷ l)) e in
    let d = digit_of b (both (is_digit b) (all_digits (c ∷ l)) s.1).0 in
    let n : (b ≡ 48 → ⊥) = eqb-false b 48 (not-true _ s.0) in
    absurd (n (omega (arith, value_from_le (10 * 0 + (b - 48)) (c ∷ l))))

-- another byte makes no number, whatever stands before and after it
pub numeral_no_digit : (g l : List ℕ) (b : ℕ) → is_digit b ≡ false → is_numeral (g ++ (b ∷ l)) ≡ false
numeral_no_digit g l b h = is_false _ (λ e. digits_not g l b h (numeral_digits (g ++ (b ∷ l)) e))

-- nor do a zero and more bytes
pub numeral_leading : (b : ℕ) (l : List ℕ) → is_numeral (48 ∷ b ∷ l) ≡ false
unfolding is_numeral
numeral_leading b l = refl

-- some bytes are a number and stand for n
record Stands (n : ℕ) (g : List ℕ) : Type 0 where
  numeral : is_numeral g ≡ true
  for : value g ≡ n

stands : (f n : ℕ) → n < f → Stands n (decimal n)
stands zero n h = absurd (omega arith)
stands (suc f) n h = go (ltb n 10) refl (stands f (n / 10))
  where
    go : (b : Bool) → ltb n 10 ≡ b → (n / 10 < f → Stands (n / 10) (decimal (n / 10))) → Stands n (decimal n)
    go true e ih =
        let l : n < 10 = ltb-true n 10 e in
        rw (decimal_one n l)
        (record { numeral = numeral_one (48 + n) (digit_is (48 + n) (omega arith) (omega arith)); for = value_one (48 + n) ∙ omega arith })
    go false e ih =
        let l : 10 ≤ n = ltb-false n 10 e in
        let s = ih (omega arith) in
        rw (decimal_more n l)
        (record {
          numeral = numeral_snoc (decimal (n / 10)) (48 + n % 10) s.numeral (omega (arith, s.for)) (digit_is (48 + n % 10) (omega arith) (omega arith));
          for = value_snoc (decimal (n / 10)) (48 + n % 10) ∙ omega (arith, s.for);
        })

-- each number in decimal is a number in digits ..
pub numeral_decimal : (n : ℕ) → is_numeral (decimal n) ≡ true
numeral_decimal n = (stands (suc n) n (omega arith)).numeral

-- .. and stands for itself
pub value_decimal : (n : ℕ) → value (decimal n) ≡ n
value_decimal n = (stands (suc n) n (omega arith)).for

-- a digit more in decimal
decimal_next : (n b : ℕ) → 1 ≤ n → is_digit b ≡ true → decimal (10 * n + (b - 48)) ≡ decimal n ++ (b ∷ [])
decimal_next n b l h =
    let d = digit_of b h in
    let q : (10 * n + (b - 48)) / 10 ≡ n = omega arith in
    let r : 48 + (10 * n + (b - 48)) % 10 ≡ b = omega arith in
    decimal_more (10 * n + (b - 48)) (omega arith) ∙ rw (q, r)

decimal_from : (n : ℕ) (l : List ℕ) → 1 ≤ n → all_digits l ≡ true → decimal (value_from n l) ≡ decimal n ++ l
unfolding value_from all_digits
decimal_from n [] g h = sym (append-nil (decimal n))
decimal_from n (b ∷ l) g h =
    let e = both (is_digit b) (all_digits l) h in
    decimal_from (10 * n + (b - 48)) l (omega arith) e.1
    ∙ ap (λ x. x ++ l) (decimal_next n b g e.0)
    ∙ append_assoc (decimal n) (b ∷ []) l

-- each number in digits is what it stands for, in decimal
pub decimal_value : (g : List ℕ) → is_numeral g ≡ true → decimal (value g) ≡ g
unfolding is_numeral all_digits value value_from
decimal_value [] e = let z : ◌≡◌ {A = ℕ} 0 1 = cc in absurd (omega arith)
decimal_value (b ∷ []) e =
    let d = digit_of b e in
    ap decimal (value_one b) ∙ decimal_one (b - 48) (omega arith) ∙ ap (λ x. x ∷ []) (omega arith)
decimal_value (b ∷ c ∷ l) e =
    let s = both (not (eqb b 48)) (all_digits (b ∷ c ∷ l)) e in
    let t = both (is_digit b) (all_digits (c ∷ l)) s.1 in
    let d = digit_of b t.0 in
    let n : (b ≡ 48 → ⊥) = eqb-false b 48 (not-true _ s.0) in
    decimal_from (10 * 0 + (b - 48)) (c ∷ l) (omega (arith, n)) t.1
    ∙ ap (λ x. x ++ (c ∷ l)) (decimal_one (10 * 0 + (b - 48)) (omega arith) ∙ ap (λ x. x ∷ []) (omega arith))
