-- Laws of sums, of terms under a test and of largest values.
use Prim.Native.Nat.{ℕ, zero, suc, ◌+◌, ◌-◌, ◌*◌, ◌≤◌, ◌<◌, max}
use mathlib.Core.Path.{◌≡◌, refl, sym}
use mathlib.Core.Bool.{Bool, true, false, ◌&&◌}
use mathlib.Core.Logic.{◌⊎◌, inl, inr}
use native.Mathlib.Nat.{eq-or-lt_of_le, mul-zero, mul-le-mul_left}
use native.Mathlib.Omega.{arith}
use borrow.Author.Tests.{ltb-true, ltb-false, leb-true, leb-false, eqb-true}
use lib.Dec.{ltb}
use Rattle.model.specs.Series.{on, sum, most}

-- the facts that tests in scope give
pub ruleset tests = (arith, ltb-true, ltb-false, leb-true, leb-false, eqb-true)

-- a number below suc n is below n or is n
pub below_suc : (p n : ℕ) → p < suc n → (p < n) ⊎ (p ≡ n)
below_suc p n h = go (eq-or-lt_of_le {n = p} {m = n} (omega arith))
  where
    go : (p ≡ n) ⊎ (p < n) → (p < n) ⊎ (p ≡ n)
    go (inl e) = inr e
    go (inr l) = inl l

-- an order, decided
pub le_or_lt : (a b : ℕ) → (a ≤ b) ⊎ (b < a)
le_or_lt a b = go (ltb b a) refl
  where
    go : (t : Bool) → ltb b a ≡ t → (a ≤ b) ⊎ (b < a)
    go true e = inr (ltb-true b a e)
    go false e = inl (ltb-false b a e)

-- an order, by contradiction
pub le_by : (a b : ℕ) → (b < a → ⊥) → a ≤ b
le_by a b h = go (le_or_lt a b)
  where
    go : (a ≤ b) ⊎ (b < a) → a ≤ b
    go (inl l) = l
    go (inr l) = absurd (h l)

-- a test has one value
pub clash : {A : Type 0} (b : Bool) → b ≡ true → b ≡ false → A
clash b h g = let z : ◌≡◌ {A = ℕ} 0 1 = cc in absurd (omega arith)

-- the left side of a conjunction that holds
pub and_left : (a b : Bool) → (a && b) ≡ true → a ≡ true
and_left true b h = refl
and_left false b h = clash _ refl (sym h)

-- the right side of a conjunction that holds
pub and_right : (a b : Bool) → (a && b) ≡ true → b ≡ true
and_right true b h = h
and_right false b h = clash _ refl (sym h)

-- a conjunction of tests that hold
pub and_both : (a b : Bool) → a ≡ true → b ≡ true → (a && b) ≡ true
and_both a b h g = rw (h, g)

-- a term under a test that holds
pub on_true : (b : Bool) (x : ℕ) → b ≡ true → on b x ≡ x
unfolding on
on_true b x h = rw h

-- a term under a test that does not hold
pub on_false : (b : Bool) (x : ℕ) → b ≡ false → on b x ≡ 0
unfolding on
on_false b x h = rw h

-- a term that is 0 where the test holds
pub on_nil : (b : Bool) (x : ℕ) → (b ≡ true → x ≡ 0) → on b x ≡ 0
unfolding on
on_nil true x h = h refl
on_nil false x h = refl

-- a term under a test is no larger than the term
pub on_le : (b : Bool) (x : ℕ) → on b x ≤ x
unfolding on
on_le true x = omega arith
on_le false x = omega arith

-- a sum of smaller terms is smaller
pub sum_le : (f g : ℕ → ℕ) (n : ℕ) → ((p : ℕ) → p < n → f p ≤ g p) → sum f n ≤ sum g n
unfolding sum
sum_le f g zero h = omega arith
sum_le f g (suc n) h = omega (arith, sum_le f g n (λ p l. h p (omega arith)), h n (omega arith))

-- a sum of equal terms is equal
pub sum_eq : (f g : ℕ → ℕ) (n : ℕ) → ((p : ℕ) → p < n → f p ≡ g p) → sum f n ≡ sum g n
unfolding sum
sum_eq f g zero h = refl
sum_eq f g (suc n) h = omega (arith, sum_eq f g n (λ p l. h p (omega arith)), h n (omega arith))

-- the sum of two sums, term by term
pub sum_add : (f g k : ℕ → ℕ) (n : ℕ) → ((p : ℕ) → p < n → f p + g p ≡ k p) → sum f n + sum g n ≡ sum k n
unfolding sum
sum_add f g k zero h = omega arith
sum_add f g k (suc n) h = omega (arith, sum_add f g k n (λ p l. h p (omega arith)), h n (omega arith))

-- a sum of terms that are 0
pub sum_nil : (f : ℕ → ℕ) (n : ℕ) → ((p : ℕ) → p < n → f p ≡ 0) → sum f n ≡ 0
unfolding sum
sum_nil f zero h = refl
sum_nil f (suc n) h = omega (arith, sum_nil f n (λ p l. h p (omega arith)), h n (omega arith))

-- a term is no larger than its sum
pub sum_ge : (f : ℕ → ℕ) (n p : ℕ) → p < n → f p ≤ sum f n
unfolding sum
sum_ge f zero p h = omega arith
sum_ge f (suc n) p h = go (below_suc p n h) (sum_ge f n p)
  where
    go : (p < n) ⊎ (p ≡ n) → (p < n → f p ≤ sum f n) → f p ≤ sum f n + f n
    go (inl l) i = omega (arith, i l)
    go (inr e) i = rw e (omega arith)

-- the terms of a sum that is 0
pub sum_zero : (f : ℕ → ℕ) (n : ℕ) → sum f n ≡ 0 → (p : ℕ) → p < n → f p ≡ 0
sum_zero f n h p l = omega (arith, sum_ge f n p l)

-- a sum of terms that are at most c times other terms
pub sum_scale : (f g : ℕ → ℕ) (c n : ℕ) → ((p : ℕ) → p < n → f p ≤ c * g p) → sum f n ≤ c * sum g n
unfolding sum
sum_scale f g c zero h = omega arith
sum_scale f g c (suc n) h = omega (arith, sum_scale f g c n (λ p l. h p (omega arith)), h n (omega arith))

-- a sum of terms that are at least c times other terms
pub sum_scale_up : (f g : ℕ → ℕ) (c n : ℕ) → ((p : ℕ) → p < n → c * g p ≤ f p) → c * sum g n ≤ sum f n
unfolding sum
sum_scale_up f g c zero h = omega (arith, mul-zero c)
sum_scale_up f g c (suc n) h = omega (arith, sum_scale_up f g c n (λ p l. h p (omega arith)), h n (omega arith))

-- where f is at most g term by term and yet no smaller in sum, it is no smaller in a weighted sum
sum_weighted
    : (c f g : ℕ → ℕ) (n : ℕ) → ((p : ℕ) → p < n → f p ≤ g p) → sum g n ≤ sum f n → sum (λ p. c p * g p) n ≤ sum (λ p. c p * f p) n
unfolding sum
sum_weighted c f g zero h l = omega arith
sum_weighted c f g (suc n) h l =
    omega (arith, sum_weighted c f g n below (omega (arith, last)), mul-le-mul_left {m = g n} {n = f n} (c n) (omega (arith, rest)))
  where
    below : (p : ℕ) → p < n → f p ≤ g p
    below p b = h p (omega arith)

    rest : sum f n ≤ sum g n
    rest = sum_le f g n below

    last : f n ≤ g n
    last = h n (omega arith)

-- where f is at most g term by term and smaller in a weighted sum, it is smaller in sum
pub sum_strict
    : (c f g : ℕ → ℕ) (n : ℕ) → ((p : ℕ) → p < n → f p ≤ g p) → sum (λ p. c p * f p) n < sum (λ p. c p * g p) n → sum f n < sum g n
sum_strict c f g n h l = le_by (suc (sum f n)) (sum g n) (λ b. omega (arith, sum_weighted c f g n h (omega arith)))

-- a sum of ones counts its terms
pub sum_ones : (n : ℕ) → sum (λ p. 1) n ≡ n
unfolding sum
sum_ones zero = refl
sum_ones (suc n) = omega (arith, sum_ones n)

-- terms that are equal but for one, which is larger by 1
pub sum_bump : (f g : ℕ → ℕ) (n q : ℕ) → q < n → ((p : ℕ) → p < n → (p ≡ q → ⊥) → f p ≡ g p) → f q ≡ suc (g q) → sum f n ≡ suc (sum g n)
unfolding sum
sum_bump f g zero q l h e = omega arith
sum_bump f g (suc n) q l h e = go (below_suc q n l) (sum_bump f g n q)
  where
    go : (q < n) ⊎ (q ≡ n) → (q < n → ((p : ℕ) → p < n → (p ≡ q → ⊥) → f p ≡ g p) → f q ≡ suc (g q) → sum f n ≡ suc (sum g n))
        → sum f n + f n ≡ suc (sum g n + g n)
    go (inl b) i = omega (arith, i b (λ p a ne. h p (omega arith) ne) e, h n (omega arith) (λ (x : n ≡ q). omega arith))
    go (inr b) i =
        let last : f n ≡ suc (g n) = rw b at e in
        omega (arith, sum_eq f g n (λ p a. h p (omega arith) (λ (x : p ≡ q). omega arith)), last)

-- the first m terms and the n after them
pub sum_append : (f : ℕ → ℕ) (m n : ℕ) → sum f (m + n) ≡ sum f m + sum (λ k. f (m + k)) n
unfolding sum
sum_append f m zero = let e : m + 0 ≡ m = omega arith in rw e (omega arith)
sum_append f m (suc n) = let e : m + suc n ≡ suc (m + n) = omega arith in rw e (omega (arith, sum_append f m n))

-- a longer sum is no smaller
pub sum_longer : (f : ℕ → ℕ) (m n : ℕ) → m ≤ n → sum f m ≤ sum f n
sum_longer f m n h = let e : n ≡ m + (n - m) = omega arith in rw e (omega (arith, sum_append f m (n - m)))

-- no value is over the largest
pub most_ge : (f : ℕ → ℕ) (n p : ℕ) → p < n → f p ≤ most f n
unfolding most
most_ge f zero p h = omega arith
most_ge f (suc n) p h = go (below_suc p n h) (most_ge f n p)
  where
    go : (p < n) ⊎ (p ≡ n) → (p < n → f p ≤ most f n) → f p ≤ max (most f n) (f n)
    go (inl l) i = omega (arith, i l)
    go (inr e) i = rw e (omega arith)

-- the largest is at most what all values are at most
pub most_le : (f : ℕ → ℕ) (n b : ℕ) → ((p : ℕ) → p < n → f p ≤ b) → most f n ≤ b
unfolding most
most_le f zero b h = omega arith
most_le f (suc n) b h = omega (arith, most_le f n b (λ p l. h p (omega arith)), h n (omega arith))

-- the largest of no value is 0
most_pos : (f : ℕ → ℕ) (n x : ℕ) → x < most f n → 0 < n
unfolding most
most_pos f zero x h = omega arith
most_pos f (suc n) x h = omega arith

-- the largest of some values is one of them
pub most_is : (f : ℕ → ℕ) (n : ℕ) → 0 < n → (p : ℕ) × (p < n) × (most f n ≡ f p)
unfolding most
most_is f zero h = absurd (omega arith)
most_is f (suc n) h = go (le_or_lt (most f n) (f n)) (most_is f n)
  where
    go : (most f n ≤ f n) ⊎ (f n < most f n) → (0 < n → (p : ℕ) × (p < n) × (most f n ≡ f p)) → (p : ℕ) × (p < suc n) × (max (most f n) (f n) ≡ f p)
    go (inl l) i = (n, omega arith, omega arith)
    go (inr l) i =
        let r : (p : ℕ) × (p < n) × (most f n ≡ f p) = i (most_pos f n (f n) l) in
        (r.0, omega arith, omega arith)
