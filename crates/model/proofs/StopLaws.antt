-- Laws of the numbers that stand in a list, and of how many are different.
use Prim.Native.Nat.{ℕ, zero, suc, ◌+◌, ◌-◌, ◌≤◌, ◌<◌}
use mathlib.Core.Path.{◌≡◌, refl, sym, ap, ◌∙◌}
use mathlib.Core.Bool.{Bool, true, false, not, ◌||◌}
use mathlib.Core.Logic.{◌⊎◌, inl, inr}
use mathlib.Core.List.{List, [], ◌∷◌, ◌++◌}
use native.Mathlib.Omega.{arith}
use lib.Dec.{eqb}
use lib.ListN.{length}
use borrow.Author.Tests.{eqb-true, eq-eqb, ne_eqb}
use Rattle.model.specs.Series.{on, sum, table}
use Rattle.model.specs.Stops.{has, different}
use Rattle.model.proofs.SeriesLaws.{below_suc, clash, on_true, on_false, on_le, sum_eq, sum_nil, sum_bump, sum_append, sum_longer}

-- nothing stands in the empty list
has_nil : {A : Type 0} (x : ℕ) → has [] x ≡ true → A
unfolding has
has_nil x h = clash false h refl

-- a number stands in two lists together where it stands in one of them
pub has_append : (a b : List ℕ) (x : ℕ) → has a x ≡ true → has (a ++ b) x ≡ true
unfolding has
has_append [] b x h = has_nil x h
has_append (y ∷ a) b x h = go (eqb x y) h (has_append a b x)
  where
    go : (t : Bool) → (t || has a x) ≡ true → (has a x ≡ true → has (a ++ b) x ≡ true) → (t || has (a ++ b) x) ≡ true
    go true g i = refl
    go false g i = i g

pub has_behind : (a b : List ℕ) (x : ℕ) → has b x ≡ true → has (a ++ b) x ≡ true
unfolding has
has_behind [] b x h = h
has_behind (y ∷ a) b x h = go (eqb x y) (has_behind a b x h)
  where
    go : (t : Bool) → has (a ++ b) x ≡ true → (t || has (a ++ b) x) ≡ true
    go true i = refl
    go false i = i

pub has_either : (a b : List ℕ) (x : ℕ) → has (a ++ b) x ≡ true → (has a x ≡ true) ⊎ (has b x ≡ true)
unfolding has
has_either [] b x h = inr h
has_either (y ∷ a) b x h = go (eqb x y) h (has_either a b x)
  where
    go : (t : Bool)
        → (t || has (a ++ b) x) ≡ true
        → (has (a ++ b) x ≡ true → (has a x ≡ true) ⊎ (has b x ≡ true))
        → ((t || has a x) ≡ true) ⊎ (has b x ≡ true)
    go true g i = inl refl
    go false g i = i g

-- a list of one
has_one : (y x : ℕ) → has (y ∷ []) x ≡ true → x ≡ y
unfolding has
has_one y x h = go (eqb x y) refl h
  where
    go : (t : Bool) → eqb x y ≡ t → (t || false) ≡ true → x ≡ y
    go true e g = eqb-true x y e
    go false e g = clash false g refl

one_has : (y : ℕ) → has (y ∷ []) y ≡ true
unfolding has
one_has y = rw (eq-eqb y y refl)

-- the numbers of a table
pub has_table : (f : ℕ → ℕ) (n p : ℕ) → p < n → has (table f n) (f p) ≡ true
unfolding table
has_table f zero p h = absurd (omega arith)
has_table f (suc n) p h = go (below_suc p n h) (has_table f n p)
  where
    go : (p < n) ⊎ (p ≡ n) → (p < n → has (table f n) (f p) ≡ true) → has (table f n ++ (f n ∷ [])) (f p) ≡ true
    go (inl l) i = has_append (table f n) (f n ∷ []) (f p) (i l)
    go (inr e) i = rw e (has_behind (table f n) (f n ∷ []) (f n) (one_has (f n)))

pub table_has : (f : ℕ → ℕ) (n x : ℕ) → has (table f n) x ≡ true → (p : ℕ) × (p < n) × (f p ≡ x)
unfolding table
table_has f zero x h = has_nil x h
table_has f (suc n) x h = go (has_either (table f n) (f n ∷ []) x h) (table_has f n x)
  where
    go : (has (table f n) x ≡ true) ⊎ (has (f n ∷ []) x ≡ true)
        → (has (table f n) x ≡ true → (p : ℕ) × (p < n) × (f p ≡ x))
        → (p : ℕ) × (p < suc n) × (f p ≡ x)
    go (inl g) i = let r : (p : ℕ) × (p < n) × (f p ≡ x) = i g in (r.0, omega arith, r.2)
    go (inr g) i = (n, omega arith, sym (has_one (f n) x g))

-- how many of the numbers below t stand in a list
unfoldable pub below : List ℕ → ℕ → ℕ
below l t = sum (λ x. on (has l x) 1) t

-- none where none stands there
pub below_none : (l : List ℕ) (t : ℕ) → ((x : ℕ) → x < t → has l x ≡ true → ⊥) → below l t ≡ 0
unfolding below
below_none l t h = sum_nil (λ x. on (has l x) 1) t (λ x a. go x a (has l x) refl)
  where
    go : (x : ℕ) → x < t → (b : Bool) → has l x ≡ b → on (has l x) 1 ≡ 0
    go x a true e = absurd (h x a e)
    go x a false e = on_false (has l x) 1 e

-- one more where u stands there and none from t up to it
pub below_next : (l : List ℕ) (t u : ℕ) → t ≤ u → ((x : ℕ) → t ≤ x → x < u → has l x ≡ true → ⊥) → has l u ≡ true → below l (suc u) ≡ suc (below l t)
unfolding below sum
below_next l t u a h e =
    let s : u ≡ t + (u - t) = omega arith in
    let split : sum (λ x. on (has l x) 1) u ≡ sum (λ x. on (has l x) 1) t + sum (λ k. on (has l (t + k)) 1) (u - t) =
    ap (sum (λ x. on (has l x) 1)) s ∙ sum_append (λ x. on (has l x) 1) t (u - t)
    in
    omega (arith, split, on_true (has l u) 1 e, sum_nil (λ k. on (has l (t + k)) 1) (u - t) (λ k b. go k b (has l (t + k)) refl))
  where
    go : (k : ℕ) → k < u - t → (b : Bool) → has l (t + k) ≡ b → on (has l (t + k)) 1 ≡ 0
    go k b true g = absurd (h (t + k) (omega arith) (omega arith) g)
    go k b false g = on_false (has l (t + k)) 1 g

-- one more number in the list
below_cons : (y : ℕ) (l : List ℕ) (t : ℕ) → y < t → below (y ∷ l) t ≡ on (not (has l y)) 1 + below l t
unfolding below has on
below_cons y l t h = go (has l y) refl
  where
    other : (x : ℕ) → (x ≡ y → ⊥) → on (eqb x y || has l x) 1 ≡ on (has l x) 1
    other x n = rw (ne_eqb x y n)

    same : has l y ≡ true → (x : ℕ) → (b : Bool) → eqb x y ≡ b → on (b || has l x) 1 ≡ on (has l x) 1
    same e x true g = let s : x ≡ y = eqb-true x y g in rw (s, e)
    same e x false g = refl

    here : has l y ≡ false → on (eqb y y || has l y) 1 ≡ suc (on (has l y) 1)
    here e = rw (eq-eqb y y refl, e)

    go : (b : Bool) → has l y ≡ b → sum (λ x. on (eqb x y || has l x) 1) t ≡ on (not b) 1 + sum (λ x. on (has l x) 1) t
    go true e =
        omega (arith, sum_eq (λ x. on (eqb x y || has l x) 1) (λ x. on (has l x) 1) t (λ x a. same e x (eqb x y) refl))
    go false e =
        omega (arith, sum_bump (λ x. on (eqb x y || has l x) 1) (λ x. on (has l x) 1) t y h (λ x a n. other x n) (here e))

-- how many are different is how many of the numbers below a bound stand in the list, where the bound is over all of them
pub below_all : (l : List ℕ) (b : ℕ) → ((x : ℕ) → has l x ≡ true → x < b) → below l b ≡ different l
unfolding different
below_all [] b h = below_none [] b (λ x a. has_nil x)
below_all (y ∷ l) b h =
    below_cons y l b (h y (has_append (y ∷ []) l y (one_has y))) ∙ ap (λ n. on (not (has l y)) 1 + n) (below_all l b (λ x g. h x (has_behind (y ∷ []) l x g)))

-- a list has no more different numbers than places
pub different_le : (l : List ℕ) → different l ≤ length l
unfolding different
different_le [] = omega arith
different_le (x ∷ l) = omega (arith, different_le l, on_le (not (has l x)) 1)

-- and no more below any bound
pub below_le : (l : List ℕ) (t b : ℕ) → t ≤ b → ((x : ℕ) → has l x ≡ true → x < b) → below l t ≤ length l
unfolding below
below_le l t b a h = omega (arith, sum_longer (λ x. on (has l x) 1) t b a, below_all l b h, different_le l)
