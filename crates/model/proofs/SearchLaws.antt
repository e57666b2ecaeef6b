-- Laws of the bounded search.
use Prim.Native.Nat.{ℕ, zero, suc, ◌+◌, ◌-◌, ◌≤◌, ◌<◌}
use mathlib.Core.Path.{◌≡◌, refl, sym, ap, ◌∙◌}
use mathlib.Core.Logic.{⊎_elim}
use mathlib.Core.Bool.{Bool, true, false}
use mathlib.Core.Option.{Option, some, none}
use native.Mathlib.Omega.{arith}
use native.Mathlib.Nat.{eq-or-lt_of_le}
use native.Mathlib.Numerals.{add-one}
use Rattle.model.specs.Search.{first}
use Rattle.model.proofs.SeriesLaws.{clash, le_by}

module _ (test : ℕ → Bool) where
  -- a number at which the test holds ends the search
  pub first_hit : (n t : ℕ) → test t ≡ true → first test (suc n) t ≡ some t
  unfolding first
  first_hit n t h = rw (first, h)

  -- a number at which it does not hold is passed
  pub first_skip : (n t : ℕ) → test t ≡ false → first test (suc n) t ≡ first test n (suc t)
  unfolding first
  first_skip n t h = rw (first, h)

  -- where no number passes the test, nothing is found
  pub first_none : (n t : ℕ) → ((m : ℕ) → t ≤ m → m < t + n → test m ≡ false) → first test n t ≡ none
  unfolding first
  first_none zero t h = refl
  first_none (suc n) t h = rw (first, h t (omega arith) (omega arith)) (first_none n (suc t) (λ m l g. h m (omega arith) (omega arith)))

-- tests that agree on the numbers looked at give equal searches
pub first_eq : (f g : ℕ → Bool) (n t : ℕ) → ((m : ℕ) → t ≤ m → m < t + n → f m ≡ g m) → first f n t ≡ first g n t
unfolding first
first_eq f g zero t h = refl
first_eq f g (suc n) t h = λ x.
    elim (h t (omega arith) (omega arith) x) [ true ↦ some t | false ↦ first_eq f g n (suc t) (λ m l b. h m (omega arith) (omega arith)) x ]

-- what a search that ends at m says of the n numbers from t on
pub record Found (test : ℕ → Bool) (n t m : ℕ) : Type 0 where
  pub holds : test m ≡ true
  pub low : t ≤ m
  pub high : m < t + n
  pub before : (x : ℕ) → t ≤ x → x < m → test x ≡ false

found_here : (test : ℕ → Bool) (n t m : ℕ) → test t ≡ true → t ≡ m → Found test (suc n) t m
found_here test n t m h e =
    record { holds = rw (← e) h; low = omega arith; high = omega arith; before = λ x l g. absurd (omega arith) }

found_later : (test : ℕ → Bool) (n t m : ℕ) → test t ≡ false → Found test n (suc t) m → Found test (suc n) t m
found_later test n t m h f = record { holds = f.holds; low = omega arith; high = omega arith; before = before }
  where
    before : (x : ℕ) → t ≤ x → x < m → test x ≡ false
    before x l g = ⊎_elim (λ e. rw (← e) h) (λ less. f.before x less g) (eq-or-lt_of_le l)

pub first_found : (test : ℕ → Bool) (n t m : ℕ) → first test n t ≡ some m → Found test n t m
unfolding first
first_found test zero t m e = let z : ◌≡◌ {A = ℕ} 0 1 = cc in absurd (omega arith)
first_found test (suc n) t m e = go (test t) refl (first_found test n (suc t) m)
  where
    go : (b : Bool) → test t ≡ b → (first test n (suc t) ≡ some m → Found test n (suc t) m) → Found test (suc n) t m
    go true h ih = let e' : some t ≡ some m = sym (first_hit test n t h) ∙ e in found_here test n t m h (cc)
    go false h ih = found_later test n t m h (ih (sym (first_skip test n t h) ∙ e))

-- what a search that finds nothing says
pub first_nothing : (test : ℕ → Bool) (n t : ℕ) → first test n t ≡ none → (x : ℕ) → t ≤ x → x < t + n → test x ≡ false
first_nothing test zero t e x l g = absurd (omega arith)
first_nothing test (suc n) t e x l g = go (test t) refl (first_nothing test n (suc t))
  where
    go : (b : Bool) → test t ≡ b → (first test n (suc t) ≡ none → (y : ℕ) → suc t ≤ y → y < suc t + n → test y ≡ false) → test x ≡ false
    go true h ih = let e' = sym (first_hit test n t h) ∙ e in let z : ◌≡◌ {A = ℕ} 0 1 = cc in absurd (omega arith)
    go false h ih = ⊎_elim (λ i. rw (← i) h) (λ less. ih (sym (first_skip test n t h) ∙ e) x less (omega arith)) (eq-or-lt_of_le l)

-- the least number that passes is what the search finds
pub first_is : (test : ℕ → Bool) (n t m : ℕ) → Found test n t m → first test n t ≡ some m
first_is test zero t m f = absurd (omega arith)
first_is test (suc n) t m f = ⊎_elim here (later (first_is test n (suc t) m)) (eq-or-lt_of_le f.low)
  where
    here : t ≡ m → first test (suc n) t ≡ some m
    here e = first_hit test n t (rw e f.holds) ∙ ap some e

    later : (Found test n (suc t) m → first test n (suc t) ≡ some m) → t < m → first test (suc n) t ≡ some m
    later ih l =
        first_skip test n t (f.before t (omega arith) l) ∙ ih (record { holds = f.holds; low = l; high = omega arith; before = λ x a g. f.before x (omega arith) g })

-- where a number passes, the search finds one that is not over it
pub first_under : (test : ℕ → Bool) (n t x : ℕ) → t ≤ x → x < t + n → test x ≡ true → (m : ℕ) × (first test n t ≡ some m) × (m ≤ x)
first_under test n t x l g h = go (first test n t) refl
  where
    go : (o : Option ℕ) → first test n t ≡ o → (m : ℕ) × (first test n t ≡ some m) × (m ≤ x)
    go none e = clash (test x) h (first_nothing test n t e x l g)
    go (some m) e = (m, e, le_by m x (λ (b : x < m). clash (test x) h ((first_found test n t m e).before x l b)))

-- a loop that counts i up to n: the search from i on
module _ (test : ℕ → Bool) (n i : ℕ) where
  pub search_here : i < n → test i ≡ true → first test (n - i) i ≡ some i
  search_here l h = let e : n - i ≡ suc (n - suc i) = omega arith in rw e (first_hit test (n - suc i) i h)

  pub search_next : i < n → test i ≡ false → first test (n - i) i ≡ first test (n - (i + 1)) (i + 1)
  search_next l h = let e : n - i ≡ suc (n - suc i) = omega arith in rw (e, add-one) (first_skip test (n - suc i) i h)

  pub search_end : n ≤ i → first test (n - i) i ≡ none
  unfolding first
  search_end l = let e : n - i ≡ 0 = omega arith in rw e

-- the invariant of a loop that looks at 0, 1, .., n - 1 in turn and has passed all below i
pub record Sought (test : ℕ → Bool) (n i : ℕ) : Type 0 where
  pub within : i ≤ n
  pub rest : first test n 0 ≡ first test (n - i) i

pub sought_none : (test : ℕ → Bool) (n : ℕ) → Sought test n 0
sought_none test n = record { within = omega arith; rest = let e : n - 0 ≡ n = omega arith in rw e }

pub sought_next : (test : ℕ → Bool) (n i : ℕ) → Sought test n i → i < n → test i ≡ false → Sought test n (i + 1)
sought_next test n i f l h = record { within = omega arith; rest = f.rest ∙ search_next test n i l h }

pub sought_here : (test : ℕ → Bool) (n i : ℕ) → Sought test n i → i < n → test i ≡ true → first test n 0 ≡ some i
sought_here test n i f l h = f.rest ∙ search_here test n i l h

pub sought_all : (test : ℕ → Bool) (n i : ℕ) → Sought test n i → n ≤ i → first test n 0 ≡ none
sought_all test n i f l = f.rest ∙ search_end test n i l
