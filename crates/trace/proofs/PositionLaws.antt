-- From a list of releases to positions: how many releases of a task stand before a position, and which position holds the task's x-th release.
use Prim.Native.Nat.{ℕ, zero, suc, ◌+◌, ◌≤◌, ◌<◌}
use mathlib.Core.Path.{◌≡◌, refl, sym, ap, ap₂, ◌∙◌}
use mathlib.Core.Bool.{Bool, true, false}
use mathlib.Core.List.{List, [], ◌∷◌, ◌++◌}
use mathlib.Core.Logic.{⊎_elim, dite}
use native.Mathlib.Omega.{arith}
use native.Mathlib.Nat.{le_refl, eq-or-lt_of_le}
use native.Mathlib.Decide.{dec_le, dec_lt}
use lib.ListN.{length, get_or, take, drop, length-append}
use lib.Seq.{take-suc, take-length, split_at, get_or-append_seam}
use lib.Dec.{eqb}
use borrow.Author.Tests.{eq-eqb, eqb-true}
use Rattle.model.specs.Series.{on, sum}
use Rattle.model.specs.Tasks.{Release, no_release, release_at}
use Rattle.model.specs.Gap.{own}
use Rattle.model.specs.Ready.{place}

-- the releases of task i among the first n of a list
abbrev pub before : ℕ → List Release → ℕ → ℕ
before i l n = length (own i (take n l))

-- the releases of two lists in a row
pub own_append : (i : ℕ) (a b : List Release) → own i (a ++ b) ≡ own i a ++ own i b
unfolding own
own_append i [] b = refl
own_append i (r ∷ a) b = go (eqb r.task i) refl (own_append i a b) where
  go : (e : Bool) → eqb r.task i ≡ e → own i (a ++ b) ≡ own i a ++ own i b
      → own i ((r ∷ a) ++ b) ≡ own i (r ∷ a) ++ own i b
  go true e h = rw (own, e) (ap (λ (x : List ℕ). r.tick ∷ x) h)
  go false e h = rw (own, e) h

-- a release of task i in front
pub own_same : (i : ℕ) (r : Release) (l : List Release) → r.task ≡ i → own i (r ∷ l) ≡ r.tick ∷ own i l
unfolding own
own_same i r l h = rw (own, eq-eqb r.task i h)

-- the number of releases of task i in a list of one
own_one : (i : ℕ) (r : Release) → length (own i (r ∷ [])) ≡ on (eqb r.task i) 1
unfolding own on
own_one i r = go (eqb r.task i) refl where
  go : (e : Bool) → eqb r.task i ≡ e → length (own i (r ∷ [])) ≡ on (eqb r.task i) 1
  go true e = rw (own, e)
  go false e = rw (own, e)

module _ (l : List Release) where
  -- one position more
  pub before_suc : (i n : ℕ) → n < length l → before i l (suc n) ≡ before i l n + on (eqb (release_at l n).task i) 1
  before_suc i n h =
      ap (λ (x : List Release). length (own i x)) (take-suc l n no_release h)
      ∙ ap length (own_append i (take n l) (release_at l n ∷ []))
      ∙ length-append (own i (take n l)) (own i (release_at l n ∷ []))
      ∙ ap (λ (x : ℕ). before i l n + x) (own_one i (release_at l n))

  -- as a sum over positions
  pub place_count : (i n : ℕ) → n ≤ length l → before i l n ≡ sum (λ p. on (eqb (release_at l p).task i) 1) n
  unfolding sum own
  place_count i zero h = refl
  place_count i (suc n) h = before_suc i n (omega arith) ∙ ap (λ (x : ℕ). x + on (eqb (release_at l n).task i) 1) (place_count i n (omega arith))

  pub own_count : (i : ℕ) → length (own i l) ≡ sum (λ p. on (eqb (release_at l p).task i) 1) (length l)
  own_count i = ap (λ (x : List Release). length (own i x)) (sym (take-length l)) ∙ place_count i (length l) (omega arith)

  pub before_all : (i : ℕ) → before i l (length l) ≡ length (own i l)
  before_all i = ap (λ (x : List Release). length (own i x)) (take-length l)

  pub before_own : (i n : ℕ) → n < length l → (release_at l n).task ≡ i → before i l (suc n) ≡ before i l n + 1
  unfolding on
  before_own i n h e = before_suc i n h ∙ rw (eq-eqb (release_at l n).task i e)

  -- never falls along the list
  pub before_mono : (i m n : ℕ) → m ≤ n → n ≤ length l → before i l m ≤ before i l n
  before_mono i m zero h g = let e : m ≡ 0 = omega arith in rw e (le_refl (before i l 0))
  before_mono i m (suc n) h g =
      ⊎_elim
      (λ e. rw e (le_refl (before i l (suc n))))
      (λ k. let u : before i l m ≤ before i l n = before_mono i m n (omega arith) (omega arith) in omega (arith, before_suc i n g))
      (eq-or-lt_of_le h)

  -- the place of a release in its task's own list
  pub place_of : (i p : ℕ) → (release_at l p).task ≡ i → place l p ≡ before i l p
  place_of i p e = ap (λ (x : ℕ). before x l p) e

  -- the places of a task's releases rise along the list
  pub place_lt : (i m p : ℕ) → m < p → p < length l → (release_at l m).task ≡ i → (release_at l p).task ≡ i → place l m < place l p
  place_lt i m p h g em ep =
      let a : before i l (suc m) ≤ before i l p = before_mono i (suc m) p h (omega arith) in
      let b : before i l (suc m) ≡ before i l m + 1 = before_own i m (omega arith) em in
      let c : place l m ≡ before i l m = place_of i m em in
      let d : place l p ≡ before i l p = place_of i p ep in
      omega arith

  pub place_le : (i m p : ℕ) → m ≤ p → p < length l → (release_at l m).task ≡ i → (release_at l p).task ≡ i → place l m ≤ place l p
  place_le i m p h g em ep =
      ⊎_elim (λ e. rw e (le_refl (place l p))) (λ k. let u : place l m < place l p = place_lt i m p k g em ep in omega arith) (eq-or-lt_of_le h)

  -- the order of places is the order of positions
  pub place_back : (i m p : ℕ) → m < length l → p < length l → (release_at l m).task ≡ i → (release_at l p).task ≡ i → place l m ≤ place l p → m ≤ p
  place_back i m p g g' em ep h =
      dite (dec_le m p) (λ a. a) (λ a. absurd (let u : place l p < place l m = place_lt i p m (omega arith) g ep em in omega arith))

  -- a task's own list, about a position of the task
  pub own_split : (i p : ℕ) → p < length l → (release_at l p).task ≡ i
      → own i l ≡ own i (take p l) ++ ((release_at l p).tick ∷ own i (drop (suc p) l))
  own_split i p h e =
      ap (own i) (split_at l p no_release h)
      ∙ own_append i (take p l) (release_at l p ∷ drop (suc p) l)
      ∙ ap (λ (x : List ℕ). own i (take p l) ++ x) (own_same i (release_at l p) (drop (suc p) l) e)

  -- the release at a position is that of its place in its task's own list
  pub own_at : (i p : ℕ) → p < length l → (release_at l p).task ≡ i → get_or (own i l) (place l p) 0 ≡ (release_at l p).tick
  own_at i p h e =
      ap₂ (λ (x : List ℕ) (n : ℕ). get_or x n 0) (own_split i p h e) (place_of i p e)
      ∙ get_or-append_seam (own i (take p l)) (release_at l p).tick (own i (drop (suc p) l)) 0

  pub place_inside : (i p : ℕ) → p < length l → (release_at l p).task ≡ i → place l p < length (own i l)
  place_inside i p h e =
      let a : before i l (suc p) ≤ before i l (length l) = before_mono i (suc p) (length l) h (le_refl (length l)) in
      let b : before i l (suc p) ≡ before i l p + 1 = before_own i p h e in
      let c : place l p ≡ before i l p = place_of i p e in
      omega (arith, before_all i)

-- the position of the release at place x of task i
pub record Held (l : List Release) (i x : ℕ) : Type 0 where
  pub at : ℕ
  pub inside : at < length l
  pub of_task : (release_at l at).task ≡ i
  pub is : place l at ≡ x

module _ (l : List Release) (i x : ℕ) where
  held_before : (n : ℕ) → n ≤ length l → x < before i l n → Held l i x
  unfolding own on
  held_before zero h g = absurd (omega arith)
  held_before (suc n) h g = dite (dec_lt x (before i l n)) (held_before n (omega arith)) (λ a. go a (eqb (release_at l n).task i) refl (before_suc l i n h)) where
    go : (x < before i l n → ⊥) → (e : Bool) → eqb (release_at l n).task i ≡ e → before i l (suc n) ≡ before i l n + on (eqb (release_at l n).task i) 1
        → Held l i x
    go a true e f =
        let u : (release_at l n).task ≡ i = eqb-true _ _ e in
        let v : before i l (suc n) ≡ before i l n + 1 = rw e at f in
        record { at = n; inside = h; of_task = u; is = place_of l i n u ∙ omega arith }
    go a false e f = let v : before i l (suc n) ≡ before i l n + 0 = rw e at f in absurd (omega arith)

  -- every place of a task's own list is that of a position
  pub held : x < length (own i l) → Held l i x
  held h = held_before (length l) (le_refl (length l)) (omega (arith, before_all l i))
