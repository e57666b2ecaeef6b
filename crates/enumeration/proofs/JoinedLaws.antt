-- Laws of lists in a row: what holds of every member, which members there are, and in which order they stand.
use Prim.Native.Nat.{ℕ, zero, suc, ◌+◌, ◌≤◌, ◌<◌}
use mathlib.Core.Path.{◌≡◌, refl, sym, subst, ◌∙◌}
use mathlib.Core.Bool.{Bool, true, false}
use mathlib.Core.Logic.{⊎_elim, dite}
use mathlib.Core.List.{List, [], ◌∷◌, ◌++◌}
use native.Mathlib.Omega.{arith}
use native.Mathlib.Decide.{dec_lt}
use native.Mathlib.Nat.{eq-or-lt_of_le}
use lib.ListN.{length, get_or, length-append, get_or-append}
use lib.Seq.{get_or-append-add}
use Rattle.enumeration.specs.SmallTraces.{joined}
use Rattle.enumeration.specs.EveryTrace.{Member}

-- a list where a test is passed, and otherwise none
abbrev pub when : {A : Type 0} → Bool → List A → List A
when c l = elim c [ true ↦ l | false ↦ [] ]

module _ {A : Type 0} (d : A) where
  -- every member of a list has a property
  abbrev pub All : (A → Type 0) → List A → Type 0
  All P l = (p : ℕ) → p < length l → P (get_or l p d)

  -- every two members of a list stand in a relation, the earlier one to the later one
  abbrev pub Ordered : (A → A → Type 0) → List A → Type 0
  Ordered R l = (p q : ℕ) → p < q → q < length l → R (get_or l p d) (get_or l q d)

  -- a property of the members of two lists is one of the members of both in a row
  pub all_append : (P : A → Type 0) (a b : List A) → All P a → All P b → All P (a ++ b)
  all_append P [] b f g p h = g p h
  all_append P (x ∷ a) b f g zero h = f 0 (omega arith)
  all_append P (x ∷ a) b f g (suc p) h = all_append P a b (λ q k. f (suc q) (omega arith)) g p (omega arith)

  -- a member of the first list, and of the second, is a member of both in a row
  pub member_left : {x : A} (a b : List A) → Member d x a → Member d x (a ++ b)
  member_left a b m =
      record {
        at = m.at;
        inside = omega (arith, length-append a b, m.inside);
        is = get_or-append a b d m.at m.inside ∙ m.is;
      }

  pub member_right : {x : A} (a b : List A) → Member d x b → Member d x (a ++ b)
  member_right a b m =
      record {
        at = length a + m.at;
        inside = omega (arith, length-append a b, m.inside);
        is = get_or-append-add a b m.at d ∙ m.is;
      }

  -- two lists in a row are in order where each is, and the members of the first stand before those of the second
  pub ordered_append
      : (R : A → A → Type 0) (a b : List A)
      → Ordered R a
      → Ordered R b
      → ((p q : ℕ) → p < length a → q < length b → R (get_or a p d) (get_or b q d))
      → Ordered R (a ++ b)
  ordered_append R [] b f g c p q h k = g p q h k
  ordered_append R (x ∷ a) b f g c p zero h k = absurd (omega arith)
  ordered_append R (x ∷ a) b f g c zero (suc q) h k =
      all_append (R x) a b (λ j i. f 0 (suc j) (omega arith) (omega arith)) (λ j i. c 0 j (omega arith) i) q (omega arith)
  ordered_append R (x ∷ a) b f g c (suc p) (suc q) h k =
      ordered_append R a b (λ i j u v. f (suc i) (suc j) (omega arith) (omega arith)) g (λ i j u v. c (suc i) j (omega arith) v) p q (omega arith) (omega arith)

  -- no member of a list in order is there twice, where none stands in the relation to itself
  pub ordered_once
      : (R : A → A → Type 0) (l : List A)
      → ((a : A) → R a a → ⊥)
      → Ordered R l
      → (p q : ℕ)
      → p < length l
      → q < length l
      → get_or l p d ≡ get_or l q d
      → p ≡ q
  ordered_once R l n f p q h k e =
      dite (dec_lt p q)
      (λ i. absurd (n (get_or l p d) (subst (R (get_or l p d)) (sym e) (f p q i k))))
      (λ i. dite (dec_lt q p) (λ j. absurd (n (get_or l q d) (subst (R (get_or l q d)) e (f q p j h)))) (λ j. omega arith))

  -- a list behind a test: a property of its members has to hold only where the test is passed ..
  pub all_when : (P : A → Type 0) (c : Bool) (l : List A) → (c ≡ true → All P l) → All P (when c l)
  all_when P true l f = f refl
  all_when P false l f = λ p h. absurd (omega arith)

  -- .. its members are there where it is passed ..
  pub member_when : {x : A} (c : Bool) (l : List A) → c ≡ true → Member d x l → Member d x (when c l)
  member_when c l e m = rw e m

  -- .. and it stays in order
  pub ordered_when : (R : A → A → Type 0) (c : Bool) (l : List A) → Ordered R l → Ordered R (when c l)
  ordered_when R true l f = f
  ordered_when R false l f = λ p q h k. absurd (omega arith)

  -- the members of f x ++ f (x + 1) ++ .. have a property where those of each list have
  pub all_joined
      : (P : A → Type 0) (f : ℕ → List A) (x m : ℕ) → ((y : ℕ) → x ≤ y → y < x + m → All P (f y)) → All P (joined f x m)
  unfolding joined
  all_joined P f x zero h = λ p k. absurd (omega arith)
  all_joined P f x (suc m) h =
      all_append P (f x) (joined f (suc x) m) (h x (omega arith) (omega arith)) (all_joined P f (suc x) m (λ y i j. h y (omega arith) (omega arith)))

  -- a member of one of the lists is a member
  pub member_joined : {a : A} (f : ℕ → List A) (x m y : ℕ) → x ≤ y → y < x + m → Member d a (f y) → Member d a (joined f x m)
  unfolding joined
  member_joined f x zero y h k g = absurd (omega arith)
  member_joined {a} f x (suc m) y h k g =
      ⊎_elim
      (λ e. member_left (f x) (joined f (suc x) m) (rw e g))
      (λ i. member_right (f x) (joined f (suc x) m) (member_joined f (suc x) m y i (omega arith) g))
      (eq-or-lt_of_le h)

  -- they are in order where each list is, and the members of each stand before those of every later one
  pub ordered_joined
      : (R : A → A → Type 0) (f : ℕ → List A) (x m : ℕ)
      → ((y : ℕ) → x ≤ y → y < x + m → Ordered R (f y))
      → ((y z : ℕ) → x ≤ y → y < z → z < x + m → (p q : ℕ) → p < length (f y) → q < length (f z) → R (get_or (f y) p d) (get_or (f z) q d))
      → Ordered R (joined f x m)
  unfolding joined
  ordered_joined R f x zero h c = λ p q i k. absurd (omega arith)
  ordered_joined R f x (suc m) h c =
      ordered_append R (f x) (joined f (suc x) m)
      (h x (omega arith) (omega arith))
      (ordered_joined R f (suc x) m (λ y i j. h y (omega arith) (omega arith)) (λ y z i j k. c y z (omega arith) j (omega arith)))
      (λ p q i j. all_joined (R (get_or (f x) p d)) f (suc x) m (λ z u v w k. c x z (omega arith) u (omega arith) p w i k) q j)
