-- The members of `extended`: the lists that begin with given releases and go on with pairs that may follow, in the order of the first pair that differs.
use Prim.Native.Nat.{ℕ, zero, suc, ◌-◌, ◌≤◌, ◌<◌}
use mathlib.Core.Path.{◌≡◌, refl, sym, ap, subst, ◌∙◌}
use mathlib.Core.Bool.{Bool, true}
use mathlib.Core.List.{List, [], ◌∷◌, ◌++◌, append-nil}
use native.Mathlib.Omega.{arith}
use lib.ListN.{length, length-append, get_or-append}
use lib.Seq.{append_snoc, get_or-append_seam}
use Rattle.model.specs.Tasks.{Tasks, Release, release_at, no_release}
use Rattle.enumeration.specs.SmallTraces.{pair_release, may_follow, extended}
use Rattle.enumeration.specs.EveryTrace.{Before, FirstDiffers, Member}
use Rattle.enumeration.proofs.JoinedLaws.{
  when,
  All,
  Ordered,
  all_when,
  member_when,
  ordered_when,
  all_joined,
  member_joined,
  ordered_joined,
}
use Rattle.enumeration.proofs.PairLaws.{pair_before}

-- the releases r can follow l one by one: each is that of a pair below b that may follow those in front of it, and the numbers of the pairs never fall, from
-- x on
pub data Steps (s : Tasks) (b : ℕ) : ℕ → List Release → List Release → Type 0 where
  none : {x : ℕ} {l : List Release} → Steps s b x l []
  more
      : {x : ℕ} {l r : List Release} (y : ℕ) (a : Release)
      → x ≤ y
      → y < b
      → pair_release s y ≡ a
      → may_follow s l a ≡ true
      → Steps s b y (l ++ (a ∷ [])) r
      → Steps s b x l (a ∷ r)

-- m is l with n more releases that can follow it
pub record Grown (s : Tasks) (b n x : ℕ) (l m : List Release) : Type 0 where
  pub rest : List Release
  pub is : m ≡ l ++ rest
  pub long : length rest ≡ n
  pub steps : Steps s b x l rest

-- lists that agree in l, and whose next release is before that of the other, first differ there
pub differ : (l : List Release) (a c : Release) (r q : List Release) → Before a c → FirstDiffers (l ++ (a ∷ r)) (l ++ (c ∷ q))
differ l a c r q h =
    record {
      at = length l;
      inside = omega (arith, length-append l (a ∷ r));
      same = λ p k. (ap (λ (x : Release). x.tick) (alike p k), ap (λ (x : Release). x.task) (alike p k));
      before =
          subst (λ (x : Release). Before x (release_at (l ++ (c ∷ q)) (length l))) (sym (get_or-append_seam l a r no_release))
          (subst (λ (x : Release). Before a x) (sym (get_or-append_seam l c q no_release)) h);
    }
  where
    alike : (p : ℕ) → p < length l → release_at (l ++ (a ∷ r)) p ≡ release_at (l ++ (c ∷ q)) p
    alike p k = get_or-append l (a ∷ r) no_release p k ∙ sym (get_or-append l (c ∷ q) no_release p k)

module _ (s : Tasks) (b : ℕ) where
  -- whether the pair y may follow l, l with it, and the traces of n releases more that go on with it
  abbrev may : List Release → ℕ → Bool
  may l y = may_follow s l (pair_release s y)

  abbrev next : List Release → ℕ → List Release
  next l y = l ++ (pair_release s y ∷ [])

  abbrev go_on : ℕ → List Release → ℕ → List (List Release)
  go_on n l y = when (may l y) (extended s b n y (next l y))

  -- a list that goes on from l with the pair y goes on from l
  grown_more
      : (n x : ℕ) (l m : List Release) (y : ℕ)
      → x ≤ y
      → y < b
      → may l y ≡ true
      → Grown s b n y (next l y) m
      → Grown s b (suc n) x l m
  grown_more n x l m y h k e g =
      record {
        rest = pair_release s y ∷ g.rest;
        is = g.is ∙ append_snoc l (pair_release s y) g.rest;
        long = ap suc g.long;
        steps = more y (pair_release s y) h k refl e g.steps;
      }

  -- every member of `extended` is l with n more releases that can follow it
  pub extended_grown : (n x : ℕ) (l : List Release) → All [] (Grown s b n x l) (extended s b n x l)
  unfolding extended
  extended_grown zero x l = λ p h. let e : p ≡ 0 = omega arith in rw e (record { rest = []; is = sym (append-nil l); long = refl; steps = none })
  extended_grown (suc n) x l =
      all_joined [] (Grown s b (suc n) x l) (go_on n l) x (b - x)
      (λ y h k. all_when [] (Grown s b (suc n) x l) (may l y) (extended s b n y (next l y))
      (λ e p j. grown_more n x l _ y h (omega arith) e (extended_grown n y (next l y) p j)))

  -- l with n more releases that can follow it is a member
  pub grown_member : (n : ℕ) {x : ℕ} {l r : List Release} → length r ≡ n → Steps s b x l r → Member [] (l ++ r) (extended s b n x l)
  unfolding extended
  grown_member zero {x} {l} e none = record { at = 0; inside = omega arith; is = sym (append-nil l) }
  grown_member zero e (more y a h k c f st) = absurd (omega arith)
  grown_member (suc n) e none = absurd (omega arith)
  grown_member (suc n) {x} {l} e (more {r = r} y a h k c f st) =
      member_joined [] (go_on n l) x (b - x) y h (omega arith) (here (grown_member n (omega arith) st))
    where
      here : Member [] ((l ++ (a ∷ [])) ++ r) (extended s b n y (l ++ (a ∷ []))) → Member [] (l ++ (a ∷ r)) (go_on n l y)
      here g =
          subst (λ (z : Release). Member [] (l ++ (a ∷ r)) (when (may_follow s l z) (extended s b n y (l ++ (z ∷ []))))) (sym c)
          (member_when [] (may_follow s l a) (extended s b n y (l ++ (a ∷ []))) f (rw append_snoc at g))

  -- the members are in order of the first pair that differs
  pub extended_ordered : 1 ≤ s.count → (n x : ℕ) (l : List Release) → Ordered [] FirstDiffers (extended s b n x l)
  unfolding extended
  extended_ordered some_task zero x l = λ p q h k. absurd (omega arith)
  extended_ordered some_task (suc n) x l =
      ordered_joined [] FirstDiffers (go_on n l) x (b - x)
      (λ y h k. ordered_when [] FirstDiffers (may l y) (extended s b n y (next l y)) (extended_ordered some_task n y (next l y)))
      (λ y z h g k p q i j. apart y z g (begins y p i) (begins z q j))
    where
      Begins : ℕ → List Release → Type 0
      Begins y m = Grown s b n y (next l y) m

      begins : (y : ℕ) → All [] (Begins y) (go_on n l y)
      begins y = all_when [] (Begins y) (may l y) (extended s b n y (next l y)) (λ e. extended_grown n y (next l y))

      shown : (y : ℕ) {m : List Release} (g : Begins y m) → m ≡ l ++ (pair_release s y ∷ g.rest)
      shown y g = g.is ∙ append_snoc l (pair_release s y) g.rest

      apart : (y z : ℕ) {m k : List Release} → y < z → Begins y m → Begins z k → FirstDiffers m k
      apart y z h g f =
          rw (shown y g, shown z f)
          (differ l (pair_release s y) (pair_release s z) g.rest f.rest (pair_before s some_task y z h))
