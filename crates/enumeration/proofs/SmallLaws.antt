-- The small traces are the lists of releases that can follow one another from the first on.
use Prim.Native.Nat.{ℕ, zero, suc, ◌*◌, ◌≤◌, ◌<◌}
use mathlib.Core.Path.{◌≡◌, refl, sym, subst}
use mathlib.Core.List.{List, [], ◌∷◌, ◌++◌, append-nil}
use native.Mathlib.Omega.{arith}
use lib.ListN.{length}
use lib.Seq.{append_snoc}
use Rattle.model.specs.Tasks.{Tasks, Release, release_at}
use Rattle.model.specs.Gap.{own, Legal}
use Rattle.enumeration.specs.SmallTraces.{pair_release}
use Rattle.enumeration.specs.EveryTrace.{Before, Small}
use Rattle.enumeration.proofs.PairLaws.{pair_number, pair_not_before, pair_known, pair_early, pair_of, pair_number_lem, pair_order}
use Rattle.enumeration.proofs.FollowLaws.{legal_before, follow_legal, legal_follow}
use Rattle.enumeration.proofs.GrownLaws.{Steps, none, more}

-- a release is that of a pair from x on and below b
record Numbered (s : Tasks) (b x : ℕ) (r : Release) : Type 0 where
  number : ℕ
  from : x ≤ number
  below : number < b
  is : pair_release s number ≡ r

-- the releases r are the rest of a small trace that begins with l, none of them before pair x
record Rest (s : Tasks) (t x : ℕ) (l r : List Release) : Type 0 where
  known : (p : ℕ) → p < length r → (release_at r p).task < s.count
  early : (p : ℕ) → p < length r → (release_at r p).tick < t
  full : (p : ℕ) → p < length r → (release_at r p).cost ≡ s.cost (release_at r p).task
  ordered : (p : ℕ) → suc p < length r → Before (release_at r (suc p)) (release_at r p) → ⊥
  from : 0 < length r → x ≤ pair_number s (release_at r 0)
  legal : (i : ℕ) → i < s.count → Legal s (l ++ r) i

module _ (s : Tasks) (some_task : 1 ≤ s.count) where
  -- each release that can follow is that of a pair ..
  steps_numbered : (b : ℕ) {x : ℕ} {l r : List Release} → Steps s b x l r → (p : ℕ) → p < length r → Numbered s b x (release_at r p)
  steps_numbered b none p i = absurd (omega arith)
  steps_numbered b (more y a h k c f st) zero i = record { number = y; from = h; below = k; is = c }
  steps_numbered b {x} (more {r = r} y a h k c f st) (suc p) i = wider (steps_numbered b st p (omega arith))
    where
      wider : Numbered s b y (release_at r p) → Numbered s b x (release_at r p)
      wider d = record { number = d.number; from = omega (arith, d.from); below = d.below; is = d.is }

  -- .. not before that of the one in front of it
  steps_ordered
      : (b : ℕ) {x : ℕ} {l r : List Release} → Steps s b x l r → (p : ℕ) → suc p < length r → Before (release_at r (suc p)) (release_at r p) → ⊥
  steps_ordered b none p i g = absurd (omega arith)
  steps_ordered b (more {r = r} y a h k c f st) zero i g = apart (steps_numbered b st 0 (omega arith))
    where
      apart : Numbered s b y (release_at r 0) → ⊥
      apart d =
          pair_not_before s some_task y d.number d.from
          (subst (λ (z : Release). Before (pair_release s d.number) z) (sym c) (subst (λ (z : Release). Before z a) (sym d.is) g))
  steps_ordered b (more y a h k c f st) (suc p) i g = steps_ordered b st p (omega arith) g

  -- they keep the releases of every task legal
  steps_legal : (b : ℕ) {x : ℕ} {l r : List Release} → Steps s b x l r → ((i : ℕ) → Legal s l i) → (i : ℕ) → Legal s (l ++ r) i
  steps_legal b {l = l} none g i = rw (append-nil l) (g i)
  steps_legal b {l = l} (more {r = r} y a h k c f st) g i =
      subst (λ (z : List Release). Legal s z i) (append_snoc l a r) (steps_legal b st (λ j. follow_legal s l a f j (g j)) i)

  module _ (n t : ℕ) where
    -- releases that can follow one another are a small trace
    pub steps_small : (r : List Release) → length r ≤ n → Steps s (t * s.count) 0 [] r → Small s n t r
    unfolding own
    steps_small r h st =
        record {
          few = h;
          known = λ p i. let d = at p i in subst (λ (z : Release). z.task < s.count) d.is (pair_known s some_task d.number);
          early = λ p i. let d = at p i in subst (λ (z : Release). z.tick < t) d.is (pair_early s some_task t d.number d.below);
          full = λ p i. let d = at p i in subst (λ (z : Release). z.cost ≡ s.cost z.task) d.is refl;
          ordered = steps_ordered (t * s.count) st;
          legal = λ i k. steps_legal (t * s.count) st (λ j m k h. absurd (omega arith)) i;
        }
      where
        at : (p : ℕ) → p < length r → Numbered s (t * s.count) 0 (release_at r p)
        at = steps_numbered (t * s.count) st

  module _ (t : ℕ) where
    -- the rest after one release more
    rest_next : (x : ℕ) (l : List Release) (a : Release) (r : List Release) → Rest s t x l (a ∷ r) → Rest s t (pair_number s a) (l ++ (a ∷ [])) r
    rest_next x l a r w =
        record {
          known = λ p h. w.known (suc p) (omega arith);
          early = λ p h. w.early (suc p) (omega arith);
          full = λ p h. w.full (suc p) (omega arith);
          ordered = λ p h. w.ordered (suc p) (omega arith);
          from = λ h. pair_order s some_task a (release_at r 0) (w.known 0 (omega arith)) (w.known 1 (omega arith)) (w.full 0 (omega arith))
              (w.full 1 (omega arith)) (w.ordered 0 (omega arith));
          legal = λ i h. subst (λ (z : List Release). Legal s z i) (sym (append_snoc l a r)) (w.legal i h);
        }

    rest_steps : (r : List Release) (x : ℕ) (l : List Release) → Rest s t x l r → Steps s (t * s.count) x l r
    rest_steps [] x l w = none
    rest_steps (a ∷ r) x l w =
        let known : a.task < s.count = w.known 0 (omega arith) in
        let next : Rest s t (pair_number s a) (l ++ (a ∷ [])) r = rest_next x l a r w in
        more (pair_number s a) a (w.from (omega arith)) (pair_number_lem s some_task a t known (w.early 0 (omega arith)))
        (pair_of s some_task a known (w.full 0 (omega arith)))
        (legal_follow s l a (legal_before s (l ++ (a ∷ [])) r a.task (next.legal a.task known)))
        (rest_steps r (pair_number s a) (l ++ (a ∷ [])) next)

    -- a small trace is one of releases that can follow one another
    pub small_steps : (n : ℕ) (r : List Release) → Small s n t r → Steps s (t * s.count) 0 [] r
    small_steps n r m =
        rest_steps r 0 []
        (record { known = m.known; early = m.early; full = m.full; ordered = m.ordered; from = λ h. omega arith; legal = m.legal })
