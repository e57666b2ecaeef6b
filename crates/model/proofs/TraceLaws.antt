-- Laws of the check of a list of releases: which refusal comes first, and that a list which passes is a trace.
use Prim.Native.Nat.{ℕ, zero, suc, ◌≤◌, ◌<◌}
use mathlib.Core.Path.{◌≡◌, refl, sym, ◌∙◌}
use mathlib.Core.Bool.{Bool, true, false}
use mathlib.Core.Option.{Option, some, none}
use mathlib.Core.List.{List, [], ◌∷◌}
use native.Mathlib.Omega.{arith}
use borrow.Author.Tests.{lt-ltb, le-ltb, le-leb, lt-leb, ne_eqb, eq-eqb, ltb-true, ltb-false, leb-true, leb-false}
use lib.Dec.{leb, ltb}
use lib.ListN.{length}
use Rattle.model.specs.Limits.{max_tick}
use Rattle.model.specs.Tasks.{Tasks, Release, release_at}
use Rattle.model.specs.Refusal.{refuse}
use Rattle.model.specs.Checks.{release_fault, check_releases}
use Rattle.model.specs.Claims.{Sound, Trace}

-- a release that passes its check, its tick being low to high
pub record Passed (s : Tasks) (low high : ℕ) (r : Release) : Type 0 where
  pub known : r.task < s.count
  pub rising : low ≤ r.tick
  pub tick_high : r.tick ≤ high
  pub cost_low : 1 ≤ r.cost
  pub cost_high : r.cost ≤ s.cost r.task

module _ (s : Tasks) (low high : ℕ) (r : Release) where
  pub fault_task : s.count ≤ r.task → release_fault s low high r ≡ some 7
  unfolding release_fault
  fault_task h = rw (release_fault, le-leb _ _ h)

  pub fault_early : r.task < s.count → r.tick < low → release_fault s low high r ≡ some 8
  unfolding release_fault
  fault_early k h = rw (release_fault, lt-leb s.count r.task k, lt-ltb _ _ h)

  pub fault_late : r.task < s.count → low ≤ r.tick → high < r.tick → release_fault s low high r ≡ some 8
  unfolding release_fault
  fault_late k b h = rw (release_fault, lt-leb s.count r.task k, le-ltb r.tick low b, lt-ltb high r.tick h)

  pub fault_idle : r.task < s.count → low ≤ r.tick → r.tick ≤ high → r.cost ≡ 0 → release_fault s low high r ≡ some 9
  unfolding release_fault
  fault_idle k b t h = rw (release_fault, lt-leb s.count r.task k, le-ltb r.tick low b, le-ltb high r.tick t, eq-eqb r.cost 0 h)

  pub fault_cost : r.task < s.count → low ≤ r.tick → r.tick ≤ high → 1 ≤ r.cost → s.cost r.task < r.cost → release_fault s low high r ≡ some 9
  unfolding release_fault
  fault_cost k b t l h =
      rw (
        release_fault,
        lt-leb s.count r.task k,
        le-ltb r.tick low b,
        le-ltb high r.tick t,
        ne_eqb r.cost 0 (λ e. omega arith),
        lt-ltb
            (s.cost r.task) r.cost h,
      )

  pub fault_none : Passed s low high r → release_fault s low high r ≡ none
  unfolding release_fault
  fault_none p =
      rw (
        release_fault,
        lt-leb s.count r.task p.known,
        le-ltb r.tick low p.rising,
        le-ltb high r.tick p.tick_high,
        ne_eqb r.cost 0
            (λ e. omega arith),
        le-ltb (s.cost r.task) r.cost p.cost_high,
      )

  -- a release without a fault
  pub passed_of : release_fault s low high r ≡ none → Passed s low high r
  passed_of h = known (leb s.count r.task) refl
    where
      never : {n : ℕ} → release_fault s low high r ≡ some n → ⊥
      never e = let e' = sym e ∙ h in let z : ◌≡◌ {A = ℕ} 0 1 = cc in omega arith

      costs : r.task < s.count → low ≤ r.tick → r.tick ≤ high → 1 ≤ r.cost → (b : Bool) → ltb (s.cost r.task) r.cost ≡ b → Passed s low high r
      costs k b t l true e = absurd (never (fault_cost k b t l (ltb-true _ _ e)))
      costs k b t l false e = record { known = k; rising = b; tick_high = t; cost_low = l; cost_high = ltb-false _ _ e }

      idle : r.task < s.count → low ≤ r.tick → r.tick ≤ high → (b : Bool) → ltb 0 r.cost ≡ b → Passed s low high r
      idle k b t false e = absurd (never (fault_idle k b t (omega (arith, ltb-false 0 r.cost e))))
      idle k b t true e = costs k b t (ltb-true 0 r.cost e) (ltb (s.cost r.task) r.cost) refl

      late : r.task < s.count → low ≤ r.tick → (b : Bool) → ltb high r.tick ≡ b → Passed s low high r
      late k b true e = absurd (never (fault_late k b (ltb-true _ _ e)))
      late k b false e = idle k b (ltb-false high r.tick e) (ltb 0 r.cost) refl

      early : r.task < s.count → (b : Bool) → ltb r.tick low ≡ b → Passed s low high r
      early k true e = absurd (never (fault_early k (ltb-true _ _ e)))
      early k false e = late k (ltb-false r.tick low e) (ltb high r.tick) refl

      known : (b : Bool) → leb s.count r.task ≡ b → Passed s low high r
      known true e = absurd (never (fault_task (leb-true _ _ e)))
      known false e = early (leb-false s.count r.task e) (ltb r.tick low) refl

module _ (s : Tasks) (before p : ℕ) (r : Release) (l : List Release) where
  -- a release with a fault decides
  pub releases_fault : (n : ℕ) → release_fault s before max_tick r ≡ some n → refuse n p ≡ check_releases s before p (r ∷ l)
  unfolding check_releases
  releases_fault n e = rw (check_releases, e)

  -- a release without one leaves the next to decide
  pub releases_next : release_fault s before max_tick r ≡ none → check_releases s before p (r ∷ l) ≡ check_releases s r.tick (suc p) l
  unfolding check_releases
  releases_next e = rw (check_releases, e)

  -- the first release of a list that passes has no fault, and the rest passes
  pub passes_cons : check_releases s before p (r ∷ l) ≡ none → (release_fault s before max_tick r ≡ none) × (check_releases s r.tick (suc p) l ≡ none)
  passes_cons h = go (release_fault s before max_tick r) refl
    where
      go : (o : Option ℕ) → release_fault s before max_tick r ≡ o → (release_fault s before max_tick r ≡ none) × (check_releases s r.tick (suc p) l ≡ none)
      go none e = (e, sym (releases_next e) ∙ h)
      go (some n) e = let e' = releases_fault n e ∙ h in let z : ◌≡◌ {A = ℕ} 0 1 = cc in absurd (omega arith)

-- the releases of a list that passes its check, from a place on
pub record From (s : Tasks) (before : ℕ) (l : List Release) : Type 0 where
  pub sound : (p : ℕ) → p < length l → Sound s (release_at l p)
  pub tick_high : (p : ℕ) → p < length l → (release_at l p).tick ≤ max_tick
  pub rising : (p : ℕ) → suc p < length l → (release_at l p).tick ≤ (release_at l (suc p)).tick
  pub first : (p : ℕ) → p < length l → before ≤ (release_at l p).tick

from_cons : (s : Tasks) (before : ℕ) (r : Release) (l : List Release) → Passed s before max_tick r → From s r.tick l → From s before (r ∷ l)
from_cons s before r l q f = record { sound = sound; tick_high = tick_high; rising = rising; first = first }
  where
    sound : (p : ℕ) → p < length (r ∷ l) → Sound s (release_at (r ∷ l) p)
    sound zero h = record { known = q.known; cost_low = q.cost_low; cost_high = q.cost_high }
    sound (suc p) h = f.sound p (omega arith)

    tick_high : (p : ℕ) → p < length (r ∷ l) → (release_at (r ∷ l) p).tick ≤ max_tick
    tick_high zero h = q.tick_high
    tick_high (suc p) h = f.tick_high p (omega arith)

    rising : (p : ℕ) → suc p < length (r ∷ l) → (release_at (r ∷ l) p).tick ≤ (release_at (r ∷ l) (suc p)).tick
    rising zero h = f.first 0 (omega arith)
    rising (suc p) h = f.rising p (omega arith)

    first : (p : ℕ) → p < length (r ∷ l) → before ≤ (release_at (r ∷ l) p).tick
    first zero h = q.rising
    first (suc p) h = omega (arith, q.rising, f.first p (omega arith))

-- what a list that passes its check says
pub from_of : (s : Tasks) (before p : ℕ) (l : List Release) → check_releases s before p l ≡ none → From s before l
from_of s before p [] h =
    record { sound = λ p l. absurd (omega arith); tick_high = λ p l. absurd (omega arith); rising = λ p l. absurd (omega arith); first = λ p l. absurd (omega arith) }
from_of s before p (r ∷ l) h =
    let a = passes_cons s before p r l h in
    from_cons s before r l (passed_of s before max_tick r a.0) (from_of s r.tick (suc p) l a.1)

-- a list that passes its check is a trace, and its ticks are within the limit
pub trace_of : (s : Tasks) (l : List Release) → check_releases s 0 0 l ≡ none → Trace s l
trace_of s l h = let f = from_of s 0 0 l h in record { sound = f.sound; rising = f.rising }

pub ticks_of_lem : (s : Tasks) (l : List Release) → check_releases s 0 0 l ≡ none → (p : ℕ) → p < length l → (release_at l p).tick ≤ max_tick
ticks_of_lem s l h = (from_of s 0 0 l h).tick_high
