-- The floor of a task: the loop over the earlier releases, the latest first.
use Prim.Native.Nat.{ℕ, suc, ◌+◌, ◌≤◌, ◌<◌, max}
use mathlib.Core.Path.{◌≡◌, refl, sym, ap, ◌∙◌}
use mathlib.Core.Bool.{Bool, true, false}
use mathlib.Core.List.{List, [], ◌∷◌, reverse, reverse-append}
use native.Mathlib.Omega.{arith}
use native.Mathlib.Nat.{mul-le-mul}
use native.Mathlib.Numerals.{add-one}
use borrow.Author.Tests.{eqb-true, eqb-false}
use lib.Dec.{eqb}
use lib.ListN.{get_or, take}
use lib.Seq.{take-length}
use Rattle.model.specs.Tasks.{Release}
use Rattle.model.specs.Gap.{gap, own}
use Rattle.model.specs.Ready.{after}
use Rattle.model.specs.Calls.{releases_of}
use Rattle.shaper.proofs.GapLaws.{gap_le}
use Rattle.releases.proofs.ReleaseLaws.{length_releases, release_at_lem}
use Rattle.trace.proofs.StandingLaws.{own_next, own_still}
use Rattle.generator.specs.Generator.{raised}
use Rattle.generator.specs.declared.Floor.{Floor}

-- a gap of few places is small
pub gap_small : (P J k : ℕ) → P < 4294967296 → k ≤ 6 → gap P J k ≤ 25769803776
gap_small P J k h g = omega (arith, gap_le P J k, mul-le-mul {n₁ = k} {m₁ = P} {n₂ = 6} {m₂ = 4294967296} g (omega arith))

-- one release more, of another task and of the same one
pub raised_other : (f : Floor) (P J : ℕ) (same : Bool) (tick : ℕ) → same ≡ false → f ≡ raised f P J same tick
unfolding raised
raised_other f P J same tick e = rw (e, raised)

pub raised_same
    : (f : Floor) (P J : ℕ) (same : Bool) (tick g r : ℕ) → same ≡ true → g ≡ gap P J f.places → r ≡ max f.tick (tick + g)
    → record { tick = r; places = f.places + 1 } ≡ raised f P J same tick
unfolding raised
raised_same f P J same tick g r e h k = rw (e, raised, k, h)

-- the invariant of the loop: what is found and what the releases before p give is the floor
pub record Raising (P J i at : ℕ) (task tick : List ℕ) (p : ℕ) (f : Floor) : Type 0 where
  pub within : p ≤ at
  pub few : f.places + p ≤ at + 1
  pub rest
      : (cost : List ℕ) → max f.tick (after P J (reverse (own i (take p (releases_of at task tick cost)))) f.places)
      ≡ after P J (reverse (own i (releases_of at task tick cost))) 1

module _ (P J i at : ℕ) (task tick : List ℕ) where
  pub raising_none : Raising P J i at task tick at (record { tick = 0; places = 1 })
  raising_none =
      record {
        within = omega arith;
        few = omega arith;
        rest = λ cost. omega (arith, ap (λ (l : List Release). after P J (reverse (own i l)) 1) (whole cost));
      }
    where
      whole : (cost : List ℕ) → take at (releases_of at task tick cost) ≡ releases_of at task tick cost
      whole cost = rw (length_releases at task tick cost) at (take-length (releases_of at task tick cost))

  pub raising_all : (f : Floor) → Raising P J i at task tick 0 f → (cost : List ℕ) → f.tick ≡ after P J (reverse (own i (releases_of at task tick cost))) 1
  unfolding after own
  raising_all f w cost = omega (arith, w.rest cost)

  module _ (p : ℕ) (h : p < at) (f : Floor) (w : Raising P J i at task tick (suc p) f) where
    -- the releases up to p, where the one at p is of the task, and where it is not
    here : (cost : List ℕ) → get_or task p 0 ≡ i
        → reverse (own i (take (suc p) (releases_of at task tick cost))) ≡ get_or tick p 0 ∷ reverse (own i (take p (releases_of at task tick cost)))
    here cost e =
        ap reverse
        (own_next (releases_of at task tick cost) p (omega (arith, length_releases at task tick cost)) i (get_or tick p 0)
        (ap (λ (r : Release). r.task) (release_at_lem at task tick cost p h) ∙ e) (ap (λ (r : Release). r.tick) (release_at_lem at task tick cost p h)))
        ∙ reverse-append (own i (take p (releases_of at task tick cost))) (get_or tick p 0 ∷ [])

    other : (cost : List ℕ) → (get_or task p 0 ≡ i → ⊥)
        → reverse (own i (take (suc p) (releases_of at task tick cost))) ≡ reverse (own i (take p (releases_of at task tick cost)))
    other cost n =
        ap reverse
        (own_still (releases_of at task tick cost) p (omega (arith, length_releases at task tick cost)) i
        (λ e. n (sym (ap (λ (r : Release). r.task) (release_at_lem at task tick cost p h)) ∙ e)))

    pub raising_next : Raising P J i at task tick p (raised f P J (eqb (get_or task p 0) i) (get_or tick p 0))
    unfolding raised after
    raising_next = go (eqb (get_or task p 0) i) refl
      where
        regroup : (a b x : ℕ) → max (max a b) x ≡ max a (max b x)
        regroup a b x = omega arith

        go : (b : Bool) → eqb (get_or task p 0) i ≡ b → Raising P J i at task tick p (raised f P J b (get_or tick p 0))
        go true e =
            record {
              within = omega arith;
              few = omega (arith, w.few);
              rest = λ cost.
                  ap (λ (k : ℕ). max (max f.tick (get_or tick p 0 + gap P J f.places)) (after P J (reverse (own i (take p (releases_of at task tick cost)))) k))
                  (add-one f.places)
                  ∙ regroup f.tick _ _
                  ∙ sym (ap (λ (l : List ℕ). max f.tick (after P J l f.places)) (here cost (eqb-true _ _ e)))
                  ∙ w.rest cost;
            }
        go false e =
            record {
              within = omega arith;
              few = omega (arith, w.few);
              rest = λ cost. sym (ap (λ (l : List ℕ). max f.tick (after P J l f.places)) (other cost (eqb-false _ _ e))) ∙ w.rest cost;
            }
