-- A list is checked as document 01 checks it, up to the first release over document 01's limit on ticks.
use Prim.Native.Nat.{ℕ, suc, ◌+◌, ◌≤◌, ◌<◌}
use mathlib.Core.Path.{◌≡◌, refl, sym, ap, ◌∙◌}
use mathlib.Core.Bool.{Bool, true, false, ◌||◌}
use mathlib.Core.Logic.{◌⊎◌, inl, inr}
use mathlib.Core.Option.{Option, some, none}
use mathlib.Core.List.{List, [], ◌∷◌}
use native.Mathlib.Omega.{arith}
use native.Mathlib.Nat.{add-zero, zero-add}
use borrow.Author.Tests.{le-ltb, ltb-true, ltb-false, leb-true, leb-false}
use lib.Dec.{leb, ltb, eqb}
use Rattle.model.specs.Limits.{max_tick, max_short_tick}
use Rattle.model.specs.Tasks.{Tasks, Release, release_at}
use Rattle.model.specs.Refusal.{refuse}
use Rattle.model.specs.Checks.{release_fault, check_releases}
use Rattle.model.specs.OldLists.{old_check_releases, OldIsChecked}
use Rattle.model.proofs.TraceLaws.{fault_task, fault_early, fault_late}

-- a tick within both limits: which of them it is does not matter
fault_within : (s : Tasks) (low a b : ℕ) (r : Release) → r.tick ≤ a → r.tick ≤ b → release_fault s low a r ≡ release_fault s low b r
unfolding release_fault
fault_within s low a b r g h = λ x.
    elim (leb s.count r.task) [
      | true ↦ some 7
      | false ↦
          elim (ltb r.tick low || same x) [ true ↦ some 8 | false ↦ elim (eqb r.cost 0 || ltb (s.cost r.task) r.cost) [ true ↦ some 9 | false ↦ none ] ]
    ]
  where
    same : ltb a r.tick ≡ ltb b r.tick
    same = le-ltb a r.tick g ∙ sym (le-ltb b r.tick h)

-- a tick over the limit: 8, of a task of the sheet
fault_over : (s : Tasks) (low high : ℕ) (r : Release) → r.task < s.count → high < r.tick → release_fault s low high r ≡ some 8
fault_over s low high r k h = go (ltb r.tick low) refl
  where
    go : (b : Bool) → ltb r.tick low ≡ b → release_fault s low high r ≡ some 8
    go true e = fault_early s low high r k (ltb-true _ _ e)
    go false e = fault_late s low high r k (ltb-false _ _ e) h

-- the check from a place on
abbrev SameFrom : Tasks → ℕ → ℕ → List Release → Type 0
SameFrom s before p l =
    (old_check_releases s before p l ≡ check_releases s before p l)
    ⊎ ((i : ℕ) × (max_short_tick < (release_at l i).tick) × (old_check_releases s before p l ≡ refuse 8 (p + i)))

module _ (s : Tasks) (before p : ℕ) (r : Release) (l : List Release) where
  -- the same fault decides, or leaves the rest to decide
  same_fault : release_fault s before max_short_tick r ≡ release_fault s before max_tick r → SameFrom s r.tick (suc p) l → SameFrom s before p (r ∷ l)
  unfolding old_check_releases check_releases
  same_fault e rest = go (release_fault s before max_short_tick r) refl rest
    where
      go : (o : Option ℕ) → release_fault s before max_short_tick r ≡ o → SameFrom s r.tick (suc p) l → SameFrom s before p (r ∷ l)
      go (some n) d h = inl (rw (old_check_releases, check_releases, ← e, d))
      go none d (inl h) = inl (rw (old_check_releases, check_releases, ← e, d) h)
      go none d (inr (i, b, h)) =
          let q : suc p + i ≡ p + suc i = omega arith in
          inr (suc i, b, rw (old_check_releases, d) (h ∙ ap (refuse 8) q))

  over : r.task < s.count → max_short_tick < r.tick → SameFrom s before p (r ∷ l)
  unfolding old_check_releases
  over k h = inr (0, h, rw (old_check_releases, fault_over s before max_short_tick r k h) (ap (refuse 8) (sym (add-zero p))))

  one : SameFrom s r.tick (suc p) l → SameFrom s before p (r ∷ l)
  one rest = by_task (leb s.count r.task) refl
    where
      by_tick : r.task < s.count → (b : Bool) → ltb max_short_tick r.tick ≡ b → SameFrom s before p (r ∷ l)
      by_tick k true e = over k (ltb-true _ _ e)
      by_tick k false e =
          let h = ltb-false max_short_tick r.tick e in
          same_fault (fault_within s before max_short_tick max_tick r h (omega (arith, h))) rest

      by_task : (b : Bool) → leb s.count r.task ≡ b → SameFrom s before p (r ∷ l)
      by_task true e =
          let h = leb-true s.count r.task e in
          same_fault (fault_task s before max_short_tick r h ∙ sym (fault_task s before max_tick r h)) rest
      by_task false e = by_tick (leb-false s.count r.task e) (ltb max_short_tick r.tick) refl

same_from : (s : Tasks) (before p : ℕ) (l : List Release) → SameFrom s before p l
unfolding old_check_releases check_releases
same_from s before p [] = inl refl
same_from s before p (r ∷ l) = one s before p r l (same_from s r.tick (suc p) l)

pub old_checked : OldIsChecked
old_checked s l = go (same_from s 0 0 l)
  where
    go
        : SameFrom s 0 0 l
        → (old_check_releases s 0 0 l ≡ check_releases s 0 0 l) ⊎ ((p : ℕ) × (max_short_tick < (release_at l p).tick) × (old_check_releases s 0 0 l ≡ refuse 8 p))
    go (inl e) = inl e
    go (inr (i, b, e)) = inr (i, b, e ∙ ap (refuse 8) (zero-add i))
