-- No kept jitter of a choice is over that of any set of kept jitters under which the tasks that are judged fit.
use Prim.Native.Nat.{ℕ, zero, suc, ◌≤◌, ◌<◌}
use mathlib.Core.Path.{◌≡◌, refl, ap, ◌∙◌}
use mathlib.Core.Bool.{Bool, true, false}
use mathlib.Core.Option.{some}
use mathlib.Core.List.{List, [], ◌∷◌, ◌++◌}
use mathlib.Core.Logic.{◌⊎◌, inl, inr}
use native.Mathlib.Omega.{arith}
use lib.ListN.{length, get_or-append}
use lib.Seq.{get_or_at}
use lib.IntN.{ℤ}
use Rattle.model.specs.Tasks.{Tasks, Valid}
use Rattle.model.specs.Verdict.{verdict}
use Rattle.model.specs.Choice.{is_fits, column, and_keep, least_keep, chosen, Scope, judges, keep_for, worst_for, choice_next, choice_of}
use Rattle.model.proofs.SeriesLaws.{below_suc}
use Rattle.model.proofs.SearchLaws.{first_under}
use Rattle.response.specs.KeptOrder.{LessAbove}
use Rattle.response.proofs.ChoiceLaws.{keep_above, keep_own, keep_judged, keep_left_out, next_some, chosen_to}
use Rattle.response.proofs.LessAboveLaws.{less_above}

-- the choice of the first n tasks succeeds, and none of its kept jitters is over k
pub record Under (c : Scope) (s : Tasks) (k : ℕ → ℕ) (n : ℕ) : Type 0 where
  pub keeps : List ℕ
  pub worsts : List ℤ
  pub is : choice_of c s n ≡ chosen keeps worsts
  pub under : (i : ℕ) → i < n → column keeps i ≤ k i

module _ (c : Scope) (s : Tasks) (v : Valid s) (k : ℕ → ℕ) where
  -- with the choices above, which are not over k, task n fits at k's own, so the least at which it fits is not over that
  pub least_Under
      : (n : ℕ) (u : Under c s k n) → n < s.count → k n ≤ s.jitter n → is_fits (verdict s k n) ≡ true
      → (K : ℕ) × (least_keep s u.keeps n ≡ some K) × (K ≤ k n)
  unfolding least_keep
  least_Under n u l h f =
      first_under (λ K. is_fits (verdict s (and_keep u.keeps K) n)) (suc (s.jitter n)) 0 (k n) (omega arith) (omega arith)
      ((less_above s v (and_keep u.keeps (k n)) k n l less).fit f)
    where
      long : length u.keeps ≡ n
      long = (chosen_to c s n u.keeps u.worsts u.is).long

      less : LessAbove (and_keep u.keeps (k n)) k n
      less = record {
        above = λ j g. rw (keep_above u.keeps (k n) j (omega (arith, long))) (u.under j g);
        own = keep_own u.keeps (k n) n long;
      }

  -- one task more
  one_more : (n : ℕ) (u : Under c s k n) (K : ℕ) → keep_for c s u.keeps n ≡ some K → K ≤ k n → Under c s k (suc n)
  unfolding choice_of
  one_more n u K h g = record {
    keeps = u.keeps ++ (K ∷ []);
    worsts = u.worsts ++ (worst_for c s u.keeps K n ∷ []);
    is = ap (choice_next c s n) u.is ∙ next_some c s n u.keeps u.worsts K h;
    under = λ i l. at i (below_suc i n l);
  }
    where
      long : length u.keeps ≡ n
      long = (chosen_to c s n u.keeps u.worsts u.is).long

      at : (i : ℕ) → (i < n) ⊎ (i ≡ n) → column (u.keeps ++ (K ∷ [])) i ≤ k i
      at i (inl b) = rw (get_or-append u.keeps (K ∷ []) 0 i (omega (arith, long))) (u.under i b)
      at i (inr b) = rw (b, get_or_at u.keeps K [] 0 n long) g

  next : (n : ℕ) → n < s.count → k n ≤ s.jitter n → (judges c s n ≡ true → is_fits (verdict s k n) ≡ true) → Under c s k n → Under c s k (suc n)
  next n l h f u = go (judges c s n) refl
    where
      go : (b : Bool) → judges c s n ≡ b → Under c s k (suc n)
      go true j = let x = least_Under n u l h (f j) in one_more n u x.0 (keep_judged c s u.keeps n j ∙ x.1) x.2
      go false j = one_more n u 0 (keep_left_out c s u.keeps n j) (omega arith)

  -- from task 0 down
  pub chosen_under
      : (n : ℕ) → n ≤ s.count → ((i : ℕ) → i < n → k i ≤ s.jitter i) → ((i : ℕ) → i < n → judges c s i ≡ true → is_fits (verdict s k i) ≡ true) → Under c s k n
  unfolding choice_of
  chosen_under zero l kept fit = record { keeps = []; worsts = []; is = refl; under = λ i g. absurd (omega arith) }
  chosen_under (suc n) l kept fit =
      next n (omega arith) (kept n (omega arith)) (fit n (omega arith))
      (chosen_under n (omega arith) (λ i g. kept i (omega arith)) (λ i g. fit i (omega arith)))
