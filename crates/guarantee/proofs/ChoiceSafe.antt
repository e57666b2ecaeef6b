-- What a choice is worth: with its kept jitters no job of a task that is judged and whose own releases are legal is late, and no smaller one would do.
use Prim.Native.Nat.{ℕ, ◌<◌}
use mathlib.Core.Path.{◌≡◌, refl, sym, ap, ◌∙◌}
use mathlib.Core.Bool.{Bool, true, false, not}
use mathlib.Core.List.{List}
use native.Mathlib.Omega.{arith}
use lib.ListN.{get_or}
use lib.IntN.{pos}
use Rattle.model.specs.Tasks.{Tasks, Release}
use Rattle.model.specs.Gap.{Legal}
use Rattle.model.specs.Verdict.{fits, verdict}
use Rattle.model.specs.Choice.{column, Choice, unfit, chosen, Scope, ordinary, high_only, judges, choice_of, scope_after, scope, choice}
use Rattle.model.specs.Claims.{Trace, OnTime}
use Rattle.response.proofs.ChoiceLaws.{Unfit, choice_keeps, choice_fits, choice_least, choice_left_out, choice_unfit}
use Rattle.guarantee.proofs.Demand3.{demand3}
use Rattle.guarantee.specs.ChoiceSafe.{ChoiceIsSafe, OrdinaryIsSafe, HighOnlyIsSafe, HighUnfit, UnfitIsHigh}

-- those of a choice
pub choice_safe : ChoiceIsSafe
choice_safe s v ks ws h = record {
  on_time = λ i g j l tr legal. go i g l tr legal (choice_fits (scope s) s ks ws h i g j);
  least = choice_least (scope s) s ks ws h;
  left_out = choice_left_out (scope s) s ks ws h;
}
  where
    go
        : (i : ℕ) → i < s.count → (l : List Release) → Trace s l → Legal s l i → (q : ℕ) × (verdict s (column ks) i ≡ fits (get_or ws i (pos 0)) q)
        → OnTime s (column ks) i l
    go i g l tr legal (q, e) = (demand3 s v (column ks) (choice_keeps (scope s) s ks ws h) i g).if_fits (get_or ws i (pos 0)) q e l tr legal

-- every task is judged in an ordinary choice, and every high one in the other
judged_ordinary : (c : Scope) (s : Tasks) (i : ℕ) → c ≡ ordinary → judges c s i ≡ true
unfolding judges
judged_ordinary c s i e = ap (λ x. judges x s i) e

judged_high : (c : Scope) (s : Tasks) (i : ℕ) → c ≡ high_only → s.low i ≡ false → judges c s i ≡ true
unfolding judges
judged_high c s i e h = ap (λ x. judges x s i) e ∙ ap not h

pub ordinary_safe : OrdinaryIsSafe
ordinary_safe s v ks ws e h i l = (choice_safe s v ks ws h).on_time i l (judged_ordinary (scope s) s i e)

pub high_only_safe : HighOnlyIsSafe
high_only_safe s v ks ws e h i l m = (choice_safe s v ks ws h).on_time i l (judged_high (scope s) s i e m)

-- a choice that ends in 15 is the second one
second : (s : Tasks) (n : ℕ) (r : Choice) → choice_of ordinary s s.count ≡ r → choice s ≡ unfit n → scope s ≡ high_only
unfolding scope_after
second s n (unfit m) e h = ap scope_after e
second s n (chosen ks ws) e h =
    let first : scope s ≡ ordinary = ap scope_after e in
    let same : choice s ≡ chosen ks ws = ap (λ c. choice_of c s s.count) first ∙ e in
    let w : unfit n ≡ chosen ks ws = sym h ∙ same in
    let z : ◌≡◌ {A = ℕ} 0 1 = cc in absurd (omega arith)

-- a task that is judged there is high
pub high_of_lem : (s : Tasks) (n : ℕ) (b : Bool) → s.low n ≡ b → judges high_only s n ≡ true → s.low n ≡ false
unfolding judges
high_of_lem s n false e j = e
high_of_lem s n true e j = let w : false ≡ true = sym (ap not e) ∙ j in let z : ◌≡◌ {A = ℕ} 0 1 = cc in absurd (omega arith)

pub unfit_high : UnfitIsHigh
unfit_high s n h =
    let e = second s n (choice_of ordinary s s.count) refl h in
    of (choice_unfit high_only s n (sym (ap (λ c. choice_of c s s.count) e) ∙ h))
  where
    of : (n < s.count) × Unfit high_only s n → HighUnfit s n
    of (l, u) = record {
      in_sheet = l;
      high = high_of_lem s n (s.low n) refl u.judged;
      above = u.above;
      worst = u.worst;
      chosen_above = u.chosen_above;
      none_fits = u.none_fits;
    }
