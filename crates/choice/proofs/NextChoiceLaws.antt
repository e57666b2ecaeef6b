-- Laws of a choice: one task more, judged or spared, and what a choice of n tasks holds.
use Rattle.std.specs.Prelude as std
use Prim.Native.Nat.{ℕ, zero, suc, ◌≤◌}
use mathlib.Core.Path.{◌≡◌, refl, sym, ap, ◌∙◌}
use mathlib.Core.Logic.{⊎_elim}
use mathlib.Core.Bool.{Bool, true, false, not}
use mathlib.Core.Option.{Option, some, none}
use mathlib.Core.List.{List, [], ◌∷◌, ◌++◌}
use native.Mathlib.Omega.{arith}
use native.Mathlib.Nat.{eq-or-lt_of_le, le_of_suc-le-suc}
use lib.ListN.{take}
use lib.IntN.{ℤ, pos}
use Rattle.model.specs.Frame.{Frame}
use Rattle.model.specs.Tasks.{Tasks}
use Rattle.model.specs.Choice.{and_keep, Choice, unfit, chosen, Scope, judges, keep_for, worst_for, choice_next, choice_of}
use Rattle.model.proofs.SameVerdict.{evaluations_kept}
use Rattle.response.proofs.ChoiceLaws.{keep_judged, keep_left_out, worst_judged, worst_left_out, least_keep_lem}
use Rattle.keeping.specs.declared.Least.{Least}
use Rattle.keeping.specs.Keeping.{kept_at, Flat, KeepIs, LeastOf}
use Rattle.choice.specs.declared.Extent.{Extent}
use Rattle.choice.specs.declared.Extent.TheVariants.{All, HighOnly}
use Rattle.choice.specs.Choices.{extent_in, spares, KeepOf, evaluations_for}

module _ (c : Scope) (s : Tasks) where
  -- before the first task
  pub choice_start : choice_of c s 0 ≡ chosen [] []
  unfolding choice_of
  choice_start = refl

  -- a task that has a kept jitter
  pub next_keep : (i K : ℕ) (w : ℤ) (ks : List ℕ) (ws : List ℤ)
      → choice_of c s i ≡ chosen ks ws
      → keep_for c s ks i ≡ some K
      → worst_for c s ks K i ≡ w
      → choice_of c s (suc i) ≡ chosen (ks ++ (K ∷ [])) (ws ++ (w ∷ []))
  unfolding choice_of choice_next
  next_keep i K w ks ws e h v = ap (choice_next c s i) e ∙ rw (choice_next, h, v)

  -- a task that has none
  pub next_unfit : (i : ℕ) (ks : List ℕ) (ws : List ℤ) → choice_of c s i ≡ chosen ks ws → keep_for c s ks i ≡ none → choice_of c s (suc i) ≡ unfit i
  unfolding choice_of choice_next
  next_unfit i ks ws e h = ap (choice_next c s i) e ∙ rw (choice_next, h)

  -- decides for every task below it
  pub unfit_stays : (i n m : ℕ) → n ≤ m → choice_of c s n ≡ unfit i → choice_of c s m ≡ unfit i
  unfolding choice_of choice_next
  unfit_stays i n zero l e = let z : n ≡ 0 = omega arith in rw z at e
  unfit_stays i n (suc m) l e =
      ⊎_elim (λ d. ap (choice_of c s) (sym d) ∙ e) (λ d. ap (choice_next c s m) (unfit_stays i n m (le_of_suc-le-suc d) e)) (eq-or-lt_of_le l)

  -- and was found at that task
  pub unfit_first : (i m : ℕ) → choice_of c s m ≡ unfit i → choice_of c s (suc i) ≡ unfit i
  unfolding choice_of choice_next
  unfit_first i zero e = let z : ◌≡◌ {A = ℕ} 0 1 = cc in absurd (omega arith)
  unfit_first i (suc m) e = go (choice_of c s m) refl (unfit_first i m)
    where
      go : (r : Choice) → choice_of c s m ≡ r → (choice_of c s m ≡ unfit i → choice_of c s (suc i) ≡ unfit i) → choice_of c s (suc i) ≡ unfit i
      go (unfit n) h f = f (h ∙ (sym (ap (choice_next c s m) h) ∙ e))
      go (chosen ks ws) h f = found (keep_for c s ks m) refl (sym (ap (choice_next c s m) h) ∙ e)
        where
          found : (o : Option ℕ) → keep_for c s ks m ≡ o → choice_next c s m (chosen ks ws) ≡ unfit i → choice_of c s (suc i) ≡ unfit i
          found none g d =
              let w : unfit m ≡ unfit i = rw (choice_next, g) at d in
              let x : m ≡ i = cc in ap (λ n. choice_of c s (suc n)) (sym x) ∙ e
          found (some K) g d = let w = rw (choice_next, g) at d in let z : ◌≡◌ {A = ℕ} 0 1 = cc in absurd (omega arith)

-- a task is spared where it is low and the high ones alone are judged
pub judged_unspared : (x : Extent) (s : Tasks) (i : ℕ) (spared : Bool) → spared ≡ spares x (s.low i) → judges (extent_in x) s i ≡ not spared
unfolding judges
judged_unspared HighOnly s i spared e = ap not (sym e)
judged_unspared All s i spared e = ap not (sym e)

-- the evaluations of a task depend on the kept jitters down to it
pub for_kept
    : (c : Scope) (s : Tasks) (k k' : ℕ → ℕ) (i : ℕ) → ((j : ℕ) → j ≤ i → k j ≡ k' j)
    → evaluations_for c s k i ≡ evaluations_for c s k' i
unfolding evaluations_for
for_kept c s k k' i same = λ x. elim (judges c s i) [ true ↦ evaluations_kept s k k' i same x | false ↦ 0 ]

-- what is known of task i once it has a kept jitter, given the choices above
pub record NextIs (c : Scope) (s : Tasks) (above : List ℕ) (i K w m : ℕ) : Type 0 where
  pub keep : keep_for c s above i ≡ some K
  pub worst : worst_for c s above K i ≡ pos w
  pub counted : evaluations_for c s (and_keep above K) i ≡ m
  pub small : m ≤ 100000020000001
  pub in_jitter : K ≤ s.jitter i

module _ (c : Scope) (s : Tasks) (above : List ℕ) (i : ℕ) where
  -- of one that is judged
  judged_next : (K w q m : ℕ) → judges c s i ≡ true → KeepIs s above i K w q m → NextIs c s above i K w m
  unfolding evaluations_for
  judged_next K w q m j is = record {
    keep = keep_judged c s above i j ∙ is.least;
    worst = worst_judged c s above i K j ∙ is.worst;
    counted = rw (evaluations_for, j) is.counted;
    small = is.small;
    in_jitter = (least_keep_lem s above i K is.least).in_jitter;
  }

  -- of one that is not
  left_out_next : judges c s i ≡ false → NextIs c s above i 0 0 0
  unfolding evaluations_for
  left_out_next j = record {
    keep = keep_left_out c s above i j;
    worst = worst_left_out c s above i 0 j;
    counted = rw (evaluations_for, j);
    small = omega arith;
    in_jitter = omega arith;
  }

-- what is answered of a task that is spared, and of one that is not
module _ (o : Option Frame) (loads periods keeps : List ℕ) (i J D : ℕ) (spared : Bool) where
  pub spared_is : spared ≡ true → KeepOf spared o loads periods keeps i J D (kept_at 0 0 0 0)
  spared_is e = rw e refl

  pub unspared_is : (r : std.Option Least) → spared ≡ false → LeastOf o loads periods keeps i J D r → KeepOf spared o loads periods keeps i J D r
  unspared_is r e h = rw e h

-- what is found of a task of a sheet with these columns, whether it is spared or not
module _ (c : Scope) (s : Tasks) (o : Option Frame) (loads periods keeps : List ℕ) (i J D : ℕ) (flat : Flat s o loads periods i J D) where
  pub found_keep : (spared : Bool) (K w q m : ℕ) → judges c s i ≡ not spared → KeepOf spared o loads periods keeps i J D (kept_at K w q m) → NextIs c s (take i keeps) i K w m
  found_keep true K w q m j h =
      let e : ◌≡◌ {A = Least} (record { keep = K; worst = w; last = q; evaluations = m }) (record { keep = 0; worst = 0; last = 0; evaluations = 0 }) = cc in
      rw (ap (λ (l : Least). l.keep) e, ap (λ (l : Least). l.worst) e, ap (λ (l : Least). l.evaluations) e) (left_out_next c s (take i keeps) i j)
  found_keep false K w q m j h = judged_next c s (take i keeps) i K w q m j (h s flat)

  pub found_none : (spared : Bool) → judges c s i ≡ not spared → KeepOf spared o loads periods keeps i J D std.None → keep_for c s (take i keeps) i ≡ none
  found_none true j h = let z : ◌≡◌ {A = ℕ} 0 1 = cc in absurd (omega arith)
  found_none false j h = keep_judged c s (take i keeps) i j ∙ h s flat
