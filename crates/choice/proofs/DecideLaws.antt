-- Which of the two choices is the answer, and when the second need not be made.
use Prim.Native.Nat.{ℕ, zero, suc, ◌+◌, ◌≤◌, ◌<◌}
use mathlib.Core.Path.{◌≡◌, refl, sym, ap, ◌∙◌}
use mathlib.Core.Bool.{Bool, true, false, ◌||◌}
use mathlib.Core.Logic.{◌⊎◌, inl, inr}
use native.Mathlib.Omega.{arith}
use native.Mathlib.Numerals.{add-one}
use borrow.Author.Tests.{le-leb, lt-leb}
use mathlib.Core.List.{map}
use lib.ListN.{take}
use lib.IntN.{pos}
use Rattle.model.specs.Tasks.{Tasks}
use Rattle.model.specs.Choice.{column, unfit, chosen, ordinary, high_only, judges, choice_of, scope_after, scope}
use Rattle.model.proofs.SeriesLaws.{sum_eq, below_suc}
use Rattle.model.proofs.MarkLaws.{high_same}
use Rattle.choice.specs.declared.Choices.{Choices}
use Rattle.choice.specs.declared.Extent.TheVariants.{All, HighOnly}
use Rattle.choice.specs.Choices.{evaluations_for, choice_in, ChoicesAre, any_low, DecisionIs}
use Rattle.choice.proofs.NextChoiceLaws.{unfit_stays, unfit_first}

-- the first i of n tasks are looked at, and none of them is low
pub record LookedAt (low : ℕ → Bool) (n i : ℕ) : Type 0 where
  pub few : n ≤ 32
  pub within : i ≤ n
  pub none_low : false ≡ any_low low i

pub low_start : (low : ℕ → Bool) → false ≡ any_low low 0
unfolding any_low
low_start low = refl

or_false : (a b : Bool) → (a || b) ≡ false → (a ≡ false) × (b ≡ false)
or_false true b h = let z : ◌≡◌ {A = ℕ} 0 1 = cc in absurd (omega arith)
or_false false b h = (refl, h)

or_true : (a : Bool) → (a || true) ≡ true
or_true true = refl
or_true false = refl

pub low_next : (low : ℕ → Bool) (n : ℕ) → false ≡ any_low low n → low n ≡ false → false ≡ any_low low (n + 1)
unfolding any_low
low_next low n h l = rw (add-one, any_low, ← h, l)

-- a low task among them
pub low_found : (low : ℕ → Bool) (i n : ℕ) → i < n → low i ≡ true → true ≡ any_low low n
unfolding any_low
low_found low i zero l h = absurd (omega arith)
low_found low i (suc n) l h = go (below_suc i n l) (λ g. low_found low i n g h)
  where
    go : (i < n) ⊎ (i ≡ n) → (i < n → true ≡ any_low low n) → true ≡ any_low low (suc n)
    go (inl g) f = ap (λ (a : Bool). a || low n) (f g)
    go (inr g) f = sym (ap (λ (a : Bool). any_low low n || a) (ap low (sym g) ∙ h) ∙ or_true (any_low low n))

-- none among them
no_low : (low : ℕ → Bool) (n : ℕ) → any_low low n ≡ false → (i : ℕ) → i < n → low i ≡ false
unfolding any_low
no_low low zero h i l = absurd (omega arith)
no_low low (suc n) h i l = go (below_suc i n l) (no_low low n (or_false (any_low low n) (low n) h).0 i)
  where
    go : (i < n) ⊎ (i ≡ n) → (i < n → low i ≡ false) → low i ≡ false
    go (inl g) f = f g
    go (inr g) f = ap low g ∙ (or_false (any_low low n) (low n) h).1

-- a high task is judged in both choices
high_counted : (s : Tasks) (k : ℕ → ℕ) (i : ℕ) → s.low i ≡ false → evaluations_for ordinary s k i ≡ evaluations_for high_only s k i
unfolding evaluations_for judges
high_counted s k i e = rw (evaluations_for, judges, e)

module _ (s : Tasks) (r : Choices) (f : ChoicesAre ordinary s r) where
  -- every task fits: the ordinary choice is the answer
  pub decided_first : s.count ≤ r.fitted → DecisionIs s (record { choices = r; extent = All })
  unfolding scope_after
  decided_first l =
      let e : choice_of ordinary s s.count ≡ chosen (take s.count r.keep) (map pos (take s.count r.worst)) =
      sym f.is ∙ rw (choice_in, le-leb s.count r.fitted l) in
      record { told = sym (ap scope_after e); choices = f }

  module _ (l : r.fitted < s.count) where
    ends : choice_of ordinary s s.count ≡ unfit r.fitted
    ends = sym f.is ∙ rw (choice_in, lt-leb s.count r.fitted l)

    second : high_only ≡ scope s
    unfolding scope_after
    second = sym (ap scope_after ends)

    -- it ends in 15: the other one is
    pub decided_second : (o : Choices) → ChoicesAre high_only s o → DecisionIs s (record { choices = o; extent = HighOnly })
    decided_second o g = record { told = second; choices = g }

    -- without a low task down to the one that fits at no K both are the same
    pub decided_same : any_low s.low (r.fitted + 1) ≡ false → DecisionIs s (record { choices = r; extent = HighOnly })
    decided_same h = decided_second r (record {
      is = rw (choice_in, lt-leb s.count r.fitted l) (sym stays);
      within = f.within;
      so_far = high_same s r.fitted (λ i g. high i (omega arith)) ∙ f.so_far;
      keep_past = f.keep_past;
      worst_past = f.worst_past;
      keep_long = f.keep_long;
      worst_long = f.worst_long;
      counted = f.counted ∙ sum_eq _ _ r.fitted (λ i g. high_counted s (column r.keep) i (high i (omega arith)));
    })
      where
        high : (i : ℕ) → i < r.fitted + 1 → s.low i ≡ false
        high = no_low s.low (r.fitted + 1) h

        stays : choice_of high_only s s.count ≡ unfit r.fitted
        stays =
            unfit_stays high_only s r.fitted (suc r.fitted) s.count l
            (high_same s (suc r.fitted) (λ i g. high i (omega arith)) ∙ unfit_first ordinary s r.fitted s.count ends)
