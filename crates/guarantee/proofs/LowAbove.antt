-- A sum: a low task above a high one, the choice ordinary, and kept jitters that make the high task fit and are smaller there.
use Prim.Native.Nat.{ℕ, zero, suc, ◌≤◌, ◌<◌}
use mathlib.Core.Path.{◌≡◌, refl}
use mathlib.Core.Bool.{true, false}
use mathlib.Core.List.{[], ◌∷◌}
use native.Mathlib.Omega.{arith}
use lib.IntN.{pos}
use Rattle.model.specs.Search.{first}
use Rattle.model.specs.Series.{on, sum}
use Rattle.model.specs.Frame.{supply}
use Rattle.model.specs.Tasks.{Tasks, Valid}
use Rattle.model.specs.Arrival.{ceil_div, arrivals}
use Rattle.model.specs.Gap.{gap}
use Rattle.model.specs.Demand.{above_load, demand, meets, window_from, larger, largest, window}
use Rattle.model.specs.Bound.{max_z, min_z, offset, bound}
use Rattle.model.specs.Verdict.{fits, bound_of, is_late, is_last, stops, bound_at, peak, judge, verdict}
use Rattle.model.specs.Choice.{column, is_fits, worst_of, least_keep, chosen, ordinary, judges, keep_for, worst_for, choice_next, choice_of, scope_after, scope, choice}
use Rattle.model.specs.Refusal.{first_refusal}
use Rattle.model.specs.Checks.{in_range, carries, entry_fault, fault_at, is_fault, refuse_if, refuse_at, refuse_by, check_entries, check_frame, check_tasks}
use Rattle.model.specs.Sums.{task, marked}
use Rattle.model.proofs.SeriesLaws.{clash}
use Rattle.model.proofs.CheckLaws.{valid_of}
use Rattle.guarantee.specs.NoneSmaller.{HighFit, HighIsNotEnough}

-- P, J, E, D: 10, 5, 1, 4, low; 20, 5, 8, 12, high
abbrev mixed : Tasks
mixed = marked 0 (true ∷ false ∷ []) (task 10 5 1 4 ∷ task 20 5 8 12 ∷ [])

mixed_valid : Valid mixed
unfolding first check_tasks check_entries check_frame first_refusal refuse_if refuse_at refuse_by fault_at is_fault entry_fault in_range carries
mixed_valid = valid_of mixed refl

-- with kept jitters 0 and 3 the high task has W(0) = 8 + 1 = 9 and R(0) = 9 + 1 + 5 − 3 = 12 = D
high_fits : verdict mixed (column (0 ∷ 3 ∷ [])) 1 ≡ fits (pos 12) 0
unfolding arrivals ceil_div gap window window_from largest larger meets supply demand above_load sum first verdict stops judge is_late is_last bound_of bound_at bound offset max_z min_z peak on
high_fits = refl

smaller : HighFit mixed (column (0 ∷ 3 ∷ []))
unfolding is_fits
smaller = record { kept = kept; fit = fit }
  where
    kept : (i : ℕ) → i < 2 → column (0 ∷ 3 ∷ []) i ≤ mixed.jitter i
    kept zero l = omega arith
    kept (suc zero) l = omega arith
    kept (suc (suc i)) l = absurd (omega arith)

    fit : (i : ℕ) → i < 2 → mixed.low i ≡ false → is_fits (verdict mixed (column (0 ∷ 3 ∷ [])) i) ≡ true
    fit zero l h = clash true refl h
    fit (suc zero) l h = rw high_fits
    fit (suc (suc i)) l h = absurd (omega arith)

-- the low task is late with 0: it needs K = 3, R(0) = 1 + 1 + 5 − 3 = 4 = D. Below it, σ counts a second job of it in 8 ticks, so W(0) = 10 and the high task needs K = 4
ordinary_choice : (scope mixed ≡ ordinary) × (choice mixed ≡ chosen (3 ∷ 4 ∷ []) (pos 4 ∷ pos 12 ∷ []))
unfolding arrivals ceil_div gap window window_from largest larger meets supply demand above_load sum first verdict stops judge is_late is_last bound_of bound_at bound offset max_z min_z peak on
    is_fits worst_of least_keep judges keep_for worst_for choice_next choice_of scope_after
ordinary_choice = (refl, refl)

pub high_is_not_enough : HighIsNotEnough
high_is_not_enough = (
  mixed,
  mixed_valid,
  record {
    k = column (0 ∷ 3 ∷ []);
    high = smaller;
    keeps = 3 ∷ 4 ∷ [];
    worsts = pos 4 ∷ pos 12 ∷ [];
    told = ordinary_choice.0;
    is = ordinary_choice.1;
    task = 1;
    in_sheet = omega arith;
    is_high = refl;
    smaller = omega arith;
  },
)
