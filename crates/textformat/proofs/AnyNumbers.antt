-- Numbers of any size: cut at a number over every limit, a task has the same fault, and without one it is not changed.
use Prim.Native.Nat.{ℕ, zero, suc, ◌<◌, min}
use mathlib.Core.Path.{◌≡◌, refl, sym, ap, ◌∙◌}
use mathlib.Core.Bool.{Bool, true, false, true≢false}
use mathlib.Core.Option.{Option, some, none}
use mathlib.Core.List.{List, [], ◌∷◌, ◌++◌, map}
use native.Mathlib.Omega.{arith}
use lib.ListN.{length}
use Rattle.model.specs.Limits.{max_time}
use Rattle.model.specs.Tasks.{InRange}
use Rattle.model.specs.Checks.{in_range}
use Rattle.model.proofs.CheckLaws.{in_range_yes, in_range_of, in_range_no}
use Rattle.model.proofs.ChargeLaws.{entry_uncharged}
use Rattle.taskset.specs.declared.Task.{Task}
use Rattle.fileformat.specs.File.{task_fault}
use Rattle.fileformat.specs.OldFiles.{AllHigh}
use Rattle.fileformat.proofs.StepLaws.{task_same, task_ranged}
use Rattle.textformat.specs.TextSheet.{load_from, load}
use Rattle.textformat.specs.TextTrips.{as_high, cut_at, cut, in_records, SameAsRecords}
use Rattle.textformat.proofs.TextTrips.{line_of, sheet_lines, line_fault_lem, load_stop, task_line}
use Rattle.textformat.proofs.RecordTrips.{AllFit, same_if_fit}

-- c is over every limit
module _ (c : ℕ) (over : max_time < c) where
  -- numbers that were cut are in range just where the numbers are
  pub same_range : (P J E D : ℕ) → in_range (min c P) (min c J) (min c E) (min c D) ≡ in_range P J E D
  same_range P J E D = go (in_range P J E D) refl
    where
      kept : InRange P J E D → InRange (min c P) (min c J) (min c E) (min c D)
      kept r = omega (arith, over)

      whole : InRange (min c P) (min c J) (min c E) (min c D) → InRange P J E D
      whole r = omega (arith, over)

      go : (b : Bool) → in_range P J E D ≡ b → in_range (min c P) (min c J) (min c E) (min c D) ≡ in_range P J E D
      go true e = in_range_yes _ _ _ _ (kept (in_range_of P J E D e)) ∙ sym e
      go false e = in_range_no _ _ _ _ (λ r. true≢false (sym (in_range_yes P J E D (whole r)) ∙ e)) ∙ sym e

  -- and so the task has the same fault
  pub same_fault : (n : ℕ) (t : Task) → task_fault 0 n 0 (cut_at c t) ≡ task_fault 0 n 0 t
  same_fault n t =
      task_same 0 n 0 (cut_at c t) t
      (entry_uncharged _ _ _ _ ∙ ap (λ b. elim b [ false ↦ some 6 | true ↦ none ]) (same_range t.period t.jitter t.cost t.deadline)
      ∙ sym (entry_uncharged _ _ _ _))

  -- without a fault nothing was cut off
  pub uncut : (n : ℕ) (t : Task) → task_fault 0 n 0 t ≡ none → cut_at c t ≡ as_high t
  uncut n t e =
      let r = task_ranged 0 n 0 t e in
      let p : min c t.period ≡ t.period = omega (arith, over, r.period_high) in
      let j : min c t.jitter ≡ t.jitter = omega (arith, over, r.jitter_high) in
      let k : min c t.cost ≡ t.cost = omega (arith, over, r.cost_period, r.period_high) in
      let d : min c t.deadline ≡ t.deadline = omega (arith, over, r.deadline_high) in
      rw (p, j, k, d)

  -- the lines of tasks whose numbers were cut are refused alike, or give the tasks
  pub same_load : (us ts : List Task) → load_from ts (map line_of (map (cut_at c) us)) ≡ load_from ts (map line_of us)
  same_load [] ts = refl
  same_load (t ∷ us) ts = go (task_fault 0 (length ts) 0 t) refl (same_load us (ts ++ (as_high t ∷ [])))
    where
      go
          : (o : Option ℕ) → task_fault 0 (length ts) 0 t ≡ o
          → load_from (ts ++ (as_high t ∷ [])) (map line_of (map (cut_at c) us)) ≡ load_from (ts ++ (as_high t ∷ [])) (map line_of us)
          → load_from ts (line_of (cut_at c t) ∷ map line_of (map (cut_at c) us)) ≡ load_from ts (line_of t ∷ map line_of us)
      go (some k) f ih =
          load_stop ts (line_of (cut_at c t)) _ k (line_fault_lem (length ts) (cut_at c t) ∙ same_fault (length ts) t ∙ f)
          ∙ sym (load_stop ts (line_of t) _ k (line_fault_lem (length ts) t ∙ f))
      go none f ih =
          ap (λ u. load_from ts (line_of u ∷ map line_of (map (cut_at c) us))) (uncut (length ts) t f) ∙ task_line ts t _ f ∙ ih ∙ sym (task_line ts t _ f)

-- cut numbers fit a record
cut_fits : (ts : List Task) → AllFit (map cut ts)
cut_fits [] i h = absurd (omega arith)
cut_fits (t ∷ ts) zero h = record { period = omega arith; jitter = omega arith; cost = omega arith; deadline = omega arith }
cut_fits (t ∷ ts) (suc i) h = cut_fits ts i (omega arith)

-- and their tasks are high
cut_high : (ts : List Task) → AllHigh (map cut ts)
cut_high [] i h = absurd (omega arith)
cut_high (t ∷ ts) zero h = refl
cut_high (t ∷ ts) (suc i) h = cut_high ts i (omega arith)

-- a text answers as the file with the same numbers, as far as four bytes hold them
pub same_as_records : SameAsRecords
unfolding load
same_as_records ts =
    same_if_fit (map cut ts) (cut_fits ts) (cut_high ts)
    ∙ ap in_records (ap (load_from []) (sheet_lines (map cut ts)) ∙ same_load 4294967295 (omega arith) ts [] ∙ ap (load_from []) (sym (sheet_lines ts)))
