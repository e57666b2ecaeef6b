-- No set of kept jitters under which every task fits is smaller than the choice anywhere.
use Prim.Native.Nat.{ℕ, ◌≤◌, ◌<◌}
use mathlib.Core.Path.{◌≡◌, refl, sym, ap, ◌∙◌}
use mathlib.Core.Bool.{true}
use mathlib.Core.Option.{Option, some, none}
use mathlib.Core.List.{List, [], ◌∷◌}
use native.Mathlib.Omega.{arith}
use lib.ListN.{length, drop, get_or-append}
use lib.IntN.{ℤ}
use Rattle.model.specs.Tasks.{Tasks, Valid}
use Rattle.model.specs.Verdict.{verdict}
use Rattle.model.specs.Choice.{column, and_keep, is_fits, least_keep, Choice, unfit, chosen, Scope, ordinary, high_only, judges, choice_of, scope_after, scope, choice}
use Rattle.model.specs.Refusal.{Refusal, answered}
use Rattle.model.specs.Checks.{check_tasks, check_slots, refusal_of}
use Rattle.model.specs.Calls.{lends, column_after, task_inputs, verdict_call, choice_inputs, choice_call, kept_column}
use Rattle.model.specs.Evaluations.{Judged, judged}
use Rattle.model.proofs.SeriesLaws.{clash}
use Rattle.model.proofs.CheckLaws.{valid_of, kept_of, chosen_passes, slots_next, slots_none}
use Rattle.model.proofs.FifteenLaws.{fifteen_of}
use Rattle.model.proofs.OrderLaws.{Accepted, accepted_of, accepts, answers, answered_of, refused_of, no_single, no_count, no_kept, no_releases, column_written}
use Rattle.response.proofs.ChoiceLaws.{least_keep_lem, choice_length, choice_keeps, choice_fits}
use Rattle.response.proofs.ChosenUnder.{Under, least_Under, chosen_under}
use Rattle.guarantee.proofs.ChoiceSafe.{high_of_lem, unfit_high}
use Rattle.guarantee.specs.ChoiceSafe.{HighUnfit}
use Rattle.guarantee.specs.NoneSmaller.{AllFit, NoneSmaller, LeastEverywhere, HighFit, LeastOfHigh, NoneSmallerHigh, FifteenIsFinal, SaysFits, kept_after, TheirsIsNotBelow}

-- a choice with every kept jitter in 0..J under which every task fits
chosen_fit : (s : Tasks) (ks : List ℕ) (ws : List ℤ) → choice_of ordinary s s.count ≡ chosen ks ws → AllFit s (column ks)
unfolding is_fits judges
chosen_fit s ks ws h = record {
  kept = choice_keeps ordinary s ks ws h;
  fit = λ i l. ap is_fits (choice_fits ordinary s ks ws h i l refl).1;
}

pub none_smaller : NoneSmaller
unfolding scope_after judges
none_smaller s v k f =
    let u = chosen_under ordinary s v k s.count (omega arith) f.kept (λ i l j. f.fit i l) in
    let told : scope s ≡ ordinary = ap scope_after u.is in
    record {
      keeps = u.keeps;
      worsts = u.worsts;
      told = told;
      is = ap (λ c. choice_of c s s.count) told ∙ u.is;
      least = u.under;
      itself = chosen_fit s u.keeps u.worsts u.is;
    }

-- a choice is ordinary or the one of the high tasks alone
not_both : {A : Type 0} (c : Scope) → c ≡ ordinary → c ≡ high_only → A
not_both c h g = let w : ordinary ≡ high_only = sym h ∙ g in let z : ◌≡◌ {A = ℕ} 0 1 = cc in absurd (omega arith)

-- the choice of the high tasks alone
high_under : (s : Tasks) → Valid s → (k : ℕ → ℕ) → HighFit s k → Under high_only s k s.count
high_under s v k f =
    chosen_under high_only s v k s.count (omega arith) f.kept (λ i l j. f.fit i l (high_of_lem s i (s.low i) refl j))

pub none_smaller_high : NoneSmallerHigh
unfolding scope_after
none_smaller_high s v k f = go (choice_of ordinary s s.count) refl
  where
    go : (r : Choice) → choice_of ordinary s s.count ≡ r → LeastOfHigh s k
    go (unfit n) e =
        let u = high_under s v k f in
        record { keeps = u.keeps; worsts = u.worsts; is = ap (λ c. choice_of c s s.count) (ap scope_after e) ∙ u.is; least = λ _. u.under }
    go (chosen ks ws) e =
        let told : scope s ≡ ordinary = ap scope_after e in
        record { keeps = ks; worsts = ws; is = ap (λ c. choice_of c s s.count) told ∙ e; least = λ h i l. not_both (scope s) told h }

-- 15 at i: k is not below the choices above, so the least K at which task i fits would not be over k's
pub fifteen_is_final : FifteenIsFinal
unfolding choice_call
fifteen_is_final s kept worst i h k keeps fit = go (least_Under high_only s v k i u n.in_sheet (keeps i (omega arith)) (fit i (omega arith) n.high))
  where
    d : (none ≡ check_tasks s) × (choice s ≡ unfit i)
    d = fifteen_of s kept worst i (refused_of (choice_inputs s kept worst) (scope s) _ h)

    v : Valid s
    v = valid_of s (sym d.0)

    n : HighUnfit s i
    n = unfit_high s i d.1

    u : Under high_only s k i
    u =
        chosen_under high_only s v k i (omega (arith, n.in_sheet)) (λ j l. keeps j (omega arith))
        (λ j l g. fit j (omega arith) (high_of_lem s j (s.low j) refl g))

    same : u.keeps ≡ n.above
    same = let e : chosen u.keeps u.worsts ≡ chosen n.above n.worst = sym u.is ∙ n.chosen_above in cc

    go : (K : ℕ) × (least_keep s u.keeps i ≡ some K) × (K ≤ k i) → ⊥
    go (K, e, g) =
        let x = least_keep_lem s u.keeps i K e in
        clash (is_fits (verdict s (and_keep u.keeps K) i)) x.fits_at (rw same (n.none_fits K x.in_jitter))

-- what a verdict call that says "fits" tells
told_fits : (s : Tasks) (i : ℕ) (kept : List ℕ) → SaysFits s i kept → (none ≡ refusal_of (task_inputs s i kept)) × (is_fits (verdict s (column kept) i) ≡ true)
unfolding verdict_call is_fits
told_fits s i kept f =
    let d = answered_of (task_inputs s i kept) (judged s (column kept) i) _ f.answer in
    (d.0, ap (λ (j : Judged). is_fits j.says) d.1)

-- slices that are long enough
two_slots : (n : ℕ) (kept worst : List ℕ) → n ≤ length kept → n ≤ length worst → none ≡ check_slots (lends n kept ∷ lends n worst ∷ [])
two_slots n kept worst a b = slots_none ∙ sym (slots_next (lends n worst) [] b) ∙ sym (slots_next (lends n kept) (lends n worst ∷ []) a)

-- the first slots of a column that an answer was written to
slot_written : (r : Option Refusal) (answer held : List ℕ) → none ≡ r → (i : ℕ) → i < length answer → column (column_after r answer held) i ≡ column answer i
slot_written r answer held e i l =
    ap (λ (o : List ℕ). column o i) (sym (column_written r (length answer) answer held e refl)) ∙ get_or-append answer (drop (length answer) held) 0 i l

pub theirs_not_below : TheirsIsNotBelow
unfolding choice_call kept_column
theirs_not_below s l theirs f kept worst a b =
    (sym (answers (choice_inputs s kept worst) (scope s) passes) ∙ ap answered r.told, slot)
  where
    fine : Accepted (task_inputs s 0 theirs)
    fine = accepted_of _ (told_fits s 0 theirs (f 0 l)).0

    r : LeastEverywhere s (column theirs)
    r =
        none_smaller s (valid_of s (sym fine.tasks)) (column theirs)
        (record { kept = kept_of s (column theirs) (sym fine.kept); fit = λ i g. (told_fits s i theirs (f i g)).1 })

    passes : none ≡ refusal_of (choice_inputs s kept worst)
    passes =
        accepts (choice_inputs s kept worst)
        (record {
          tasks = fine.tasks;
          single = no_single s;
          count = no_count;
          lent = two_slots s.count kept worst a b;
          kept = no_kept s;
          releases = no_releases s;
          unfit = chosen_passes (choice s) r.keeps r.worsts r.is;
        })

    slot : (i : ℕ) → i < s.count → column (kept_after s kept worst) i ≤ column theirs i
    slot i g =
        let e : kept_column (choice s) ≡ r.keeps = ap kept_column r.is in
        let long = choice_length (scope s) s r.keeps r.worsts r.is in
        rw (slot_written (refusal_of (choice_inputs s kept worst)) (kept_column (choice s)) kept passes i (rw e (omega (arith, long))), e) (r.least i g)
