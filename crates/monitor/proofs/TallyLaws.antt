-- Counting the jobs of a ring one after the other gives what the definitions count of the jobs held.
use Prim.Native.Nat.{ℕ, ◌+◌, ◌≤◌, ◌<◌, max}
use mathlib.Core.Path.{◌≡◌, refl, sym, ap, ◌∙◌}
use mathlib.Core.Bool.{Bool, true, false}
use mathlib.Core.List.{List, [], ◌∷◌, ◌++◌}
use native.Mathlib.Omega.{arith}
use native.Mathlib.Numerals.{add-one}
use borrow.Author.Tests.{eq-eqb, ne_eqb, eqb-true, eqb-false}
use lib.Dec.{ltb, eqb}
use lib.ListN.{length, take, drop, take-append-drop}
use Rattle.model.specs.Series.{on, table}
use Rattle.model.specs.LastJobs.{Completion, jobs_of, late_of, largest_of, Shown, shown_of, window_jobs}
use Rattle.model.proofs.TableLaws.{length_table}
use Rattle.model.proofs.LastJobLaws.{jobs_le, late_le, shown_turned, jobs_own, late_own, largest_own, jobs_other, late_other, largest_other}
use Rattle.monitor.specs.Layout.{window_slots, job_in, place_in, used_in, from, held_in}
use Rattle.monitor.specs.MonitorCalls.{tallied_with}

-- one more job of the task, or of another
module _ (t : Shown) (i D : ℕ) (c : Completion) where
  pub next_own
      : c.task ≡ i → record { jobs = t.jobs + 1; late = t.late + on (ltb D c.response) 1; largest = max t.largest c.response } ≡ tallied_with t i D c
  unfolding tallied_with
  next_own e = rw (tallied_with, eq-eqb c.task i e)

  pub next_other : (c.task ≡ i → ⊥) → t ≡ tallied_with t i D c
  unfolding tallied_with
  next_other e = rw (tallied_with, ne_eqb c.task i e)

-- it is a count of one job more
shown_more : (i D : ℕ) (l : List Completion) (c : Completion) → tallied_with (shown_of i D l) i D c ≡ shown_of i D (l ++ (c ∷ []))
shown_more i D l c = go (eqb c.task i) refl
  where
    go : (b : Bool) → eqb c.task i ≡ b → tallied_with (shown_of i D l) i D c ≡ shown_of i D (l ++ (c ∷ []))
    go true e =
        let same : c.task ≡ i = eqb-true _ _ e in
        sym (next_own (shown_of i D l) i D c same) ∙ sym (rw (jobs_own c i l same, late_own c i l same D, largest_own c i l same) refl)
    go false e =
        let other : c.task ≡ i → ⊥ = eqb-false _ _ e in
        sym (next_other (shown_of i D l) i D c other) ∙ sym (rw (jobs_other c i l other, late_other c i l other D, largest_other c i l other) refl)

-- the first k places of the ring are counted
pub record Tallying (w : List ℕ) (i D used k : ℕ) (t : Shown) : Type 0 where
  pub long : window_slots ≤ length w
  pub few : used ≤ window_jobs
  pub low : k ≤ used
  pub is : t ≡ shown_of i D (table (job_in w) k)

module _ (w : List ℕ) (i D used : ℕ) where
  pub tallying_none : window_slots ≤ length w → used ≤ window_jobs → Tallying w i D used 0 (record { jobs = 0; late = 0; largest = 0 })
  unfolding table jobs_of late_of largest_of
  tallying_none l h = record { long = l; few = h; low = omega arith; is = refl }

  pub tallying_next
      : (k : ℕ) (t t' : Shown) → Tallying w i D used k t → k < used → t' ≡ tallied_with t i D (job_in w k) → Tallying w i D used (k + 1) t'
  unfolding table
  tallying_next k t t' f h e =
      record {
        long = f.long;
        few = f.few;
        low = omega arith;
        is = rw add-one (e ∙ ap (λ x. tallied_with x i D (job_in w k)) f.is ∙ shown_more i D (table (job_in w) k) (job_in w k));
      }

  -- so few that nothing wraps
  pub tallying_jobs : (k : ℕ) (t : Shown) → Tallying w i D used k t → k < used → t.jobs < window_jobs
  tallying_jobs k t f h = rw f.is (omega (arith, jobs_le i (table (job_in w) k), length_table (job_in w) k, f.few))

  pub tallying_late : (k : ℕ) (t : Shown) → Tallying w i D used k t → k < used → t.late < window_jobs
  tallying_late k t f h = rw f.is (omega (arith, late_le i D (table (job_in w) k), length_table (job_in w) k, f.few))

-- where a list is turned does not matter to a count
shown_from : (i D p : ℕ) (l : List Completion) → shown_of i D (from p l) ≡ shown_of i D l
unfolding from
shown_from i D p l = shown_turned i D (drop p l) (take p l) ∙ ap (shown_of i D) (take-append-drop p l)

-- a count of every place in use is one of the jobs held
pub shown_held : (w : List ℕ) (i D k : ℕ) → used_in w ≤ k → k ≤ used_in w → shown_of i D (table (job_in w) k) ≡ shown_of i D (held_in w)
unfolding held_in
shown_held w i D k h g =
    let e : k ≡ used_in w = omega arith in
    ap (λ n. shown_of i D (table (job_in w) n)) e ∙ sym (shown_from i D (place_in w) (table (job_in w) (used_in w)))

-- every place in use is counted
pub tallying_all : (w : List ℕ) (i D k : ℕ) (t : Shown) → Tallying w i D (used_in w) k t → used_in w ≤ k → t ≡ shown_of i D (held_in w)
tallying_all w i D k t f h = f.is ∙ shown_held w i D k h f.low
