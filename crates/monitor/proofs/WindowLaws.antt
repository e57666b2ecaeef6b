-- Laws of the checks of a lent window.
use Prim.Native.Nat.{ℕ, ◌≤◌, ◌<◌}
use mathlib.Core.Path.{◌≡◌, sym, ◌∙◌}
use mathlib.Core.Bool.{Bool, true, false}
use mathlib.Core.Option.{some, none}
use mathlib.Core.List.{List, [], ◌∷◌}
use native.Mathlib.Omega.{arith}
use borrow.Author.Tests.{eq-eqb, ne_eqb, lt-ltb, le-ltb, le-leb, lt-leb, eqb-false, ltb-false, leb-false}
use lib.Dec.{leb, ltb, eqb}
use lib.ListN.{length}
use Rattle.model.specs.Limits.{max_tasks}
use Rattle.model.specs.Tasks.{Tasks}
use Rattle.model.specs.Refusal.{Refusal, refuse, first_refusal, refused, answered}
use Rattle.model.specs.Checks.{refuse_if, check_tasks, check_slots, refusal_of}
use Rattle.model.specs.Calls.{lends}
use Rattle.model.specs.LastJobs.{Completion, shown_of}
use Rattle.model.proofs.CheckLaws.{not_refused, slots_short, slots_next, slots_none, slot_of}
use Rattle.model.proofs.OrderLaws.{first_refusal_lem, next_check, last_decides, both_none, no_single, no_count, no_kept, no_releases, no_unfit, accepted_of, accepts, refused_tasks, refused_slots}
use Rattle.monitor.specs.Layout.{window_slots, tasks_in, deadline_in, held_in, with_job}
use Rattle.monitor.specs.MonitorCalls.{open_inputs, check_window, check_task_in, job_after, show_call}

-- a test as a refusal
if_holds : (b : Bool) (n p : ℕ) → b ≡ true → refuse n p ≡ refuse_if b n p
unfolding refuse_if
if_holds b n p h = rw (h, refuse_if)

if_not : (b : Bool) (n p : ℕ) → b ≡ false → none ≡ refuse_if b n p
unfolding refuse_if
if_not b n p h = rw (h, refuse_if)

-- the slots of a window
module _ (w : List ℕ) where
  pub slots_few : length w < window_slots → refuse 13 window_slots ≡ check_slots (lends window_slots w ∷ [])
  slots_few h = slots_short (lends window_slots w) [] h

  pub slots_enough : window_slots ≤ length w → none ≡ check_slots (lends window_slots w ∷ [])
  slots_enough h = slots_none ∙ sym (slots_next (lends window_slots w) [] h)

-- a window that passes its check
pub record Usable (w : List ℕ) : Type 0 where
  pub long : window_slots ≤ length w
  pub some_task : 1 ≤ tasks_in w
  pub few_tasks : tasks_in w ≤ max_tasks

module _ (w : List ℕ) where
  pub window_short : length w < window_slots → refuse 13 window_slots ≡ check_window w
  unfolding check_window
  window_short h = first_refusal_lem _ _ _ (slots_few w h)

  pub window_empty : window_slots ≤ length w → tasks_in w ≡ 0 → refuse 5 0 ≡ check_window w
  unfolding check_window
  window_empty l h = first_refusal_lem _ _ _ (if_holds (eqb (tasks_in w) 0) 5 0 (eq-eqb (tasks_in w) 0 h)) ∙ next_check _ _ (slots_enough w l)

  rest : window_slots ≤ length w → 1 ≤ tasks_in w → first_refusal (refuse_if (ltb max_tasks (tasks_in w)) 4 max_tasks ∷ []) ≡ check_window w
  unfolding check_window
  rest l h = next_check _ _ (if_not (eqb (tasks_in w) 0) 5 0 (ne_eqb (tasks_in w) 0 (λ e. omega arith))) ∙ next_check _ _ (slots_enough w l)

  pub window_many : window_slots ≤ length w → max_tasks < tasks_in w → refuse 4 max_tasks ≡ check_window w
  window_many l h = first_refusal_lem _ _ _ (if_holds (ltb max_tasks (tasks_in w)) 4 max_tasks (lt-ltb max_tasks (tasks_in w) h)) ∙ rest l (omega arith)

  pub window_fine : Usable w → none ≡ check_window w
  window_fine u =
      if_not (ltb max_tasks (tasks_in w)) 4 max_tasks (le-ltb max_tasks (tasks_in w) u.few_tasks) ∙ last_decides _ ∙ rest u.long u.some_task

  pub usable_of : none ≡ check_window w → Usable w
  unfolding check_window
  usable_of e =
      let a = both_none _ _ e in
      let b = both_none _ _ a.1 in
      let d = both_none _ _ b.1 in
      let ne : tasks_in w ≡ 0 → ⊥ = eqb-false _ _ (not_refused _ _ _ b.0) in
      record {
        long = (slot_of (lends window_slots w) [] a.0).0;
        some_task = omega arith;
        few_tasks = ltb-false _ _ (not_refused _ _ _ d.0);
      }

-- a window and a task of it
module _ (w : List ℕ) (i : ℕ) where
  pub task_window : (q : Refusal) → some q ≡ check_window w → some q ≡ check_task_in w i
  unfolding check_task_in
  task_window q e = first_refusal_lem _ _ q e

  pub task_missing : none ≡ check_window w → tasks_in w ≤ i → refuse 14 i ≡ check_task_in w i
  unfolding check_task_in
  task_missing e h = first_refusal_lem _ _ _ (if_holds (leb (tasks_in w) i) 14 i (le-leb (tasks_in w) i h)) ∙ next_check _ _ e

  pub task_there : none ≡ check_window w → i < tasks_in w → none ≡ check_task_in w i
  unfolding check_task_in
  task_there e h = if_not (leb (tasks_in w) i) 14 i (lt-leb (tasks_in w) i h) ∙ last_decides _ ∙ next_check _ _ e

  pub task_of_lem : none ≡ check_task_in w i → Usable w × (i < tasks_in w)
  unfolding check_task_in
  task_of_lem e =
      let a = both_none _ _ e in
      let b = both_none _ _ a.1 in (usable_of w a.0, leb-false _ _ (not_refused _ _ _ b.0))

  -- what a show answers
  pub show_refused : (q : Refusal) → some q ≡ check_task_in w i → refused q ≡ show_call w i
  unfolding show_call
  show_refused q e = rw (show_call, ← e)

  pub show_answered : none ≡ check_task_in w i → answered (shown_of i (deadline_in w i) (held_in w)) ≡ show_call w i
  unfolding show_call
  show_answered e = rw (show_call, ← e)

-- what a taken job leaves
module _ (w : List ℕ) (c : Completion) where
  pub job_refused : (q : Refusal) → some q ≡ check_task_in w c.task → w ≡ job_after w c
  unfolding job_after
  job_refused q e = rw (job_after, ← e)

  pub job_taken : none ≡ check_task_in w c.task → with_job w c ≡ job_after w c
  unfolding job_after
  job_taken e = rw (job_after, ← e)

-- open: the sheet's refusal, then the slots
module _ (s : Tasks) (w : List ℕ) where
  pub open_sheet : (q : Refusal) → some q ≡ check_tasks s → some q ≡ refusal_of (open_inputs s w)
  open_sheet q e = refused_tasks (open_inputs s w) q e

  pub open_short : none ≡ check_tasks s → length w < window_slots → refuse 13 window_slots ≡ refusal_of (open_inputs s w)
  open_short e h = refused_slots (open_inputs s w) _ e (no_single s) no_count (slots_few w h)

  pub open_fine : none ≡ check_tasks s → window_slots ≤ length w → none ≡ refusal_of (open_inputs s w)
  open_fine e h =
      accepts (open_inputs s w)
      record {
        tasks = e;
        single = no_single s;
        count = no_count;
        lent = slots_enough w h;
        kept = no_kept s;
        releases = no_releases s;
        unfit = no_unfit;
      }

  pub open_of : none ≡ refusal_of (open_inputs s w) → (none ≡ check_tasks s) × (window_slots ≤ length w)
  open_of e = let a = accepted_of (open_inputs s w) e in (a.tasks, (slot_of (lends window_slots w) [] a.lent).0)
