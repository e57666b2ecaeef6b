-- After any calls from an opening a window shows what the definitions count: by what the slots stand for, call by call.
use Prim.Native.Nat.{ℕ, suc, ◌+◌, ◌-◌, ◌≤◌, ◌<◌}
use mathlib.Core.Path.{◌≡◌, refl, sym, ap, ap₂, subst, ◌∙◌}
use mathlib.Core.Bool.{Bool, true, false}
use mathlib.Core.Logic.{◌⊎◌, inl, inr}
use mathlib.Core.Option.{Option, some, none}
use mathlib.Core.List.{List, [], ◌∷◌, ◌++◌}
use native.Mathlib.Omega.{arith}
use borrow.Author.Tests.{eqb-true, eqb-false, le-leb, lt-leb}
use lib.Dec.{leb, eqb}
use lib.ListN.{length, get_or, drop, set, length-append, length-drop, get_or-append}
use lib.Seq.{drop-append-add, drop-drop, drop-set-lt}
use Rattle.model.specs.Series.{table}
use Rattle.model.specs.Tasks.{Tasks}
use Rattle.model.specs.Refusal.{Refusal, first_refusal, answered}
use Rattle.model.specs.Checks.{refuse_if, check_tasks, check_slots, refusal_of}
use Rattle.model.specs.LastJobs.{Completion, last_of, Shown, shown_of, WindowCall, open_on, finished, Window, after_open, after_job, after_call, after_calls, window_jobs, display}
use Rattle.model.proofs.SeriesLaws.{le_or_lt}
use Rattle.model.proofs.CheckLaws.{valid_of}
use Rattle.model.proofs.OrderLaws.{column_kept, column_written, last_decides, next_check}
use Rattle.model.proofs.TableLaws.{length_table, get_or_table, table_agree}
use Rattle.model.proofs.LastJobLaws.{last_last}
use Rattle.monitor.specs.Layout.{window_slots, tasks_in, count_in, deadline_in, job_in, place_in, used_in, from, held_in, counted, with_job, opened_on}
use Rattle.monitor.specs.MonitorCalls.{open_inputs, open_after, check_window, check_task_in, job_after, show_call, columns_lent}
use Rattle.monitor.specs.AfterAnyCalls.{slots_after, slots_after_all, WellFormed, OpeningForms, CallsKeepForm, displayed, Shows, AfterAnyCalls}
use Rattle.monitor.proofs.WindowLaws.{window_fine, task_missing, task_there, show_refused, show_answered, job_refused, job_taken, open_sheet, open_fine, open_of}
use Rattle.monitor.proofs.RingLaws.{counted_low, used_before, length_with, count_with, slot_with_lem, place_low, job_with, jobs_with, held_with}
use Rattle.monitor.proofs.ColumnLaws.{all_columns}

-- what an opening leaves
module _ (s : Tasks) (w : List ℕ) (e : none ≡ refusal_of (open_inputs s w)) where
  opened : open_after s w ≡ opened_on s ++ drop (2 + s.count) w
  opened = sym (column_written (refusal_of (open_inputs s w)) (2 + s.count) (opened_on s) w e (omega (arith, length_table s.deadline s.count)))

  open_tasks : tasks_in (open_after s w) ≡ s.count
  open_tasks = ap tasks_in opened

  open_count : count_in (open_after s w) ≡ 0
  open_count = ap count_in opened

  open_deadline : (i : ℕ) → i < s.count → deadline_in (open_after s w) i ≡ s.deadline i
  open_deadline i h =
      let n : 2 + i ≡ suc (suc i) = omega arith in
      ap (λ l. deadline_in l i) opened
      ∙ ap (λ k. get_or (opened_on s ++ drop (2 + s.count) w) k 0) n
      ∙ get_or-append (table s.deadline s.count) (drop (2 + s.count) w) 0 i (omega (arith, length_table s.deadline s.count))
      ∙ get_or_table s.deadline 0 s.count i h

  open_length : length (open_after s w) ≡ length w
  open_length =
      let o = open_of s w e in
      ap length opened
      ∙ length-append (opened_on s) (drop (2 + s.count) w)
      ∙ omega (arith, length_table s.deadline s.count, length-drop (2 + s.count) w, o.1, (valid_of s (sym o.0)).few_tasks)

  open_past : drop window_slots (open_after s w) ≡ drop window_slots w
  open_past =
      let j : ℕ = window_slots - (2 + s.count) in
      let n : 2 + s.count ≡ length (opened_on s) = omega (arith, length_table s.deadline s.count) in
      let m : window_slots ≡ (2 + s.count) + j = omega (arith, (valid_of s (sym (open_of s w e).0)).few_tasks) in
      ap (drop window_slots) opened
      ∙ ap (λ k. drop k (opened_on s ++ drop (2 + s.count) w)) (m ∙ ap (λ k. k + j) n)
      ∙ drop-append-add (opened_on s) (drop (2 + s.count) w) j
      ∙ drop-drop j (2 + s.count) w
      ∙ ap (λ k. drop k w) (sym m)

  open_forms : WellFormed (open_after s w)
  open_forms =
      let o = open_of s w e in
      let v = valid_of s (sym o.0) in
      record {
        long = omega (arith, open_length, o.1);
        some_task = omega (arith, open_tasks, v.some_task);
        few_tasks = omega (arith, open_tasks, v.few_tasks);
        deadline_low =
            λ i h.
            let b : i < s.count = omega (arith, open_tasks) in
            omega (arith, open_deadline i b, (v.in_range_lem i b).cost_low, (v.in_range_lem i b).cost_deadline);
        deadline_high =
            λ i h. let b : i < s.count = omega (arith, open_tasks) in omega (arith, open_deadline i b, (v.in_range_lem i b).deadline_high);
        counts = omega (arith, open_count);
        known = λ k h. absurd (omega (arith, open_count));
      }

  open_empty : held_in (open_after s w) ≡ []
  unfolding held_in from table
  open_empty = rw open_count refl

pub opening_forms : OpeningForms
opening_forms s w e = open_forms s w (sym e)

-- what a job leaves
module _ (w : List ℕ) (c : Completion) (f : WellFormed w) (h : c.task < tasks_in w) where
  job_tasks : tasks_in (with_job w c) ≡ tasks_in w
  job_tasks =
      slot_with_lem w c f.long 0 (λ (e : 0 ≡ 1). omega arith) (λ (e : 0 ≡ 34 + place_in w). omega arith) (λ (e : 0 ≡ 290 + place_in w). omega arith)

  job_deadline : (i : ℕ) → i < tasks_in w → deadline_in (with_job w c) i ≡ deadline_in w i
  job_deadline i b =
      slot_with_lem w c f.long (2 + i) (λ (e : 2 + i ≡ 1). omega arith) (λ (e : 2 + i ≡ 34 + place_in w). omega (arith, f.few_tasks))
      (λ (e : 2 + i ≡ 290 + place_in w). omega (arith, f.few_tasks))

  job_known : (k : ℕ) → k < used_in (with_job w c) → (job_in (with_job w c) k).task < tasks_in w
  job_known k b = go (eqb k (place_in w)) refl
    where
      go : (t : Bool) → eqb k (place_in w) ≡ t → (job_in (with_job w c) k).task < tasks_in w
      go true e = let p : k ≡ place_in w = eqb-true _ _ e in rw (p, ap (λ x. x.task) (job_with w c f.long)) h
      go false e =
          let ne : k ≡ place_in w → ⊥ = eqb-false _ _ e in
          let low : k < window_jobs = omega arith in
          let used : k < used_in w = used_before (count_in w) k (rw (count_with w c f.long) at b) ne in
          rw (ap (λ x. x.task) (jobs_with w c f.long k low ne)) (f.known k used)

  job_forms : WellFormed (with_job w c)
  job_forms =
      record {
        long = omega (arith, length_with w c f.long, f.long);
        some_task = omega (arith, job_tasks, f.some_task);
        few_tasks = omega (arith, job_tasks, f.few_tasks);
        deadline_low = λ i b. let g : i < tasks_in w = omega (arith, job_tasks) in omega (arith, job_deadline i g, f.deadline_low i g);
        deadline_high = λ i b. let g : i < tasks_in w = omega (arith, job_tasks) in omega (arith, job_deadline i g, f.deadline_high i g);
        counts = omega (arith, count_with w c f.long, counted_low (count_in w));
        known = λ k b. omega (arith, job_known k b, job_tasks);
      }

-- the slots of a job that is taken or refused
by_task : {A : Type 0} (w : List ℕ) (c : Completion) → WellFormed w → (tasks_in w ≤ c.task → job_after w c ≡ w → A) → (c.task < tasks_in w → job_after w c ≡ with_job w c → A) → A
by_task {A = A} w c f missing there = go (le_or_lt (tasks_in w) c.task)
  where
    fine : none ≡ check_window w
    fine = window_fine w (record { long = f.long; some_task = f.some_task; few_tasks = f.few_tasks })

    go : (tasks_in w ≤ c.task) ⊎ (c.task < tasks_in w) → A
    go (inl h) = missing h (sym (job_refused w c _ (task_missing w c.task fine h)))
    go (inr h) = there h (sym (job_taken w c (task_there w c.task fine h)))

-- an opening that is taken or refused
by_opening : {A : Type 0} (s : Tasks) (w : List ℕ) → (none ≡ refusal_of (open_inputs s w) → A) → ((r : Refusal) → some r ≡ refusal_of (open_inputs s w) → open_after s w ≡ w → A) → A
by_opening {A = A} s w taken not = go (refusal_of (open_inputs s w)) refl
  where
    go : (o : Option Refusal) → o ≡ refusal_of (open_inputs s w) → A
    go none e = taken e
    go (some r) e = not r e (sym (column_kept (refusal_of (open_inputs s w)) r (opened_on s) w e))

pub calls_keep_form : CallsKeepForm
unfolding slots_after
calls_keep_form w (open_on s) f = by_opening s w (λ e. open_forms s w e) (λ r e k. subst WellFormed (sym k) f)
calls_keep_form w (finished c) f = by_task w c f (λ h k. subst WellFormed (sym k) f) (λ h k. subst WellFormed (sym k) (job_forms w c f h))

-- the slots past the window, and how many there are
record Same (w w' : List ℕ) : Type 0 where
  past : drop window_slots w' ≡ drop window_slots w
  long : length w' ≡ length w

same_job : (w : List ℕ) (c : Completion) → window_slots ≤ length w → Same w (with_job w c)
unfolding with_job
same_job w c l =
    let p = place_in w in
    let low = place_low w c l in
    record {
      past =
          drop-set-lt window_slots (set (set w (34 + p) c.task) (290 + p) c.response) 1 (counted (count_in w)) (omega arith)
          ∙ drop-set-lt window_slots (set w (34 + p) c.task) (290 + p) c.response (omega (arith, low))
          ∙ drop-set-lt window_slots w (34 + p) c.task (omega (arith, low));
      long = length_with w c l;
    }

same_call : (w : List ℕ) (c : WindowCall) → WellFormed w → Same w (slots_after w c)
unfolding slots_after
same_call w (open_on s) f =
    by_opening s w (λ e. record { past = open_past s w e; long = open_length s w e }) (λ r e k. record { past = ap (drop window_slots) k; long = ap length k })
same_call w (finished c) f =
    by_task w c f (λ h k. record { past = ap (drop window_slots) k; long = ap length k }) (λ h k. subst (Same w) (sym k) (same_job w c f.long))

-- what the slots stand for
record Stands (v : Window) (w : List ℕ) : Type 0 where
  formed : WellFormed w
  tasks : tasks_in w ≡ v.sheet.count
  deadlines : (i : ℕ) → i < v.sheet.count → deadline_in w i ≡ v.sheet.deadline i
  held : held_in w ≡ last_of window_jobs v.accepted

stands_open : (s : Tasks) (w : List ℕ) → none ≡ refusal_of (open_inputs s w) → Stands (record { sheet = s; accepted = [] }) (open_after s w)
unfolding last_of
stands_open s w e = record { formed = open_forms s w e; tasks = open_tasks s w e; deadlines = open_deadline s w e; held = open_empty s w e }

stands_job : (v : Window) (w : List ℕ) (c : Completion) → Stands v w → Stands (after_job v c) (job_after w c)
unfolding after_job
stands_job v w c t =
    by_task w c t.formed
    (λ h k. rw (k, after_job, le-leb v.sheet.count c.task (omega (arith, t.tasks))) t)
    (λ h k. rw (k, after_job, lt-leb v.sheet.count c.task (omega (arith, t.tasks))) (more h))
  where
    more : c.task < tasks_in w → Stands (record { sheet = v.sheet; accepted = v.accepted ++ (c ∷ []) }) (with_job w c)
    more h =
        let f = t.formed in
        record {
          formed = job_forms w c f h;
          tasks = job_tasks w c f h ∙ t.tasks;
          deadlines = λ i b. job_deadline w c f h i (omega (arith, t.tasks)) ∙ t.deadlines i b;
          held =
              held_with w c f.long
              ∙ ap (λ l. last_of window_jobs (l ++ (c ∷ []))) t.held
              ∙ last_last window_jobs v.accepted (c ∷ []);
        }

stands_call : (v : Window) (w : List ℕ) (c : WindowCall) → Stands v w → Stands (after_call v c) (slots_after w c)
unfolding slots_after after_call after_open
stands_call v w (finished c) t = stands_job v w c t
stands_call v w (open_on s) t = by_opening s w (λ e. rw (after_open, ← (open_of s w e).0) (stands_open s w e)) (λ r e k. rw k (kept r e (check_tasks s) refl))
  where
    kept : (r : Refusal) → some r ≡ refusal_of (open_inputs s w) → (o : Option Refusal) → o ≡ check_tasks s → Stands (after_open v s) w
    kept r e none g =
        let n : none ≡ refusal_of (open_inputs s w) = open_fine s w g t.formed.long in
        let x : some r ≡ none = e ∙ sym n in
        let z : ◌≡◌ {A = ℕ} 0 1 = cc in absurd (omega arith)
    kept r e (some q) g = rw (after_open, ← g) t

stands_calls : (v : Window) (w : List ℕ) (l : List WindowCall) → Stands v w → Stands (after_calls v l) (slots_after_all w l)
unfolding slots_after_all after_calls
stands_calls v w [] t = t
stands_calls v w (c ∷ l) t = stands_calls (after_call v c) (slots_after w c) l (stands_call v w c t)

same_calls : (w : List ℕ) (l : List WindowCall) → WellFormed w → Same w (slots_after_all w l)
unfolding slots_after_all
same_calls w [] f = record { past = refl; long = refl }
same_calls w (c ∷ l) f =
    let a = same_call w c f in
    let b = same_calls (slots_after w c) l (calls_keep_form w c f) in
    record { past = b.past ∙ a.past; long = b.long ∙ a.long }

-- the next call answers as the definitions say
module _ (v : Window) (w : List ℕ) (t : Stands v w) where
  fine : none ≡ check_window w
  fine = let f = t.formed in window_fine w (record { long = f.long; some_task = f.some_task; few_tasks = f.few_tasks })

  code : (i : ℕ) → check_task_in w i ≡ refuse_if (leb v.sheet.count i) 14 i
  unfolding check_task_in
  code i = ap (λ n. first_refusal (check_window w ∷ refuse_if (leb n i) 14 i ∷ [])) t.tasks ∙ sym (last_decides _ ∙ next_check _ _ fine)

  shown : (i : ℕ) → i < v.sheet.count → shown_of i (deadline_in w i) (held_in w) ≡ display v i
  shown i h = ap₂ (shown_of i) (t.deadlines i h) t.held

  show_one : (i : ℕ) → show_call w i ≡ displayed v i
  unfolding displayed
  show_one i = go (le_or_lt v.sheet.count i)
    where
      go : (v.sheet.count ≤ i) ⊎ (i < v.sheet.count) → show_call w i ≡ displayed v i
      go (inl h) =
          sym (show_refused w i _ (task_missing w i fine (omega (arith, t.tasks)))) ∙ sym (rw (displayed, le-leb v.sheet.count i h) refl)
      go (inr h) =
          sym (show_answered w i (task_there w i fine (omega (arith, t.tasks))))
          ∙ ap answered (shown i h)
          ∙ sym (rw (displayed, lt-leb v.sheet.count i h) refl)

  -- a column of what is shown
  in_column : (f : Shown → ℕ) → table (λ i. f (shown_of i (deadline_in w i) (held_in w))) (tasks_in w) ≡ table (λ i. f (display v i)) v.sheet.count
  in_column f =
      ap (table (λ i. f (shown_of i (deadline_in w i) (held_in w)))) t.tasks ∙ table_agree _ _ v.sheet.count (λ i h. ap f (shown i h))

  opens : (s : Tasks) → refusal_of (open_inputs s w) ≡ check_tasks s
  opens s = go (check_tasks s) refl
    where
      go : (o : Option Refusal) → o ≡ check_tasks s → refusal_of (open_inputs s w) ≡ check_tasks s
      go none e = sym (open_fine s w e t.formed.long) ∙ e
      go (some r) e = sym (open_sheet s w r e) ∙ e

  shows : Shows v w
  shows =
      record {
        formed = t.formed;
        open_code = opens;
        job_code = λ c. code c.task;
        job_kept = λ c h. sym (job_refused w c _ (task_missing w c.task fine (omega (arith, t.tasks))));
        one = show_one;
        all_code =
            λ jobs late largest.
            sym (all_columns w jobs late largest fine) ∙ ap (λ n. check_slots (columns_lent n (length jobs) (length late) (length largest))) t.tasks;
        all_jobs = in_column (λ x. x.jobs);
        all_late = in_column (λ x. x.late);
        all_largest = in_column (λ x. x.largest);
      }

pub after_any_calls : AfterAnyCalls
after_any_calls s w l e =
    let o : none ≡ refusal_of (open_inputs s w) = sym e in
    let t = stands_calls (record { sheet = s; accepted = [] }) (open_after s w) l (stands_open s w o) in
    let k = same_calls (open_after s w) l (open_forms s w o) in
    record { shows = shows _ _ t; past = k.past ∙ open_past s w o; same = k.long ∙ open_length s w o }
