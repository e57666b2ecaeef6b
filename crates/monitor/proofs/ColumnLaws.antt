-- The columns of all tasks: cleared, then counted into job by job.
use Prim.Native.Nat.{ℕ, ◌+◌, ◌≤◌, ◌<◌, max}
use mathlib.Core.Path.{◌≡◌, refl, sym, ap, ap₂, ◌∙◌}
use mathlib.Core.Logic.{◌⊎◌, inl, inr}
use mathlib.Core.Option.{some, none}
use mathlib.Core.List.{List, [], ◌∷◌, ◌++◌}
use native.Mathlib.Omega.{arith}
use native.Mathlib.Numerals.{add-one}
use borrow.Author.Tests.{lt-ltb, le-ltb}
use lib.Dec.{ltb}
use lib.ListN.{length, get_or, drop, set, replicate, length-append, length-drop, get_or-append}
use Rattle.std.proofs.lemmas.List.{ext_get_or, length-replicate, get_or-replicate}
use lib.Seq.{drop_at, set-append_left}
use Rattle.model.specs.Series.{on, table}
use Rattle.model.specs.Refusal.{Refusal, refuse}
use Rattle.model.specs.Checks.{check_slots}
use Rattle.model.specs.LastJobs.{jobs_of, late_of, largest_of, window_jobs}
use Rattle.model.proofs.SeriesLaws.{le_or_lt}
use Rattle.model.proofs.CheckLaws.{slots_short, slots_next, slots_none, slot_of}
use Rattle.model.proofs.OrderLaws.{first_refusal_lem, next_check, last_decides}
use Rattle.model.proofs.TableLaws.{length_table, get_or_table, table_agree, table_set}
use Rattle.model.proofs.LastJobLaws.{jobs_le, late_le, jobs_own, late_own, largest_own, jobs_other, late_other, largest_other}
use Rattle.monitor.specs.Layout.{window_slots, tasks_in, deadline_in, job_in, used_in, held_in}
use Rattle.monitor.specs.MonitorCalls.{check_window, columns_lent, all_refusal, jobs_column, late_column, largest_column, slot_with, Countable}
use Rattle.monitor.proofs.TallyLaws.{shown_held}

-- the first n slots of a column are set to 0
pub cleared_lem : (n m : ℕ) (z o : List ℕ) → z ≡ replicate m 0 → m ≡ n → z ++ drop n o ≡ table (λ i. 0) n ++ drop n o
cleared_lem n m z o e k =
    ap (λ x. x ++ drop n o)
    (e
    ∙ ap (λ x. replicate x 0) k
    ∙ ext_get_or 0 (replicate n 0) (table (λ i. 0) n) (length-replicate {A = ℕ} n 0 ∙ sym (length_table (λ i. 0) n))
    (λ i b.
    let h : i < n = omega (arith, length-replicate {A = ℕ} n 0) in get_or-replicate {A = ℕ} n i 0 0 h ∙ sym (get_or_table (λ i. 0) 0 n i h)))

-- a slot changed, or none
module _ (n i : ℕ) (f : ℕ → ℕ) (l : List ℕ) where
  pub slot_own : i < n → set l i (f (get_or l i 0)) ≡ slot_with n i f l
  unfolding slot_with
  slot_own h = rw (slot_with, lt-ltb i n h)

  pub slot_none : n ≤ i → l ≡ slot_with n i f l
  unfolding slot_with
  slot_none h = rw (slot_with, le-ltb i n h)

-- a column of a function of the task, in which that of one task changes
column_with
    : (f g : ℕ → ℕ) (n i : ℕ) (h : ℕ → ℕ) (l r : List ℕ) → l ≡ table f n ++ r → ((j : ℕ) → j < n → (j ≡ i → ⊥) → g j ≡ f j) → (i < n → g i ≡ h (f i))
    → slot_with n i h l ≡ table g n ++ r
column_with f g n i h l r e other own = go (le_or_lt n i)
  where
    read : i < n → get_or l i 0 ≡ f i
    read b = ap (λ k. get_or k i 0) e ∙ get_or-append (table f n) r 0 i (omega (arith, length_table f n)) ∙ get_or_table f 0 n i b

    go : (n ≤ i) ⊎ (i < n) → slot_with n i h l ≡ table g n ++ r
    go (inl b) =
        sym (slot_none n i h l b) ∙ e ∙ ap (λ t. t ++ r) (sym (table_agree g f n (λ j a. other j a (λ (x : j ≡ i). omega arith))))
    go (inr b) =
        sym (slot_own n i h l b)
        ∙ ap (λ v. set l i (h v)) (read b)
        ∙ ap₂ (λ k v. set k i v) e (sym (own b))
        ∙ set-append_left (table f n) r i (g i) (omega (arith, length_table f n))
        ∙ ap (λ t. t ++ r) (sym (table_set f g n i b other))

-- the jobs at the first k places are counted into three columns of n tasks
pub record Counting (w : List ℕ) (n used k : ℕ) (jobs₀ late₀ largest₀ jobs late largest : List ℕ) : Type 0 where
  pub window_long : window_slots ≤ length w
  pub few : used ≤ window_jobs
  pub low : k ≤ used
  pub jobs_is : jobs ≡ jobs_column n (table (job_in w) k) ++ drop n jobs₀
  pub late_is : late ≡ late_column n (deadline_in w) (table (job_in w) k) ++ drop n late₀
  pub largest_is : largest ≡ largest_column n (table (job_in w) k) ++ drop n largest₀

module _ (w : List ℕ) (n used : ℕ) (jobs₀ late₀ largest₀ : List ℕ) where
  pub counting_none
      : (jobs late largest : List ℕ) → window_slots ≤ length w → used ≤ window_jobs → jobs ≡ table (λ i. 0) n ++ drop n jobs₀ → late ≡ table (λ i. 0) n ++ drop n late₀
      → largest ≡ table (λ i. 0) n ++ drop n largest₀ → Counting w n used 0 jobs₀ late₀ largest₀ jobs late largest
  unfolding table jobs_of late_of largest_of
  counting_none jobs late largest l f a b c =
      record { window_long = l; few = f; low = omega arith; jobs_is = a; late_is = b; largest_is = c }

  pub counting_next
      : (k : ℕ) (jobs late largest jobs' late' largest' : List ℕ) → Counting w n used k jobs₀ late₀ largest₀ jobs late largest → k < used
      → jobs' ≡ slot_with n (job_in w k).task (λ x. x + 1) jobs
      → late' ≡ slot_with n (job_in w k).task (λ x. x + on (ltb (deadline_in w (job_in w k).task) (job_in w k).response) 1) late
      → largest' ≡ slot_with n (job_in w k).task (λ x. max x (job_in w k).response) largest
      → Counting w n used (k + 1) jobs₀ late₀ largest₀ jobs' late' largest'
  unfolding table
  counting_next k jobs late largest jobs' late' largest' f h a b d =
      let c = job_in w k in
      let l = table (job_in w) k in
      record {
        window_long = f.window_long;
        few = f.few;
        low = omega arith;
        jobs_is =
            rw add-one
            (a
            ∙ column_with (λ i. jobs_of i l) (λ i. jobs_of i (l ++ (c ∷ []))) n c.task (λ x. x + 1) jobs (drop n jobs₀) f.jobs_is
            (λ j g ne. jobs_other c j l (λ e. ne (sym e))) (λ g. jobs_own c c.task l refl));
        late_is =
            rw add-one
            (b
            ∙ column_with (λ i. late_of i (deadline_in w i) l) (λ i. late_of i (deadline_in w i) (l ++ (c ∷ []))) n c.task
            (λ x. x + on (ltb (deadline_in w c.task) c.response) 1) late (drop n late₀) f.late_is
            (λ j g ne. late_other c j l (λ e. ne (sym e)) (deadline_in w j)) (λ g. late_own c c.task l refl (deadline_in w c.task)));
        largest_is =
            rw add-one
            (d
            ∙ column_with (λ i. largest_of i l) (λ i. largest_of i (l ++ (c ∷ []))) n c.task (λ x. max x c.response) largest (drop n largest₀) f.largest_is
            (λ j g ne. largest_other c j l (λ e. ne (sym e))) (λ g. largest_own c c.task l refl));
      }

-- a column of numbers below 2^32 - 1
countable : (f : ℕ → ℕ) (n : ℕ) (l r : List ℕ) → l ≡ table f n ++ r → ((i : ℕ) → f i < 4294967295) → Countable n l
countable f n l r e h =
    record {
      long = rw e (omega (arith, length-append (table f n) r, length_table f n));
      low = λ i b. rw e (rw (get_or-append (table f n) r 0 i (omega (arith, length_table f n)), get_or_table f 0 n i b) (h i));
    }

module _ (w : List ℕ) (n used k : ℕ) (jobs₀ late₀ largest₀ jobs late largest : List ℕ) (f : Counting w n used k jobs₀ late₀ largest₀ jobs late largest) (h : k < used) where
  pub counting_jobs : Countable n jobs
  counting_jobs =
      countable (λ i. jobs_of i (table (job_in w) k)) n jobs (drop n jobs₀) f.jobs_is
      (λ i. omega (arith, jobs_le i (table (job_in w) k), length_table (job_in w) k, f.few))

  pub counting_late : Countable n late
  counting_late =
      countable (λ i. late_of i (deadline_in w i) (table (job_in w) k)) n late (drop n late₀) f.late_is
      (λ i. omega (arith, late_le i (deadline_in w i) (table (job_in w) k), length_table (job_in w) k, f.few))

  pub counting_largest : n ≤ length largest
  counting_largest = rw f.largest_is (omega (arith, length-append (largest_column n (table (job_in w) k)) (drop n largest₀), length_table (λ i. largest_of i (table (job_in w) k)) n))

-- what stands past the slots of n tasks in a column that begins with a table
past_table : (f : ℕ → ℕ) (n : ℕ) (l o : List ℕ) → l ≡ table f n ++ drop n o → drop n l ≡ drop n o
past_table f n l o e = ap (drop n) e ∙ drop_at (table f n) (drop n o) n (length_table f n)

-- such a column has the slots that it had
pub column_long : (f : ℕ → ℕ) (n : ℕ) (l o : List ℕ) → n ≤ length o → l ≡ table f n ++ drop n o → length l ≡ length o
column_long f n l o h e = rw e (omega (arith, length-append (table f n) (drop n o), length_table f n, length-drop n o))

pub cleared_self : (n : ℕ) (l o : List ℕ) → l ≡ table (λ i. 0) n ++ drop n o → l ≡ table (λ i. 0) n ++ drop n l
cleared_self n l o e = e ∙ ap (λ r. table (λ i. 0) n ++ r) (sym (past_table (λ i. 0) n l o e))

-- every place in use is counted: the columns of the jobs held, and what stood past them before the columns were cleared
module _ (w : List ℕ) (n k : ℕ) (l₀ o l : List ℕ) (cleared : l₀ ≡ table (λ i. 0) n ++ drop n o) where
  all_counted : (f g : ℕ → ℕ) → l ≡ table f n ++ drop n l₀ → ((i : ℕ) → f i ≡ g i) → l ≡ table g n ++ drop n o
  all_counted f g e same = e ∙ ap₂ ◌++◌ (table_agree f g n (λ i b. same i)) (past_table (λ i. 0) n l₀ o cleared)

  pub jobs_all : l ≡ jobs_column n (table (job_in w) k) ++ drop n l₀ → used_in w ≤ k → k ≤ used_in w → l ≡ jobs_column n (held_in w) ++ drop n o
  jobs_all e h g = all_counted _ _ e (λ i. ap (λ t. t.jobs) (shown_held w i 0 k h g))

  pub late_all
      : l ≡ late_column n (deadline_in w) (table (job_in w) k) ++ drop n l₀ → used_in w ≤ k → k ≤ used_in w → l ≡ late_column n (deadline_in w) (held_in w) ++ drop n o
  late_all e h g = all_counted _ _ e (λ i. ap (λ t. t.late) (shown_held w i (deadline_in w i) k h g))

  pub largest_all : l ≡ largest_column n (table (job_in w) k) ++ drop n l₀ → used_in w ≤ k → k ≤ used_in w → l ≡ largest_column n (held_in w) ++ drop n o
  largest_all e h g = all_counted _ _ e (λ i. ap (λ t. t.largest) (shown_held w i 0 k h g))

-- the slots of the columns
module _ (n jobs late largest : ℕ) where
  pub jobs_short : jobs < n → refuse 13 n ≡ check_slots (columns_lent n jobs late largest)
  jobs_short h = slots_short (record { needed = n; slots = jobs }) _ h

  after_jobs : n ≤ jobs → check_slots (columns_lent n jobs late largest) ≡ check_slots (record { needed = n; slots = late } ∷ record { needed = n; slots = largest } ∷ [])
  after_jobs h = slots_next (record { needed = n; slots = jobs }) _ h

  pub late_short : n ≤ jobs → late < n → refuse 13 n ≡ check_slots (columns_lent n jobs late largest)
  late_short a h = slots_short (record { needed = n; slots = late }) _ h ∙ sym (after_jobs a)

  after_late : n ≤ jobs → n ≤ late → check_slots (columns_lent n jobs late largest) ≡ check_slots (record { needed = n; slots = largest } ∷ [])
  after_late a b = after_jobs a ∙ slots_next (record { needed = n; slots = late }) _ b

  pub largest_short : n ≤ jobs → n ≤ late → largest < n → refuse 13 n ≡ check_slots (columns_lent n jobs late largest)
  largest_short a b h = slots_short (record { needed = n; slots = largest }) [] h ∙ sym (after_late a b)

  pub columns_fine : n ≤ jobs → n ≤ late → n ≤ largest → none ≡ check_slots (columns_lent n jobs late largest)
  columns_fine a b h = slots_none ∙ sym (after_late a b ∙ slots_next (record { needed = n; slots = largest }) [] h)

  pub columns_of : none ≡ check_slots (columns_lent n jobs late largest) → (n ≤ jobs) × (n ≤ late) × (n ≤ largest)
  columns_of e =
      let a = slot_of (record { needed = n; slots = jobs }) _ e in
      let b = slot_of (record { needed = n; slots = late }) _ a.1 in
      let c = slot_of (record { needed = n; slots = largest }) _ b.1 in (a.0, b.0, c.0)

-- show all: the window's refusal, then the columns'
module _ (w jobs late largest : List ℕ) where
  pub all_window : (q : Refusal) → some q ≡ check_window w → some q ≡ all_refusal w jobs late largest
  unfolding all_refusal
  all_window q e = first_refusal_lem _ _ q e

  pub all_columns
      : none ≡ check_window w → check_slots (columns_lent (tasks_in w) (length jobs) (length late) (length largest)) ≡ all_refusal w jobs late largest
  unfolding all_refusal
  all_columns e = last_decides _ ∙ next_check _ _ e
