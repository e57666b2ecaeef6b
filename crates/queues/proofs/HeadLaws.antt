-- Laws of a run that keeps the oldest unfinished job of each task: which job runs in a tick, and which jobs are the oldest after some ticks.
use Prim.Native.Nat.{ℕ, suc, ◌+◌, ◌≤◌, ◌<◌}
use mathlib.Core.Path.{◌≡◌, refl, sym, ap, ◌∙◌}
use mathlib.Core.Logic.{◌⊎◌, inl, inr}
use mathlib.Core.Bool.{true}
use mathlib.Core.Option.{some, none}
use mathlib.Core.List.{List}
use native.Mathlib.Omega.{arith}
use native.Mathlib.Nat.{eq-or-lt_of_le}
use lib.ListN.{length, get_or, set, length-set}
use lib.Seq.{get_or-set_same, get_or-set_other}
use lib.Dec.{eqb}
use borrow.Author.Tests.{eqb-true, eqb-false}
use Rattle.model.specs.Limits.{max_tasks, max_releases}
use Rattle.model.specs.Run.{Jobs, left_at, runs, finish_of}
use Rattle.model.proofs.SeriesLaws.{le_by}
use Rattle.theory.proofs.JobWindows.{Served, Before}
use Rattle.theory.proofs.RunLaws.{runs_is, runs_nothing}
use Rattle.theory.proofs.FinishLaws.{finish_not, finish_late}
use Rattle.theory.proofs.JumpLaws.{same_or}
use Rattle.queues.specs.Queues.{max_finish, first_from}
use Rattle.queues.proofs.SearchedLaws.{Least, least_is}

-- jobs of tasks 0, .., tasks - 1, each with some work, whose start ticks never fall along a task; every turn has a tick of ours, and all are finished by the
-- largest finish tick
pub record Ordered (j : Jobs) (tasks : ℕ) : Type 0 where
  pub served : Served j
  pub few : j.count ≤ max_releases
  pub few_tasks : tasks ≤ max_tasks
  pub known : (p : ℕ) → p < j.count → j.task p < tasks
  pub some_work : (p : ℕ) → p < j.count → 1 ≤ j.work p
  pub in_order : (p q : ℕ) → p < q → q < j.count → j.task p ≡ j.task q → j.start p ≤ j.start q
  pub soon : (p : ℕ) → p < j.count → finish_of j p ≤ max_finish

-- a column with the oldest unfinished job of each task at tick t: those before it are finished, and those after it have not run
pub record Heads (j : Jobs) (tasks t : ℕ) (head : List ℕ) : Type 0 where
  pub long : length head ≡ 32
  pub within : (i : ℕ) → i < tasks → get_or head i 0 ≤ j.count
  pub own : (i : ℕ) → i < tasks → get_or head i 0 < j.count → j.task (get_or head i 0) ≡ i
  pub unfinished : (i : ℕ) → i < tasks → get_or head i 0 < j.count → 0 < left_at j t (get_or head i 0)
  pub before : (i p : ℕ) → i < tasks → p < get_or head i 0 → j.task p ≡ i → left_at j t p ≡ 0
  pub after : (i p : ℕ) → i < tasks → get_or head i 0 < p → p < j.count → j.task p ≡ i → left_at j t p ≡ j.work p

-- the oldest unfinished job of task i may run in tick t
abbrev pub May : Jobs → ℕ → List ℕ → ℕ → Type 0
May j t head i = (get_or head i 0 < j.count) × (j.start (get_or head i 0) ≤ t)

module _ (j : Jobs) (tasks : ℕ) (o : Ordered j tasks) where
  -- each job starts before the largest finish tick
  pub start_soon : (p : ℕ) → p < j.count → j.start p < max_finish
  start_soon p a = omega (arith, finish_late j o.served p a (o.some_work p a), o.soon p a)

  -- while a job is unfinished that tick has not come
  pub not_over : (t p : ℕ) → p < j.count → 0 < left_at j t p → t < max_finish
  not_over t p a b = omega (arith, finish_not j o.served p a (o.some_work p a) t b, o.soon p a)

  module _ (t : ℕ) (head : List ℕ) (h : Heads j tasks t head) where
    -- the oldest unfinished job of a task is no later in the list than another unfinished one of the task
    pub head_le : (p : ℕ) → p < j.count → 0 < left_at j t p → get_or head (j.task p) 0 ≤ p
    head_le p a b = le_by _ p (λ l. omega (arith, h.before (j.task p) p (o.known p a) l refl))

    -- and may run no later
    pub head_start : (p : ℕ) → p < j.count → 0 < left_at j t p → j.start (get_or head (j.task p) 0) ≤ j.start p
    head_start p a b = go (eq-or-lt_of_le (head_le p a b))
      where
        go : (get_or head (j.task p) 0 ≡ p) ⊎ (get_or head (j.task p) 0 < p) → j.start (get_or head (j.task p) 0) ≤ j.start p
        go (inl e) = rw e (omega arith)
        go (inr l) = o.in_order (get_or head (j.task p) 0) p l a (h.own (j.task p) (o.known p a) (omega arith))

    head_may : (p : ℕ) → p < j.count → j.start p ≤ t → 0 < left_at j t p → May j t head (j.task p)
    head_may p a b d = (omega (arith, head_le p a d), omega (arith, head_start p a d))

    -- the highest-priority task whose oldest unfinished job may run: that job goes before every job that may run, and runs where the tick is ours
    pub head_first
        : (i : ℕ)
        → i < tasks
        → May j t head i
        → ((k : ℕ) → k < i → May j t head k → ⊥)
        → (q : ℕ)
        → q < j.count
        → j.start q ≤ t
        → 0 < left_at j t q
        → Before j.task (get_or head i 0) q
    head_first i a m f q b d u =
        let e : j.task (get_or head i 0) ≡ i = h.own i a m.0 in
        let l : i ≤ j.task q = le_by i (j.task q) (λ g. f (j.task q) g (head_may q b d u)) in
        (omega arith, λ g. let s : j.task q ≡ i = omega arith in rw s at (head_le q b u))

    pub runs_head : j.ours t ≡ true → (i : ℕ) → i < tasks → May j t head i → ((k : ℕ) → k < i → May j t head k → ⊥) → runs j t ≡ some (get_or head i 0)
    runs_head e i a m f = runs_is j t e (get_or head i 0) m.0 m.1 (h.unfinished i a m.0) (head_first i a m f)

    -- where the oldest unfinished job of no task may run, every job that may run is finished, and none runs
    pub head_none : ((k : ℕ) → k < tasks → May j t head k → ⊥) → (q : ℕ) → q < j.count → j.start q ≤ t → left_at j t q ≡ 0
    head_none f q a b =
        let z : left_at j t q ≤ 0 = le_by (left_at j t q) 0 (λ d. f (j.task q) (o.known q a) (head_may q a b d)) in
        omega arith

    pub runs_idle : ((k : ℕ) → k < tasks → May j t head k → ⊥) → runs j t ≡ none
    runs_idle f = runs_nothing j t (head_none f)

    -- where no task has an unfinished job, every job is finished
    pub all_finished : ((k : ℕ) → k < tasks → j.count ≤ get_or head k 0) → (p : ℕ) → p < j.count → left_at j t p ≡ 0
    all_finished f p a = h.before (j.task p) p (o.known p a) (omega (arith, f (j.task p) (o.known p a))) refl

    -- at another tick u at which every job has the same work left, the oldest unfinished jobs are the same
    pub heads_rest : (u : ℕ) → ((q : ℕ) → left_at j u q ≡ left_at j t q) → Heads j tasks u head
    heads_rest u same =
        record {
          long = h.long;
          within = h.within;
          own = h.own;
          unfinished = λ i l g. rw (same (get_or head i 0)) (h.unfinished i l g);
          before = λ i p l g e. same p ∙ h.before i p l g e;
          after = λ i p l g a e. same p ∙ h.after i p l g a e;
        }

    -- at another tick u at which every job has the same work left but for p, the oldest unfinished one of task i
    module _ (u i p : ℕ) (hi : i < tasks) (hp : get_or head i 0 ≡ p) (inside : p < j.count)
        (other : (q : ℕ) → (q ≡ p → ⊥) → left_at j u q ≡ left_at j t q) where
      own_task : j.task p ≡ i
      own_task = rw hp at (h.own i hi (omega arith))

      -- the oldest unfinished job of another task is not it
      head_other : (k : ℕ) → k < tasks → get_or head k 0 < j.count → (k ≡ i → ⊥) → get_or head k 0 ≡ p → ⊥
      head_other k l g n e = n (sym (h.own k l g) ∙ ap j.task e ∙ own_task)

      -- a job of task k that stands elsewhere than the head of its queue is not it
      not_head : (k q : ℕ) → j.task q ≡ k → (q ≡ get_or head k 0 → ⊥) → q ≡ p → ⊥
      not_head k q e n x =
          let v : get_or head k 0 ≡ p = ap (λ m. get_or head m 0) (sym e ∙ ap j.task x ∙ own_task) ∙ hp in
          n (x ∙ sym v)

      before_next : (k q : ℕ) → k < tasks → q < get_or head k 0 → j.task q ≡ k → left_at j u q ≡ 0
      before_next k q l g e = other q (not_head k q e (λ x. omega arith)) ∙ h.before k q l g e

      after_next : (k q : ℕ) → k < tasks → get_or head k 0 < q → q < j.count → j.task q ≡ k → left_at j u q ≡ j.work q
      after_next k q l g b e = other q (not_head k q e (λ x. omega arith)) ∙ h.after k q l g b e

      -- it is unfinished at u
      pub heads_run : 0 < left_at j u p → Heads j tasks u head
      heads_run pos =
          record {
            long = h.long;
            within = h.within;
            own = h.own;
            unfinished = λ k l g. open_next k l g (same_or k i);
            before = before_next;
            after = after_next;
          }
        where
          open_next : (k : ℕ) → k < tasks → get_or head k 0 < j.count → (k ≡ i) ⊎ (k ≡ i → ⊥) → 0 < left_at j u (get_or head k 0)
          open_next k l g (inl x) = rw (x, hp) pos
          open_next k l g (inr n) = rw (other (get_or head k 0) (head_other k l g n)) (h.unfinished k l g)

      -- it is finished at u: the next of its task is the oldest
      module _ (done : left_at j u p ≡ 0) (next : ℕ) (f : next ≡ first_from (λ q. eqb (j.task q) i) j.count (p + 1)) where
        found : Least (λ q. eqb (j.task q) i) j.count (p + 1) next
        found = least_is (λ q. eqb (j.task q) i) j.count (p + 1) next (omega arith) f

        -- which has not run
        pub next_whole : next < j.count → left_at j u next ≡ j.work next
        next_whole g = after_next i next hi (omega (arith, found.low, hp)) g (eqb-true _ _ (found.found g))

        pub heads_done : Heads j tasks u (set head i next)
        heads_done =
            record {
              long = length-set head i next ∙ h.long;
              within = λ k l. within k l (same_or k i);
              own = λ k l. own k l (same_or k i);
              unfinished = λ k l. unfinished k l (same_or k i);
              before = λ k q l. before k q l (same_or k i);
              after = λ k q l. after k q l (same_or k i);
            }
          where
            here : get_or (set head i next) i 0 ≡ next
            here = get_or-set_same head i next 0 (omega (arith, h.long, o.few_tasks))

            there : (k : ℕ) → (k ≡ i → ⊥) → get_or (set head i next) k 0 ≡ get_or head k 0
            there k n = get_or-set_other head i k next 0 n

            within : (k : ℕ) → k < tasks → (k ≡ i) ⊎ (k ≡ i → ⊥) → get_or (set head i next) k 0 ≤ j.count
            within k l (inl x) = rw (x, here) found.high
            within k l (inr n) = rw (there k n) (h.within k l)

            own : (k : ℕ) → k < tasks → (k ≡ i) ⊎ (k ≡ i → ⊥) → get_or (set head i next) k 0 < j.count → j.task (get_or (set head i next) k 0) ≡ k
            own k l (inl x) = rw (x, here) (λ g. eqb-true _ _ (found.found g))
            own k l (inr n) = rw (there k n) (h.own k l)

            fresh : next < j.count → 0 < left_at j u next
            fresh g = omega (arith, next_whole g, o.some_work next g)

            unfinished : (k : ℕ) → k < tasks → (k ≡ i) ⊎ (k ≡ i → ⊥) → get_or (set head i next) k 0 < j.count → 0 < left_at j u (get_or (set head i next) k 0)
            unfinished k l (inl x) = rw (x, here) fresh
            unfinished k l (inr n) = rw (there k n) (λ g. rw (other (get_or head k 0) (head_other k l g n)) (h.unfinished k l g))

            -- between the job that ran and the next one of its task there is none of the task
            passed : (q : ℕ) → q < next → j.task q ≡ i → (q ≡ p) ⊎ (q ≡ p → ⊥) → left_at j u q ≡ 0
            passed q l x (inl b) = rw b done
            passed q l x (inr n) =
                before_next i q hi (rw hp (le_by (suc q) p (λ b. eqb-false _ _ (found.before q (omega (arith, n)) l) x))) x

            before : (k q : ℕ) → k < tasks → (k ≡ i) ⊎ (k ≡ i → ⊥) → q < get_or (set head i next) k 0 → j.task q ≡ k → left_at j u q ≡ 0
            before k q l (inl x) = rw (x, here) (λ g y. passed q g y (same_or q p))
            before k q l (inr n) = rw (there k n) (λ g y. before_next k q l g y)

            after : (k q : ℕ) → k < tasks → (k ≡ i) ⊎ (k ≡ i → ⊥) → get_or (set head i next) k 0 < q → q < j.count → j.task q ≡ k → left_at j u q ≡ j.work q
            after k q l (inl x) = rw (x, here) (λ g b y. after_next i q hi (omega (arith, found.low, hp)) b y)
            after k q l (inr n) = rw (there k n) (λ g b y. after_next k q l g b y)
