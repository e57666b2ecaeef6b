-- Jobs in columns that can be run: what is known of them, the oldest job of each task before the first tick, and what the search for the job that runs finds.
use Prim.Native.Nat.{ℕ, suc, ◌≤◌, ◌<◌}
use mathlib.Core.Path.{◌≡◌}
use mathlib.Core.Bool.{true, false}
use mathlib.Core.Option.{Option}
use mathlib.Core.List.{List}
use native.Mathlib.Omega.{arith}
use lib.ListN.{get_or}
use lib.Dec.{leb, eqb}
use borrow.Author.Tests.{leb-true, leb-false, eqb-true, eqb-false}
use Rattle.model.specs.Frame.{Frame}
use Rattle.model.proofs.SeriesLaws.{le_by}
use Rattle.model.proofs.FrameLaws.{turn_served}
use Rattle.theory.proofs.RunLaws.{left_zero}
use Rattle.model.specs.Slots.{Holds}
use Rattle.queues.specs.Queues.{jobs_of, max_finish, next_of, top_ready, wake_of, Timely, Runnable}
use Rattle.queues.proofs.SearchedLaws.{Least, least_is, wake_in, wake_out}
use Rattle.queues.proofs.HeadLaws.{Ordered, Heads, May, start_soon}

module _ (o : Option Frame) (n tasks : ℕ) (task cost : List ℕ) (charge : ℕ) (ready finish : List ℕ) (r : Runnable o n tasks task cost charge ready finish) where
  pub ordered : Ordered (jobs_of o n task cost charge ready) tasks
  ordered =
      record {
        served = turn_served o r.framed;
        few = r.few;
        few_tasks = r.few_tasks;
        known = r.known;
        some_work = r.work_low;
        in_order = λ p q a b e. omega (arith, r.in_order p q a b e);
        soon = r.finish_high;
      }

  -- each job may run before its finish, and so before never
  pub timely : Timely n ready
  timely = record { long = r.ready_long; soon = λ p l. omega (arith, start_soon (jobs_of o n task cost charge ready) tasks ordered p l) }

  -- before the first tick the oldest unfinished job of a task is its first
  pub heads_start : (head : List ℕ) → Holds (λ i. next_of task n i 0) tasks 32 head → Heads (jobs_of o n task cost charge ready) tasks 0 head
  heads_start head b =
      record {
        long = b.long;
        within = λ i l. (found i l).high;
        own = λ i l g. eqb-true _ _ ((found i l).found g);
        unfinished = λ i l g. omega (arith, left_zero (jobs_of o n task cost charge ready) (get_or head i 0), r.work_low (get_or head i 0) g);
        before = λ i p l g e. absurd (eqb-false _ _ ((found i l).before p (omega arith) g) e);
        after = λ i p l g h e. left_zero (jobs_of o n task cost charge ready) p;
      }
    where
      found : (i : ℕ) → i < tasks → Least (λ p. eqb (get_or task p 0) i) n 0 (get_or head i 0)
      found i l = least_is (λ p. eqb (get_or task p 0) i) n 0 (get_or head i 0) (omega arith) (b.each i l)

-- the search for the highest-priority task whose oldest unfinished job may run in tick t
module _ (o : Option Frame) (n tasks : ℕ) (task cost : List ℕ) (charge : ℕ) (ready head : List ℕ) (t : ℕ) (time : t ≤ max_finish) (i : ℕ) (e : i ≡ top_ready head ready n tasks t) where
  searched : Least (λ k. leb (wake_of ready n (get_or head k 0)) t) tasks 0 i
  searched = least_is (λ k. leb (wake_of ready n (get_or head k 0)) t) tasks 0 i (omega arith) e

  may_yes : (k : ℕ) → leb (wake_of ready n (get_or head k 0)) t ≡ true → May (jobs_of o n task cost charge ready) t head k
  may_yes k g = (inside, omega (arith, leb-true (wake_of ready n (get_or head k 0)) t g, wake_in ready n (get_or head k 0) inside))
    where
      inside : get_or head k 0 < n
      inside =
          le_by (suc (get_or head k 0)) n (λ l. omega (arith, leb-true (wake_of ready n (get_or head k 0)) t g, wake_out ready n (get_or head k 0) (omega arith)))

  may_no : (k : ℕ) → leb (wake_of ready n (get_or head k 0)) t ≡ false → May (jobs_of o n task cost charge ready) t head k → ⊥
  may_no k g m = omega (arith, leb-false (wake_of ready n (get_or head k 0)) t g, wake_in ready n (get_or head k 0) m.0)

  -- no task above the one that it finds has such a job
  pub none_above : (k : ℕ) → k < i → May (jobs_of o n task cost charge ready) t head k → ⊥
  none_above k l = may_no k (searched.before k (omega arith) l)

  -- where it finds none, no task has
  pub none_found : i ≡ tasks → (k : ℕ) → k < tasks → May (jobs_of o n task cost charge ready) t head k → ⊥
  none_found g k l = none_above k (omega arith)

  -- the one that it finds has
  pub one_found : (i ≡ tasks → ⊥) → (i < tasks) × May (jobs_of o n task cost charge ready) t head i
  one_found g = let l : i < tasks = omega (arith, searched.high, g) in (l, may_yes i (searched.found l))
