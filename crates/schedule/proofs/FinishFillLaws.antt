-- The run over columns: from the functions' answers to the state of the next tick, and from the last state to the finish column.
use Prim.Native.Nat.{ℕ, suc, ◌+◌, ◌-◌, ◌≤◌, ◌<◌}
use mathlib.Core.Path.{◌≡◌, ◌∙◌}
use mathlib.Core.Logic.{◌⊎◌, inl, inr}
use mathlib.Core.Bool.{true, false}
use mathlib.Core.Option.{Option, some}
use mathlib.Core.List.{List, ◌++◌}
use native.Mathlib.Omega.{arith}
use lib.ListN.{get_or, set, drop}
use Rattle.model.specs.Series.{table}
use Rattle.model.specs.Frame.{Frame, ours_in}
use Rattle.model.specs.Run.{Jobs, left_at, runs, finish_of}
use Rattle.model.specs.Slots.{Holds}
use Rattle.model.proofs.SeriesLaws.{le_by}
use Rattle.theory.proofs.RunLaws.{runs_off, runs_nothing}
use Rattle.queues.specs.Queues.{jobs_of, max_finish, next_of, top_ready, wake_of, wake_all, never, work_of, Runnable}
use Rattle.queues.proofs.SearchedLaws.{work_in, wake_in, wake_out, earliest_le, earliest_is}
use Rattle.queues.proofs.HeadLaws.{Ordered, May, start_soon, not_over, head_le, head_start, runs_head, runs_idle, all_finished}
use Rattle.queues.proofs.ColumnLaws.{ordered, heads_start, none_above, none_found, one_found}
use Rattle.queues.proofs.LeftColumnLaws.{lefts_start}
use Rattle.queues.proofs.FinishColumnLaws.{written_start, written_end}
use Rattle.schedule.proofs.TickLaws.{Running, tick_idle, tick_run, tick_finish}

-- the oldest unfinished job of task i runs in tick t
pub record Top (j : Jobs) (tasks t : ℕ) (head left : List ℕ) (i : ℕ) : Type 0 where
  pub task_in_lem : i < tasks
  pub inside : get_or head i 0 < j.count
  pub picked : runs j t ≡ some (get_or head i 0)
  pub some_left : 1 ≤ get_or left i 0
  pub not_last : t < max_finish

-- what holds at the beginning of tick t
pub record Filling (o : Option Frame) (n tasks : ℕ) (task cost : List ℕ) (charge : ℕ) (ready held : List ℕ) (t wake : ℕ) (head left finish : List ℕ) : Type 0 where
  pub can : Runnable o n tasks task cost charge ready held
  pub state : Running (jobs_of o n task cost charge ready) tasks t wake head left finish held

module _ (o : Option Frame) (n tasks : ℕ) (task cost : List ℕ) (charge : ℕ) (ready held : List ℕ) (r : Runnable o n tasks task cost charge ready held) where
  running : Ordered (jobs_of o n task cost charge ready) tasks
  running = ordered o n tasks task cost charge ready held r

  filling
      : (t wake : ℕ) (head left finish : List ℕ) → Running (jobs_of o n task cost charge ready) tasks t wake head left finish held
      → Filling o n tasks task cost charge ready held t wake head left finish
  filling t wake head left finish s = record { can = r; state = s }

  -- the state before the first tick
  pub fill_start : (head left : List ℕ)
      → Holds (λ i. next_of task n i 0) tasks 32 head
      → Holds (λ i. work_of cost charge n (get_or head i 0)) tasks 32 left
      → Filling o n tasks task cost charge ready held 0 0 head left held
  fill_start head left a b =
      filling 0 0 head left held
      record {
        heads = heads_start o n tasks task cost charge ready held r head a;
        lefts = lefts_start o n tasks task cost charge ready head left b;
        written = written_start (jobs_of o n task cost charge ready) held r.finish_long r.work_low;
        asleep = λ p l g e. absurd (omega arith);
        wake_soon = omega arith;
        time = omega arith;
      }

  module _ (t wake : ℕ) (head left finish : List ℕ) (s : Running (jobs_of o n task cost charge ready) tasks t wake head left finish held) where
    -- a tick before the next one in which a job may run
    pub fill_sleep : t < wake → Filling o n tasks task cost charge ready held (t + 1) wake head left finish
    fill_sleep h =
        filling (t + 1) wake head left finish
        (tick_idle (jobs_of o n task cost charge ready) tasks running t wake head left finish held s wake
        (runs_nothing (jobs_of o n task cost charge ready) t (λ q a b. s.asleep q a h (omega arith)))
        (λ p a g b. s.asleep p a h b)
        s.wake_soon
        (omega (arith, s.wake_soon)))

    -- a tick in which no job may run, where some job is unfinished
    pub fill_idle : (i new : ℕ)
        → i ≡ top_ready head ready n tasks t
        → i ≡ tasks
        → new ≡ wake_all head ready n tasks
        → (new ≡ never → ⊥)
        → Filling o n tasks task cost charge ready held (t + 1) new head left finish
    fill_idle i new e g f h = filling (t + 1) new head left finish (go (earliest_is (λ k. wake_of ready n (get_or head k 0)) tasks))
      where
        rests : (k : ℕ) → k < tasks → May (jobs_of o n task cost charge ready) t head k → ⊥
        rests = none_found o n tasks task cost charge ready head t s.time i e g

        early : (p : ℕ) → p < n → t + 1 < new → (jobs_of o n task cost charge ready).start p < new → left_at (jobs_of o n task cost charge ready) t p ≡ 0
        early p l g a =
            let z : left_at (jobs_of o n task cost charge ready) t p ≤ 0 = le_by (left_at (jobs_of o n task cost charge ready) t p) 0 none_left in
            omega arith
          where
            none_left : 0 < left_at (jobs_of o n task cost charge ready) t p → ⊥
            none_left u =
                let x : get_or head (get_or task p 0) 0 ≤ p = head_le (jobs_of o n task cost charge ready) tasks running t head s.heads p l u in
                omega (
                  arith,
                  f,
                  earliest_le (λ k. wake_of ready n (get_or head k 0)) tasks (get_or task p 0) (r.known p l),
                  wake_in ready n (get_or head (get_or task p 0) 0) (omega arith),
                  head_start (jobs_of o n task cost charge ready) tasks running t head s.heads p l u,
                )

        wakes : (k : ℕ) → k < tasks → new ≡ wake_of ready n (get_or head k 0) → Running (jobs_of o n task cost charge ready) tasks (t + 1) new head left finish held
        wakes k l x =
            tick_idle (jobs_of o n task cost charge ready) tasks running t wake head left finish held s new
            (runs_idle (jobs_of o n task cost charge ready) tasks running t head s.heads rests)
            early
            (omega (arith, before_end))
            (omega (arith, before_end, later))
          where
            inside : get_or head k 0 < n
            inside = le_by (suc (get_or head k 0)) n (λ a. h (x ∙ wake_out ready n (get_or head k 0) (omega arith)))

            at : new ≡ (jobs_of o n task cost charge ready).start (get_or head k 0)
            at = x ∙ wake_in ready n (get_or head k 0) inside

            before_end : new ≤ max_finish
            before_end = omega (arith, at, start_soon (jobs_of o n task cost charge ready) tasks running (get_or head k 0) inside)

            later : t < new
            later = le_by (suc t) new (λ a. rests k l (inside, omega (arith, at)))

        go : (wake_all head ready n tasks ≡ never) ⊎ ((k : ℕ) × (k < tasks) × (wake_all head ready n tasks ≡ wake_of ready n (get_or head k 0)))
            → Running (jobs_of o n task cost charge ready) tasks (t + 1) new head left finish held
        go (inl x) = absurd (h (f ∙ x))
        go (inr (k, l, x)) = wakes k l (f ∙ x)

    -- some job may run
    module _ (i : ℕ) (e : i ≡ top_ready head ready n tasks t) (g : i ≡ tasks → ⊥) where
      found : (i < tasks) × May (jobs_of o n task cost charge ready) t head i
      found = one_found o n tasks task cost charge ready head t s.time i e g

      unfinished : 0 < left_at (jobs_of o n task cost charge ready) t (get_or head i 0)
      unfinished = s.heads.unfinished i found.0 found.1.0

      pub some_soon : t < max_finish
      some_soon = not_over (jobs_of o n task cost charge ready) tasks running t (get_or head i 0) found.1.0 unfinished

      -- the tick is not ours
      pub fill_off : wake ≤ t → ours_in o t ≡ false → Filling o n tasks task cost charge ready held (t + 1) wake head left finish
      fill_off a h =
          filling (t + 1) wake head left finish
          (tick_idle (jobs_of o n task cost charge ready) tasks running t wake head left finish held s wake
          (runs_off (jobs_of o n task cost charge ready) t h)
          (λ p l b d. absurd (omega arith))
          s.wake_soon
          some_soon)

      -- it is ours: the job that runs
      pub fill_top : ours_in o t ≡ true → Top (jobs_of o n task cost charge ready) tasks t head left i
      fill_top h =
          record {
            task_in_lem = found.0;
            inside = found.1.0;
            picked = runs_head (jobs_of o n task cost charge ready) tasks running t head s.heads h i found.0 found.1
                (none_above o n tasks task cost charge ready head t s.time i e);
            some_left = omega (arith, s.lefts.each i found.0 found.1.0, unfinished);
            not_last = some_soon;
          }

    -- that job is not finished after the tick
    pub fill_run : (i rest : ℕ)
        → Top (jobs_of o n task cost charge ready) tasks t head left i
        → wake ≤ t
        → rest ≡ get_or left i 0 - 1
        → (rest ≡ 0 → ⊥)
        → Filling o n tasks task cost charge ready held (t + 1) wake head (set left i rest) finish
    fill_run i rest k a b d =
        filling (t + 1) wake head (set left i rest) finish
        (tick_run (jobs_of o n task cost charge ready) tasks running t wake head left finish held s i k.task_in_lem k.inside k.picked a rest b (omega (arith, d)))

    -- it is finished after the tick
    pub fill_done : (i rest next work : ℕ)
        → Top (jobs_of o n task cost charge ready) tasks t head left i
        → wake ≤ t
        → rest ≡ get_or left i 0 - 1
        → rest ≡ 0
        → next ≡ next_of task n i (get_or head i 0 + 1)
        → work ≡ work_of cost charge n next
        → Filling o n tasks task cost charge ready held (t + 1) wake (set head i next) (set left i work) (set finish (get_or head i 0) (t + 1))
    fill_done i rest next work k a b d g c =
        filling (t + 1) wake (set head i next) (set left i work) (set finish (get_or head i 0) (t + 1))
        (tick_finish (jobs_of o n task cost charge ready) tasks running t wake head left finish held s i k.task_in_lem k.inside k.picked a rest next work b d g
        (λ l. c ∙ work_in cost charge n next l))

    -- every job is finished: the column
    pub fill_end : wake_all head ready n tasks ≡ never → finish ≡ table (finish_of (jobs_of o n task cost charge ready)) n ++ drop n held
    fill_end e =
        written_end (jobs_of o n task cost charge ready) t finish held s.written
        (all_finished (jobs_of o n task cost charge ready) tasks running t head s.heads none_left)
      where
        none_left : (k : ℕ) → k < tasks → n ≤ get_or head k 0
        none_left k l =
            le_by n (get_or head k 0)
            (λ a. omega (
              arith,
              earliest_le (λ x. wake_of ready n (get_or head x 0)) tasks k l,
              wake_in ready n (get_or head k 0) a,
              start_soon
                  (jobs_of o n task cost charge ready) tasks running (get_or head k 0) a,
            ))
