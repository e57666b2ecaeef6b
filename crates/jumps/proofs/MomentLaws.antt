-- The state of the run that jumps from moment to moment: oldest unfinished jobs and their work left, the next start tick, the finish ticks written so far,
-- and the stops made so far.
use Prim.Native.Nat.{ℕ, suc, ◌+◌, ◌-◌, ◌*◌, ◌≤◌, ◌<◌}
use mathlib.Core.Path.{◌≡◌, refl, sym, ap, ◌∙◌}
use mathlib.Core.Logic.{◌⊎◌, inl, inr}
use mathlib.Core.Bool.{true}
use mathlib.Core.Option.{Option}
use mathlib.Core.List.{List, ◌++◌}
use native.Mathlib.Omega.{arith}
use lib.Dec.{leb}
use lib.ListN.{get_or, set, drop, length-append}
use Rattle.model.specs.Limits.{max_time}
use Rattle.model.specs.Series.{table}
use Rattle.model.specs.Stops.{has, different}
use Rattle.model.specs.Frame.{Frame, ours_in, supply}
use Rattle.model.specs.Run.{Jobs, left_at, finish_of}
use Rattle.model.specs.Slots.{Holds}
use Rattle.model.proofs.SeriesLaws.{le_by}
use Rattle.model.proofs.SupplyLaws.{supply_longer}
use Rattle.model.proofs.TableLaws.{length_table}
use Rattle.model.proofs.StopLaws.{has_append, has_behind, has_either, has_table, table_has, below, below_none, below_next, below_all, below_le}
use Rattle.theory.proofs.RunLaws.{left_le}
use Rattle.theory.proofs.FinishLaws.{finish_by, finish_done, finish_not, finish_late}
use Rattle.theory.proofs.JumpLaws.{Keeps, Rests, NoStart, left_rests, left_keeps, left_others, rests, keeps, finish_keeps, left_supplied, rests_none, keeps_only}
use Rattle.frame.specs.Reached.{Reached}
use Rattle.frame.proofs.ReachedLaws.{reached_exact, reached_low, reached_high}
use Rattle.queues.specs.Queues.{jobs_of, max_finish, first_from, next_of, top_ready, never, wake_of, work_of, Runnable}
use Rattle.queues.proofs.SearchedLaws.{work_in}
use Rattle.queues.proofs.HeadLaws.{Ordered, Heads, May, start_soon, head_first, head_none, heads_rest, heads_run, heads_done}
use Rattle.queues.proofs.ColumnLaws.{ordered, timely, heads_start, none_above, none_found, one_found}
use Rattle.queues.proofs.LeftColumnLaws.{Lefts, lefts_start, lefts_rest, lefts_run, lefts_done}
use Rattle.queues.proofs.FinishColumnLaws.{Written, written_start, written_rest, written_run, written_done, written_end}
use Rattle.jumps.specs.Jumps.{stops_of, Queued, Waking, Sinces}
use Rattle.jumps.proofs.WakeLaws.{awake_start, waking_later, since_top, sinces_done}

-- what holds at tick t, a stop or the beginning. The column of finish ticks held `held`
pub record Moment (o : Option Frame) (n tasks : ℕ) (task cost : List ℕ) (charge : ℕ) (ready held : List ℕ) (t wake stops : ℕ)
    (head since left coming due finish : List ℕ) : Type 0 where
  pub can : Runnable o n tasks task cost charge ready held
  pub heads : Heads (jobs_of o n task cost charge ready) tasks t head
  pub lefts : Lefts (jobs_of o n task cost charge ready) tasks t head left
  pub sinces : Sinces n tasks ready head since
  pub waking : Waking n tasks task ready t wake coming due
  pub written : Written (jobs_of o n task cost charge ready) t finish held
  pub counted : stops ≡ below (stops_of (jobs_of o n task cost charge ready)) (suc t)
  pub time : t ≤ max_finish

-- the job that runs from t on: the oldest unfinished one of task i
pub record Front (n tasks : ℕ) (head left : List ℕ) (i : ℕ) : Type 0 where
  pub task_in_lem : i < tasks
  pub inside : get_or head i 0 < n
  pub some_left : 1 ≤ get_or left i 0
  pub left_high : get_or left i 0 ≤ max_time

module _ (o : Option Frame) (n tasks : ℕ) (task cost : List ℕ) (charge : ℕ) (ready held : List ℕ) (r : Runnable o n tasks task cost charge ready held) where
  abbrev j : Jobs
  j = jobs_of o n task cost charge ready

  order : Ordered j tasks
  order = ordered o n tasks task cost charge ready held r

  pub queued : Queued n tasks task ready
  queued =
      record {
        few_tasks = r.few_tasks;
        task_long = r.task_long;
        timely = timely o n tasks task cost charge ready held r;
        known = r.known;
        in_order = r.in_order;
      }

  -- a stop is a start tick or a finish tick
  start_stop : (p : ℕ) → p < n → has (stops_of j) (j.start p) ≡ true
  start_stop p a = has_append (table j.start n) (table (finish_of j) n) (j.start p) (has_table j.start n p a)

  finish_stop : (p : ℕ) → p < n → has (stops_of j) (finish_of j p) ≡ true
  finish_stop p a = has_behind (table j.start n) (table (finish_of j) n) (finish_of j p) (has_table (finish_of j) n p a)

  stop_is : (x : ℕ) → has (stops_of j) x ≡ true → ((p : ℕ) × (p < n) × (j.start p ≡ x)) ⊎ ((p : ℕ) × (p < n) × (finish_of j p ≡ x))
  stop_is x h = go (has_either (table j.start n) (table (finish_of j) n) x h)
    where
      go : (has (table j.start n) x ≡ true) ⊎ (has (table (finish_of j) n) x ≡ true)
          → ((p : ℕ) × (p < n) × (j.start p ≡ x)) ⊎ ((p : ℕ) × (p < n) × (finish_of j p ≡ x))
      go (inl g) = inl (table_has j.start n x g)
      go (inr g) = inr (table_has (finish_of j) n x g)

  -- by what holds of both
  stop_by : (x : ℕ) (A : Type 0)
      → has (stops_of j) x ≡ true
      → ((p : ℕ) → p < n → j.start p ≡ x → A)
      → ((p : ℕ) → p < n → finish_of j p ≡ x → A)
      → A
  stop_by x A h f g = go (stop_is x h)
    where
      go : ((p : ℕ) × (p < n) × (j.start p ≡ x)) ⊎ ((p : ℕ) × (p < n) × (finish_of j p ≡ x)) → A
      go (inl (p, a, e)) = f p a e
      go (inr (p, a, e)) = g p a e

  stop_soon : (x : ℕ) → has (stops_of j) x ≡ true → x < suc max_finish
  stop_soon x h = stop_by x (x < suc max_finish) h (λ p a e. omega (arith, start_soon j tasks order p a)) (λ p a e. omega (arith, r.finish_high p a))

  -- there are at most two for each job
  pub stops_few : (t : ℕ) → t ≤ max_finish → below (stops_of j) (suc t) ≤ 2 * n
  stops_few t h =
      omega (
        arith,
        below_le (stops_of j) (suc t) (suc max_finish) (omega arith) stop_soon,
        length-append (table j.start n) (table (finish_of j) n),
        length_table j.start n,
        length_table (finish_of j) n,
      )

  -- the state before the first tick
  pub moment_start : (head since left : List ℕ)
      → Holds (λ i. next_of task n i 0) tasks 32 head
      → Holds (λ i. wake_of ready n (get_or head i 0)) tasks 32 since
      → Holds (λ i. work_of cost charge n (get_or head i 0)) tasks 32 left
      → Moment o n tasks task cost charge ready held 0 0 0 head since left head since held
  moment_start head since left a d b =
      record {
        can = r;
        heads = heads_start o n tasks task cost charge ready held r head a;
        lefts = lefts_start o n tasks task cost charge ready head left b;
        sinces = record { long = d.long; each = d.each };
        waking = record { awake = awake_start n tasks task ready head since a d; next = λ l. absurd (omega arith) };
        written = written_start j held r.finish_long r.work_low;
        counted = sym (below_none (stops_of j) 1 (λ x l h. stop_by x ⊥ h (λ p g e. omega arith) (λ p g e. omega (arith, finish_late j order.served p g (r.work_low p g)))));
        time = omega arith;
      }

  -- a moment at which the next start tick after it is known, and the search for the job that runs was made
  module _ (t wake stops : ℕ) (head since left coming due finish : List ℕ)
      (s : Moment o n tasks task cost charge ready held t wake stops head since left coming due finish) (new : ℕ) (later soon : List ℕ)
      (w : Waking n tasks task ready t new later soon) (ahead : t < new) (i : ℕ) (found_first : i ≡ first_from (λ k. leb (get_or since k 0) t) tasks 0) where
    e : i ≡ top_ready head ready n tasks t
    e = since_top n tasks ready head since t i s.sinces found_first

    no_start : (k : ℕ) → t + k ≤ new → NoStart j t k
    no_start k l q a b = omega (arith, (w.next ahead).low q a (r.known q a) b)

    -- one stop more, at the first start tick or finish after t
    one_more : (u : ℕ) → t < u → u ≤ new → has (stops_of j) u ≡ true → ((q : ℕ) → q < n → t < finish_of j q → finish_of j q < u → ⊥)
        → stops + 1 ≡ below (stops_of j) (suc u)
    one_more u a b h f =
        omega (
          arith,
          s.counted,
          below_next (stops_of j) (suc t) u a
              (λ x l g y. stop_by x ⊥ y (λ p d z. omega (arith, no_start (new - t) (omega arith) p d (omega arith))) (λ p d z. f p d (omega arith) (omega arith)))
              h,
        )

    -- a start tick after t that is not never
    new_stop : (new ≡ never → ⊥) → (has (stops_of j) new ≡ true) × (new ≤ max_finish)
    new_stop h = go (w.next ahead).real
      where
        go : (new ≡ never) ⊎ ((q : ℕ) × (q < n) × (j.task q < tasks) × (t < j.start q) × (j.start q ≡ new))
            → (has (stops_of j) new ≡ true) × (new ≤ max_finish)
        go (inl x) = absurd (h x)
        go (inr (q, a, k, b, x)) = (rw x at (start_stop q a), omega (arith, start_soon j tasks order q a))

    later_waking : (u : ℕ) → t ≤ u → Waking n tasks task ready u new later soon
    later_waking u h = waking_later n tasks task ready t u new later soon h ahead w

    -- no job may run: on to the next start tick
    pub moment_wait : i ≡ tasks → (new ≡ never → ⊥) → Moment o n tasks task cost charge ready held new new (stops + 1) head since left later soon finish
    moment_wait g h =
        record {
          can = r;
          heads = heads_rest j tasks order t head s.heads new same;
          lefts = lefts_rest j tasks order t head left s.heads s.lefts new same;
          sinces = s.sinces;
          waking = later_waking new (omega arith);
          written = written_rest j t finish held s.written new same;
          counted = one_more new ahead (omega arith) (new_stop h).0 (λ q a b d. rests_none j order.served t q (new - t) a (r.work_low q a) rest b (omega arith));
          time = (new_stop h).1;
        }
      where
        to : t + (new - t) ≡ new
        to = omega arith

        rest : Rests j t (new - t)
        rest =
            rests j t (new - t) (no_start (new - t) (omega arith))
            (head_none j tasks order t head s.heads (none_found o n tasks task cost charge ready head t s.time i e g))

        same : (q : ℕ) → left_at j new q ≡ left_at j t q
        same q = rw to at (left_rests j t (new - t) rest q)

    -- every job is finished
    module _ (g : i ≡ tasks) (h : new ≡ never) where
      no_later : (p : ℕ) → p < n → j.start p ≤ t
      no_later p a = le_by (j.start p) t (λ b. omega (arith, (w.next ahead).low p a (r.known p a) b, start_soon j tasks order p a))

      done : (p : ℕ) → p < n → left_at j t p ≡ 0
      done p a = head_none j tasks order t head s.heads (none_found o n tasks task cost charge ready head t s.time i e g) p a (no_later p a)

      pub moment_end : (finish ≡ table (finish_of j) n ++ drop n held) × (stops ≡ different (stops_of j))
      moment_end = (
        written_end j t finish held s.written done,
        s.counted
            ∙ below_all (stops_of j) (suc t)
            (λ x y. stop_by x (x < suc t) y (λ p a z. omega (arith, no_later p a))
            (λ p a z. omega (arith, finish_by j order.served p a (r.work_low p a) t (done p a)))),
      )

    -- some job may run
    module _ (g : i ≡ tasks → ⊥) where
      found : (i < tasks) × May j t head i
      found = one_found o n tasks task cost charge ready head t s.time i e g

      unfinished : 0 < left_at j t (get_or head i 0)
      unfinished = s.heads.unfinished i found.0 found.1.0

      is_left : get_or left i 0 ≡ left_at j t (get_or head i 0)
      is_left = s.lefts.each i found.0 found.1.0

      pub front : Front n tasks head left i
      front =
          record {
            task_in_lem = found.0;
            inside = found.1.0;
            some_left = omega (arith, is_left, unfinished);
            left_high = omega (arith, is_left, left_le j t (get_or head i 0), r.workable.high (get_or head i 0) found.1.0);
          }

      -- its work left takes d ticks
      module _ (d : ℕ) (takes : Reached (ours_in o) t (get_or left i 0) d) where
        pub some_ticks : 1 ≤ d
        some_ticks = reached_low (ours_in o) t (get_or left i 0) d front.some_left takes

        -- it does not finish sooner, and so it ends by the largest finish tick
        pub end_soon : t + d ≤ max_finish
        end_soon =
            omega (
              arith,
              not_yet,
              reached_high (ours_in o) t (get_or left i 0) d (finish_of j (get_or head i 0) - t) takes
                  (omega (arith, is_left, left_supplied j order.served t (get_or head i 0) (finish_of j (get_or head i 0) - t) found.1.0 some_work (omega arith))),
              r.finish_high (get_or head i 0) found.1.0,
            )
          where
            some_work : 1 ≤ j.work (get_or head i 0)
            some_work = r.work_low (get_or head i 0) found.1.0

            not_yet : t < finish_of j (get_or head i 0)
            not_yet = finish_not j order.served (get_or head i 0) found.1.0 some_work t unfinished

        -- it keeps the processor up to the next start tick, while it has work left
        kept : (k : ℕ) → t + k ≤ new → k ≤ d → Keeps j t (get_or head i 0) k
        kept k a b =
            keeps j t (get_or head i 0) found.1.0 found.1.1
            (head_first j tasks order t head s.heads i found.0 found.1 (none_above o n tasks task cost charge ready head t s.time i e))
            k (no_start k a)
            (omega (arith, supply_longer (ours_in o) t k d b, reached_exact (ours_in o) t (get_or left i 0) d takes, is_left))

        -- another job starts before it ends
        module _ (b : new < t + d) where
          -- less is done by then than it has left
          pub cut_less : supply (ours_in o) t (new - t) < get_or left i 0
          cut_less = takes.least (new - t) (omega arith)

          pub moment_cut : (rest : ℕ) → rest ≡ get_or left i 0 - supply (ours_in o) t (new - t)
              → Moment o n tasks task cost charge ready held new new (stops + 1) head since (set left i rest) later soon finish
          moment_cut rest x =
              record {
                can = r;
                heads = heads_run j tasks order t head s.heads new i (get_or head i 0) found.0 refl found.1.0 other (omega (arith, still, cut_less));
                lefts = lefts_run j tasks order t head left s.heads s.lefts new i found.0 found.1.0 other rest (omega (arith, still));
                sinces = s.sinces;
                waking = later_waking new (omega arith);
                written = written_run j t finish held s.written new (get_or head i 0) other (omega (arith, still, cut_less));
                counted = one_more new ahead (omega arith) (new_stop not_never).0 none_ends;
                time = (new_stop not_never).1;
              }
            where
              to : t + (new - t) ≡ new
              to = omega arith

              not_never : new ≡ never → ⊥
              not_never y = omega (arith, end_soon)

              long : Keeps j t (get_or head i 0) (new - t)
              long = kept (new - t) (omega arith) (omega arith)

              other : (q : ℕ) → (q ≡ get_or head i 0 → ⊥) → left_at j new q ≡ left_at j t q
              other q m = rw to at (left_others j t (get_or head i 0) (new - t) long q m)

              -- what it has left at the next start tick
              still : left_at j new (get_or head i 0) + supply (ours_in o) t (new - t) ≡ get_or left i 0
              still = (rw to at (left_keeps j t (get_or head i 0) (new - t) long)) ∙ sym is_left

              -- it does not finish before, nor does another
              none_ends : (q : ℕ) → q < n → t < finish_of j q → finish_of j q < new → ⊥
              none_ends q a c m =
                  let y : q ≡ get_or head i 0 = keeps_only j order.served t (get_or head i 0) q (new - t) a (r.work_low q a) long c (omega arith) in
                  let z : left_at j new q ≡ 0 = finish_done j order.served q a (r.work_low q a) new (omega arith) in
                  omega (arith, still, cut_less, ap (left_at j new) y)

        -- it ends before another starts, or when it does
        pub moment_done : (end next start work : ℕ)
            → end ≡ t + d
            → end ≤ new
            → next ≡ next_of task n i (get_or head i 0 + 1)
            → start ≡ wake_of ready n next
            → work ≡ work_of cost charge n next
            → Moment o n tasks task cost charge ready held end new (stops + 1) (set head i next) (set since i start) (set left i work) later soon
            (set finish (get_or head i 0) end)
        moment_done end next start work x b f a c =
            record {
              can = r;
              heads = heads_done j tasks order t head s.heads end i (get_or head i 0) found.0 refl found.1.0 other gone next f;
              lefts = lefts_done j tasks order t head left s.heads s.lefts end i found.0 found.1.0 other gone next work f
                  (λ m. c ∙ work_in cost charge n next m);
              sinces = sinces_done n tasks ready head since r.few_tasks s.heads.long s.sinces i next start found.0 a;
              waking = later_waking end (omega arith);
              written = written_done j t finish held s.written end (get_or head i 0) other found.1.0 ends;
              counted = one_more end (omega (arith, some_ticks)) b (rw ends at (finish_stop (get_or head i 0) found.1.0)) none_ends;
              time = omega (arith, end_soon);
            }
          where
            to : t + d ≡ end
            to = sym x

            long : Keeps j t (get_or head i 0) d
            long = kept d (omega arith) (omega arith)

            other : (q : ℕ) → (q ≡ get_or head i 0 → ⊥) → left_at j end q ≡ left_at j t q
            other q m = rw to at (left_others j t (get_or head i 0) d long q m)

            ends : finish_of j (get_or head i 0) ≡ end
            ends =
                finish_keeps j order.served t (get_or head i 0) d found.1.0 (r.work_low (get_or head i 0) found.1.0) some_ticks long
                (omega (arith, takes.least (d - 1) (omega (arith, some_ticks)), is_left))
                (omega (arith, takes.enough, is_left))
                ∙ to

            gone : left_at j end (get_or head i 0) ≡ 0
            gone = finish_done j order.served (get_or head i 0) found.1.0 (r.work_low (get_or head i 0) found.1.0) end (omega (arith, ends))

            none_ends : (q : ℕ) → q < n → t < finish_of j q → finish_of j q < end → ⊥
            none_ends q a b m =
                let y : q ≡ get_or head i 0 = keeps_only j order.served t (get_or head i 0) q d a (r.work_low q a) long b (omega arith) in
                omega (arith, ends, ap (finish_of j) y)
