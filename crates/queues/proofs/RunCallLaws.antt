-- Laws of the call: a list that passes its checks can be run, its finish ticks are those of the definition, and how large its ticks are.
use Prim.Native.Nat.{ℕ, ◌*◌, ◌≤◌, ◌<◌, min}
use mathlib.Core.Path.{◌≡◌, refl, sym, ap, ◌∙◌}
use mathlib.Core.Option.{Option, some, none}
use mathlib.Core.List.{List, ◌++◌}
use native.Mathlib.Omega.{arith}
use native.Mathlib.Nat.{mul-le-mul_right}
use lib.ListN.{length, get_or, drop, length-append}
use Rattle.model.specs.Limits.{max_time, max_releases, max_tick, max_frame}
use Rattle.model.specs.Series.{table}
use Rattle.model.specs.Frame.{Frame, turn_of}
use Rattle.model.specs.Processor.{plain}
use Rattle.model.specs.Tasks.{Tasks, load, board_of, Release, release_at}
use Rattle.model.specs.Choice.{column}
use Rattle.model.specs.Ready.{ready_at, ready_list}
use Rattle.model.specs.Refusal.{Refusal}
use Rattle.model.specs.Checks.{refusal_of}
use Rattle.model.specs.Calls.{releases_of, column_after, run_inputs}
use Rattle.model.specs.Run.{jobs, finish_of, finish_at, finish_list}
use Rattle.model.specs.Claims.{Sound}
use Rattle.releases.proofs.ReleaseLaws.{length_releases, release_at_lem}
use Rattle.model.proofs.FrameLaws.{Ruled}
use Rattle.model.proofs.TableLaws.{length_table, table_agree}
use Rattle.trace.specs.TraceCalls.{Shapable}
use Rattle.trace.proofs.ReadyAtLaws.{ready_rising}
use Rattle.trace.proofs.ListCallLaws.{Callable, callable_of, listed_shapable, run_checks}
use Rattle.trace.proofs.CloseWalkLaws.{inside, task_is, list_high, ready_high, ready_slot}
use Rattle.processor.proofs.FinishBound.{finish_bound}
use Rattle.queues.specs.Queues.{start_of, jobs_of, finish_limit, max_finish, Workable, Runnable}
use Rattle.queues.specs.TickBounds.{TickBounds}
use Rattle.model.proofs.SameJobs.{SameJobs, finish_same}

-- a frame within the rules has at most 10,000 ticks
turn_high : (o : Option Frame) → Ruled o → turn_of o ≤ max_frame
turn_high none h = omega arith
turn_high (some f) h = (h f refl).ticks_high

-- the ready column once the ready ticks are written
abbrev pub ready_written : Tasks → List ℕ → ℕ → List ℕ → List ℕ → List ℕ → List ℕ → List ℕ
ready_written s kept n task tick cost ready = ready_list s (column kept) (releases_of n task tick cost) ++ drop n ready

-- every check of a run passes
pub record Cleared (s : Tasks) (kept : List ℕ) (n : ℕ) (task tick cost ready finish : List ℕ) : Type 0 where
  pub clear : none ≡ refusal_of (run_inputs s kept n task tick cost ready finish)

module _ (s : Tasks) (kept : List ℕ) (n : ℕ) (task tick cost ready finish : List ℕ) (e : Cleared s kept n task tick cost ready finish) where
  callable : Callable s kept n task tick cost (min (length ready) (length finish))
  callable = callable_of s kept n task tick cost (min (length ready) (length finish)) (e.clear ∙ sym (run_checks s kept n task tick cost ready finish))

  shapable : Shapable s n task tick
  shapable = listed_shapable s n task tick cost callable.listed

  cost_is : (p : ℕ) → p < n → (release_at (releases_of n task tick cost) p).cost ≡ get_or cost p 0
  cost_is p h = ap (λ (x : Release). x.cost) (release_at_lem n task tick cost p h)

  -- its slots hold the ready ticks
  pub slot : (p : ℕ) → p < n → get_or (ready_written s kept n task tick cost ready) p 0 ≡ ready_at s (column kept) (releases_of n task tick cost) p
  slot p h = ready_slot s (column kept) n task tick cost (drop n ready) p h

  list_long : length (ready_list s (column kept) (releases_of n task tick cost)) ≡ n
  unfolding ready_list
  list_long = length_table _ _ ∙ length_releases n task tick cost

  -- the ready column once the checks have passed
  pub shaped : (r : Option Refusal) (x : List ℕ)
      → r ≡ none
      → x ≡ column_after r (ready_list s (column kept) (releases_of n task tick cost)) ready
      → x ≡ ready_written s kept n task tick cost ready
  unfolding column_after
  shaped r x g h =
      h
      ∙ ap (λ o. column_after o (ready_list s (column kept) (releases_of n task tick cost)) ready) g
      ∙ ap (λ m. ready_list s (column kept) (releases_of n task tick cost) ++ drop m ready) list_long

  same_jobs : SameJobs (jobs_of s.frame n task cost s.charge (ready_written s kept n task tick cost ready)) (jobs s (column kept) (releases_of n task tick cost))
  same_jobs =
      record {
        count = sym (length_releases n task tick cost);
        task = λ p h. sym (task_is n task tick cost p h);
        start = λ p h. ap start_of (slot p h);
        work = λ p h. ap (plain s.charge).work (sym (cost_is p h));
        ours = λ t. refl;
        turn = refl;
      }

  work_low : (p : ℕ) → p < n → 1 ≤ (plain s.charge).work (get_or cost p 0)
  work_low p h = omega (arith, cost_is p h, (callable.listed.trace.sound p (inside n task tick cost p h)).cost_low)

  -- the work of a job is at most E + S, which is at most P
  workable : Workable n cost s.charge
  workable = record { long = callable.listed.columns.cost_long; high = λ p h. high p h (callable.listed.trace.sound p (inside n task tick cost p h)) }
    where
      high : (p : ℕ) → p < n → Sound s (release_at (releases_of n task tick cost) p) → (plain s.charge).work (get_or cost p 0) ≤ max_time
      high p h r =
          omega (
            arith,
            cost_is p h,
            r.cost_high,
            (callable.listed.valid.carried _ r.known).load_period,
            (callable.listed.valid.in_range_lem _ r.known).period_high,
          )

  -- the finish of the jobs in columns is the definition's
  pub same_finish
      : (p : ℕ) → p < n
      → finish_of (jobs_of s.frame n task cost s.charge (ready_written s kept n task tick cost ready)) p ≡ finish_at s (column kept) (releases_of n task tick cost) p
  unfolding finish_at
  same_finish p h = finish_same _ _ same_jobs p

  -- the checks bound every release tick, period and load, and so every finish
  finish_high : (p : ℕ) → p < n → finish_at s (column kept) (releases_of n task tick cost) p ≤ finish_limit (board_of s).turn
  finish_high p h =
      omega (
        arith,
        finish_bound s callable.listed.valid.framed (column kept) (releases_of n task tick cost) callable.listed.trace max_tick max_time
            (list_high s n task tick shapable cost)
            small
            p
            (inside n task tick cost p h),
        mul-le-mul_right (board_of s).turn few,
      )
    where
      few : max_time * length (releases_of n task tick cost) ≤ max_time * max_releases
      few = omega (arith, length_releases n task tick cost, callable.listed.few)

      small : (i : ℕ) → i < s.count → (s.period i ≤ max_time) × (load s i ≤ max_time)
      small i g = omega (arith, callable.listed.valid.in_range_lem i g, callable.listed.valid.carried i g)

  finish_far : (p : ℕ) → p < n → finish_at s (column kept) (releases_of n task tick cost) p ≤ max_finish
  finish_far p h = omega (arith, finish_high p h, turn_high s.frame callable.listed.valid.framed)

  pub runnable : Runnable s.frame n s.count task cost s.charge (ready_written s kept n task tick cost ready) finish
  runnable =
      record {
        framed = callable.listed.valid.framed;
        few = callable.listed.few;
        few_tasks = callable.listed.valid.few_tasks;
        task_long = callable.listed.columns.task_long;
        workable = workable;
        ready_long = omega (arith, length-append (ready_list s (column kept) (releases_of n task tick cost)) (drop n ready), list_long);
        finish_long = omega (arith, callable.slots_long);
        known = shapable.known;
        work_low = work_low;
        finish_high = λ p h. omega (arith, same_finish p h, finish_far p h);
        in_order = in_order;
      }
    where
      in_order : (p q : ℕ)
          → p < q
          → q < n
          → get_or task p 0 ≡ get_or task q 0
          → get_or (ready_written s kept n task tick cost ready) p 0 ≤ get_or (ready_written s kept n task tick cost ready) q 0
      in_order p q a b g =
          omega (
            arith,
            slot p (omega arith),
            slot q b,
            ready_rising s (column kept) (releases_of n task tick cost) (get_or task q 0) p q (omega arith) (inside n task tick cost q b)
                (task_is n task tick cost p (omega arith) ∙ g)
                (task_is n task tick cost q b),
          )

  -- the finish column
  pub finish_written : (o x : List ℕ)
      → o ≡ ready_written s kept n task tick cost ready
      → x ≡ table (finish_of (jobs_of s.frame n task cost s.charge o)) n ++ drop n finish
      → x ≡ column_after (refusal_of (run_inputs s kept n task tick cost ready finish)) (finish_list s (column kept) (releases_of n task tick cost)) finish
  unfolding column_after finish_list
  finish_written o x g f =
      rw (← e.clear)
      (f
      ∙ ap (λ y. table (finish_of (jobs_of s.frame n task cost s.charge y)) n ++ drop n finish) g
      ∙ ap (λ y. y ++ drop n finish) answer
      ∙ ap (λ m. finish_list s (column kept) (releases_of n task tick cost) ++ drop m finish) (sym (length_table _ _ ∙ length_releases n task tick cost)))
    where
      answer
          : table (finish_of (jobs_of s.frame n task cost s.charge (ready_written s kept n task tick cost ready))) n
          ≡ finish_list s (column kept) (releases_of n task tick cost)
      answer =
          table_agree _ (finish_at s (column kept) (releases_of n task tick cost)) n same_finish
          ∙ ap (table (finish_at s (column kept) (releases_of n task tick cost))) (sym (length_releases n task tick cost))

-- the largest ticks of a run
pub run_bounds : TickBounds
run_bounds =
    record {
      bounded = λ s kept n task tick cost ready finish e p h.
          let c : Cleared s kept n task tick cost ready finish = record { clear = sym e } in
          let l : p < n = omega (arith, length_releases n task tick cost) in
          record {
            ready_high = ready_high s n task tick (shapable s kept n task tick cost ready finish c) cost (column kept) p l;
            finish_high = finish_high s kept n task tick cost ready finish c p l;
            finish_far = finish_far s kept n task tick cost ready finish c p l;
          };
      fits = omega arith;
    }
