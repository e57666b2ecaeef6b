-- The state of a run from tick to tick: work left, oldest unfinished jobs, and the finish ticks written so far.
use Prim.Native.Nat.{ℕ, ◌+◌, ◌-◌, ◌≤◌, ◌<◌}
use mathlib.Core.Path.{◌≡◌, refl, ◌∙◌}
use mathlib.Core.Option.{Option, some, none}
use mathlib.Core.List.{List}
use native.Mathlib.Omega.{arith}
use lib.ListN.{get_or, set}
use lib.Dec.{eqb}
use Rattle.model.specs.Run.{Jobs, left_at, runs}
use Rattle.model.proofs.SupplyLaws.{supply_none, supply_high, supply_some}
use Rattle.theory.proofs.JobWindows.{supply}
use Rattle.theory.proofs.RunLaws.{runs_some}
use Rattle.theory.proofs.JumpLaws.{Keeps, left_rests, left_keeps, left_others, finish_keeps}
use Rattle.queues.specs.Queues.{max_finish, first_from}
use Rattle.queues.proofs.HeadLaws.{Ordered, Heads, not_over, heads_rest, heads_run, heads_done}
use Rattle.queues.proofs.LeftColumnLaws.{Lefts, lefts_rest, lefts_run, lefts_done}
use Rattle.queues.proofs.FinishColumnLaws.{Written, written_rest, written_run, written_done}

-- the columns at the beginning of tick t: head has the oldest unfinished jobs, left the work that they have left, and finish, which held `held`, the ticks of the jobs that are finished.
-- Up to tick wake nothing can run, where it is not passed
pub record Running (j : Jobs) (tasks t wake : ℕ) (head left finish held : List ℕ) : Type 0 where
  pub heads : Heads j tasks t head
  pub lefts : Lefts j tasks t head left
  pub written : Written j t finish held
  pub asleep : (p : ℕ) → p < j.count → t < wake → j.start p < wake → left_at j t p ≡ 0
  pub wake_soon : wake ≤ max_finish
  pub time : t ≤ max_finish

-- one tick: what holds in it holds in each of 1 tick from it on
one : (j : Jobs) (t : ℕ) (o : Option ℕ) → runs j t ≡ o → (n : ℕ) → n < 1 → runs j (t + n) ≡ o
one j t o h n l = let e : t + n ≡ t = omega arith in rw e h

module _ (j : Jobs) (tasks : ℕ) (o : Ordered j tasks) (t wake : ℕ) (head left finish held : List ℕ) (s : Running j tasks t wake head left finish held) where
  -- a tick in which no job runs; no unfinished job may run before the new wake, where that is later
  pub tick_idle : (new : ℕ)
      → runs j t ≡ none
      → ((p : ℕ) → p < j.count → t + 1 < new → j.start p < new → left_at j t p ≡ 0)
      → new ≤ max_finish
      → t < max_finish
      → Running j tasks (t + 1) new head left finish held
  tick_idle new h a b d =
      record {
        heads = heads_rest j tasks o t head s.heads (t + 1) same;
        lefts = lefts_rest j tasks o t head left s.heads s.lefts (t + 1) same;
        written = written_rest j t finish held s.written (t + 1) same;
        asleep = λ p l g e. same p ∙ a p l g e;
        wake_soon = b;
        time = omega arith;
      }
    where
      same : (p : ℕ) → left_at j (t + 1) p ≡ left_at j t p
      same p = left_rests j t 1 (one j t none h) p

  -- a tick in which the oldest unfinished job of task i runs
  module _ (i : ℕ) (hi : i < tasks) (inside : get_or head i 0 < j.count) (h : runs j t ≡ some (get_or head i 0)) (awake : wake ≤ t) where
    keeps : Keeps j t (get_or head i 0) 1
    keeps n l e = one j t (some (get_or head i 0)) h n l

    -- it is ours
    ours_one : supply j t 1 ≡ 1
    ours_one =
        let z : t + 0 ≡ t = omega arith in
        omega (
          arith,
          supply_some j.ours t 1 0 (omega arith) (rw z (runs_some j t (get_or head i 0) h).is_ours),
          supply_high j.ours t 1,
        )

    is_left : get_or left i 0 ≡ left_at j t (get_or head i 0)
    is_left = s.lefts.each i hi inside

    ran : left_at j (t + 1) (get_or head i 0) + 1 ≡ get_or left i 0
    ran = omega (arith, left_keeps j t (get_or head i 0) 1 keeps, ours_one, is_left)

    unfinished_yet : t < max_finish
    unfinished_yet = not_over j tasks o t (get_or head i 0) inside (omega (arith, ran, is_left))

    other : (q : ℕ) → (q ≡ get_or head i 0 → ⊥) → left_at j (t + 1) q ≡ left_at j t q
    other q n = left_others j t (get_or head i 0) 1 keeps q n

    -- it is not finished after it
    pub tick_run : (rest : ℕ) → rest ≡ get_or left i 0 - 1 → 0 < rest → Running j tasks (t + 1) wake head (set left i rest) finish held
    tick_run rest e pos =
        record {
          heads = heads_run j tasks o t head s.heads (t + 1) i (get_or head i 0) hi refl inside other (omega (arith, ran));
          lefts = lefts_run j tasks o t head left s.heads s.lefts (t + 1) i hi inside other rest (omega (arith, ran));
          written = written_run j t finish held s.written (t + 1) (get_or head i 0) other (omega (arith, ran));
          asleep = λ q l g x. absurd (omega arith);
          wake_soon = s.wake_soon;
          time = omega (arith, unfinished_yet);
        }

    -- it is finished after it
    pub tick_finish : (rest next work : ℕ)
        → rest ≡ get_or left i 0 - 1
        → rest ≡ 0
        → next ≡ first_from (λ q. eqb (j.task q) i) j.count (get_or head i 0 + 1)
        → (next < j.count → work ≡ j.work next)
        → Running j tasks (t + 1) wake (set head i next) (set left i work) (set finish (get_or head i 0) (t + 1)) held
    tick_finish rest next work e z f c =
        record {
          heads = heads_done j tasks o t head s.heads (t + 1) i (get_or head i 0) hi refl inside other gone next f;
          lefts = lefts_done j tasks o t head left s.heads s.lefts (t + 1) i hi inside other gone next work f c;
          written = written_done j t finish held s.written (t + 1) (get_or head i 0) other inside
              (finish_keeps j o.served t (get_or head i 0) 1 inside (o.some_work (get_or head i 0) inside) (omega arith) keeps
              (omega (arith, supply_none j.ours t, ran, is_left))
              (omega (arith, ours_one, ran, is_left)));
          asleep = λ q l g x. absurd (omega arith);
          wake_soon = s.wake_soon;
          time = omega (arith, unfinished_yet);
        }
      where
        gone : left_at j (t + 1) (get_or head i 0) ≡ 0
        gone = omega (arith, ran)
