-- The new sheet is the one of the definition, and what an ask answers is what the definition gives.
use Prim.Native.Nat.{ℕ, suc, pred, ◌+◌, ◌-◌, ◌≤◌, ◌<◌}
use mathlib.Core.Path.{◌≡◌, refl, sym, ap, ◌∙◌}
use mathlib.Core.Bool.{Bool, true, false, cond}
use mathlib.Core.Option.{Option, some, none}
use mathlib.Core.List.{List}
use native.Mathlib.Omega.{arith}
use borrow.Author.Tests.{lt-ltb, le-leb, lt-leb, leb-true, leb-false}
use lib.Dec.{ltb, eqb, leb}
use lib.ListN.{get_or-append, replicate}
use Rattle.std.specs.Prelude as std
use Rattle.model.specs.Series.{table}
use Rattle.model.specs.Limits.{max_tasks}
use Rattle.model.specs.Tasks.{Tasks}
use Rattle.model.specs.Refusal.{Refusal, refuse, Answer, refused, answered}
use Rattle.model.specs.Checks.{refuse_if, check_tasks, refusal_of}
use Rattle.model.specs.SameTasks.{SameTasks}
use Rattle.model.proofs.TableLaws.{length_table, get_or_table}
use Rattle.model.proofs.FrameLaws.{frame_itself}
use Rattle.model.proofs.CheckLaws.{refuses_many, not_refused, valid_of}
use Rattle.model.proofs.OrderLaws.{first_refusal_lem, next_check, last_decides, both_none, refused_tasks, accepted_of}
use Rattle.model.proofs.RefusalPlaces.{by_first, by_last}
use Rattle.taskset.specs.declared.Task.{Task}
use Rattle.taskset.specs.declared.TaskSet.{TaskSet}
use Rattle.taskset.specs.TaskSet.{no_task, entry_of, view_of}
use Rattle.taskset.proofs.FilledLaws.{Filled, filled_all}
use Rattle.frame.specs.declared.Frame.{Frame}
use Rattle.frame.specs.FrameView.{frame_of, framed_of}
use Rattle.admission.specs.Offers.{Entry, entry_at, inserted, with_task, Plan, plan_of, plan_inputs, answer_by, plan_call, check_place, ask_refusal, ask_call, SamePlan, SameAnswer}
use Rattle.admission.proofs.SameLaws.{same_by}
use Rattle.admission.proofs.AskedLaws.{inserted_below, plan_refusal, plan_same, by_answered, passed_of, place_passes}
use Rattle.plan.specs.PlanView.{task_entry}
use Rattle.offer.specs.Plans.{inserted_sheet, ask_first}

-- an entry below the new one
pub inserted_after : {A : Type 0} (p : ℕ) (a : A) (f : ℕ → A) (i : ℕ) → p < i → f (i - 1) ≡ inserted p a f i
inserted_after p a f i h = let e : i ≡ suc (i - 1) = omega arith in sym (ap (inserted p a f) e ∙ inserted_below p a f (i - 1) (omega arith))

-- the entries that the loop has filled are the new sheet
pub inserted_all
    : (s : TaskSet) (p : ℕ) (t : Task) (tasks : List Task) (i : ℕ) → i ≤ suc s.count → s.count < 32 → Filled (inserted p t (entry_of s)) tasks i → suc s.count ≤ i
    → ◌≡◌ {A = TaskSet} (record { tasks = tasks; count = s.count + 1; charge = s.charge }) (inserted_sheet s p t)
inserted_all s p t tasks i h l f g =
    let e = filled_all (inserted p t (entry_of s)) tasks i (suc s.count) (31 - s.count) f (omega arith) (omega arith) in
    let n : s.count + 1 ≡ suc s.count = omega arith in
    λ x. record { tasks = e x; count = n x; charge = s.charge }

-- an entry of the new sheet, field by field
entry_inserted
    : (s : TaskSet) (p : ℕ) (t : Task) (i : ℕ) → task_entry (inserted p t (entry_of s) i) ≡ entry_at (with_task p (task_entry t) (view_of s)) i
unfolding inserted
entry_inserted s p t i = go (entry_of s i) (entry_of s (pred i)) (ltb i p) (eqb i p)
  where
    go
        : (x y : Task) (a b : Bool)
        → task_entry (cond a x (cond b t y))
        ≡ record {
          period = cond a x.period (cond b t.period y.period);
          jitter = cond a x.jitter (cond b t.jitter y.jitter);
          cost = cond a x.cost (cond b t.cost y.cost);
          deadline = cond a x.deadline (cond b t.deadline y.deadline);
          low = cond a x.low (cond b t.low y.low);
        }
    go x y true b = refl
    go x y false true = refl
    go x y false false = refl

-- the new sheet says what the definition says
pub inserted_same
    : (s : TaskSet) (f : std.Option Frame) (p : ℕ) (t : Task) → SameTasks (framed_of (inserted_sheet s p t) f) (with_task p (task_entry t) (framed_of s f))
inserted_same s f p t = same_by _ _ refl refl each (frame_itself (frame_of f))
  where
    each : (i : ℕ) → i < suc s.count → entry_at (framed_of (inserted_sheet s p t) f) i ≡ entry_at (with_task p (task_entry t) (framed_of s f)) i
    each i h =
        let g = inserted p t (entry_of s) in
        ap task_entry
        (get_or-append (table g (suc s.count)) (replicate (31 - s.count) no_task) no_task i (omega (arith, length_table g (suc s.count)))
        ∙ get_or_table g no_task (suc s.count) i h)
        ∙ entry_inserted s p t i

-- the checks before the new task
module _ (s : Tasks) (p : ℕ) where
  pub first_sheet : (r : Refusal) → some r ≡ check_tasks s → some r ≡ ask_first s p
  unfolding ask_first
  first_sheet r h = first_refusal_lem _ _ r h

  pub first_place : none ≡ check_tasks s → s.count < p → refuse 14 p ≡ ask_first s p
  unfolding ask_first check_place refuse_if
  first_place h l = first_refusal_lem _ _ _ (rw (check_place, lt-ltb s.count p l)) ∙ next_check _ _ h

  pub first_many : none ≡ check_tasks s → p ≤ s.count → 32 ≤ s.count → refuse 4 32 ≡ ask_first s p
  unfolding ask_first refuse_if
  first_many h l g = first_refusal_lem _ _ _ (rw (refuse_if, le-leb 32 s.count g)) ∙ next_check _ _ (place_passes s p l) ∙ next_check _ _ h

  pub first_none : none ≡ check_tasks s → p ≤ s.count → s.count < 32 → none ≡ ask_first s p
  unfolding ask_first refuse_if
  first_none h l g = rw (lt-leb 32 s.count g) (last_decides none) ∙ next_check _ _ (place_passes s p l) ∙ next_check _ _ h

  -- where they pass
  pub first_few : none ≡ ask_first s p → s.count < 32
  unfolding ask_first
  first_few e = let a = both_none _ _ e in let b = both_none _ _ a.1 in leb-false _ _ (not_refused _ 4 32 (both_none _ _ b.1).0)

-- equal refusals and records that say the same
answer_same : (o o' : Option Refusal) (a b : Plan) → o ≡ o' → SamePlan a b → SameAnswer (answer_by o a) (answer_by o' b)
unfolding answer_by
answer_same none o' a b e h = rw (← e) h
answer_same (some r) o' a b e h = rw (← e)

module _ (s : Tasks) (t : Entry) (p : ℕ) where
  -- a refusal before the new task is that of the ask: 4 is also what the new sheet is refused with
  stops : (r : Refusal) → some r ≡ ask_first s p → some r ≡ ask_refusal s t p
  unfolding ask_first ask_refusal refuse_if
  stops r =
      by_first _ _ r (λ h. first_refusal_lem _ _ r h)
      (λ n.
      by_first _ _ r (λ h. first_refusal_lem _ _ r h ∙ next_check _ _ n)
      (λ m. by_last _ r (λ h. many (leb max_tasks s.count) refl h ∙ last_decides _ ∙ next_check _ _ m ∙ next_check _ _ n)))
    where
      many : (b : Bool) → leb max_tasks s.count ≡ b → some r ≡ refuse_if b 4 max_tasks → some r ≡ refusal_of (plan_inputs (with_task p t s))
      many true e h = h ∙ refused_tasks (plan_inputs (with_task p t s)) _ (refuses_many (with_task p t s) (omega (arith, leb-true max_tasks s.count e)))
      many false e h = let z : ◌≡◌ {A = ℕ} 0 1 = cc in absurd (omega arith)

  pub ask_stopped : (r : Refusal) → some r ≡ ask_first s p → SameAnswer (refused r) (ask_call s t p)
  unfolding ask_call answer_by
  ask_stopped r e = rw (← stops r e)

-- what is answered for the new sheet is what the ask answers
pub ask_made
    : (s : TaskSet) (f : std.Option Frame) (t : Task) (p : ℕ) (a : Answer Plan) → none ≡ ask_first (framed_of s f) p → a ≡ plan_call (framed_of (inserted_sheet s p t) f)
    → SameAnswer a (ask_call (framed_of s f) (task_entry t) p)
unfolding ask_first ask_refusal plan_call ask_call
ask_made s f t p a h e =
    let x = both_none _ _ h in
    let y = both_none _ _ x.1 in
    let same = inserted_same s f p t in
    rw (e, ← (last_decides (refusal_of (plan_inputs (with_task p (task_entry t) (framed_of s f)))) ∙ next_check _ _ y.0 ∙ next_check _ _ x.0))
    (answer_same _ _ _ _ (plan_refusal _ _ same) (plan_same _ _ same))

-- an ask that is answered makes a sheet of at most 32 tasks
pub new_few : (s : Tasks) (t : Entry) (p : ℕ) (g : Plan) → ask_call s t p ≡ answered g → (suc s.count ≤ 32) × (plan_of (with_task p t s) ≡ g)
unfolding ask_call
new_few s t p g e =
    let w = by_answered (ask_refusal s t p) (plan_of (with_task p t s)) g e in
    let v = valid_of _ (sym (accepted_of (plan_inputs (with_task p t s)) (passed_of s t p w.0).new).tasks) in
    (v.few_tasks, w.1)

-- so does a record that says what the ask answers
pub planned_few
    : (o : Option Refusal) (g : Plan) (a : Answer Plan) → SameAnswer (answer_by o g) a → (s : Tasks) (t : Entry) (p : ℕ) → a ≡ ask_call s t p → none ≡ o
    → g.tasks.count ≤ 32
unfolding answer_by
planned_few o g a h s t p k e = go a refl (rw (← e) at h)
  where
    go : (b : Answer Plan) → a ≡ b → SameAnswer (answered g) b → g.tasks.count ≤ 32
    go (refused q) f i = absurd i
    go (answered b) f i =
        let w = new_few s t p b (sym k ∙ f) in
        omega (arith, w.0, i.tasks.count, ap (λ (x : Plan). x.tasks.count) w.1)
