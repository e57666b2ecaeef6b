-- Numbers and places of the refusals of a window are bounded.
use Prim.Native.Nat.{ℕ, ◌≤◌}
use mathlib.Core.Path.{◌≡◌, refl, ◌∙◌}
use mathlib.Core.Option.{Option, some, none}
use mathlib.Core.List.{List}
use native.Mathlib.Omega.{arith}
use Rattle.model.specs.Limits.{max_tasks, max_releases}
use Rattle.model.specs.Tasks.{Tasks}
use Rattle.model.specs.Refusal.{Refusal, Answer, refused, answered}
use Rattle.model.specs.LastJobs.{Shown}
use Rattle.model.proofs.RefusalPlaces.{Within, within_more, within_if, by_first, by_last, needs_none, needs, slots_within, Limited, no_number}
use Rattle.monitor.specs.Layout.{window_slots, tasks_in}
use Rattle.monitor.specs.MonitorCalls.{open_inputs, check_window, check_task_in, show_call, all_refusal}
use Rattle.monitor.proofs.WindowLaws.{usable_of, show_answered, show_refused}

-- open: a place is at most 1,024
pub open_limited : (s : Tasks) (w : List ℕ) → Limited max_releases (open_inputs s w)
open_limited s w = record {
  over = omega arith;
  single = λ j e. no_number e;
  lent = λ f e. let b : window_slots ≤ max_releases = omega arith in needs b needs_none;
  releases = λ _. omega arith;
  unfit = λ j e. no_number e;
}

-- a window: at most 546
window_within : (w : List ℕ) (r : Refusal) → some r ≡ check_window w → Within window_slots r
unfolding check_window
window_within w r =
    let b : window_slots ≤ window_slots = omega arith in
    by_first _ _ r (slots_within window_slots _ r (needs b needs_none))
    (λ _.
    by_first _ _ r (within_if window_slots _ 5 0 r (omega arith) (omega arith) (omega arith))
    (λ _. by_last _ r (within_if window_slots _ 4 max_tasks r (omega arith) (omega arith) (omega arith))))

-- a task of it: at most 546, or the task number given
pub task_within : (B : ℕ) (w : List ℕ) (i : ℕ) (r : Refusal) → window_slots ≤ B → i ≤ B → some r ≡ check_task_in w i → Within B r
unfolding check_task_in
task_within B w i r h g =
    by_first _ _ r (λ e. within_more window_slots B r h (window_within w r e)) (λ _. by_last _ r (within_if B _ 14 i r (omega arith) (omega arith) g))

pub show_within : (B : ℕ) (w : List ℕ) (i : ℕ) (r : Refusal) → window_slots ≤ B → i ≤ B → show_call w i ≡ refused r → Within B r
show_within B w i r h g e = go (check_task_in w i) refl
  where
    go : (o : Option Refusal) → o ≡ check_task_in w i → Within B r
    go none n = let x : ◌≡◌ {A = Answer Shown} (answered _) (refused r) = show_answered w i n ∙ e in let z : ◌≡◌ {A = ℕ} 0 1 = cc in absurd (omega arith)
    go (some q) n =
        let x : ◌≡◌ {A = Answer Shown} (refused q) (refused r) = show_refused w i q n ∙ e in
        let y : q ≡ r = cc in
        rw y at (task_within B w i q h g n)

-- all tasks: at most 546
pub all_within : (w jobs late largest : List ℕ) (r : Refusal) → some r ≡ all_refusal w jobs late largest → Within window_slots r
unfolding all_refusal
all_within w jobs late largest r =
    by_first _ _ r (window_within w r)
    (λ n.
    by_last _ r
    (let b : tasks_in w ≤ window_slots = omega (arith, (usable_of w n).few_tasks) in slots_within window_slots _ r (needs b (needs b (needs b needs_none)))))
