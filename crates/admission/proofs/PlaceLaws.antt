-- Numbers and places of the refusals of an opening, an ask and a commit.
use Prim.Native.Nat.{ℕ, ◌≤◌}
use mathlib.Core.Path.{◌≡◌, sym}
use mathlib.Core.Option.{Option, some, none}
use mathlib.Core.List.{[]}
use native.Mathlib.Omega.{arith}
use Rattle.model.specs.Limits.{max_tasks, max_releases}
use Rattle.model.specs.Tasks.{Tasks}
use Rattle.model.specs.Refusal.{Refusal, refused}
use Rattle.model.specs.Checks.{check_count, refusal_of}
use Rattle.model.proofs.CheckLaws.{valid_of, count_of}
use Rattle.model.proofs.RefusalPlaces.{Within, within_more, within_if, no_number, by_first, by_last, tasks_within, needs, needs_none, slots_within, kept_within, releases_within, Limited, refusal_within, choice_limited, list_limited}
use Rattle.admission.specs.Offers.{Entry, with_task, plan_inputs, answer_by, check_place, ask_refusal, ask_call}
use Rattle.admission.specs.Boards.{Board, open_call, Commit, releases_in, commit_refusal, commit_call}

-- a refusal of an answer by checks is theirs
by_refusal : {A : Type 0} (o : Option Refusal) (a : A) (r : Refusal) → answer_by o a ≡ refused r → some r ≡ o
unfolding answer_by
by_refusal none a r e = let z : ◌≡◌ {A = ℕ} 0 1 = cc in absurd (omega arith)
by_refusal (some q) a r e = let w : r ≡ q = cc in (λ x. some (w x))

plan_limited : (s : Tasks) → Limited max_releases (plan_inputs s)
plan_limited s = record {
  over = omega arith;
  single = λ j e. no_number e;
  lent = λ f g. needs_none;
  releases = λ g. omega arith;
  unfit = (choice_limited s [] []).unfit;
}

-- an opening: a place is at most 1,024
pub open_within : (s : Tasks) (r : Refusal) → open_call s ≡ refused r → Within max_releases r
unfolding open_call
open_within s r e = refusal_within max_releases (plan_inputs s) (plan_limited s) r (by_refusal (refusal_of (plan_inputs s)) (record { plan = _; last = 0 }) r e)

-- an ask: at most that, or the place given
pub ask_within : (B : ℕ) (s : Tasks) (t : Entry) (p : ℕ) (r : Refusal) → max_releases ≤ B → p ≤ B → ask_call s t p ≡ refused r → Within B r
unfolding ask_call ask_refusal check_place
ask_within B s t p r h g e =
    by_first _ _ r (λ i. within_more max_tasks B r (omega arith) (tasks_within s r i))
    (λ _.
    by_first _ _ r (within_if B _ 14 p r (omega arith) (omega arith) g)
    (λ _. by_last _ r (λ i. within_more max_releases B r h (refusal_within max_releases (plan_inputs (with_task p t s)) (plan_limited (with_task p t s)) r i))))
    (by_refusal (ask_refusal s t p) _ r e)

-- a commit: at most 1,024
pub commit_within : (b : Board) (c : Commit) (r : Refusal) → commit_call b c ≡ refused r → Within max_releases r
unfolding commit_call commit_refusal check_count
commit_within b c r e =
    by_first _ _ r (λ i. within_more max_tasks max_releases r (omega arith) (tasks_within b.plan.tasks r i))
    (λ t.
    let few = (valid_of b.plan.tasks (sym t)).few_tasks in
    by_first _ _ r (within_if max_releases _ 10 max_releases r (omega arith) (omega arith) (omega arith))
    (λ n.
    let m = count_of c.count n in
    by_first _ _ r (slots_within max_releases _ r (needs m (needs m (needs m needs_none))))
    (λ _.
    by_first _ _ r (λ i. within_more max_tasks max_releases r (omega arith) (kept_within b.plan.tasks _ r few i))
    (λ _.
    by_first _ _ r
    (releases_within max_releases b.plan.tasks b.last 0 (releases_in c) r
    (omega (arith, (list_limited b.plan.tasks c.count c.task c.tick c.cost).releases n)))
    (λ _.
    by_first _ _ r (within_if max_releases _ 19 0 r (omega arith) (omega arith) (omega arith))
    (λ _. by_last _ r (within_if max_releases _ 20 0 r (omega arith) (omega arith) (omega arith))))))))
    (by_refusal (commit_refusal b c) _ r e)
