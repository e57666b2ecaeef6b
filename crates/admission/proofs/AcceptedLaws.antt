-- What an accepted commit says: every check passed, the offer is what an ask on the sheet held gives, and it is a sheet with its choice.
use Prim.Native.Nat.{◌≤◌}
use mathlib.Core.Path.{◌≡◌, sym, subst, ◌∙◌}
use mathlib.Core.Bool.{true, false}
use mathlib.Core.Option.{some, none}
use mathlib.Core.List.{[], ◌∷◌}
use native.Mathlib.Omega.{arith}
use borrow.Author.Tests.{not-false}
use Rattle.model.specs.Tasks.{Tasks, Valid}
use Rattle.model.specs.Choice.{column}
use Rattle.model.specs.Refusal.{answered}
use Rattle.model.specs.Checks.{check_tasks, check_count, check_slots, check_kept, check_releases, refusal_of}
use Rattle.model.specs.Calls.{lends}
use Rattle.model.specs.SameTasks.{SameTasks}
use Rattle.model.proofs.CheckLaws.{both, not_refused, valid_of}
use Rattle.model.proofs.OrderLaws.{both_none, accepted_of}
use Rattle.admission.specs.Offers.{with_task, plan_of, plan_inputs, plan_call, ask_refusal, ask_call, SamePlan}
use Rattle.admission.specs.Boards.{Board, open_call, WellFormed, Commit, releases_in, same_tasks, is_offer, stale, too_soon, commit_refusal, commit_call}
use Rattle.admission.specs.Asked.{Asked}
use Rattle.admission.proofs.SameLaws.{tasks_of_lem}
use Rattle.admission.proofs.AskedLaws.{same_back, same_on, with_same, plan_refusal, plan_same, by_answered, by_passed, Passed, passed_of, offer_decided}

-- every check passes
pub record Accepted (b : Board) (c : Commit) : Type 0 where
  pub sheet : none ≡ check_tasks b.plan.tasks
  pub count : none ≡ check_count (some c.count)
  pub slots : none ≡ check_slots (lends c.count c.task ∷ lends c.count c.tick ∷ lends c.count c.cost ∷ [])
  pub kept : none ≡ check_kept b.plan.tasks (some (column b.plan.kept))
  pub releases : none ≡ check_releases b.plan.tasks b.last 0 (releases_in c)
  pub fresh : stale b c ≡ false
  pub late_enough : too_soon b c ≡ false

-- a sheet that is held with its choice is within the limits
pub planned_valid : (b : Board) → WellFormed b → Valid b.plan.tasks
unfolding plan_call
planned_valid b w = valid_of _ (sym (accepted_of (plan_inputs b.plan.tasks) (by_answered _ (plan_of b.plan.tasks) b.plan w).0).tasks)

-- an opening gives a well-formed board
pub opens_well : (s : Tasks) (b : Board) → open_call s ≡ answered b → WellFormed b
unfolding open_call plan_call
opens_well s b e =
    let a = by_answered (refusal_of (plan_inputs s)) (record { plan = plan_of s; last = 0 }) b e in
    rw (← a.1) (by_passed _ (plan_of s) a.0)

module _ (b : Board) (c : Commit) (b' : Board) (e : commit_call b c ≡ answered b') where
  answer : (none ≡ commit_refusal b c) × (◌≡◌ {A = Board} (record { plan = c.offer; last = c.at }) b')
  unfolding commit_call
  answer = by_answered (commit_refusal b c) (record { plan = c.offer; last = c.at }) b' e

  pub accepted : Accepted b c
  unfolding commit_refusal
  accepted =
      let x = both_none _ _ answer.0 in
      let y = both_none _ _ x.1 in
      let z = both_none _ _ y.1 in
      let u = both_none _ _ z.1 in
      let v = both_none _ _ u.1 in
      let r = both_none _ _ v.1 in
      let t = both_none _ _ r.1 in
      record {
        sheet = x.0;
        count = y.0;
        slots = z.0;
        kept = u.0;
        releases = v.0;
        fresh = not_refused _ 19 0 r.0;
        late_enough = not_refused _ 20 0 t.0;
      }

  -- the board afterwards
  pub put_in_force : ◌≡◌ {A = Board} (record { plan = c.offer; last = c.at }) b'
  put_in_force = answer.1

  same_and_given : (same_tasks b.plan.tasks c.asked ≡ true) × (is_offer c.asked c.offer ≡ true)
  unfolding stale
  same_and_given = both _ _ (not-false _ accepted.fresh)

  -- the sheet asked of is the one held
  pub asked_same : SameTasks b.plan.tasks c.asked
  asked_same = tasks_of_lem b.plan.tasks c.asked same_and_given.0

  -- and an ask on it gives the offer
  pub asked : Asked c.asked c.offer
  asked = offer_decided.asked c.asked c.offer same_and_given.1

  abbrev new : Tasks
  new = with_task asked.place asked.task c.asked

  ask_answer : (none ≡ ask_refusal c.asked asked.task asked.place) × (plan_of new ≡ asked.given)
  unfolding ask_call
  ask_answer = by_answered (ask_refusal c.asked asked.task asked.place) (plan_of new) asked.given asked.answer

  ask_passed : Passed c.asked asked.task asked.place
  ask_passed = passed_of c.asked asked.task asked.place ask_answer.0

  pub place_low : asked.place ≤ b.plan.tasks.count
  place_low = omega (arith, ask_passed.place, asked_same.count)

  given_same : SamePlan (plan_of new) c.offer
  given_same = rw (sym ask_answer.1) at asked.same

  is_planned : plan_call c.offer.tasks ≡ answered c.offer
  unfolding plan_call
  is_planned =
      let o = plan_same new c.offer.tasks given_same.tasks in
      let ks = sym o.kept ∙ given_same.kept in
      let ws = sym o.worst ∙ given_same.worst in
      let sc = sym o.scope ∙ given_same.scope in
      by_passed _ (plan_of c.offer.tasks) (ask_passed.new ∙ plan_refusal new c.offer.tasks given_same.tasks)
      ∙ (λ x. answered (record { tasks = c.offer.tasks; kept = ks x; worst = ws x; scope = sc x }))

  -- whatever board it was, a commit that is accepted leaves a well-formed one
  pub next_well : WellFormed b'
  next_well = rw (← answer.1) is_planned

  -- with the sheet that was held and one task more
  pub new_sheet : SameTasks b'.plan.tasks (with_task asked.place asked.task b.plan.tasks)
  new_sheet =
      subst (λ (x : Board). SameTasks x.plan.tasks (with_task asked.place asked.task b.plan.tasks)) answer.1
      (same_on c.offer.tasks new (with_task asked.place asked.task b.plan.tasks)
      (same_back new c.offer.tasks given_same.tasks)
      (with_same asked.place asked.task c.asked b.plan.tasks ask_passed.place (same_back b.plan.tasks c.asked asked_same)))
