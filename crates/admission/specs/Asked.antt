-- "The offer is not what an ask gives on it" is decided with one ask: the statement. proofs/AskedLaws.antt proves it (`asked_of`, `offer_of`), and what the tests of a
-- commit decide (`tasks_decide`, `plans-decide`).
use Rattle.std.specs.Prelude.{ℕ, ◌≡◌, true}
use Rattle.model.specs.Tasks.{Tasks}
use Rattle.model.specs.Refusal.{answered}
use Rattle.model.specs.SameTasks.{SameTasks}
use Rattle.admission.specs.Offers.{Entry, Plan, ask_call, SamePlan}
use Rattle.admission.specs.Boards.{same_tasks, same_plan, is_offer}

-- some ask on the sheet, for some task at some place, gives the offer
pub record Asked (s : Tasks) (o : Plan) : Type 0 where
  pub task : Entry
  pub place : ℕ
  pub given : Plan
  pub answer : ask_call s task place ≡ answered given
  pub same : SamePlan given o

-- the test of a commit holds exactly of the offers that some ask gives
pub record OfferDecided : Type 1 where
  pub asked : (s : Tasks) (o : Plan) → is_offer s o ≡ true → Asked s o
  pub offer : (s : Tasks) (o : Plan) → Asked s o → is_offer s o ≡ true

-- the comparisons of a commit hold exactly of sheets and records that say the same, entries past the counts left out
pub record SameDecided : Type 1 where
  pub tasks_same : (s s' : Tasks) → same_tasks s s' ≡ true → SameTasks s s'
  pub same_tasks_lem : (s s' : Tasks) → SameTasks s s' → same_tasks s s' ≡ true
  pub plans_same : (a b : Plan) → same_plan a b ≡ true → SamePlan a b
  pub same_plans : (a b : Plan) → SamePlan a b → same_plan a b ≡ true
