-- The test whether an offer is what an ask gives.
use Prim.Native.Nat.{ℕ, ◌≤◌}
use mathlib.Core.Path.{◌≡◌, refl, sym, ap, ◌∙◌}
use mathlib.Core.Bool.{Bool, true, false}
use mathlib.Core.Option.{Option, some, none}
use native.Mathlib.Omega.{arith}
use Rattle.model.specs.Search.{first}
use Rattle.model.specs.Tasks.{Tasks}
use Rattle.model.specs.Refusal.{Refusal, Answer, refused, answered}
use Rattle.model.proofs.SearchLaws.{first_found}
use Rattle.admission.specs.Offers.{entry_at, Plan, answer_by, ask_call, SamePlan, SameAnswer}
use Rattle.admission.specs.Boards.{or_end, differs, place_in, same_plan, gives, is_offer}
use Rattle.admission.specs.Asked.{Asked}
use Rattle.admission.proofs.SameLaws.{plan_of_lem, plan_yes}
use Rattle.admission.proofs.AskedLaws.{same_back, plan_on, offer_decided}
use Rattle.offer.proofs.AskLaws.{new_few, planned_few}

-- a place that a search found is at most where it ended
pub end_most : (test : ℕ → Bool) (n : ℕ) → or_end n (first test n 0) ≤ n
unfolding or_end
end_most test n = go (first test n 0) refl
  where
    go : (o : Option ℕ) → first test n 0 ≡ o → or_end n o ≤ n
    go none e = omega arith
    go (some p) e = omega (arith, (first_found test n 0 p e).high)

-- with 32 tasks held no ask gives anything
pub full_none : (s : Tasks) (o : Plan) → 32 ≤ s.count → false ≡ is_offer s o
full_none s o h = go (is_offer s o) refl
  where
    go : (b : Bool) → is_offer s o ≡ b → false ≡ b
    go false e = refl
    go true e =
        let a : Asked s o = offer_decided.asked s o e in
        absurd (omega (arith, (new_few s a.task a.place a.given a.answer).0))

-- records that say the same are told apart from others in the same way
test_same : (a b o : Plan) → SamePlan a b → same_plan a o ≡ same_plan b o
test_same a b o h = go (same_plan a o) (same_plan b o) refl refl
  where
    back : SamePlan b a
    back = record { tasks = same_back _ _ h.tasks; kept = sym h.kept; worst = sym h.worst; scope = sym h.scope }

    go : (x y : Bool) → same_plan a o ≡ x → same_plan b o ≡ y → x ≡ y
    go true true e f = refl
    go false false e f = refl
    go true false e f = sym (plan_yes b o (plan_on b a o back (plan_of_lem a o e))) ∙ f
    go false true e f = sym e ∙ plan_yes a o (plan_on a b o h (plan_of_lem b o f))

-- what an ask answered, given as a record that says the same
module _ (o : Option Refusal) (g : Plan) (a : Answer Plan) (h : SameAnswer (answer_by o g) a) where
  refused_gives : (r : Refusal) (x : Plan) → some r ≡ o → false ≡ gives a x
  unfolding answer_by gives
  refused_gives r x e = go a (rw (← e) at h)
    where
      go : (a : Answer Plan) → SameAnswer (refused r) a → false ≡ gives a x
      go (refused q) i = refl
      go (answered b) i = absurd i

  planned_gives : (x : Plan) → none ≡ o → same_plan g x ≡ gives a x
  unfolding answer_by gives
  planned_gives x e = go a (rw (← e) at h)
    where
      go : (a : Answer Plan) → SameAnswer (answered g) a → same_plan g x ≡ gives a x
      go (refused q) i = absurd i
      go (answered b) i = test_same g b x i

-- the ask for the task at the place found decides
module _ (s : Tasks) (x : Plan) (p : ℕ) (o : Option Refusal) (g : Plan) where
  at_place : p ≡ or_end s.count (first (differs s x.tasks) s.count 0) → gives (ask_call s (entry_at x.tasks p) p) x ≡ is_offer s x
  unfolding is_offer place_in
  at_place e = ap (λ n. gives (ask_call s (entry_at x.tasks n) n) x) e

  module _ (e : p ≡ or_end s.count (first (differs s x.tasks) s.count 0)) (h : SameAnswer (answer_by o g) (ask_call s (entry_at x.tasks p) p)) where
    pub offer_refused : (r : Refusal) → some r ≡ o → false ≡ is_offer s x
    offer_refused r k = refused_gives o g _ h r x k ∙ at_place e

    pub offer_planned : none ≡ o → same_plan g x ≡ is_offer s x
    offer_planned k = planned_gives o g _ h x k ∙ at_place e

    pub offer_few : none ≡ o → g.tasks.count ≤ 32
    offer_few k = planned_few o g _ h s (entry_at x.tasks p) p refl k
