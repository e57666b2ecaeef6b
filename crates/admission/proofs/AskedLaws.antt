-- An offer that some ask gives is given by the ask for the task at the first place at which the sheets differ.
use Prim.Native.Nat.{ℕ, suc, pred, ◌≤◌, ◌<◌}
use mathlib.Core.Path.{◌≡◌, refl, sym, ap, ◌∙◌}
use mathlib.Core.Logic.{◌⊎◌, inl, inr}
use mathlib.Core.Bool.{true}
use mathlib.Core.Option.{Option, some, none}
use mathlib.Core.List.{[]}
use native.Mathlib.Omega.{arith}
use borrow.Author.Tests.{lt-ltb, le-ltb, eq-eqb, ne_eqb, ltb-false}
use Rattle.model.specs.Search.{first}
use Rattle.model.specs.Frame.{Frame}
use Rattle.model.specs.Tasks.{Tasks}
use Rattle.model.specs.Refusal.{Refusal, Answer, refused, answered}
use Rattle.model.specs.Checks.{refuse_if, check_tasks, refusal_of}
use Rattle.model.specs.Calls.{unfit_of, kept_column, worst_column}
use Rattle.model.specs.SameTasks.{SameFrame, SameTasks}
use Rattle.model.proofs.SeriesLaws.{le_or_lt, le_by, clash}
use Rattle.model.proofs.SearchLaws.{first_found, first_nothing}
use Rattle.model.proofs.FrameLaws.{frame_itself}
use Rattle.model.proofs.CheckLaws.{not_refused}
use Rattle.model.proofs.OrderLaws.{next_check, last_decides, both_none}
use Rattle.model.proofs.SameAnswers.{refusal_same, choice_same, scope_same}
use Rattle.admission.specs.Offers.{Entry, entry_at, inserted, with_task, Plan, plan_of, plan_inputs, answer_by, check_place, ask_refusal, ask_call, SamePlan}
use Rattle.admission.specs.Boards.{or_end, differs, place_in, gives, is_offer}
use Rattle.admission.specs.Asked.{Asked, OfferDecided}
use Rattle.admission.proofs.SameLaws.{agree_of, agree_yes, same_by, entry_same, plan_of_lem, plan_yes}

-- a column with one more value
module _ {A : Type 0} (p : ℕ) (a : A) (f : ℕ → A) where
  pub inserted_above : (i : ℕ) → i < p → inserted p a f i ≡ f i
  unfolding inserted
  inserted_above i h = rw (inserted, lt-ltb i p h)

  pub inserted_here : inserted p a f p ≡ a
  unfolding inserted
  inserted_here = rw (inserted, le-ltb p p (omega arith), eq-eqb p p refl)

  pub inserted_below : (i : ℕ) → p ≤ i → inserted p a f (suc i) ≡ f i
  unfolding inserted
  inserted_below i h = rw (inserted, le-ltb (suc i) p (omega arith), ne_eqb (suc i) p (λ e. omega arith))

-- the tasks of the new sheet
module _ (p : ℕ) (t : Entry) (s : Tasks) where
  pub entry_above : (i : ℕ) → i < p → entry_at (with_task p t s) i ≡ entry_at s i
  entry_above i h = λ x. record {
    period = inserted_above p t.period s.period i h x;
    jitter = inserted_above p t.jitter s.jitter i h x;
    cost = inserted_above p t.cost s.cost i h x;
    deadline = inserted_above p t.deadline s.deadline i h x;
    low = inserted_above p t.low s.low i h x;
  }

  pub entry_here : entry_at (with_task p t s) p ≡ t
  entry_here = λ x. record {
    period = inserted_here p t.period s.period x;
    jitter = inserted_here p t.jitter s.jitter x;
    cost = inserted_here p t.cost s.cost x;
    deadline = inserted_here p t.deadline s.deadline x;
    low = inserted_here p t.low s.low x;
  }

  pub entry_below : (i : ℕ) → p ≤ i → entry_at (with_task p t s) (suc i) ≡ entry_at s i
  entry_below i h = λ x. record {
    period = inserted_below p t.period s.period i h x;
    jitter = inserted_below p t.jitter s.jitter i h x;
    cost = inserted_below p t.cost s.cost i h x;
    deadline = inserted_below p t.deadline s.deadline i h x;
    low = inserted_below p t.low s.low i h x;
  }

-- sheets that say the same, the other way round and one after the other
frame_back : (o p : Option Frame) → SameFrame o p → SameFrame p o
frame_back none none h = tt
frame_back none (some g) h = absurd h
frame_back (some f) none h = absurd h
frame_back (some f) (some g) h = record {
  ticks = sym h.ticks;
  count = sym h.count;
  first = λ k l. sym (h.first k (omega (arith, h.count)));
  size = λ k l. sym (h.size k (omega (arith, h.count)));
}

frame_on : (o p q : Option Frame) → SameFrame o p → SameFrame p q → SameFrame o q
frame_on none none none h g = tt
frame_on none none (some z) h g = absurd g
frame_on none (some y) q h g = absurd h
frame_on (some x) none q h g = absurd h
frame_on (some x) (some y) none h g = absurd g
frame_on (some x) (some y) (some z) h g = record {
  ticks = h.ticks ∙ g.ticks;
  count = h.count ∙ g.count;
  first = λ k l. h.first k l ∙ g.first k (omega (arith, h.count));
  size = λ k l. h.size k l ∙ g.size k (omega (arith, h.count));
}

pub same_back : (s s' : Tasks) → SameTasks s s' → SameTasks s' s
same_back s s' h =
    same_by s' s (sym h.count) (sym h.charge) (λ i l. sym (entry_same s s' h i (omega (arith, h.count)))) (frame_back s.frame s'.frame h.frame)

pub same_on : (s t u : Tasks) → SameTasks s t → SameTasks t u → SameTasks s u
same_on s t u h g =
    same_by s u (h.count ∙ g.count) (h.charge ∙ g.charge) (λ i l. entry_same s t h i l ∙ entry_same t u g i (omega (arith, h.count)))
    (frame_on s.frame t.frame u.frame h.frame g.frame)

pub same_itself : (s : Tasks) → SameTasks s s
same_itself s = same_by s s refl refl (λ i l. refl) (frame_itself s.frame)

-- such sheets with the same new task
pub with_same : (p : ℕ) (t : Entry) (s s' : Tasks) → p ≤ s.count → SameTasks s s' → SameTasks (with_task p t s) (with_task p t s')
with_same p t s s' l h = same_by _ _ (ap suc h.count) h.charge (λ i g. each i g (le_or_lt p i)) h.frame
  where
    below : (i j : ℕ) → i ≡ suc j → p ≤ j → j < s.count → entry_at (with_task p t s) i ≡ entry_at (with_task p t s') i
    below i j e a g = rw e (entry_below p t s j a ∙ entry_same s s' h j g ∙ sym (entry_below p t s' j a))

    here : (i : ℕ) → i ≡ p → entry_at (with_task p t s) i ≡ entry_at (with_task p t s') i
    here i e = rw e (entry_here p t s ∙ sym (entry_here p t s'))

    each : (i : ℕ) → i < suc s.count → (p ≤ i) ⊎ (i < p) → entry_at (with_task p t s) i ≡ entry_at (with_task p t s') i
    each i g (inr a) = entry_above p t s i a ∙ entry_same s s' h i (omega arith) ∙ sym (entry_above p t s' i a)
    each i g (inl a) = at (le_or_lt i p)
      where
        at : (i ≤ p) ⊎ (p < i) → entry_at (with_task p t s) i ≡ entry_at (with_task p t s') i
        at (inl b) = here i (omega arith)
        at (inr b) = below i (pred i) (omega arith) (omega arith) (omega arith)

pub plan_on : (a b c : Plan) → SamePlan a b → SamePlan b c → SamePlan a c
plan_on a b c h g = record {
  tasks = same_on a.tasks b.tasks c.tasks h.tasks g.tasks;
  kept = h.kept ∙ g.kept;
  worst = h.worst ∙ g.worst;
  scope = h.scope ∙ g.scope;
}

-- the choice of such sheets
pub plan_refusal : (s s' : Tasks) → SameTasks s s' → refusal_of (plan_inputs s) ≡ refusal_of (plan_inputs s')
plan_refusal s s' h = refusal_same s s' h none none [] [] none [] _ _ refl (ap unfit_of (choice_same s s' h))

pub plan_same : (s s' : Tasks) → SameTasks s s' → SamePlan (plan_of s) (plan_of s')
plan_same s s' h = record { tasks = h; kept = ap kept_column (choice_same s s' h); worst = ap worst_column (choice_same s s' h); scope = scope_same s s' h }

-- an answer by checks
pub by_answered : {A : Type 0} (o : Option Refusal) (a b : A) → answer_by o a ≡ answered b → (none ≡ o) × (a ≡ b)
unfolding answer_by
by_answered none a b e = (refl, (cc))
by_answered (some r) a b e = let z : ◌≡◌ {A = ℕ} 0 1 = cc in absurd (omega arith)

pub by_passed : {A : Type 0} (o : Option Refusal) (a : A) → none ≡ o → answer_by o a ≡ answered a
unfolding answer_by
by_passed o a e = rw (← e)

pub by_refused : {A : Type 0} (o : Option Refusal) (a : A) (r : Refusal) → some r ≡ o → answer_by o a ≡ refused r
unfolding answer_by
by_refused o a r e = rw (← e)

-- an ask that is answered: the sheet held is within the limits, the place is at most its count, and the new sheet has a choice
pub record Passed (s : Tasks) (t : Entry) (p : ℕ) : Type 0 where
  pub sheet : none ≡ check_tasks s
  pub place : p ≤ s.count
  pub new : none ≡ refusal_of (plan_inputs (with_task p t s))

pub passed_of : (s : Tasks) (t : Entry) (p : ℕ) → none ≡ ask_refusal s t p → Passed s t p
unfolding ask_refusal check_place
passed_of s t p e =
    let a = both_none _ _ e in
    let b = both_none _ _ a.1 in
    let c = both_none _ _ b.1 in
    record { sheet = a.0; place = ltb-false s.count p (not_refused _ 14 p b.0); new = c.0 }

pub place_passes : (s : Tasks) (p : ℕ) → p ≤ s.count → none ≡ check_place s p
unfolding check_place refuse_if
place_passes s p h = rw (check_place, le-ltb s.count p h)

pub passed_asks : (s : Tasks) (t : Entry) (p : ℕ) → Passed s t p → none ≡ ask_refusal s t p
unfolding ask_refusal
passed_asks s t p a = a.new ∙ last_decides _ ∙ next_check _ _ (place_passes s p a.place) ∙ next_check _ _ a.sheet

-- the place that is found in an offer
module _ (s : Tasks) (t : Entry) (p : ℕ) (new : Tasks) (low : p ≤ s.count) (same : SameTasks (with_task p t s) new) where
  abbrev q : ℕ
  q = place_in s new

  record Located (m : ℕ) : Type 0 where
    high : m ≤ s.count
    over : p ≤ m
    agree : (i : ℕ) → i < m → entry_at s i ≡ entry_at new i

  located : Located q
  unfolding place_in or_end
  located = go (first (differs s new) s.count 0) refl
    where
      foot : first (differs s new) s.count 0 ≡ none → Located s.count
      foot e = record {
        high = omega arith;
        over = low;
        agree = λ i l. agree_of s new i (first_nothing (differs s new) s.count 0 e i (omega arith) (omega arith));
      }

      there : (m : ℕ) → first (differs s new) s.count 0 ≡ some m → Located m
      there m e =
          let f = first_found (differs s new) s.count 0 m e in
          let g : m < p → ⊥ =
          λ l. clash (differs s new m) f.holds (agree_yes s new m (sym (entry_above p t s m l) ∙ entry_same (with_task p t s) new same m (omega arith))) in
          record {
            high = omega (arith, f.high);
            over = le_by p m g;
            agree = λ i l. agree_of s new i (f.before i (omega arith) l);
          }

      go : (o : Option ℕ) → first (differs s new) s.count 0 ≡ o → Located (or_end s.count o)
      go none e = foot e
      go (some m) e = there m e

  -- the ask for the task there makes the same sheet
  pub found_same : SameTasks (with_task q (entry_at new q) s) new
  found_same = same_by (with_task q (entry_at new q) s) new same.count same.charge (λ i l. each i l (le_or_lt q i)) same.frame
    where
      here : (i : ℕ) → i ≡ q → entry_at (with_task q (entry_at new q) s) i ≡ entry_at new i
      here i e = rw e (entry_here q (entry_at new q) s)

      below : (j : ℕ) → q ≤ j → j < s.count → entry_at (with_task q (entry_at new q) s) (suc j) ≡ entry_at new (suc j)
      below j h l =
          entry_below q (entry_at new q) s j h
          ∙ sym (entry_below p t s j (omega (arith, located.over)))
          ∙ entry_same (with_task p t s) new same (suc j) (omega arith)

      later : (i j : ℕ) → q ≤ j → j < s.count → i ≡ suc j → entry_at (with_task q (entry_at new q) s) i ≡ entry_at new i
      later i j h l e = rw e (below j h l)

      each : (i : ℕ) → i < suc s.count → (q ≤ i) ⊎ (i < q) → entry_at (with_task q (entry_at new q) s) i ≡ entry_at new i
      each i l (inr h) = entry_above q (entry_at new q) s i h ∙ located.agree i h
      each i l (inl h) = at (le_or_lt i q)
        where
          at : (i ≤ q) ⊎ (q < i) → entry_at (with_task q (entry_at new q) s) i ≡ entry_at new i
          at (inl g) = here i (omega arith)
          at (inr g) = later i (pred i) (omega arith) (omega arith) (omega arith)

  pub found_low : q ≤ s.count
  found_low = located.high

-- what an answer gives
gives_of : (a : Answer Plan) (o : Plan) → gives a o ≡ true → (g : Plan) × (a ≡ answered g) × SamePlan g o
unfolding gives
gives_of (refused r) o e = let z : ◌≡◌ {A = ℕ} 0 1 = cc in absurd (omega arith)
gives_of (answered g) o e = (g, refl, plan_of_lem g o e)

gives_yes : (a : Answer Plan) (g o : Plan) → a ≡ answered g → SamePlan g o → gives a o ≡ true
unfolding gives
gives_yes a g o e h = rw e (plan_yes g o h)

asked_of : (s : Tasks) (o : Plan) → is_offer s o ≡ true → Asked s o
unfolding is_offer
asked_of s o e =
    let w = gives_of _ o e in
    record { task = entry_at o.tasks (place_in s o.tasks); place = place_in s o.tasks; given = w.0; answer = w.1; same = w.2 }

offer_of : (s : Tasks) (o : Plan) → Asked s o → is_offer s o ≡ true
unfolding is_offer ask_call
offer_of s o a =
    let w = by_answered (ask_refusal s a.task a.place) _ _ a.answer in
    let b = passed_of s a.task a.place w.0 in
    let n = with_task a.place a.task s in
    let same : SameTasks n o.tasks = rw (sym w.1) at a.same.tasks in
    let q = place_in s o.tasks in
    let n' = with_task q (entry_at o.tasks q) s in
    let found : SameTasks n' o.tasks = found_same s a.task a.place o.tasks b.place same in
    let alike : SameTasks n n' = same_on n o.tasks n' same (same_back n' o.tasks found) in
    let passed : Passed s (entry_at o.tasks q) q =
    record { sheet = b.sheet; place = found_low s a.task a.place o.tasks b.place same; new = b.new ∙ plan_refusal n n' alike } in
    let given : SamePlan (plan_of n) o = rw (sym w.1) at a.same in
    gives_yes _ (plan_of n') o (by_passed _ _ (passed_asks s (entry_at o.tasks q) q passed))
    (plan_on (plan_of n') (plan_of n) o (plan_same n' n (same_back n n' alike)) given)

-- the test of a commit holds exactly of the offers that some ask gives
pub offer_decided : OfferDecided
offer_decided = record { asked = asked_of; offer = offer_of }
