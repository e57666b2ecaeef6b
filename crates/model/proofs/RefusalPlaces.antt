-- Numbers and places of refusals are bounded: a number is one of document 01's, and a place is not over what goes into the call and the limits.
use Prim.Native.Nat.{ℕ, zero, suc, ◌+◌, ◌≤◌, ◌<◌}
use mathlib.Core.Path.{◌≡◌, refl, sym, ap, ◌∙◌}
use mathlib.Core.Bool.{Bool, true, false, ◌&&◌, ◌||◌, not}
use mathlib.Core.Logic.{◌⊎◌, inl, inr}
use mathlib.Core.Option.{Option, some, none}
use mathlib.Core.List.{List, [], ◌∷◌}
use native.Mathlib.Omega.{arith}
use borrow.Author.Tests.{ltb-false, leb-true, not-false}
use lib.Dec.{leb, ltb, eqb}
use lib.ListN.{length, get_or}
use Rattle.model.specs.Limits.{max_tasks, max_releases, max_tick, max_windows}
use Rattle.model.specs.Frame.{Frame}
use Rattle.model.specs.Tasks.{Tasks, Release}
use Rattle.model.specs.Choice.{Choice, unfit, chosen, Scope, keep_for, choice_next, choice_of, scope, choice}
use Rattle.model.specs.Refusal.{Refusal, refuse, refused, answered, first_refusal}
use Rattle.model.specs.Checks.{Lent, Inputs, refuse_at, refuse_if, fault_of, fault_at, refuse_by, check_entries, check_windows, check_frame, check_tasks}
use Rattle.model.specs.Checks.{check_task, check_count, check_slots, check_kept, release_fault, check_releases, check_choice, refusal_of, answer_of}
use Rattle.model.specs.Calls.{releases_of, task_inputs, choice_inputs, unfit_of, list_inputs, ready_inputs, run_inputs}
use Rattle.model.proofs.SearchLaws.{first_found}
use Rattle.model.proofs.SeriesLaws.{and_right}
use Rattle.model.proofs.TableLaws.{length_table}
use Rattle.model.proofs.CheckLaws.{entry_number, valid_of, not_refused, count_of}
use Rattle.model.proofs.OrderLaws.{answers, refuses}

-- the largest number of a refusal: 15 in document 01; 16 is that of a text's line, 17 of a load over P or D, 18 of a frame, 19 and 20 of a commit
abbrev pub largest_number : ℕ
largest_number = 20

-- a refusal with one of these numbers and a place of at most B
pub record Within (B : ℕ) (r : Refusal) : Type 0 where
  pub number_low : 1 ≤ r.number
  pub number_high : r.number ≤ largest_number
  pub place_high : r.place ≤ B

-- a larger bound
pub within_more : (B B' : ℕ) (r : Refusal) → B ≤ B' → Within B r → Within B' r
within_more B B' r h w = record { number_low = w.number_low; number_high = w.number_high; place_high = omega (arith, w.place_high) }

-- a refusal that is known
pub within_known : (B n p : ℕ) (r : Refusal) → 1 ≤ n → n ≤ largest_number → p ≤ B → some r ≡ refuse n p → Within B r
within_known B n p r a b c e =
    let w : ◌≡◌ {A = Refusal} (record { number = n; place = p }) r = cc in
    let v : Within B (record { number = n; place = p }) = record { number_low = a; number_high = b; place_high = c } in
    rw w at v

-- a test, and a search, that refuse
pub within_if : (B : ℕ) (b : Bool) (n p : ℕ) (r : Refusal) → 1 ≤ n → n ≤ largest_number → p ≤ B → some r ≡ refuse_if b n p → Within B r
unfolding refuse_if
within_if B true n p r h g l e = within_known B n p r h g l e
within_if B false n p r h g l e = let z : ◌≡◌ {A = ℕ} 0 1 = cc in absurd (omega arith)

within_at : (B n : ℕ) (o : Option ℕ) (r : Refusal) → 1 ≤ n → n ≤ largest_number → ((p : ℕ) → o ≡ some p → p ≤ B) → some r ≡ refuse_at n o → Within B r
unfolding refuse_at
within_at B n none r h g l e = let z : ◌≡◌ {A = ℕ} 0 1 = cc in absurd (omega arith)
within_at B n (some p) r h g l e = within_known B n p r h g (l p refl) e

-- a search whose place tells the number: 6 or 17
within_entry : (s : Tasks) (o : Option ℕ) (r : Refusal) → ((p : ℕ) → o ≡ some p → p ≤ max_tasks) → some r ≡ refuse_by (fault_of s) o → Within max_tasks r
unfolding refuse_by fault_at
within_entry s none r l e = let z : ◌≡◌ {A = ℕ} 0 1 = cc in absurd (omega arith)
within_entry s (some p) r l e = go (fault_of s p) refl
  where
    numbered : (n : ℕ) → (n ≡ 6) ⊎ (n ≡ 17) → some r ≡ refuse n p → Within max_tasks r
    numbered n (inl h) f = within_known max_tasks n p r (omega arith) (omega arith) (l p refl) f
    numbered n (inr h) f = within_known max_tasks n p r (omega arith) (omega arith) (l p refl) f

    go : (f : Option ℕ) → fault_of s p ≡ f → Within max_tasks r
    go none h = let w : some r ≡ none = rw (refuse_by, h) at e in let z : ◌≡◌ {A = ℕ} 0 1 = cc in absurd (omega arith)
    go (some n) h = numbered n (entry_number _ _ _ _ _ n h) (rw (refuse_by, h) at e)

-- checks in order: the first refuses, or it passes and a later one refuses
pub by_first
    : {A : Type 0} (c : Option Refusal) (l : List (Option Refusal)) (r : Refusal) → (some r ≡ c → A) → (none ≡ c → some r ≡ first_refusal l → A) → some r ≡ first_refusal (c ∷ l) → A
unfolding first_refusal
by_first none l r f g e = g refl e
by_first (some q) l r f g e = f e

pub by_last : {A : Type 0} (c : Option Refusal) (r : Refusal) → (some r ≡ c → A) → some r ≡ first_refusal (c ∷ []) → A
unfolding first_refusal
by_last none r f e = let z : ◌≡◌ {A = ℕ} 0 1 = cc in absurd (omega arith)
by_last (some q) r f e = f e

-- a frame: place 17 or 16, or a window below the count, which is at most 16
frame_within : (o : Option Frame) (r : Refusal) → some r ≡ check_frame o → Within max_tasks r
unfolding check_frame check_windows
frame_within none r e = let z : ◌≡◌ {A = ℕ} 0 1 = cc in absurd (omega arith)
frame_within (some f) r e =
    by_first _ _ r (within_if max_tasks _ 18 17 r (omega arith) (omega arith) (omega arith))
    (λ _.
    by_first _ _ r (within_if max_tasks _ 18 16 r (omega arith) (omega arith) (omega arith))
    (λ n.
    by_last _ r
    (within_at max_tasks 18 _ r (omega arith) (omega arith)
    (λ k g. omega (arith, (first_found _ f.count 0 k g).high, few (not_refused _ 18 16 n))))))
    e
  where
    few : not (leb 1 f.count && leb f.count max_windows) ≡ false → f.count ≤ max_windows
    few h = leb-true _ _ (and_right (leb 1 f.count) _ (not-false _ h))

-- the sheet: a task below the count, which is at most 32, or its frame
pub tasks_within : (s : Tasks) (r : Refusal) → some r ≡ check_tasks s → Within max_tasks r
unfolding check_tasks check_entries
tasks_within s r =
    by_first _ _ r (within_if max_tasks _ 5 0 r (omega arith) (omega arith) (omega arith))
    (λ _.
    by_first _ _ r (within_if max_tasks _ 4 max_tasks r (omega arith) (omega arith) (omega arith))
    (λ n.
    by_first _ _ r
    (within_entry s _ r
    (λ i f. omega (arith, (first_found _ s.count 0 i f).high, ltb-false max_tasks s.count (not_refused _ 4 max_tasks n))))
    (λ _. by_last _ r (frame_within s.frame r))))

-- every lent slice needs at most B slots
pub data Needs (B : ℕ) : List Lent → Type 0 where
  needs_none : Needs B []
  needs : {c : Lent} {l : List Lent} → c.needed ≤ B → Needs B l → Needs B (c ∷ l)

-- 13
pub slots_within : (B : ℕ) (l : List Lent) (r : Refusal) → Needs B l → some r ≡ check_slots l → Within B r
unfolding check_slots
slots_within B l r needs_none e = let z : ◌≡◌ {A = ℕ} 0 1 = cc in absurd (omega arith)
slots_within B l r (needs {c = c} {l = m} h n) e = go (ltb c.slots c.needed) refl (slots_within B m r n)
  where
    go : (b : Bool) → ltb c.slots c.needed ≡ b → (some r ≡ check_slots m → Within B r) → Within B r
    go true g i = within_known B 13 c.needed r (omega arith) (omega arith) h (rw (check_slots, g) at e)
    go false g i = i (rw (check_slots, g) at e)

-- 12
pub kept_within : (s : Tasks) (k : Option (ℕ → ℕ)) (r : Refusal) → s.count ≤ max_tasks → some r ≡ check_kept s k → Within max_tasks r
unfolding check_kept
kept_within s none r l e = let z : ◌≡◌ {A = ℕ} 0 1 = cc in absurd (omega arith)
kept_within s (some k) r l e = within_at max_tasks 12 _ r (omega arith) (omega arith) (λ i f. omega (arith, (first_found _ s.count 0 i f).high)) e

-- 7, 8, 9
pub fault_number : (s : Tasks) (low high : ℕ) (r : Release) (n : ℕ) → release_fault s low high r ≡ some n → (7 ≤ n) × (n ≤ 9)
unfolding release_fault
fault_number s low high r n e = known (leb s.count r.task) refl
  where
    is : (m : ℕ) → 7 ≤ m → m ≤ 9 → some m ≡ some n → (7 ≤ n) × (n ≤ 9)
    is m a b h = let w : m ≡ n = cc in (omega arith, omega arith)

    cost
        : (a b c : Bool) → leb s.count r.task ≡ a → (ltb r.tick low || ltb high r.tick) ≡ b → (eqb r.cost 0 || ltb (s.cost r.task) r.cost) ≡ c
        → (7 ≤ n) × (n ≤ 9)
    cost true b c h g f = is 7 (omega arith) (omega arith) (rw (release_fault, h) at e)
    cost false true c h g f = is 8 (omega arith) (omega arith) (rw (release_fault, h, g) at e)
    cost false false true h g f = is 9 (omega arith) (omega arith) (rw (release_fault, h, g, f) at e)
    cost false false false h g f = let w : none ≡ some n = rw (release_fault, h, g, f) at e in let z : ◌≡◌ {A = ℕ} 0 1 = cc in absurd (omega arith)

    known : (a : Bool) → leb s.count r.task ≡ a → (7 ≤ n) × (n ≤ 9)
    known a h = cost a (ltb r.tick low || ltb high r.tick) (eqb r.cost 0 || ltb (s.cost r.task) r.cost) h refl refl

pub releases_within : (B : ℕ) (s : Tasks) (before p : ℕ) (l : List Release) (r : Refusal) → p + length l ≤ B → some r ≡ check_releases s before p l → Within B r
unfolding check_releases
releases_within B s before p [] r h e = let z : ◌≡◌ {A = ℕ} 0 1 = cc in absurd (omega arith)
releases_within B s before p (q ∷ l) r h e = go (release_fault s before max_tick q) refl (releases_within B s q.tick (suc p) l r (omega arith))
  where
    go : (o : Option ℕ) → release_fault s before max_tick q ≡ o → (some r ≡ check_releases s q.tick (suc p) l → Within B r) → Within B r
    go none f i = i (rw (check_releases, f) at e)
    go (some n) f i =
        let k = fault_number s before max_tick q n f in
        within_known B n p r (omega (arith, k.0)) (omega (arith, k.1)) (omega arith) (rw (check_releases, f) at e)

-- 15: the task that fits at no K is one of the sheet
unfit_below : (c : Scope) (s : Tasks) (m i : ℕ) → choice_of c s m ≡ unfit i → i < m
unfolding choice_of choice_next
unfit_below c s zero i e = let z : ◌≡◌ {A = ℕ} 0 1 = cc in absurd (omega arith)
unfit_below c s (suc m) i e = go (choice_of c s m) refl (unfit_below c s m i)
  where
    go : (r : Choice) → choice_of c s m ≡ r → (choice_of c s m ≡ unfit i → i < m) → i < suc m
    go (unfit n) h f = let w : unfit n ≡ unfit i = sym (ap (choice_next c s m) h) ∙ e in omega (arith, f (h ∙ w))
    go (chosen ks ws) h f = least (keep_for c s ks m) refl (sym (ap (choice_next c s m) h) ∙ e)
      where
        least : (o : Option ℕ) → keep_for c s ks m ≡ o → choice_next c s m (chosen ks ws) ≡ unfit i → i < suc m
        least none g d = let w : unfit m ≡ unfit i = rw (choice_next, g) at d in let x : m ≡ i = cc in omega arith
        least (some K) g d = let w = rw (choice_next, g) at d in let z : ◌≡◌ {A = ℕ} 0 1 = cc in absurd (omega arith)

-- what bounds the places of a call's refusals
pub record Limited (B : ℕ) (c : Inputs) : Type 0 where
  pub over : max_releases ≤ B
  pub single : (i : ℕ) → c.single ≡ some i → i ≤ B
  pub lent : c.tasks.count ≤ max_tasks → none ≡ check_count c.count → Needs B c.lent
  pub releases : none ≡ check_count c.count → length c.releases ≤ max_releases
  pub unfit : (i : ℕ) → c.unfit ≡ some i → i < c.tasks.count

-- every refusal of such a call
module _ (B : ℕ) (c : Inputs) (l : Limited B c) (r : Refusal) where
  task_within : (o : Option ℕ) → c.single ≡ o → some r ≡ check_task c.tasks o → Within B r
  unfolding check_task
  task_within none h e = let z : ◌≡◌ {A = ℕ} 0 1 = cc in absurd (omega arith)
  task_within (some i) h e = within_if B _ 14 i r (omega arith) (omega arith) (l.single i h) e

  count_within : (o : Option ℕ) → some r ≡ check_count o → Within B r
  unfolding check_count
  count_within none e = let z : ◌≡◌ {A = ℕ} 0 1 = cc in absurd (omega arith)
  count_within (some n) e = within_if B _ 10 max_releases r (omega arith) (omega arith) l.over e

  choice_within : c.tasks.count ≤ max_tasks → some r ≡ check_choice c.unfit → Within B r
  unfolding check_choice
  choice_within h e = within_at B 15 c.unfit r (omega arith) (omega arith) (λ i f. omega (arith, l.unfit i f, l.over)) e

  pub refusal_within : some r ≡ refusal_of c → Within B r
  unfolding refusal_of
  refusal_within =
      by_first _ _ r (λ e. within_more max_tasks B r (omega (arith, l.over)) (tasks_within c.tasks r e))
      (λ t.
      let few : c.tasks.count ≤ max_tasks = (valid_of c.tasks (sym t)).few_tasks in
      by_first _ _ r (task_within c.single refl)
      (λ _.
      by_first _ _ r (count_within c.count)
      (λ n.
      by_first _ _ r (slots_within B c.lent r (l.lent few n))
      (λ _.
      by_first _ _ r (λ e. within_more max_tasks B r (omega (arith, l.over)) (kept_within c.tasks c.kept r few e))
      (λ _.
      by_first _ _ r (releases_within B c.tasks 0 0 c.releases r (omega (arith, l.releases n, l.over)))
      (λ _. by_last _ r (choice_within few)))))))

-- of an answer
pub answer_within : {A : Type 0} (B : ℕ) (c : Inputs) (a : A) (r : Refusal) → Limited B c → answer_of c a ≡ refused r → Within B r
answer_within B c a r l e = go (refusal_of c) refl
  where
    go : (o : Option Refusal) → o ≡ refusal_of c → Within B r
    go none n = let w : answered a ≡ refused r = answers c a n ∙ e in let z : ◌≡◌ {A = ℕ} 0 1 = cc in absurd (omega arith)
    go (some q) n = let w : refused q ≡ refused r = refuses c a q n ∙ e in let x : q ≡ r = cc in refusal_within B c l r (ap some (sym x) ∙ n)

-- the calls on values: a place is at most 1,024, or the task number given
pub no_number : {A : Type 0} {n : ℕ} → ◌≡◌ {A = Option ℕ} none (some n) → A
no_number e = let z : ◌≡◌ {A = ℕ} 0 1 = cc in absurd (omega arith)

list_few : (n : ℕ) (task tick cost : List ℕ) → none ≡ check_count (some n) → length (releases_of n task tick cost) ≤ max_releases
unfolding releases_of
list_few n task tick cost e = omega (arith, length_table {A = Release} (λ p. record { task = get_or task p 0; tick = get_or tick p 0; cost = get_or cost p 0 }) n, count_of n e)

module _ (s : Tasks) where
  -- arrival count and verdict, of a task number of at most B
  pub task_limited : (B i : ℕ) (kept : List ℕ) → max_releases ≤ B → i ≤ B → Limited B (task_inputs s i kept)
  task_limited B i kept h g = record {
    over = h;
    single = λ j e. let w : i ≡ j = cc in omega arith;
    lent = λ f _. let b : s.count ≤ B = omega arith in needs b needs_none;
    releases = λ _. omega arith;
    unfit = λ j e. no_number e;
  }

  -- choice
  pub choice_limited : (kept worst : List ℕ) → Limited max_releases (choice_inputs s kept worst)
  unfolding unfit_of
  choice_limited kept worst = record {
    over = omega arith;
    single = λ j e. no_number e;
    lent = λ f _. let b : s.count ≤ max_releases = omega arith in needs b (needs b needs_none);
    releases = λ _. omega arith;
    unfit = λ j e. unfit_below (scope s) s s.count j (is (choice s) j e);
  }
    where
      is : (c : Choice) (j : ℕ) → unfit_of c ≡ some j → c ≡ unfit j
      is (unfit n) j e = ap unfit (cc)
      is (chosen ks ws) j e = no_number e

  -- trace check
  pub list_limited : (n : ℕ) (task tick cost : List ℕ) → Limited max_releases (list_inputs s n task tick cost)
  list_limited n task tick cost = record {
    over = omega arith;
    single = λ j e. no_number e;
    lent = λ _ e. let h = count_of n e in needs h (needs h (needs h needs_none));
    releases = list_few n task tick cost;
    unfit = λ j e. no_number e;
  }

  -- ready ticks
  pub ready_limited : (kept : List ℕ) (n : ℕ) (task tick cost ready : List ℕ) → Limited max_releases (ready_inputs s kept n task tick cost ready)
  ready_limited kept n task tick cost ready = record {
    over = omega arith;
    single = λ j e. no_number e;
    lent = λ f e. let b : s.count ≤ max_releases = omega arith in let h = count_of n e in needs b (needs h (needs h (needs h (needs h needs_none))));
    releases = list_few n task tick cost;
    unfit = λ j e. no_number e;
  }

  -- run
  pub run_limited : (kept : List ℕ) (n : ℕ) (task tick cost ready finish : List ℕ) → Limited max_releases (run_inputs s kept n task tick cost ready finish)
  run_limited kept n task tick cost ready finish = record {
    over = omega arith;
    single = λ j e. no_number e;
    lent = λ f e. let b : s.count ≤ max_releases = omega arith in let h = count_of n e in needs b (needs h (needs h (needs h (needs h (needs h needs_none)))));
    releases = list_few n task tick cost;
    unfit = λ j e. no_number e;
  }
