-- Laws of each check by itself: what it refuses, and what holds where it passes.
use Prim.Native.Nat.{ℕ, ◌+◌, ◌≤◌, ◌<◌}
use mathlib.Core.Path.{◌≡◌, refl, sym, ◌∙◌, ap}
use mathlib.Core.Logic.{◌⊎◌, inl, inr}
use mathlib.Core.Bool.{Bool, true, false, ◌&&◌, and-eq-true_iff}
use mathlib.Core.Option.{Option, some, none}
use mathlib.Core.List.{List, [], ◌∷◌, ◌++◌}
use native.Mathlib.Omega.{arith}
use native.Mathlib.Nat.{lt_of_not-le, le_of_suc-le-suc}
use borrow.Author.Tests.{le-leb, lt-leb, leb-true, leb-false, ne_eqb, lt-ltb, le-ltb, ltb-true, ltb-false}
use lib.Dec.{leb, ltb}
use lib.IntN.{ℤ}
use Rattle.model.specs.Limits.{max_tasks, max_time, max_releases}
use Rattle.model.specs.Search.{first}
use Rattle.model.specs.Frame.{Frame, InRules}
use Rattle.model.specs.Processor.{plain}
use Rattle.model.specs.Tasks.{Tasks, InRange, Carried, Valid, load}
use Rattle.model.specs.Choice.{Choice, unfit, chosen}
use Rattle.model.specs.Refusal.{Refusal, refuse, first_refusal}
use Rattle.model.specs.Checks.{Lent, in_range, carries, entry_fault, fault_of, fault_at, is_fault, refuse_at, refuse_if, refuse_by, check_entries, check_frame, check_tasks, check_task, check_count, check_slots, check_kept, check_choice}
use Rattle.model.specs.Calls.{unfit_of}
use Rattle.model.proofs.SearchLaws.{first_none, first_found, first_nothing}
use Rattle.model.proofs.FrameCheckLaws.{ruled_of, ruled_passes}

-- a test that cannot hold does not
pub is_false : (b : Bool) → (b ≡ true → ⊥) → b ≡ false
is_false true h = absurd (h refl)
is_false false h = refl

pub in_range_yes : (P J E D : ℕ) → InRange P J E D → in_range P J E D ≡ true
unfolding in_range
in_range_yes P J E D h =
    rw (
      le-leb 1 P (omega arith),
      le-leb P max_time (omega arith),
      le-leb J max_time (omega arith),
      le-leb 1 E (omega arith),
      le-leb E P (omega arith),
      le-leb E D
          (omega arith),
      le-leb D max_time (omega arith),
    )

-- two tests that hold together hold
pub both : (a b : Bool) → (a && b) ≡ true → (a ≡ true) × (b ≡ true)
both a b h = (and-eq-true_iff a b).0 h

pub in_range_of : (P J E D : ℕ) → in_range P J E D ≡ true → InRange P J E D
unfolding in_range
in_range_of P J E D h =
    let h6 = both (leb 1 P && leb P max_time && leb J max_time && leb 1 E && leb E P && leb E D) (leb D max_time) h in
    let h5 = both (leb 1 P && leb P max_time && leb J max_time && leb 1 E && leb E P) (leb E D) h6.0 in
    let h4 = both (leb 1 P && leb P max_time && leb J max_time && leb 1 E) (leb E P) h5.0 in
    let h3 = both (leb 1 P && leb P max_time && leb J max_time) (leb 1 E) h4.0 in
    let h2 = both (leb 1 P && leb P max_time) (leb J max_time) h3.0 in
    let h1 = both (leb 1 P) (leb P max_time) h2.0 in
    record {
      period_low = leb-true _ _ h1.0;
      period_high = leb-true _ _ h1.1;
      jitter_high = leb-true _ _ h2.1;
      cost_low = leb-true _ _ h3.1;
      cost_period = leb-true _ _ h4.1;
      cost_deadline = leb-true _ _ h5.1;
      deadline_high = leb-true _ _ h6.1;
    }

pub in_range_no : (P J E D : ℕ) → (InRange P J E D → ⊥) → in_range P J E D ≡ false
in_range_no P J E D h = is_false _ (λ e. h (in_range_of P J E D e))

pub carries_yes : (S P E D : ℕ) → Carried P D ((plain S).work E) → carries S P E D ≡ true
unfolding carries
carries_yes S P E D h = rw (le-leb (E + S) P h.load_period, le-leb (E + S) D h.load_deadline)

pub carries_of : (S P E D : ℕ) → carries S P E D ≡ true → Carried P D ((plain S).work E)
unfolding carries
carries_of S P E D h =
    let t = both (leb (E + S) P) (leb (E + S) D) h in
    record { load_period = leb-true _ _ t.0; load_deadline = leb-true _ _ t.1 }

pub carries_no : (S P E D : ℕ) → (Carried P D ((plain S).work E) → ⊥) → carries S P E D ≡ false
carries_no S P E D h = is_false _ (λ e. h (carries_of S P E D e))

-- what is wrong with a task: 6, then 17
module _ (S P J E D : ℕ) where
  pub entry_outside : in_range P J E D ≡ false → entry_fault S P J E D ≡ some 6
  unfolding entry_fault
  entry_outside h = rw (entry_fault, h)

  pub entry_heavy : in_range P J E D ≡ true → (Carried P D ((plain S).work E) → ⊥) → entry_fault S P J E D ≡ some 17
  unfolding entry_fault
  entry_heavy h g = rw (entry_fault, h, carries_no S P E D g)

  pub entry_fine : in_range P J E D ≡ true → Carried P D ((plain S).work E) → entry_fault S P J E D ≡ none
  unfolding entry_fault
  entry_fine h g = rw (entry_fault, h, carries_yes S P E D g)

  -- where nothing is wrong
  pub entry_of : entry_fault S P J E D ≡ none → InRange P J E D × Carried P D ((plain S).work E)
  unfolding entry_fault
  entry_of e = go (in_range P J E D) (carries S P E D) refl refl
    where
      go : (a b : Bool) → in_range P J E D ≡ a → carries S P E D ≡ b → InRange P J E D × Carried P D ((plain S).work E)
      go false b f g = let w : ◌≡◌ {A = Option ℕ} (some 6) none = rw (entry_fault, f) at e in let z : ◌≡◌ {A = ℕ} 0 1 = cc in absurd (omega arith)
      go true false f g = let w : ◌≡◌ {A = Option ℕ} (some 17) none = rw (entry_fault, f, g) at e in let z : ◌≡◌ {A = ℕ} 0 1 = cc in absurd (omega arith)
      go true true f g = (in_range_of P J E D f, carries_of S P E D g)

  -- the numbers
  pub entry_number : (n : ℕ) → entry_fault S P J E D ≡ some n → (n ≡ 6) ⊎ (n ≡ 17)
  unfolding entry_fault
  entry_number n e = go (in_range P J E D) (carries S P E D) refl refl
    where
      go : (a b : Bool) → in_range P J E D ≡ a → carries S P E D ≡ b → (n ≡ 6) ⊎ (n ≡ 17)
      go false b f g = let w : ◌≡◌ {A = Option ℕ} (some 6) (some n) = rw (entry_fault, f) at e in inl (cc)
      go true false f g = let w : ◌≡◌ {A = Option ℕ} (some 17) (some n) = rw (entry_fault, f, g) at e in inr (cc)
      go true true f g = let w : ◌≡◌ {A = Option ℕ} none (some n) = rw (entry_fault, f, g) at e in let z : ◌≡◌ {A = ℕ} 0 1 = cc in absurd (omega arith)

-- a number as a refusal
pub faulty : (p n : ℕ) (o : Option ℕ) → o ≡ some n → refuse n p ≡ fault_at p o
unfolding fault_at
faulty p n o e = rw (fault_at, e)

pub faultless : (p : ℕ) (o : Option ℕ) → o ≡ none → none ≡ fault_at p o
unfolding fault_at
faultless p o e = rw (fault_at, e)

-- the number of a refusal
pub fault_of_lem : (p : ℕ) (o : Option ℕ) (q : Refusal) → some q ≡ fault_at p o → (o ≡ some q.number) × (q ≡ record { number = q.number; place = p })
unfolding fault_at
fault_of_lem p none q e = let z : ◌≡◌ {A = ℕ} 0 1 = cc in absurd (omega arith)
fault_of_lem p (some n) q e =
    let w : ◌≡◌ {A = Refusal} q (record { number = n; place = p }) = cc in
    let v : n ≡ q.number = sym (ap (λ (x : Refusal). x.number) w) in
    (ap some v, w ∙ ap (λ m. record { number = m; place = p }) v)

pub faultless_of : (p : ℕ) (o : Option ℕ) → none ≡ fault_at p o → o ≡ none
unfolding fault_at
faultless_of p none e = refl
faultless_of p (some n) e = let z : ◌≡◌ {A = ℕ} 0 1 = cc in absurd (omega arith)

-- whether there is one
pub is_fault_lem : (o : Option ℕ) (n : ℕ) → o ≡ some n → is_fault o ≡ true
unfolding is_fault
is_fault_lem o n e = rw e

pub no_fault : (o : Option ℕ) → o ≡ none → is_fault o ≡ false
unfolding is_fault
no_fault o e = rw e

is_none : (o : Option ℕ) → is_fault o ≡ false → o ≡ none
unfolding is_fault
is_none none e = refl
is_none (some n) e = let z : ◌≡◌ {A = ℕ} 0 1 = cc in absurd (omega arith)

-- the search of 6 and 17
abbrev pub wrong : Tasks → ℕ → Bool
wrong s i = is_fault (fault_of s i)

-- 5: no task
pub refuses_none : (s : Tasks) → s.count ≡ 0 → refuse 5 0 ≡ check_tasks s
unfolding check_tasks refuse_if first_refusal
refuses_none s h = rw (check_tasks, h)

-- 4: over 32 tasks
pub refuses_many : (s : Tasks) → max_tasks < s.count → refuse 4 max_tasks ≡ check_tasks s
unfolding check_tasks refuse_if first_refusal
refuses_many s h = rw (check_tasks, ne_eqb s.count 0 (λ e. omega arith), lt-ltb max_tasks s.count h)

entries : (s : Tasks) → 1 ≤ s.count → s.count ≤ max_tasks → check_tasks s ≡ first_refusal (check_entries s ∷ check_frame s.frame ∷ [])
unfolding check_tasks refuse_if first_refusal
entries s l h = rw (check_tasks, ne_eqb s.count 0 (λ e. omega arith), le-ltb max_tasks s.count h)

-- 6, 17: the first task with which something is wrong
pub refuses_entry
    : (s : Tasks) (i : ℕ) (r : Refusal) → 1 ≤ s.count → s.count ≤ max_tasks → first (wrong s) s.count 0 ≡ some i → some r ≡ fault_at i (fault_of s i)
    → some r ≡ check_tasks s
unfolding check_entries refuse_by first_refusal
refuses_entry s i r l h e f = sym (entries s l h ∙ rw (check_entries, e, refuse_by, ← f))

-- 18: the frame decides where no task is wrong
pub frame_decides : (s : Tasks) → 1 ≤ s.count → s.count ≤ max_tasks → first (wrong s) s.count 0 ≡ none → check_frame s.frame ≡ check_tasks s
unfolding check_entries refuse_by first_refusal
frame_decides s l h e = sym (entries s l h ∙ rw (check_entries, e) (alone (check_frame s.frame)))
  where
    alone : (o : Option Refusal) → first_refusal (o ∷ []) ≡ o
    alone none = refl
    alone (some r) = refl

-- a sheet within the limits, without a frame
pub passes : (s : Tasks) → s.frame ≡ none → 1 ≤ s.count → s.count ≤ max_tasks → first (wrong s) s.count 0 ≡ none → none ≡ check_tasks s
unfolding check_frame
passes s f l h e = ap check_frame (sym f) ∙ frame_decides s l h e

-- a sheet that passes its check is within the limits
pub valid_of : (s : Tasks) → check_tasks s ≡ none → Valid s
valid_of s h = record { some_task = low; few_tasks = high; in_range_lem = λ i l. (fine i l).0; carried = λ i l. (fine i l).1; framed = ruled }
  where
    no_refusal : {r : Refusal} → some r ≡ check_tasks s → ⊥
    no_refusal e = let e' = e ∙ h in let z : ◌≡◌ {A = ℕ} 0 1 = cc in omega arith

    low : 1 ≤ s.count
    low = lt_of_not-le (λ l. no_refusal (refuses_none s (omega arith)))

    high : s.count ≤ max_tasks
    high = le_of_suc-le-suc (lt_of_not-le (λ l. no_refusal (refuses_many s l)))

    nothing : first (wrong s) s.count 0 ≡ none
    nothing = go (first (wrong s) s.count 0) refl
      where
        there : (i : ℕ) (o : Option ℕ) → fault_of s i ≡ o → first (wrong s) s.count 0 ≡ some i → ⊥
        there i (some n) g e = no_refusal (refuses_entry s i (record { number = n; place = i }) low high e (faulty i n (fault_of s i) g))
        there i none g e =
            let w : false ≡ true = sym (no_fault (fault_of s i) g) ∙ (first_found (wrong s) s.count 0 i e).holds in
            let z : ◌≡◌ {A = ℕ} 0 1 = cc in omega arith

        go : (o : Option ℕ) → first (wrong s) s.count 0 ≡ o → o ≡ none
        go none e = refl
        go (some i) e = absurd (there i (fault_of s i) refl e)

    ruled : (f : Frame) → s.frame ≡ some f → InRules f
    ruled = ruled_of s.frame (sym (frame_decides s low high nothing ∙ h))

    fine : (i : ℕ) → i < s.count → InRange (s.period i) (s.jitter i) (s.cost i) (s.deadline i) × Carried (s.period i) (s.deadline i) (load s i)
    fine i l =
        entry_of s.charge (s.period i) (s.jitter i) (s.cost i) (s.deadline i)
        (is_none (fault_of s i) (first_nothing (wrong s) s.count 0 nothing i (omega arith) (omega arith)))

-- and a sheet within them passes
pub valid_passes : (s : Tasks) → Valid s → none ≡ check_tasks s
valid_passes s v =
    ruled_passes s.frame v.framed
    ∙ frame_decides s v.some_task v.few_tasks
    (first_none (wrong s) s.count 0
    (λ i l g. no_fault (fault_of s i) (entry_fine _ _ _ _ _ (in_range_yes _ _ _ _ (v.in_range_lem i (omega arith))) (v.carried i (omega arith)))))

-- the search of 12
abbrev pub over : Tasks → (ℕ → ℕ) → ℕ → Bool
over s k i = ltb (s.jitter i) (k i)

-- 12: the first task with K > J
pub refuses_kept : (s : Tasks) (k : ℕ → ℕ) (i : ℕ) → first (over s k) s.count 0 ≡ some i → refuse 12 i ≡ check_kept s (some k)
unfolding check_kept refuse_at
refuses_kept s k i e = rw (check_kept, e)

pub passes_kept : (s : Tasks) (k : ℕ → ℕ) → first (over s k) s.count 0 ≡ none → none ≡ check_kept s (some k)
unfolding check_kept refuse_at
passes_kept s k e = rw (check_kept, e)

-- kept jitters that pass their check are in 0..J
pub kept_of : (s : Tasks) (k : ℕ → ℕ) → check_kept s (some k) ≡ none → (i : ℕ) → i < s.count → k i ≤ s.jitter i
kept_of s k h i l = ltb-false _ _ (first_nothing (over s k) s.count 0 nothing i (omega arith) (omega arith))
  where
    nothing : first (over s k) s.count 0 ≡ none
    nothing = go (first (over s k) s.count 0) refl
      where
        go : (o : Option ℕ) → first (over s k) s.count 0 ≡ o → o ≡ none
        go none e = refl
        go (some j) e = let e' = refuses_kept s k j e ∙ h in let z : ◌≡◌ {A = ℕ} 0 1 = cc in absurd (omega arith)

-- and kept jitters in 0..J pass
pub kept_passes : (s : Tasks) (k : ℕ → ℕ) → ((i : ℕ) → i < s.count → k i ≤ s.jitter i) → none ≡ check_kept s (some k)
kept_passes s k h = passes_kept s k (first_none (over s k) s.count 0 (λ i l g. le-ltb (s.jitter i) (k i) (h i (omega arith))))

-- a test that passes does not hold
pub not_refused : (b : Bool) (n p : ℕ) → none ≡ refuse_if b n p → b ≡ false
unfolding refuse_if
not_refused true n p h = let z : ◌≡◌ {A = ℕ} 0 1 = cc in absurd (omega arith)
not_refused false n p h = refl

-- 14: no such task
module _ (s : Tasks) (i : ℕ) where
  pub task_unknown : s.count ≤ i → refuse 14 i ≡ check_task s (some i)
  unfolding check_task refuse_if
  task_unknown h = rw (check_task, le-leb s.count i h)

  pub task_known : i < s.count → none ≡ check_task s (some i)
  unfolding check_task refuse_if
  task_known h = rw (check_task, lt-leb s.count i h)

  -- a task number that passes is one of the sheet
  pub task_of_lem : none ≡ check_task s (some i) → i < s.count
  unfolding check_task
  task_of_lem h = leb-false _ _ (not_refused _ _ _ h)

-- 10: over 1,024 releases
module _ (n : ℕ) where
  pub count_many : max_releases < n → refuse 10 max_releases ≡ check_count (some n)
  unfolding check_count refuse_if
  count_many h = rw (check_count, lt-ltb max_releases n h)

  pub count_few : n ≤ max_releases → none ≡ check_count (some n)
  unfolding check_count refuse_if
  count_few h = rw (check_count, le-ltb max_releases n h)

  -- a count that passes
  pub count_of : none ≡ check_count (some n) → n ≤ max_releases
  unfolding check_count
  count_of h = ltb-false _ _ (not_refused _ _ _ h)

-- 13: the first slice that is too short
module _ (c : Lent) (l : List Lent) where
  pub slots_short : c.slots < c.needed → refuse 13 c.needed ≡ check_slots (c ∷ l)
  unfolding check_slots
  slots_short h = rw (check_slots, lt-ltb _ _ h)

  pub slots_next : c.needed ≤ c.slots → check_slots (c ∷ l) ≡ check_slots l
  unfolding check_slots
  slots_next h = rw (check_slots, le-ltb c.slots c.needed h)

  -- a slice that passes is long enough, and the next ones pass
  pub slot_of : none ≡ check_slots (c ∷ l) → (c.needed ≤ c.slots) × (none ≡ check_slots l)
  slot_of e = go (ltb c.slots c.needed) refl
    where
      go : (b : Bool) → ltb c.slots c.needed ≡ b → (c.needed ≤ c.slots) × (none ≡ check_slots l)
      go true h = let e' = e ∙ sym (slots_short (ltb-true _ _ h)) in let z : ◌≡◌ {A = ℕ} 0 1 = cc in absurd (omega arith)
      go false h = (ltb-false _ _ h, e ∙ slots_next (ltb-false _ _ h))

pub slots_none : none ≡ check_slots []
unfolding check_slots
slots_none = refl

-- slices in a row: the first that is too short decides ..
pub slots_first : (l r : List Lent) (q : Refusal) → some q ≡ check_slots l → some q ≡ check_slots (l ++ r)
unfolding check_slots
slots_first [] r q e = let z : ◌≡◌ {A = ℕ} 0 1 = cc in absurd (omega arith)
slots_first (c ∷ l) r q e = go (ltb c.slots c.needed) refl (slots_first l r q)
  where
    go : (b : Bool) → ltb c.slots c.needed ≡ b → (some q ≡ check_slots l → some q ≡ check_slots (l ++ r)) → some q ≡ check_slots ((c ∷ l) ++ r)
    go true h f = e ∙ sym (slots_short c l (ltb-true _ _ h)) ∙ slots_short c (l ++ r) (ltb-true _ _ h)
    go false h f = f (e ∙ slots_next c l (ltb-false _ _ h)) ∙ sym (slots_next c (l ++ r) (ltb-false _ _ h))

-- .. and those that are long enough leave the others to decide
pub slots_rest : (l r : List Lent) → none ≡ check_slots l → check_slots (l ++ r) ≡ check_slots r
slots_rest [] r e = refl
slots_rest (c ∷ l) r e = let a = slot_of c l e in slots_next c (l ++ r) a.0 ∙ slots_rest l r a.1

-- 15: the first task that fits at no K
pub unfit_refused : (c : Choice) (i : ℕ) → c ≡ unfit i → refuse 15 i ≡ check_choice (unfit_of c)
unfolding check_choice refuse_at unfit_of
unfit_refused c i e = rw e

pub chosen_passes : (c : Choice) (ks : List ℕ) (ws : List ℤ) → c ≡ chosen ks ws → none ≡ check_choice (unfit_of c)
unfolding check_choice refuse_at unfit_of
chosen_passes c ks ws e = rw e

-- what a refusal of the choice says
pub unfit_of_lem : (c : Choice) (n p : ℕ) → refuse n p ≡ check_choice (unfit_of c) → (n ≡ 15) × (c ≡ unfit p)
unfolding check_choice refuse_at unfit_of
unfit_of_lem (unfit i) n p e =
    let same : ◌≡◌ {A = Refusal} (record { number = n; place = p }) (record { number = 15; place = i }) = cc in
    (ap (λ (x : Refusal). x.number) same, ap unfit (sym (ap (λ (x : Refusal). x.place) same)))
unfit_of_lem (chosen ks ws) n p e = let z : ◌≡◌ {A = ℕ} 0 1 = cc in absurd (omega arith)

-- a choice that passes: its kept jitters and its largest R
pub record Chosen (c : Choice) : Type 0 where
  pub keeps : List ℕ
  pub worsts : List ℤ
  pub is : c ≡ chosen keeps worsts

pub chosen_of : (c : Choice) → none ≡ check_choice (unfit_of c) → Chosen c
unfolding check_choice refuse_at unfit_of
chosen_of (unfit i) e = let z : ◌≡◌ {A = ℕ} 0 1 = cc in absurd (omega arith)
chosen_of (chosen ks ws) e = record { keeps = ks; worsts = ws; is = refl }
