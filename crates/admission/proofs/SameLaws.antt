-- The comparisons of a commit decide what they stand for: sheets, columns and records that say the same, entries past the counts left out.
use Prim.Native.Nat.{ℕ, ◌<◌}
use mathlib.Core.Path.{◌≡◌, refl, sym, ap, ◌∙◌}
use mathlib.Core.Bool.{Bool, true, false, not}
use mathlib.Core.Option.{Option, some, none}
use mathlib.Core.List.{List}
use native.Mathlib.Omega.{arith}
use borrow.Author.Tests.{eqb-true, eq-eqb, not-false}
use lib.Dec.{eqb}
use lib.ListN.{length}
use lib.Seq.{ext_get_or}
use Rattle.model.specs.Search.{first}
use Rattle.model.specs.Frame.{Frame}
use Rattle.model.specs.Tasks.{Tasks}
use Rattle.model.specs.Choice.{Scope, ordinary, high_only, column}
use Rattle.model.specs.SameTasks.{SameFrame, SameTasks}
use Rattle.model.proofs.SeriesLaws.{and_both}
use Rattle.model.proofs.SearchLaws.{first_none, first_nothing}
use Rattle.model.proofs.CheckLaws.{both}
use Rattle.admission.specs.Offers.{Entry, entry_at, Plan, SamePlan}
use Rattle.admission.specs.Boards.{nowhere, same_mark, same_entry, differs, window_differs, same_frame, same_tasks, same_column, same_scope, same_plan}
use Rattle.admission.specs.Asked.{SameDecided}

no_path : {A : Type 0} → ◌≡◌ {A = Bool} false true → A
no_path e = let z : ◌≡◌ {A = ℕ} 0 1 = cc in absurd (omega arith)

-- a search that finds nothing
pub nowhere_of : (test : ℕ → Bool) (n : ℕ) → nowhere test n ≡ true → first test n 0 ≡ none
unfolding nowhere
nowhere_of test n e = go (first test n 0) refl
  where
    go : (o : Option ℕ) → first test n 0 ≡ o → o ≡ none
    go none h = refl
    go (some i) h = no_path (rw (nowhere, h) at e)

pub nowhere_none : (test : ℕ → Bool) (n : ℕ) → first test n 0 ≡ none → nowhere test n ≡ true
unfolding nowhere
nowhere_none test n e = rw (nowhere, e)

pub nowhere_some : (test : ℕ → Bool) (n i : ℕ) → first test n 0 ≡ some i → nowhere test n ≡ false
unfolding nowhere
nowhere_some test n i e = rw (nowhere, e)

none_below : (test : ℕ → Bool) (n : ℕ) → nowhere test n ≡ true → (i : ℕ) → i < n → test i ≡ false
none_below test n e i h = first_nothing test n 0 (nowhere_of test n e) i (omega arith) (omega arith)

below_none : (test : ℕ → Bool) (n : ℕ) → ((i : ℕ) → i < n → test i ≡ false) → nowhere test n ≡ true
below_none test n h = nowhere_none test n (first_none test n 0 (λ i l g. h i (omega arith)))

-- a test that does not hold where what it denies is so
not_so : (b : Bool) → b ≡ true → not b ≡ false
not_so b e = ap not e

-- marks and entries
pub mark_of : (a b : Bool) → same_mark a b ≡ true → a ≡ b
unfolding same_mark
mark_of true b e = sym e
mark_of false true e = no_path e
mark_of false false e = refl

pub mark_itself : (a : Bool) → same_mark a a ≡ true
unfolding same_mark
mark_itself true = refl
mark_itself false = refl

pub entry_of : (a b : Entry) → same_entry a b ≡ true → a ≡ b
unfolding same_entry
entry_of a b e =
    let l = both _ _ e in
    let d = both _ _ l.0 in
    let c = both _ _ d.0 in
    let j = both _ _ c.0 in
    let p = eqb-true a.period b.period j.0 in
    let q = eqb-true a.jitter b.jitter j.1 in
    let r = eqb-true a.cost b.cost c.1 in
    let t = eqb-true a.deadline b.deadline d.1 in
    let m = mark_of a.low b.low l.1 in
    λ x. record { period = p x; jitter = q x; cost = r x; deadline = t x; low = m x }

pub entry_itself : (a : Entry) → same_entry a a ≡ true
unfolding same_entry
entry_itself a =
    and_both _ _
    (and_both _ _
    (and_both _ _ (and_both _ _ (eq-eqb a.period a.period refl) (eq-eqb a.jitter a.jitter refl)) (eq-eqb a.cost a.cost refl))
    (eq-eqb a.deadline a.deadline refl))
    (mark_itself a.low)

pub entry_yes : (a b : Entry) → a ≡ b → same_entry a b ≡ true
entry_yes a b e = ap (same_entry a) (sym e) ∙ entry_itself a

-- task i of two sheets
pub agree_of : (s s' : Tasks) (i : ℕ) → differs s s' i ≡ false → entry_at s i ≡ entry_at s' i
agree_of s s' i e = entry_of _ _ (not-false _ e)

pub agree_yes : (s s' : Tasks) (i : ℕ) → entry_at s i ≡ entry_at s' i → differs s s' i ≡ false
agree_yes s s' i e = not_so _ (entry_yes _ _ e)

-- sheets whose tasks below the count agree
pub same_by
    : (s s' : Tasks) → s.count ≡ s'.count → s.charge ≡ s'.charge → ((i : ℕ) → i < s.count → entry_at s i ≡ entry_at s' i) → SameFrame s.frame s'.frame
    → SameTasks s s'
same_by s s' n c each f = record {
  count = n;
  period = λ i h. ap (λ (t : Entry). t.period) (each i h);
  jitter = λ i h. ap (λ (t : Entry). t.jitter) (each i h);
  cost = λ i h. ap (λ (t : Entry). t.cost) (each i h);
  deadline = λ i h. ap (λ (t : Entry). t.deadline) (each i h);
  low = λ i h. ap (λ (t : Entry). t.low) (each i h);
  charge = c;
  frame = f;
}

pub entry_same : (s s' : Tasks) → SameTasks s s' → (i : ℕ) → i < s.count → entry_at s i ≡ entry_at s' i
entry_same s s' same i h = λ x. record {
  period = same.period i h x;
  jitter = same.jitter i h x;
  cost = same.cost i h x;
  deadline = same.deadline i h x;
  low = same.low i h x;
}

-- frames
window_of_lem : (f g : Frame) (k : ℕ) → window_differs f g k ≡ false → (f.first k ≡ g.first k) × (f.size k ≡ g.size k)
unfolding window_differs
window_of_lem f g k e = let w = both _ _ (not-false _ e) in (eqb-true _ _ w.0, eqb-true _ _ w.1)

window_yes : (f g : Frame) (k : ℕ) → f.first k ≡ g.first k → f.size k ≡ g.size k → window_differs f g k ≡ false
unfolding window_differs
window_yes f g k a b = not_so _ (and_both _ _ (eq-eqb _ _ a) (eq-eqb _ _ b))

pub frame_of_lem : (o p : Option Frame) → same_frame o p ≡ true → SameFrame o p
unfolding same_frame
frame_of_lem none none e = tt
frame_of_lem none (some g) e = no_path e
frame_of_lem (some f) none e = no_path e
frame_of_lem (some f) (some g) e =
    let w = both _ _ e in
    let t = both _ _ w.0 in
    let each : (k : ℕ) → k < f.count → (f.first k ≡ g.first k) × (f.size k ≡ g.size k) =
    λ k h. window_of_lem f g k (none_below (window_differs f g) f.count w.1 k h) in
    record { ticks = eqb-true _ _ t.0; count = eqb-true _ _ t.1; first = λ k h. (each k h).0; size = λ k h. (each k h).1 }

pub frame_yes : (o p : Option Frame) → SameFrame o p → same_frame o p ≡ true
unfolding same_frame
frame_yes none none e = refl
frame_yes none (some g) e = absurd e
frame_yes (some f) none e = absurd e
frame_yes (some f) (some g) e =
    and_both _ _ (and_both _ _ (eq-eqb _ _ e.ticks) (eq-eqb _ _ e.count))
    (below_none (window_differs f g) f.count (λ k h. window_yes f g k (e.first k h) (e.size k h)))

-- sheets
pub tasks_of_lem : (s s' : Tasks) → same_tasks s s' ≡ true → SameTasks s s'
unfolding same_tasks
tasks_of_lem s s' e =
    let f = both _ _ e in
    let t = both _ _ f.0 in
    let c = both _ _ t.0 in
    same_by s s' (eqb-true _ _ c.0) (eqb-true _ _ c.1) (λ i h. agree_of s s' i (none_below (differs s s') s.count t.1 i h))
    (frame_of_lem s.frame s'.frame f.1)

pub tasks_yes : (s s' : Tasks) → SameTasks s s' → same_tasks s s' ≡ true
unfolding same_tasks
tasks_yes s s' same =
    and_both _ _
    (and_both _ _ (and_both _ _ (eq-eqb _ _ same.count) (eq-eqb _ _ same.charge))
    (below_none (differs s s') s.count (λ i h. agree_yes s s' i (entry_same s s' same i h))))
    (frame_yes s.frame s'.frame same.frame)

-- columns
abbrev unlike : List ℕ → List ℕ → ℕ → Bool
unlike a b i = not (eqb (column a i) (column b i))

pub column_of : (a b : List ℕ) → same_column a b ≡ true → a ≡ b
unfolding same_column
column_of a b e =
    let w = both _ _ e in
    ext_get_or 0 a b (eqb-true _ _ w.0) (λ i h. eqb-true _ _ (not-false _ (none_below (unlike a b) (length a) w.1 i h)))

pub column_yes : (a b : List ℕ) → a ≡ b → same_column a b ≡ true
unfolding same_column
column_yes a b e =
    and_both _ _ (eq-eqb _ _ (ap length e)) (below_none (unlike a b) (length a) (λ i h. not_so _ (eq-eqb _ _ (ap (λ l. column l i) e))))

-- which of the two choices
pub scope_of : (a b : Scope) → same_scope a b ≡ true → a ≡ b
unfolding same_scope
scope_of ordinary ordinary e = refl
scope_of ordinary high_only e = no_path e
scope_of high_only ordinary e = no_path e
scope_of high_only high_only e = refl

scope_itself : (a : Scope) → same_scope a a ≡ true
unfolding same_scope
scope_itself ordinary = refl
scope_itself high_only = refl

-- records
pub plan_of_lem : (a b : Plan) → same_plan a b ≡ true → SamePlan a b
unfolding same_plan
plan_of_lem a b e =
    let c = both _ _ e in
    let w = both _ _ c.0 in
    let k = both _ _ w.0 in
    record { tasks = tasks_of_lem _ _ k.0; kept = column_of _ _ k.1; worst = column_of _ _ w.1; scope = scope_of _ _ c.1 }

pub plan_yes : (a b : Plan) → SamePlan a b → same_plan a b ≡ true
unfolding same_plan
plan_yes a b h =
    and_both _ _ (and_both _ _ (and_both _ _ (tasks_yes _ _ h.tasks) (column_yes _ _ h.kept)) (column_yes _ _ h.worst))
    (ap (same_scope a.scope) (sym h.scope) ∙ scope_itself a.scope)

-- the comparisons decide what they stand for
pub same_decided : SameDecided
same_decided = record { tasks_same = tasks_of_lem; same_tasks_lem = tasks_yes; plans_same = plan_of_lem; same_plans = plan_yes }
