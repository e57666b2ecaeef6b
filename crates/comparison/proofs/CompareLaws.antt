-- Laws of the comparisons: conjunctions one test at a time, and loops that look for a difference.
use Prim.Native.Nat.{ℕ, ◌≤◌, ◌<◌}
use mathlib.Core.Path.{◌≡◌, refl, sym, ap, ◌∙◌}
use mathlib.Core.Bool.{Bool, true, false, beq, not, ◌&&◌}
use mathlib.Core.Option.{Option, some, none}
use mathlib.Core.List.{List}
use native.Mathlib.Omega.{arith}
use borrow.Author.Tests.{eq-eqb, ne_eqb, le-leb, lt-leb, not-true, not-false}
use lib.Dec.{eqb, leb}
use lib.Pointwise.{pointwise}
use Rattle.std.specs.Cmp.Lexicographic.{same_text, other_text}
use Rattle.taskset.specs.declared.Task.{Task}
use Rattle.plan.specs.PlanView.{task_entry}
use Rattle.model.specs.Search.{first}
use Rattle.model.proofs.SearchLaws.{first_found, Sought, sought_here, sought_all}
use Rattle.admission.specs.Boards.{nowhere, or_end, same_mark, same_entry, same_column}
use Rattle.admission.proofs.SameLaws.{nowhere_none, nowhere_some, column_of, column_yes}

-- a conjunction whose first part fails, and one whose first part holds
pub and_no : (a b : Bool) → a ≡ false → false ≡ (a && b)
and_no a b e = rw e

pub and_on : (a b : Bool) → a ≡ true → b ≡ (a && b)
and_on a b e = rw e

-- numbers compared first
pub and_differs : (a b : ℕ) (t : Bool) → (a ≡ b → ⊥) → false ≡ (eqb a b && t)
and_differs a b t h = and_no _ t (ne_eqb a b h)

pub and_agrees : (a b : ℕ) (t : Bool) → a ≡ b → t ≡ (eqb a b && t)
and_agrees a b t h = and_on _ t (eq-eqb a b h)

-- a search by a loop that ends at n
module _ (test : ℕ → Bool) (n : ℕ) where
  pub ends_here : (i : ℕ) → Sought test n i → i < n → test i ≡ true → i ≡ or_end n (first test n 0)
  unfolding or_end
  ends_here i f l h = sym (ap (or_end n) (sought_here test n i f l h))

  pub ends_all : (i : ℕ) → Sought test n i → n ≤ i → n ≡ or_end n (first test n 0)
  unfolding or_end
  ends_all i f l = sym (ap (or_end n) (sought_all test n i f l))

  pub nowhere_here : (i : ℕ) → Sought test n i → i < n → test i ≡ true → false ≡ nowhere test n
  nowhere_here i f l h = sym (nowhere_some test n i (sought_here test n i f l h))

  pub nowhere_all : (i : ℕ) → Sought test n i → n ≤ i → true ≡ nowhere test n
  nowhere_all i f l = sym (nowhere_none test n (sought_all test n i f l))

  -- the search found nothing where it ended at n
  pub ended : (r : ℕ) → r ≡ or_end n (first test n 0) → leb n r ≡ nowhere test n
  unfolding or_end
  ended r e = go (first test n 0) refl
    where
      go : (o : Option ℕ) → first test n 0 ≡ o → leb n r ≡ nowhere test n
      go none h = ap (leb n) (e ∙ ap (or_end n) h) ∙ le-leb n n (omega arith) ∙ sym (nowhere_none test n h)
      go (some i) h =
          ap (leb n) (e ∙ ap (or_end n) h) ∙ lt-leb n i (omega (arith, (first_found test n 0 i h).high)) ∙ sym (nowhere_some test n i h)

-- marks
pub mark_same : (a b : Bool) → beq a b ≡ same_mark a b
unfolding same_mark
mark_same true true = refl
mark_same true false = refl
mark_same false true = refl
mark_same false false = refl

-- two columns
pub column_same : (a b : List ℕ) → pointwise eqb a b ≡ same_column a b
column_same a b = go (pointwise eqb a b) (same_column a b) refl refl
  where
    go : (x y : Bool) → pointwise eqb a b ≡ x → same_column a b ≡ y → x ≡ y
    go true true e f = refl
    go false false e f = refl
    go true false e f = sym (column_yes a b (same_text a b (sym e))) ∙ f
    go false true e f = absurd (other_text a b (sym e) (column_of a b f))

-- by a test of them
module _ (a b : List ℕ) (r : Bool) (e : r ≡ not (pointwise eqb a b)) where
  pub columns_differ : r ≡ true → same_column a b ≡ false
  columns_differ h = sym (column_same a b) ∙ not-true _ (sym e ∙ h)

  pub columns_agree : r ≡ false → same_column a b ≡ true
  columns_agree h = sym (column_same a b) ∙ not-false _ (sym e ∙ h)

-- two tasks: their fields one after the other
pub entry_same
    : (x y : Task)
    → (eqb x.period y.period && (eqb x.jitter y.jitter && (eqb x.cost y.cost && (eqb x.deadline y.deadline && beq x.low y.low))))
    ≡ same_entry (task_entry x) (task_entry y)
unfolding same_entry
entry_same x y = go (eqb x.period y.period) (eqb x.jitter y.jitter) (eqb x.cost y.cost) (eqb x.deadline y.deadline)
  where
    go
        : (p j c d : Bool) → (p && (j && (c && (d && beq x.low y.low)))) ≡ (p && j && c && d && same_mark x.low y.low)
    go true true true true = mark_same x.low y.low
    go true true true false = refl
    go true true false d = refl
    go true false c d = refl
    go false j c d = refl
