-- Laws of the checks of a call with kept jitters and a list: what a call that passes them says, and calls that write two columns.
use Prim.Native.Nat.{ℕ, ◌≤◌, ◌<◌, min}
use mathlib.Core.Path.{◌≡◌, refl, sym, ap, ◌∙◌}
use mathlib.Core.Bool.{Bool, true, false}
use mathlib.Core.Option.{Option, some, none}
use mathlib.Core.List.{List, [], ◌∷◌, ◌++◌}
use native.Mathlib.Omega.{arith}
use lib.Dec.{ltb}
use lib.ListN.{length, drop}
use borrow.Author.Tests.{ltb-true, ltb-false}
use Rattle.model.specs.Tasks.{Tasks}
use Rattle.model.specs.Choice.{column}
use Rattle.model.specs.Ready.{ready_list}
use Rattle.model.specs.Legality.{first_close}
use Rattle.model.specs.Refusal.{Refusal, refuse, Answer, refused, answered}
use Rattle.model.specs.Checks.{Lent, check_slots, refusal_of}
use Rattle.model.specs.Calls.{lends, releases_of, list_inputs, run_inputs, trace_call, column_after}
use Rattle.model.proofs.CheckLaws.{kept_of, slots_short, slots_next, slots_none, slot_of, slots_first, slots_rest}
use Rattle.model.proofs.OrderLaws.{accepted_of, answers, refuses, column_written}
use Rattle.model.proofs.TableLaws.{length_table}
use Rattle.releases.proofs.ReleaseLaws.{Columns, Listed, listed_by, length_releases, release_at_lem}
use Rattle.trace.specs.TraceCalls.{slots_lent, call_inputs, Shapable}

-- a list that passes its check can be shaped
pub listed_shapable : (s : Tasks) (n : ℕ) (task tick cost : List ℕ) → Listed s n task tick cost → Shapable s n task tick
listed_shapable s n task tick cost a =
    record {
      few_tasks = a.valid.few_tasks;
      period_high = λ i h. (a.valid.in_range_lem i h).period_high;
      few = a.few;
      task_long = a.columns.task_long;
      tick_long = a.columns.tick_long;
      known = λ p h.
          rw (ap (λ x. x.task) (release_at_lem n task tick cost p h)) at (a.trace.sound p (omega (arith, length_releases n task tick cost))).known;
      tick_high = a.tick_high;
    }

-- the slices of a call with kept jitters and a list, c tasks, n releases and m slots written
module _ (c : ℕ) (kept : List ℕ) (n : ℕ) (task tick cost : List ℕ) (m : ℕ) where
  abbrev columns : List Lent
  columns = lends n task ∷ lends n tick ∷ lends n cost ∷ []

  pub lent_kept : length kept < c → refuse 13 c ≡ check_slots (slots_lent c kept n task tick cost m)
  lent_kept h = slots_short (lends c kept) _ h

  pub lent_columns : c ≤ length kept → (q : Refusal) → some q ≡ check_slots columns → some q ≡ check_slots (slots_lent c kept n task tick cost m)
  lent_columns h q e = slots_first columns _ q e ∙ sym (slots_next (lends c kept) _ h)

  lent_last : c ≤ length kept → none ≡ check_slots columns → check_slots (slots_lent c kept n task tick cost m) ≡ check_slots (record { needed = n; slots = m } ∷ [])
  lent_last h e = slots_next (lends c kept) _ h ∙ slots_rest columns _ e

  pub lent_short : c ≤ length kept → none ≡ check_slots columns → m < n → refuse 13 n ≡ check_slots (slots_lent c kept n task tick cost m)
  lent_short h e g = slots_short _ [] g ∙ sym (lent_last h e)

  pub lent_fine : c ≤ length kept → none ≡ check_slots columns → n ≤ m → none ≡ check_slots (slots_lent c kept n task tick cost m)
  lent_fine h e g = slots_none ∙ sym (lent_last h e ∙ slots_next _ [] g)

-- slices that are long enough
pub record LongEnough (c : ℕ) (kept : List ℕ) (n : ℕ) (task tick cost : List ℕ) (m : ℕ) : Type 0 where
  pub kept_long : c ≤ length kept
  pub columns : Columns n task tick cost
  pub slots_long : n ≤ m

pub long_enough
    : (c : ℕ) (kept : List ℕ) (n : ℕ) (task tick cost : List ℕ) (m : ℕ) → none ≡ check_slots (slots_lent c kept n task tick cost m) → LongEnough c kept n task tick cost m
long_enough c kept n task tick cost m e =
    let a = slot_of _ _ e in
    let b = slot_of _ _ a.1 in
    let d = slot_of _ _ b.1 in
    let f = slot_of _ _ d.1 in
    let g = slot_of _ _ f.1 in
    record { kept_long = a.0; columns = record { task_long = b.0; tick_long = d.0; cost_long = f.0 }; slots_long = g.0 }

-- two columns of m and k slots are as one of the shorter length
slots_two : (n m k : ℕ) → check_slots (record { needed = n; slots = m } ∷ record { needed = n; slots = k } ∷ []) ≡ check_slots (record { needed = n; slots = min m k } ∷ [])
slots_two n m k = go (ltb (min m k) n) refl (ltb m n) refl
  where
    go
        : (b : Bool) → ltb (min m k) n ≡ b → (d : Bool) → ltb m n ≡ d
        → check_slots (record { needed = n; slots = m } ∷ record { needed = n; slots = k } ∷ []) ≡ check_slots (record { needed = n; slots = min m k } ∷ [])
    go true h true g = sym (slots_short _ _ (ltb-true _ _ g)) ∙ slots_short _ _ (ltb-true _ _ h)
    go true h false g =
        slots_next _ _ (ltb-false _ _ g) ∙ sym (slots_short _ [] (omega (arith, ltb-true (min m k) n h, ltb-false m n g))) ∙ slots_short _ _ (ltb-true _ _ h)
    go false h true g = absurd (omega (arith, ltb-false (min m k) n h, ltb-true m n g))
    go false h false g =
        slots_next _ _ (ltb-false _ _ g) ∙ slots_next _ [] (omega (arith, ltb-false (min m k) n h)) ∙ sym (slots_next _ [] (ltb-false _ _ h))

slots_cons : (c : Lent) (l r : List Lent) → check_slots l ≡ check_slots r → check_slots (c ∷ l) ≡ check_slots (c ∷ r)
slots_cons c l r e = go (ltb c.slots c.needed) refl
  where
    go : (b : Bool) → ltb c.slots c.needed ≡ b → check_slots (c ∷ l) ≡ check_slots (c ∷ r)
    go true h = sym (slots_short c l (ltb-true _ _ h)) ∙ slots_short c r (ltb-true _ _ h)
    go false h = slots_next c l (ltb-false _ _ h) ∙ e ∙ sym (slots_next c r (ltb-false _ _ h))

-- the checks of a run are those of a call that writes one column, as long as the shorter of ready and finish
pub run_checks
    : (s : Tasks) (kept : List ℕ) (n : ℕ) (task tick cost ready finish : List ℕ)
    → refusal_of (call_inputs s kept n task tick cost (min (length ready) (length finish))) ≡ refusal_of (run_inputs s kept n task tick cost ready finish)
unfolding refusal_of
run_checks s kept n task tick cost ready finish =
    rw
    (slots_cons (lends s.count kept) _ _
    (slots_cons (lends n task) _ _ (slots_cons (lends n tick) _ _ (slots_cons (lends n cost) _ _ (sym (slots_two n (length ready) (length finish)))))))

-- what a call that passes its checks says
pub record Callable (s : Tasks) (kept : List ℕ) (n : ℕ) (task tick cost : List ℕ) (m : ℕ) : Type 0 where
  pub listed : Listed s n task tick cost
  pub kept_long : s.count ≤ length kept
  pub slots_long : n ≤ m
  pub within : (i : ℕ) → i < s.count → column kept i ≤ s.jitter i

pub callable_of
    : (s : Tasks) (kept : List ℕ) (n : ℕ) (task tick cost : List ℕ) (m : ℕ) → none ≡ refusal_of (call_inputs s kept n task tick cost m) → Callable s kept n task tick cost m
callable_of s kept n task tick cost m e =
    let a = accepted_of _ e in
    let f = long_enough s.count kept n task tick cost m a.lent in
    record {
      listed = listed_by s n task tick cost a.tasks a.count f.columns a.releases;
      kept_long = f.kept_long;
      slots_long = f.slots_long;
      within = kept_of s (column kept) (sym a.kept);
    }

-- the trace check's answer
module _ (s : Tasks) (n : ℕ) (task tick cost : List ℕ) where
  pub trace_refused : (q : Refusal) → some q ≡ refusal_of (list_inputs s n task tick cost) → refused q ≡ trace_call s n task tick cost
  unfolding trace_call
  trace_refused q e = refuses _ _ q e

  pub trace_answered
      : (a : Answer (Option ℕ))
      → none ≡ refusal_of (list_inputs s n task tick cost)
      → a ≡ answered (first_close s (releases_of n task tick cost))
      → a ≡ trace_call s n task tick cost
  unfolding trace_call
  trace_answered a e f = f ∙ answers _ _ e

-- a lent column after the ready ticks of n releases were written
pub ready_written_lem
    : (r : Option Refusal) (s : Tasks) (k : ℕ → ℕ) (n : ℕ) (task tick cost o x : List ℕ)
    → none ≡ r
    → x ≡ ready_list s k (releases_of n task tick cost) ++ drop n o
    → x ≡ column_after r (ready_list s k (releases_of n task tick cost)) o
unfolding ready_list
ready_written_lem r s k n task tick cost o x e f = f ∙ column_written r n _ o e (length_table _ _ ∙ length_releases n task tick cost)
