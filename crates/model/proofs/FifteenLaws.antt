-- 15 is a number of the check of a choice alone: the sheet and the lent slices are refused with others. So a choice call that answers 15 has checked them.
use Prim.Native.Nat.{ℕ}
use mathlib.Core.Path.{◌≡◌, refl, sym, ap, ◌∙◌}
use mathlib.Core.Bool.{Bool, true, false}
use mathlib.Core.Logic.{◌⊎◌, inl, inr}
use mathlib.Core.Option.{Option, some, none}
use mathlib.Core.List.{List, [], ◌∷◌}
use native.Mathlib.Omega.{arith}
use lib.Dec.{ltb}
use Rattle.model.specs.Frame.{Frame}
use Rattle.model.specs.Tasks.{Tasks}
use Rattle.model.specs.Choice.{unfit, choice}
use Rattle.model.specs.Refusal.{Refusal, refuse}
use Rattle.model.specs.Checks.{Lent, fault_of, fault_at, refuse_at, refuse_if, refuse_by, check_entries, check_windows, check_frame, check_tasks, check_slots, refusal_of}
use Rattle.model.specs.Calls.{choice_inputs}
use Rattle.model.proofs.CheckLaws.{entry_number, unfit_of_lem}
use Rattle.model.proofs.OrderLaws.{no_single, no_count, no_kept, no_releases}
use Rattle.model.proofs.RefusalPlaces.{by_first, by_last}

-- a refusal that is known
known_number : (n p : ℕ) (r : Refusal) → some r ≡ refuse n p → r.number ≡ n
known_number n p r e = let w : r ≡ record { number = n; place = p } = cc in ap (λ (x : Refusal). x.number) w

no_number : {A : Type 0} (r : Refusal) → some r ≡ none → A
no_number r e = let z : ◌≡◌ {A = ℕ} 0 1 = cc in absurd (omega arith)

-- a test, a search, and a search whose place tells the number
if_number : (b : Bool) (n p : ℕ) (r : Refusal) → some r ≡ refuse_if b n p → r.number ≡ n
unfolding refuse_if
if_number true n p r e = known_number n p r e
if_number false n p r e = no_number r e

at_number : (n : ℕ) (o : Option ℕ) (r : Refusal) → some r ≡ refuse_at n o → r.number ≡ n
unfolding refuse_at
at_number n none r e = no_number r e
at_number n (some p) r e = known_number n p r e

entry_numbers_lem : (s : Tasks) (o : Option ℕ) (r : Refusal) → some r ≡ refuse_by (fault_of s) o → (r.number ≡ 6) ⊎ (r.number ≡ 17)
unfolding refuse_by fault_at
entry_numbers_lem s none r e = no_number r e
entry_numbers_lem s (some p) r e = go (fault_of s p) refl
  where
    numbered : (n : ℕ) → (n ≡ 6) ⊎ (n ≡ 17) → some r ≡ refuse n p → (r.number ≡ 6) ⊎ (r.number ≡ 17)
    numbered n (inl h) f = inl (omega (arith, known_number n p r f))
    numbered n (inr h) f = inr (omega (arith, known_number n p r f))

    go : (f : Option ℕ) → fault_of s p ≡ f → (r.number ≡ 6) ⊎ (r.number ≡ 17)
    go none h = no_number r (rw (refuse_by, h) at e)
    go (some n) h = numbered n (entry_number _ _ _ _ _ n h) (rw (refuse_by, h) at e)

frame_number : (o : Option Frame) (r : Refusal) → some r ≡ check_frame o → r.number ≡ 18
unfolding check_frame check_windows
frame_number none r e = no_number r e
frame_number (some f) r e =
    by_first _ _ r (if_number _ 18 17 r) (λ _. by_first _ _ r (if_number _ 18 16 r) (λ _. by_last _ r (at_number 18 _ r))) e

-- the sheet
tasks_number : (s : Tasks) (r : Refusal) → some r ≡ check_tasks s → r.number ≡ 15 → ⊥
unfolding check_tasks check_entries
tasks_number s r e h =
    by_first _ _ r (λ f. omega (arith, if_number _ 5 0 r f, h))
    (λ _.
    by_first _ _ r (λ f. omega (arith, if_number _ 4 32 r f, h))
    (λ _. by_first _ _ r (λ f. other (entry_numbers_lem s _ r f)) (λ _. by_last _ r (λ f. omega (arith, frame_number s.frame r f, h))))) e
  where
    other : (r.number ≡ 6) ⊎ (r.number ≡ 17) → ⊥
    other (inl f) = omega arith
    other (inr f) = omega arith

-- lent slices
slots_number : (l : List Lent) (r : Refusal) → some r ≡ check_slots l → r.number ≡ 13
unfolding check_slots
slots_number [] r e = no_number r e
slots_number (c ∷ l) r e = go (ltb c.slots c.needed) refl (slots_number l r)
  where
    go : (b : Bool) → ltb c.slots c.needed ≡ b → (some r ≡ check_slots l → r.number ≡ 13) → r.number ≡ 13
    go true h i = known_number 13 c.needed r (rw (check_slots, h) at e)
    go false h i = i (rw (check_slots, h) at e)

-- a choice call that answers 15 at i: its sheet passes its check, and the choice ends at i
pub fifteen_of : (s : Tasks) (kept worst : List ℕ) (i : ℕ) → refuse 15 i ≡ refusal_of (choice_inputs s kept worst) → (none ≡ check_tasks s) × (choice s ≡ unfit i)
unfolding refusal_of
fifteen_of s kept worst i =
    by_first _ _ r (λ f. absurd (tasks_number s r f refl))
    (λ passes.
    by_first _ _ r (λ f. no_number r (f ∙ sym (no_single s)))
    (λ _.
    by_first _ _ r (λ f. no_number r (f ∙ sym no_count))
    (λ _.
    by_first _ _ r (λ f. let n = slots_number _ r f in absurd (omega arith))
    (λ _.
    by_first _ _ r (λ f. no_number r (f ∙ sym (no_kept s)))
    (λ _. by_first _ _ r (λ f. no_number r (f ∙ sym (no_releases s))) (λ _. by_last _ r (λ f. (passes, (unfit_of_lem (choice s) 15 i f).1))))))))
  where
    r : Refusal
    r = record { number = 15; place = i }
