-- The order of checks with one slice more: `with_slots` is document 01's order, with the slice put last among the lent ones.
use Prim.Native.Nat.{ℕ, suc, ◌≤◌, ◌<◌}
use mathlib.Core.Path.{◌≡◌, refl, sym, ap, ◌∙◌}
use mathlib.Core.Bool.{Bool, true, false, ◌||◌}
use mathlib.Core.Option.{Option, some, none}
use mathlib.Core.List.{List, [], ◌∷◌, ◌++◌}
use native.Mathlib.Omega.{arith}
use borrow.Author.Tests.{ltb-true, ltb-false}
use lib.Dec.{leb, ltb, eqb}
use Rattle.model.specs.Limits.{max_tick}
use Rattle.model.specs.Frame.{Frame}
use Rattle.model.specs.Tasks.{Tasks, Release}
use Rattle.model.specs.Refusal.{Refusal, Answer, refused, answered, first_refusal}
use Rattle.model.specs.Checks.{Lent, Inputs, check_entries, check_windows, check_frame, check_tasks, check_task, check_count, check_slots, check_kept, release_fault, check_releases, check_choice, refusal_of, answer_of}
use Rattle.model.specs.Checks.{in_range, carries, entry_fault, fault_of, fault_at, refuse_at, refuse_if, refuse_by}
use Rattle.model.proofs.CheckLaws.{slots_short, slots_next, slots_none, slots_first, slots_rest}
use Rattle.interface.specs.Interface.{after_slots, too_few, with_slots}
use Rattle.interface.specs.SlotsLast.{also_lends, SlotsLast}
use Rattle.interface.proofs.InterfaceLaws.{with_enough, with_few, kept_before, few_before}

-- a refusal, if any, whose number comes after the slices (true) or not (false)
abbrev Side : Bool → Option Refusal → Type 0
Side b none = 0 ≤ 0
Side b (some q) = after_slots q.number ≡ b

side_if : (b t : Bool) (n p : ℕ) → after_slots n ≡ b → Side b (refuse_if t n p)
unfolding refuse_if
side_if b true n p h = h
side_if b false n p h = omega arith

side_at : (b : Bool) (n : ℕ) (o : Option ℕ) → after_slots n ≡ b → Side b (refuse_at n o)
unfolding refuse_at
side_at b n none h = omega arith
side_at b n (some p) h = h

side_first : (b : Bool) (o : Option Refusal) (l : List (Option Refusal)) → Side b o → Side b (first_refusal l) → Side b (first_refusal (o ∷ l))
unfolding first_refusal
side_first b none l h g = g
side_first b (some q) l h g = h

side_none : (b : Bool) → Side b (first_refusal [])
unfolding first_refusal
side_none b = omega arith

-- 6 and 17 of a task
side_entry : (S P J E D p : ℕ) → Side false (fault_at p (entry_fault S P J E D))
unfolding entry_fault fault_at after_slots
side_entry S P J E D p = go (in_range P J E D) (carries S P E D)
  where
    go : (a b : Bool) → Side false (fault_at p (elim a [ false ↦ some 6 | true ↦ elim b [ false ↦ some 17 | true ↦ none ] ]))
    go false b = refl
    go true false = refl
    go true true = omega arith

side_by : (s : Tasks) (o : Option ℕ) → Side false (refuse_by (fault_of s) o)
unfolding refuse_by
side_by s none = omega arith
side_by s (some p) = side_entry _ _ _ _ _ p

-- 18
frame_side : (o : Option Frame) → Side false (check_frame o)
unfolding check_frame check_windows after_slots
frame_side none = omega arith
frame_side (some f) =
    side_first false _ _ (side_if false _ 18 _ refl) (side_first false _ _ (side_if false _ 18 _ refl) (side_first false _ _ (side_at false 18 _ refl) (side_none false)))

-- on which side each check stands
tasks_side : (s : Tasks) → Side false (check_tasks s)
unfolding check_tasks check_entries after_slots
tasks_side s =
    side_first false _ _ (side_if false _ 5 _ refl) (side_first false _ _ (side_if false _ 4 _ refl) (side_first false _ _ (side_by s _) (side_first false _ _ (frame_side s.frame) (side_none false))))

task_side : (s : Tasks) (o : Option ℕ) → Side false (check_task s o)
unfolding check_task after_slots
task_side s none = omega arith
task_side s (some i) = side_if false _ 14 i refl

count_side : (o : Option ℕ) → Side false (check_count o)
unfolding check_count after_slots
count_side none = omega arith
count_side (some n) = side_if false _ 10 _ refl

slots_side : (l : List Lent) → Side false (check_slots l)
unfolding check_slots after_slots
slots_side [] = omega arith
slots_side (c ∷ l) = go (ltb c.slots c.needed) (slots_side l)
  where
    go : (b : Bool) → Side false (check_slots l) → Side false (elim b [ true ↦ some (too_few c.needed) | false ↦ check_slots l ])
    go true h = refl
    go false h = h

kept_side : (s : Tasks) (o : Option (ℕ → ℕ)) → Side true (check_kept s o)
unfolding check_kept after_slots
kept_side s none = omega arith
kept_side s (some k) = side_at true 12 _ refl

-- a fault of a release is 7, 8 or 9
abbrev LateFault : Option ℕ → Type 0
LateFault none = 0 ≤ 0
LateFault (some n) = after_slots n ≡ true

fault_side : (s : Tasks) (low high : ℕ) (r : Release) → LateFault (release_fault s low high r)
unfolding release_fault after_slots
fault_side s low high r = go (leb s.count r.task) (ltb r.tick low || ltb high r.tick) (eqb r.cost 0 || ltb (s.cost r.task) r.cost)
  where
    go : (a b c : Bool) → LateFault (elim a [ true ↦ some 7 | false ↦ elim b [ true ↦ some 8 | false ↦ elim c [ true ↦ some 9 | false ↦ none ] ] ])
    go true b c = refl
    go false true c = refl
    go false false true = refl
    go false false false = omega arith

releases_side : (s : Tasks) (before p : ℕ) (l : List Release) → Side true (check_releases s before p l)
unfolding check_releases
releases_side s before p [] = omega arith
releases_side s before p (r ∷ l) = go (release_fault s before max_tick r) (fault_side s before max_tick r) (releases_side s r.tick (suc p) l)
  where
    go
        : (o : Option ℕ)
        → LateFault o
        → Side true (check_releases s r.tick (suc p) l)
        → Side true (elim o [ none ↦ check_releases s r.tick (suc p) l | some n ↦ some (record { number = n; place = p }) ])
    go none h g = g
    go (some n) h g = h

choice_side : (o : Option ℕ) → Side true (check_choice o)
unfolding check_choice after_slots
choice_side o = side_at true 15 o refl

-- a slice put last that is long enough changes nothing
pub slots_extra : (l : List Lent) (d : Lent) → d.needed ≤ d.slots → check_slots (l ++ (d ∷ [])) ≡ check_slots l
slots_extra l d h = go (check_slots l) refl
  where
    go : (o : Option Refusal) → check_slots l ≡ o → check_slots (l ++ (d ∷ [])) ≡ check_slots l
    go none e = slots_rest l (d ∷ []) (sym e) ∙ slots_next d [] h ∙ sym slots_none ∙ sym e
    go (some q) e = sym (slots_first l (d ∷ []) q (sym e)) ∙ sym e

-- a refusal, if any, or else the value
abbrev given : {A : Type 0} → Option Refusal → A → Answer A
given o a = elim o [ none ↦ answered a | some r ↦ refused r ]

module _ {A : Type 0} (n slots : ℕ) (a : A) where
  -- where the slots are too few, a check that comes before them decides ..
  before : (o : Option Refusal) (l l' : List (Option Refusal)) → slots < n → Side false o
      → with_slots n slots (given (first_refusal l) a) ≡ given (first_refusal l') a
      → with_slots n slots (given (first_refusal (o ∷ l)) a) ≡ given (first_refusal (o ∷ l')) a
  unfolding first_refusal with_slots
  before none l l' h g e = e
  before (some q) l l' h g e = ap refused (kept_before n slots q h g)

  -- .. and one that comes after them does not
  after : (o : Option Refusal) → slots < n → Side true o → with_slots n slots (given o a) ≡ refused (too_few n)
  unfolding with_slots
  after none h g = with_few n slots a h
  after (some q) h g = ap refused (few_before n slots q h g)

  lent_few : (l : List Lent) (rest : List (Option Refusal)) → slots < n → Side true (first_refusal rest)
      → with_slots n slots (given (first_refusal (check_slots l ∷ rest)) a) ≡ given (first_refusal (check_slots (l ++ (record { needed = n; slots = slots } ∷ [])) ∷ rest)) a
  unfolding first_refusal with_slots
  lent_few l rest h g = go (check_slots l) refl (slots_side l)
    where
      x : Lent
      x = record { needed = n; slots = slots }

      go
          : (o : Option Refusal)
          → check_slots l ≡ o
          → Side false o
          → with_slots n slots (given (first_refusal (check_slots l ∷ rest)) a) ≡ given (first_refusal (check_slots (l ++ (x ∷ [])) ∷ rest)) a
      go none e d =
          let few : check_slots (l ++ (x ∷ [])) ≡ some (too_few n) = slots_rest l (x ∷ []) (sym e) ∙ sym (slots_short x [] h) in
          rw (first_refusal, e, few) (after (first_refusal rest) h g)
      go (some q) e d =
          let same : check_slots (l ++ (x ∷ [])) ≡ some q = sym (slots_first l (x ∷ []) q (sym e)) in
          rw (first_refusal, e, same) (ap refused (kept_before n slots q h d))

  last_few : (c : Inputs) → slots < n → with_slots n slots (answer_of c a) ≡ answer_of (also_lends n slots c) a
  unfolding answer_of refusal_of
  last_few c h =
      before (check_tasks c.tasks) _ _ h (tasks_side c.tasks)
      (before (check_task c.tasks c.single) _ _ h (task_side c.tasks c.single)
      (before (check_count c.count) _ _ h (count_side c.count)
      (lent_few c.lent _ h
      (side_first true _ _ (kept_side c.tasks c.kept)
      (side_first true _ _ (releases_side c.tasks 0 0 c.releases) (side_first true _ _ (choice_side c.unfit) (side_none true)))))))

  last_enough : (c : Inputs) → n ≤ slots → with_slots n slots (answer_of c a) ≡ answer_of (also_lends n slots c) a
  unfolding answer_of refusal_of
  last_enough c h = with_enough n slots (answer_of c a) h ∙ rw (answer_of, refusal_of, slots_extra c.lent (record { needed = n; slots = slots }) h) refl

-- the answer of a call with the slice put last, given the answer of the call without it
pub slots_last : SlotsLast
slots_last A n slots a c = go (ltb slots n) refl
  where
    go : (b : Bool) → ltb slots n ≡ b → with_slots n slots (answer_of c a) ≡ answer_of (also_lends n slots c) a
    go true h = last_few n slots a c (ltb-true _ _ h)
    go false h = last_enough n slots a c (ltb-false _ _ h)
