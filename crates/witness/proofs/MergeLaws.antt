-- Laws of the merged list: in order of ticks, each task with its own releases.
use Prim.Native.Nat.{ℕ, zero, suc, ◌≤◌, ◌<◌}
use mathlib.Core.Path.{◌≡◌, refl, sym, ap, ◌∙◌}
use mathlib.Core.Bool.{Bool, true, false}
use mathlib.Core.List.{List, [], ◌∷◌, ◌++◌, append_assoc}
use mathlib.Core.Logic.{⊎_elim}
use native.Mathlib.Nat.{eq-or-lt_of_le, le_of_suc-le-suc}
use native.Mathlib.Omega.{arith}
use lib.ListN.{length}
use lib.Dec.{leb}
use borrow.Author.Tests.{leb-true, leb-false, ne_eqb}
use Rattle.model.specs.Series.{table}
use Rattle.model.specs.Tasks.{Release, release_at}
use Rattle.model.specs.Gap.{own}
use Rattle.trace.proofs.PositionLaws.{own_append, own_same}
use Rattle.witness.specs.Merge.{insert, merged, release_of, with_task}

-- every release of a list has a property
abbrev pub All : (Release → Type 0) → List Release → Type 0
All Q [] = Unit {0}
All Q (r ∷ l) = Q r × All Q l

-- ticks that never fall: no release is before one in front of it
abbrev pub Sorted : List Release → Type 0
Sorted [] = Unit {0}
Sorted (r ∷ l) = All (λ a. r.tick ≤ a.tick) l × Sorted l

insert_after : (r a : Release) (l : List Release) → leb a.tick r.tick ≡ true → insert r (a ∷ l) ≡ a ∷ insert r l
unfolding insert
insert_after r a l h = rw (insert, h)

insert_here : (r a : Release) (l : List Release) → leb a.tick r.tick ≡ false → insert r (a ∷ l) ≡ r ∷ a ∷ l
unfolding insert
insert_here r a l h = rw (insert, h)

-- a property that follows from another
pub all_map : (Q R : Release → Type 0) → ((a : Release) → Q a → R a) → (l : List Release) → All Q l → All R l
all_map Q R f [] h = tt
all_map Q R f (r ∷ l) h = (f r h.0, all_map Q R f l h.1)

-- a property of the release at a position
pub all_at : (Q : Release → Type 0) (l : List Release) → All Q l → (p : ℕ) → p < length l → Q (release_at l p)
all_at Q [] h p g = absurd (omega arith)
all_at Q (r ∷ l) h zero g = h.0
all_at Q (r ∷ l) h (suc p) g = all_at Q l h.1 p (omega arith)

-- neighbours in a list that never falls
pub sorted_at : (l : List Release) → Sorted l → (p : ℕ) → suc p < length l → (release_at l p).tick ≤ (release_at l (suc p)).tick
sorted_at [] h p g = absurd (omega arith)
sorted_at (r ∷ l) h zero g = all_at (λ a. r.tick ≤ a.tick) l h.0 0 (omega arith)
sorted_at (r ∷ l) h (suc p) g = sorted_at l h.1 p (omega arith)

all_insert : (Q : Release → Type 0) (r : Release) (l : List Release) → Q r → All Q l → All Q (insert r l)
unfolding insert
all_insert Q r [] q h = (q, tt)
all_insert Q r (a ∷ l) q h = go (leb a.tick r.tick) refl (all_insert Q r l q h.1)
  where
    go : (b : Bool) → leb a.tick r.tick ≡ b → All Q (insert r l) → All Q (insert r (a ∷ l))
    go true e i = rw (insert_after r a l e) (h.0, i)
    go false e i = rw (insert_here r a l e) (q, h)

sorted_insert : (r : Release) (l : List Release) → Sorted l → Sorted (insert r l)
unfolding insert
sorted_insert r [] h = (tt, tt)
sorted_insert r (a ∷ l) h = go (leb a.tick r.tick) refl (sorted_insert r l h.1)
  where
    go : (b : Bool) → leb a.tick r.tick ≡ b → Sorted (insert r l) → Sorted (insert r (a ∷ l))
    go true e i = rw (insert_after r a l e) (all_insert (λ c. a.tick ≤ c.tick) r l (leb-true _ _ e) h.0, i)
    go false e i =
        let lt : r.tick < a.tick = leb-false _ _ e in
        rw (insert_here r a l e) ((omega arith, all_map (λ c. a.tick ≤ c.tick) (λ c. r.tick ≤ c.tick) (λ c g. omega arith) l h.0), h)

-- another task's release in front
own_skip : (k : ℕ) (r : Release) (l : List Release) → (r.task ≡ k → ⊥) → own k (r ∷ l) ≡ own k l
unfolding own
own_skip k r l h = rw (own, ne_eqb r.task k h)

-- no release of a task
pub own_none : (k : ℕ) (l : List Release) → All (λ a. a.task ≡ k → ⊥) l → own k l ≡ []
unfolding own
own_none k [] h = refl
own_none k (r ∷ l) h = own_skip k r l h.0 ∙ own_none k l h.1

-- the release in front and the others
own_front : (k : ℕ) (r : Release) (l : List Release) → own k (r ∷ l) ≡ own k (r ∷ []) ++ own k l
own_front k r l = own_append k (r ∷ []) l

-- another task's release put in
own_other : (k : ℕ) (r : Release) (l : List Release) → (r.task ≡ k → ⊥) → own k (insert r l) ≡ own k l
unfolding insert
own_other k r [] h = own_skip k r [] h
own_other k r (a ∷ l) h = go (leb a.tick r.tick) refl (own_other k r l h)
  where
    go : (b : Bool) → leb a.tick r.tick ≡ b → own k (insert r l) ≡ own k l → own k (insert r (a ∷ l)) ≡ own k (a ∷ l)
    go true e i =
        ap (own k) (insert_after r a l e)
        ∙ own_front k a (insert r l)
        ∙ ap (λ (x : List ℕ). own k (a ∷ []) ++ x) i
        ∙ sym (own_front k a l)
    go false e i = ap (own k) (insert_here r a l e) ∙ own_skip k r (a ∷ l) h

-- a release of the task put in that is not before the others of the task
own_last
    : (k : ℕ) (r : Release) (l : List Release) → r.task ≡ k → Sorted l → All (λ a. a.task ≡ k → a.tick ≤ r.tick) l
    → own k (insert r l) ≡ own k l ++ (r.tick ∷ [])
unfolding insert own
own_last k r [] t s h = own_same k r [] t
own_last k r (a ∷ l) t s h = go (leb a.tick r.tick) refl (own_last k r l t s.1 h.1)
  where
    go : (b : Bool) → leb a.tick r.tick ≡ b → own k (insert r l) ≡ own k l ++ (r.tick ∷ []) → own k (insert r (a ∷ l)) ≡ own k (a ∷ l) ++ (r.tick ∷ [])
    go true e i =
        ap (own k) (insert_after r a l e)
        ∙ own_front k a (insert r l)
        ∙ ap (λ (x : List ℕ). own k (a ∷ []) ++ x) i
        ∙ sym (append_assoc (own k (a ∷ [])) (own k l) (r.tick ∷ []))
        ∙ ap (λ (x : List ℕ). x ++ (r.tick ∷ [])) (sym (own_front k a l))
    go false e i =
        let lt : r.tick < a.tick = leb-false _ _ e in
        let later : All (λ c. c.task ≡ k → ⊥) (a ∷ l) = none_of lt in
        ap (own k) (insert_here r a l e)
        ∙ own_same k r (a ∷ l) t
        ∙ ap (λ (x : List ℕ). r.tick ∷ x) (own_none k (a ∷ l) later)
        ∙ ap (λ (x : List ℕ). x ++ (r.tick ∷ [])) (sym (own_none k (a ∷ l) later))
      where
        none_from : (m : List Release) → All (λ c. a.tick ≤ c.tick) m → All (λ c. c.task ≡ k → c.tick ≤ r.tick) m → r.tick < a.tick → All (λ c. c.task ≡ k → ⊥) m
        none_from [] x y lt = tt
        none_from (c ∷ m) x y lt = (λ o. omega (arith, y.0 o, x.0), none_from m x.1 y.1 lt)

        none_of : r.tick < a.tick → All (λ c. c.task ≡ k → ⊥) (a ∷ l)
        none_of lt = (λ o. omega (arith, h.0 o), none_from l s.0 h.1 lt)

-- tasks below n and other tasks
above_not : (n : ℕ) (l : List Release) → All (λ a. a.task < n) l → All (λ a. a.task ≡ n → ⊥) l
above_not n = all_map (λ a. a.task < n) (λ a. a.task ≡ n → ⊥) (λ a h e. omega arith)

module _ (rel : ℕ → ℕ → ℕ) (cost : ℕ → ℕ) where
  all_with
      : (Q : Release → Type 0) (k n : ℕ) (l : List Release) → ((x : ℕ) → x < n → Q (release_of rel cost k x)) → All Q l → All Q (with_task rel cost k n l)
  unfolding with_task
  all_with Q k zero l h a = a
  all_with Q k (suc n) l h a = all_insert Q (release_of rel cost k n) _ (h n (omega arith)) (all_with Q k n l (λ x g. h x (omega arith)) a)

  sorted_with : (k n : ℕ) (l : List Release) → Sorted l → Sorted (with_task rel cost k n l)
  unfolding with_task
  sorted_with k zero l h = h
  sorted_with k (suc n) l h = sorted_insert (release_of rel cost k n) _ (sorted_with k n l h)

  other_with : (j k n : ℕ) (l : List Release) → (k ≡ j → ⊥) → own j (with_task rel cost k n l) ≡ own j l
  unfolding with_task
  other_with j k zero l h = refl
  other_with j k (suc n) l h = own_other j (release_of rel cost k n) _ h ∙ other_with j k n l h

  -- ticks of a task that never fall
  abbrev pub Rising : ℕ → Type 0
  Rising k = (x y : ℕ) → x ≤ y → rel k x ≤ rel k y

  own_with
      : (k n : ℕ) (l : List Release) → Rising k → Sorted l → All (λ a. a.task ≡ k → ⊥) l → own k (with_task rel cost k n l) ≡ table (rel k) n
  unfolding with_task table
  own_with k zero l r s h = own_none k l h
  own_with k (suc n) l r s h =
      own_last k (release_of rel cost k n) (with_task rel cost k n l) refl (sorted_with k n l s)
      (all_with (λ a. a.task ≡ k → a.tick ≤ rel k n) k n l (λ x g e. r x n (omega arith))
      (all_map (λ a. a.task ≡ k → ⊥) (λ a. a.task ≡ k → a.tick ≤ rel k n) (λ a f e. absurd (f e)) l h))
      ∙ ap (λ (x : List ℕ). x ++ (rel k n ∷ [])) (own_with k n l r s h)

  module _ (many : ℕ → ℕ) where
    -- a property of all releases is one of the merged list
    pub all_merged
        : (Q : Release → Type 0) (n : ℕ) → ((k x : ℕ) → k < n → x < many k → Q (release_of rel cost k x)) → All Q (merged rel cost many n)
    unfolding merged
    all_merged Q zero h = tt
    all_merged Q (suc n) h = all_with Q n (many n) _ (λ x g. h n x (omega arith) g) (all_merged Q n (λ k x a g. h k x (omega arith) g))

    -- the ticks of the merged list never fall
    pub sorted_merged : (n : ℕ) → Sorted (merged rel cost many n)
    unfolding merged
    sorted_merged zero = tt
    sorted_merged (suc n) = sorted_with n (many n) _ (sorted_merged n)

    -- each task keeps its own releases
    pub own_merged : (n k : ℕ) → k < n → Rising k → own k (merged rel cost many n) ≡ table (rel k) (many k)
    unfolding merged
    own_merged zero k h r = absurd (omega arith)
    own_merged (suc n) k h r = ⊎_elim last (before (λ g. own_merged n k g r)) (eq-or-lt_of_le (le_of_suc-le-suc h))
      where
        last : k ≡ n → own k (with_task rel cost n (many n) (merged rel cost many n)) ≡ table (rel k) (many k)
        last e =
            rw (← e)
            (own_with k (many k) (merged rel cost many k) r (sorted_merged k)
            (above_not k (merged rel cost many k) (all_merged (λ a. a.task < k) k (λ j x a g. a))))

        before
            : (k < n → own k (merged rel cost many n) ≡ table (rel k) (many k))
            → k < n
            → own k (with_task rel cost n (many n) (merged rel cost many n)) ≡ table (rel k) (many k)
        before i g = other_with k n (many n) _ (λ e. omega arith) ∙ i g
