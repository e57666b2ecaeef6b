-- Laws of the next start tick: a search task by task, from the first job of each task that may not run yet.
use Prim.Native.Nat.{ℕ, ◌+◌, ◌-◌, ◌≤◌, ◌<◌, min}
use mathlib.Core.Path.{◌≡◌, refl, sym, ap, ◌∙◌}
use mathlib.Core.Logic.{◌⊎◌, inl, inr}
use mathlib.Core.Bool.{Bool, true, false, ◌&&◌, not}
use mathlib.Core.List.{List}
use native.Mathlib.Omega.{arith}
use native.Mathlib.Nat.{eq-or-lt_of_le}
use lib.ListN.{length, get_or, set, length-set}
use lib.Seq.{get_or-set_same, get_or-set_other}
use lib.Dec.{leb, eqb}
use borrow.Author.Tests.{leb-true, leb-false, eq-eqb, ne_eqb, eqb-true, eqb-false}
use Rattle.model.proofs.SearchLaws.{first_eq}
use Rattle.model.proofs.SeriesLaws.{below_suc, le_by, le_or_lt, clash, and_left, and_right}
use Rattle.theory.proofs.JumpLaws.{same_or}
use Rattle.model.specs.Slots.{Holds}
use Rattle.queues.specs.Queues.{never, or_else, first_from, next_of, top_ready, wake_of}
use Rattle.queues.proofs.SearchedLaws.{Least, least_is, wake_in, wake_out}
use Rattle.jumps.specs.Jumps.{comes, coming_of, start_at, Queued, Next, Awake, Waking, Sinces}

-- a job of task i that may not run yet, and one of another task
module _ (task ready : List ℕ) (n i t p : ℕ) where
  pub comes_own : (b : Bool) → get_or task p 0 ≡ i → b ≡ leb (wake_of ready n p) t → not b ≡ comes task ready n i t p
  comes_own b e h = rw (eq-eqb (get_or task p 0) i e, h)

  pub comes_other : (get_or task p 0 ≡ i → ⊥) → false ≡ comes task ready n i t p
  comes_other h = rw (ne_eqb (get_or task p 0) i h)

-- before the first tick no place is passed: the first job of each task
pub awake_start : (n tasks : ℕ) (task ready head since : List ℕ)
    → Holds (λ i. next_of task n i 0) tasks 32 head
    → Holds (λ i. wake_of ready n (get_or head i 0)) tasks 32 since
    → Awake n tasks task ready 0 head since
awake_start n tasks task ready head since a b =
    record {
      long = a.long;
      due_long = b.long;
      within = λ i l. (found i l).high;
      own = λ i l g. eqb-true _ _ ((found i l).found g);
      past = λ i q l g e. absurd (eqb-false _ _ ((found i l).before q (omega arith) g) e);
      due_is = b.each;
    }
  where
    found : (i : ℕ) → i < tasks → Least (λ p. eqb (get_or task p 0) i) n 0 (get_or head i 0)
    found i l = least_is (λ p. eqb (get_or task p 0) i) n 0 (get_or head i 0) (omega arith) (a.each i l)

-- what is known at t is known later
awake_later
    : (n tasks : ℕ) (task ready : List ℕ) (t u : ℕ) (coming due : List ℕ)
    → t ≤ u
    → Awake n tasks task ready t coming due
    → Awake n tasks task ready u coming due
awake_later n tasks task ready t u coming due h p =
    record {
      long = p.long;
      due_long = p.due_long;
      within = p.within;
      own = p.own;
      past = λ i q l g e. omega (arith, p.past i q l g e);
      due_is = p.due_is;
    }

pub waking_later
    : (n tasks : ℕ) (task ready : List ℕ) (t u wake : ℕ) (coming due : List ℕ)
    → t ≤ u
    → t < wake
    → Waking n tasks task ready t wake coming due
    → Waking n tasks task ready u wake coming due
waking_later n tasks task ready t u wake coming due h l w =
    record {
      awake = awake_later n tasks task ready t u coming due h w.awake;
      next = λ g. record {
        low = λ q a b d. (w.next l).low q a b (omega arith);
        real = go g (w.next l).real;
      };
    }
  where
    go : u < wake
        → (wake ≡ never) ⊎ ((q : ℕ) × (q < n) × (get_or task q 0 < tasks) × (t < start_at ready q) × (start_at ready q ≡ wake))
        → (wake ≡ never) ⊎ ((q : ℕ) × (q < n) × (get_or task q 0 < tasks) × (u < start_at ready q) × (start_at ready q ≡ wake))
    go g (inl e) = inl e
    go g (inr (q, a, k, b, e)) = inr (q, a, k, omega arith, e)

-- the place of task i: a job of the task that may not run in tick t yet, before which every one may, or n. Its start tick is the task's next
module _ (n tasks : ℕ) (task ready : List ℕ) (s : Queued n tasks task ready) (t i p : ℕ) (high : p ≤ n) (own : p < n → get_or task p 0 ≡ i)
    (past : (q : ℕ) → q < p → get_or task q 0 ≡ i → start_at ready q ≤ t) (later : p < n → t < start_at ready p) where
  place_next : Next n task ready (λ k. k ≡ i) t (wake_of ready n p)
  place_next = record { low = low; real = real (le_or_lt n p) }
    where
      low : (q : ℕ) → q < n → get_or task q 0 ≡ i → t < start_at ready q → wake_of ready n p ≤ start_at ready q
      low q a g b = go (eq-or-lt_of_le {n = p} {m = q} (le_by p q (λ x. omega (arith, past q x g))))
        where
          go : (p ≡ q) ⊎ (p < q) → wake_of ready n p ≤ start_at ready q
          go (inl x) = let y : p < n = omega arith in rw (wake_in ready n p y) (rw x (omega arith))
          go (inr x) = let y : p < n = omega arith in omega (arith, wake_in ready n p y, s.in_order p q x a (own y ∙ sym g))

      real : (n ≤ p) ⊎ (p < n)
          → (wake_of ready n p ≡ never) ⊎ ((q : ℕ) × (q < n) × (get_or task q 0 ≡ i) × (t < start_at ready q) × (start_at ready q ≡ wake_of ready n p))
      real (inl b) = inl (wake_out ready n p b)
      real (inr b) = inr (p, b, own b, later b, sym (wake_in ready n p b))

module _ (n tasks : ℕ) (task ready : List ℕ) (s : Queued n tasks task ready) (t : ℕ) (coming due : List ℕ) (w : Awake n tasks task ready t coming due) (i : ℕ)
    (l : i < tasks) where
  -- a start tick that t has not reached is the task's next
  pub due_next : t < get_or due i 0 → Next n task ready (λ k. k ≡ i) t (get_or due i 0)
  due_next h =
      rw (w.due_is i l)
      (place_next n tasks task ready s t i (get_or coming i 0) (w.within i l) (w.own i l) (λ q. w.past i q l)
      (λ b. omega (arith, w.due_is i l, wake_in ready n (get_or coming i 0) b)))

  -- where t has reached it, the place goes on to the task's first job that may not run yet
  module _ (p : ℕ) (e : p ≡ coming_of task ready n i t (get_or coming i 0)) where
    found : Least (comes task ready n i t) n (get_or coming i 0) p
    found = least_is (comes task ready n i t) n (get_or coming i 0) p (w.within i l) e

    its_task : p < n → get_or task p 0 ≡ i
    its_task h = eqb-true _ _ (and_left _ (not (leb (wake_of ready n p) t)) (found.found h))

    not_yet : p < n → t < start_at ready p
    not_yet h = omega (arith, wake_in ready n p h, leb-false (wake_of ready n p) t (no (leb (wake_of ready n p) t) (and_right (eqb (get_or task p 0) i) _ (found.found h))))
      where
        no : (b : Bool) → not b ≡ true → b ≡ false
        no true g = clash false g refl
        no false g = refl

    started : (q : ℕ) → q < p → get_or task q 0 ≡ i → start_at ready q ≤ t
    started q h g = go (le_or_lt (get_or coming i 0) q)
      where
        yes : (b : Bool) → leb (wake_of ready n q) t ≡ b → eqb (get_or task q 0) i && not b ≡ false → leb (wake_of ready n q) t ≡ true
        yes true d f = d
        yes false d f = clash false (sym f ∙ rw (eq-eqb (get_or task q 0) i g)) refl

        go : (get_or coming i 0 ≤ q) ⊎ (q < get_or coming i 0) → start_at ready q ≤ t
        go (inl a) =
            omega (
              arith,
              wake_in ready n q (omega (arith, found.high)),
              leb-true (wake_of ready n q) t (yes (leb (wake_of ready n q) t) refl (found.before q a h)),
            )
        go (inr a) = w.past i q l a g

    pub moved_next : Next n task ready (λ k. k ≡ i) t (wake_of ready n p)
    moved_next = place_next n tasks task ready s t i p found.high its_task started not_yet

    pub moved_awake : (later : ℕ) → later ≡ wake_of ready n p → Awake n tasks task ready t (set coming i p) (set due i later)
    moved_awake later f =
        record {
          long = length-set coming i p ∙ w.long;
          due_long = length-set due i later ∙ w.due_long;
          within = λ k a. within k a (same_or k i);
          own = λ k a. own k a (same_or k i);
          past = λ k q a. past k q a (same_or k i);
          due_is = λ k a. due_is k a (same_or k i);
        }
      where
        here : get_or (set coming i p) i 0 ≡ p
        here = get_or-set_same coming i p 0 (omega (arith, w.long, s.few_tasks))

        there : (k : ℕ) → (k ≡ i → ⊥) → get_or (set coming i p) k 0 ≡ get_or coming k 0
        there k x = get_or-set_other coming i k p 0 x

        within : (k : ℕ) → k < tasks → (k ≡ i) ⊎ (k ≡ i → ⊥) → get_or (set coming i p) k 0 ≤ n
        within k a (inl x) = rw (x, here) found.high
        within k a (inr x) = rw (there k x) (w.within k a)

        own : (k : ℕ) → k < tasks → (k ≡ i) ⊎ (k ≡ i → ⊥) → get_or (set coming i p) k 0 < n → get_or task (get_or (set coming i p) k 0) 0 ≡ k
        own k a (inl x) = rw (x, here) its_task
        own k a (inr x) = rw (there k x) (w.own k a)

        past : (k q : ℕ) → k < tasks → (k ≡ i) ⊎ (k ≡ i → ⊥) → q < get_or (set coming i p) k 0 → get_or task q 0 ≡ k → start_at ready q ≤ t
        past k q a (inl x) = rw (x, here) (λ h g. started q h g)
        past k q a (inr x) = rw (there k x) (λ h g. w.past k q a h g)

        due_is : (k : ℕ) → k < tasks → (k ≡ i) ⊎ (k ≡ i → ⊥) → get_or (set due i later) k 0 ≡ wake_of ready n (get_or (set coming i p) k 0)
        due_is k a (inl x) = rw (x, here) (get_or-set_same due i later 0 (omega (arith, w.due_long, s.few_tasks)) ∙ f)
        due_is k a (inr x) = rw (there k x) (get_or-set_other due i k later 0 x ∙ w.due_is k a)

-- the search of the next start tick after t: none of no tasks
pub next_none : (n : ℕ) (task ready : List ℕ) (t : ℕ) → Next n task ready (λ k. k < 0) t never
next_none n task ready t = record { low = λ q a b d. absurd (omega arith); real = inl refl }

-- .. and of one task more
pub next_next : (n : ℕ) (task ready : List ℕ) (t i least soon : ℕ) → Next n task ready (λ k. k < i) t least → Next n task ready (λ k. k ≡ i) t soon
    → Next n task ready (λ k. k < i + 1) t (min least soon)
next_next n task ready t i least soon h g = record { low = low; real = real (le_or_lt least soon) }
  where
    low : (q : ℕ) → q < n → get_or task q 0 < i + 1 → t < start_at ready q → min least soon ≤ start_at ready q
    low q a b d = go (below_suc (get_or task q 0) i (omega arith))
      where
        go : (get_or task q 0 < i) ⊎ (get_or task q 0 ≡ i) → min least soon ≤ start_at ready q
        go (inl x) = omega (arith, h.low q a x d)
        go (inr x) = omega (arith, g.low q a x d)

    -- a start tick of one of these tasks
    Real : ℕ → Type 0
    Real x = (x ≡ never) ⊎ ((q : ℕ) × (q < n) × (get_or task q 0 < i + 1) × (t < start_at ready q) × (start_at ready q ≡ x))

    before : (least ≡ never) ⊎ ((q : ℕ) × (q < n) × (get_or task q 0 < i) × (t < start_at ready q) × (start_at ready q ≡ least)) → Real least
    before (inl e) = inl e
    before (inr (q, a, k, b, e)) = inr (q, a, omega arith, b, e)

    its : (soon ≡ never) ⊎ ((q : ℕ) × (q < n) × (get_or task q 0 ≡ i) × (t < start_at ready q) × (start_at ready q ≡ soon)) → Real soon
    its (inl e) = inl e
    its (inr (q, a, k, b, e)) = inr (q, a, omega arith, b, e)

    real : (least ≤ soon) ⊎ (soon < least) → Real (min least soon)
    real (inl x) = let y : min least soon ≡ least = omega arith in rw y (before h.real)
    real (inr x) = let y : min least soon ≡ soon = omega arith in rw y (its g.real)

-- the tick found is after t
pub next_after : (n : ℕ) (task ready : List ℕ) (those : ℕ → Type 0) (t wake : ℕ) → t < never → Next n task ready those t wake → t < wake
next_after n task ready those t wake h w = go w.real
  where
    go : (wake ≡ never) ⊎ ((q : ℕ) × (q < n) × those (get_or task q 0) × (t < start_at ready q) × (start_at ready q ≡ wake)) → t < wake
    go (inl e) = omega arith
    go (inr (q, a, k, b, e)) = omega arith

-- the column of start ticks of the oldest unfinished jobs: the search over it is the search over the jobs
pub since_top : (n tasks : ℕ) (ready head since : List ℕ) (t i : ℕ) → Sinces n tasks ready head since → i ≡ first_from (λ k. leb (get_or since k 0) t) tasks 0
    → i ≡ top_ready head ready n tasks t
since_top n tasks ready head since t i w e =
    e ∙ ap (or_else tasks) (first_eq _ _ (tasks - 0) 0 (λ k a b. ap (λ x. leb x t) (w.each k (omega arith))))

pub sinces_done : (n tasks : ℕ) (ready head since : List ℕ) → tasks ≤ 32 → length head ≡ 32 → Sinces n tasks ready head since → (i next x : ℕ) → i < tasks
    → x ≡ wake_of ready n next → Sinces n tasks ready (set head i next) (set since i x)
sinces_done n tasks ready head since f h w i next x l e = record { long = length-set since i x ∙ w.long; each = λ k a. go k a (same_or k i) }
  where
    go : (k : ℕ) → k < tasks → (k ≡ i) ⊎ (k ≡ i → ⊥) → get_or (set since i x) k 0 ≡ wake_of ready n (get_or (set head i next) k 0)
    go k a (inl y) =
        rw (y, get_or-set_same head i next 0 (omega (arith, h)), get_or-set_same since i x 0 (omega (arith, w.long))) e
    go k a (inr y) = rw (get_or-set_other head i k next 0 y) (get_or-set_other since i k x 0 y ∙ w.each k a)
