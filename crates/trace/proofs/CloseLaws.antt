-- The loop that looks for the first release that is too close: the shapers with the full jitters move it, and none before it.
use Prim.Native.Nat.{ℕ, suc, ◌+◌, ◌≤◌, ◌<◌}
use mathlib.Core.Path.{◌≡◌, sym, ap, ap₂, ◌∙◌}
use mathlib.Core.Bool.{true, false}
use mathlib.Core.Logic.{dite}
use mathlib.Core.Option.{some, none}
use mathlib.Core.List.{List, [], ◌∷◌, reverse, reverse-append}
use native.Mathlib.Omega.{arith}
use native.Mathlib.Decide.{ℕ_discrete}
use native.Mathlib.Numerals.{add-one}
use borrow.Author.Tests.{lt-ltb, le-ltb}
use lib.Dec.{ltb}
use lib.ListN.{length, get_or, take, set}
use Rattle.model.specs.Search.{first}
use Rattle.model.specs.Tasks.{Tasks, Release, release_at}
use Rattle.model.specs.Gap.{own}
use Rattle.model.specs.Ready.{after, ready_next}
use Rattle.model.specs.Legality.{earlier, too_close, first_close}
use Rattle.model.specs.Calls.{releases_of}
use Rattle.model.proofs.SearchLaws.{Sought, sought_none, sought_next, sought_here, sought_all}
use Rattle.shaper.specs.declared.Shaper.{Shaper}
use Rattle.shaper.specs.declared.Shaped.{Shaped}
use Rattle.shaper.proofs.ReadyLaws.{next_not_before}
use Rattle.shaper.proofs.ShaperLaws.{history_none}
use Rattle.releases.proofs.ReleaseLaws.{length_releases}
use Rattle.trace.specs.Standing.{Standing}
use Rattle.trace.specs.TraceCalls.{Shapable}
use Rattle.trace.proofs.StandingLaws.{history_at, history_next, own_next, own_still}
use Rattle.trace.proofs.CloseWalkLaws.{Walking, walk_fresh, walk_next, walk_history, Step, inside, task_is, tick_is}

-- no release before p was too close, so that the shapers with the full jitters have moved none of them
abbrev pub Still : Tasks → List Release → ℕ → Type 0
Still s l p = (i : ℕ) → history_at s s.jitter l p i ≡ reverse (own i (take p l))

module _ (s : Tasks) (l : List Release) (p i a : ℕ) (h : p < length l) (of_task : (release_at l p).task ≡ i) (at_tick : (release_at l p).tick ≡ a) (still : Still s l p) where
  -- the release at p is too close where its shaper would move it
  pub close_is : too_close s l p ≡ ltb a (after (s.period i) (s.jitter i) (history_at s s.jitter l p i) 1)
  unfolding too_close earlier
  close_is =
      ap₂ (λ (x y : ℕ). ltb y (after (s.period x) (s.jitter x) (reverse (own x (take p l))) 1)) of_task at_tick
      ∙ ap (λ (x : List ℕ). ltb a (after (s.period i) (s.jitter i) x 1)) (sym (still i))

  pub close_yes : a < ready_next (s.period i) (s.jitter i) (history_at s s.jitter l p i) a → too_close s l p ≡ true
  unfolding ready_next
  close_yes g = close_is ∙ lt-ltb a (after (s.period i) (s.jitter i) (history_at s s.jitter l p i) 1) (omega arith)

  pub close_no : ready_next (s.period i) (s.jitter i) (history_at s s.jitter l p i) a ≤ a → too_close s l p ≡ false
  unfolding ready_next
  close_no g = close_is ∙ le-ltb a (after (s.period i) (s.jitter i) (history_at s s.jitter l p i) 1) (omega arith)

  pub still_next : ready_next (s.period i) (s.jitter i) (history_at s s.jitter l p i) a ≤ a → Still s l (suc p)
  still_next g j = dite (ℕ_discrete i j) same other
    where
      unmoved : ready_next (s.period i) (s.jitter i) (history_at s s.jitter l p i) a ≡ a
      unmoved = omega (arith, next_not_before (s.period i) (s.jitter i) (history_at s s.jitter l p i) a)

      same_here : history_at s s.jitter l (suc p) i ≡ reverse (own i (take (suc p) l))
      same_here =
          history_next s s.jitter l p i a h of_task at_tick
          ∙ ap₂ (λ (x : ℕ) (y : List ℕ). x ∷ y) unmoved (still i)
          ∙ sym (ap reverse (own_next l p h i a of_task at_tick) ∙ reverse-append (own i (take p l)) (a ∷ []))

      same : i ≡ j → history_at s s.jitter l (suc p) j ≡ reverse (own j (take (suc p) l))
      same e = rw (← e) same_here

      other : (i ≡ j → ⊥) → history_at s s.jitter l (suc p) j ≡ reverse (own j (take (suc p) l))
      other n = rw (own_still l p h j (λ e. n (sym of_task ∙ e))) (still j)

-- the invariant of the loop that looks for the first release that is too close
pub record Tracing (s : Tasks) (n : ℕ) (task tick : List ℕ) (m : List Shaper) (p : ℕ) : Type 0 where
  pub walking : Walking s s.jitter n task tick m p
  pub still : (cost : List ℕ) → Still s (releases_of n task tick cost) p
  pub sought : (cost : List ℕ) → Sought (too_close s (releases_of n task tick cost)) n p

module _ (s : Tasks) (n : ℕ) (task tick : List ℕ) where
  pub tracing_none : (m : List Shaper) → Standing s.period s.jitter (λ i. []) s.count m → Tracing s n task tick m 0
  unfolding own
  tracing_none m st =
      record {
        walking = walk_fresh s s.jitter n task tick m st;
        still = λ cost i. history_none (s.period i) (s.jitter i);
        sought = λ cost. sought_none _ n;
      }

  first_refusal : (cost : List ℕ) → first_close s (releases_of n task tick cost) ≡ first (too_close s (releases_of n task tick cost)) n 0
  unfolding first_close
  first_refusal cost = ap (λ (x : ℕ). first (too_close s (releases_of n task tick cost)) x 0) (length_releases n task tick cost)

  pub tracing_all
      : (m : List Shaper) (p : ℕ) → Tracing s n task tick m p → n ≤ p → (cost : List ℕ) → none ≡ first_close s (releases_of n task tick cost)
  tracing_all m p f h cost = sym (first_refusal cost ∙ sought_all _ n p (f.sought cost) h)

  module _ (w : Shapable s n task tick) (m : List Shaper) (p : ℕ) (f : Tracing s n task tick m p) (h : p < n) (r : Shaped) (e : Step task tick m p r) where
    ready_is
        : (cost : List ℕ)
        → r.ready
        ≡ ready_next (s.period (get_or task p 0)) (s.jitter (get_or task p 0)) (history_at s s.jitter (releases_of n task tick cost) p (get_or task p 0)) (get_or tick p 0)
    ready_is cost = walk_history s s.jitter n task tick w m p f.walking h r e cost

    pub tracing_close : get_or tick p 0 < r.ready → (cost : List ℕ) → some p ≡ first_close s (releases_of n task tick cost)
    tracing_close g cost =
        sym
        (first_refusal cost
        ∙ sought_here _ n p (f.sought cost) h
        (close_yes s _ p _ _ (inside n task tick cost p h) (task_is n task tick cost p h) (tick_is n task tick cost p h) (f.still cost) (rw (ready_is cost) at g)))

    pub tracing_next : r.ready ≤ get_or tick p 0 → Tracing s n task tick (set m (get_or task p 0) r.state) (p + 1)
    tracing_next g =
        record {
          walking = walk_next s s.jitter n task tick w m p f.walking h r e;
          still =
              λ cost. rw add-one (still_next s _ p _ _ (inside n task tick cost p h) (task_is n task tick cost p h) (tick_is n task tick cost p h) (f.still cost)
              (rw (ready_is cost) at g));
          sought = λ cost.
              sought_next _ n p (f.sought cost) h
              (close_no s _ p _ _ (inside n task tick cost p h) (task_is n task tick cost p h) (tick_is n task tick cost p h) (f.still cost) (rw (ready_is cost) at g));
        }
