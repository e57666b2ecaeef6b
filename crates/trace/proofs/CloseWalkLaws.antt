-- The shapers along the releases of three columns that passed their check.
use Prim.Native.Nat.{ℕ, suc, ◌+◌, ◌≤◌, ◌<◌}
use mathlib.Core.Path.{◌≡◌, ap, ◌∙◌}
use mathlib.Core.List.{List, [], ◌++◌}
use native.Mathlib.Omega.{arith}
use native.Mathlib.Numerals.{add-one}
use lib.ListN.{length, get_or, set, get_or-append}
use Rattle.model.specs.Limits.{max_releases, max_tick}
use Rattle.model.specs.Tasks.{Tasks, Release, release_at}
use Rattle.model.specs.Gap.{own}
use Rattle.model.specs.Ready.{ready_next, ready_at, ready_list, place}
use Rattle.model.specs.Calls.{releases_of}
use Rattle.shaper.specs.declared.Shaper.{Shaper}
use Rattle.shaper.specs.declared.Shaped.{Shaped}
use Rattle.shaper.specs.Shaper.{Small, Shapes}
use Rattle.shaper.specs.ReadyTicks.{max_ready}
use Rattle.shaper.proofs.ShaperLaws.{ready_within}
use Rattle.releases.proofs.ReleaseLaws.{length_releases, release_at_lem}
use Rattle.model.proofs.TableLaws.{length_table, get_or_table}
use Rattle.trace.specs.Standing.{Standing}
use Rattle.trace.specs.TraceCalls.{Shapable}
use Rattle.trace.proofs.PositionLaws.{place_inside}
use Rattle.trace.proofs.ReadyAtLaws.{ready_own}
use Rattle.trace.proofs.StandingLaws.{within_own, history_at, StandingAt, standing_fresh, standing_step, step_next, step_ready, step_small}

-- the release at p of three columns
module _ (n : ℕ) (task tick cost : List ℕ) (p : ℕ) (h : p < n) where
  pub inside : p < length (releases_of n task tick cost)
  inside = omega (arith, length_releases n task tick cost)

  pub task_is : (release_at (releases_of n task tick cost) p).task ≡ get_or task p 0
  task_is = ap (λ (x : Release). x.task) (release_at_lem n task tick cost p h)

  pub tick_is : (release_at (releases_of n task tick cost) p).tick ≡ get_or tick p 0
  tick_is = ap (λ (x : Release). x.tick) (release_at_lem n task tick cost p h)

-- the limits of a list that passed its check
module _ (s : Tasks) (n : ℕ) (task tick : List ℕ) (w : Shapable s n task tick) (cost : List ℕ) where
  list_few : length (releases_of n task tick cost) ≤ max_releases
  list_few = omega (arith, length_releases n task tick cost, w.few)

  -- no release tick passes the limit
  pub list_high : (q : ℕ) → q < length (releases_of n task tick cost) → (release_at (releases_of n task tick cost) q).tick ≤ max_tick
  list_high q g = let e : q < n = omega (arith, length_releases n task tick cost) in rw (release_at_lem n task tick cost q e) (w.tick_high q e)

  -- no ready tick is over the largest that the limits allow
  pub ready_high : (k : ℕ → ℕ) (p : ℕ) → p < n → ready_at s k (releases_of n task tick cost) p ≤ max_ready
  ready_high k p h =
      let i = get_or task p 0 in
      let l = releases_of n task tick cost in
      let e = task_is n task tick cost p h in
      rw (ready_own s k l i p e)
      (ready_within (s.period i) (k i) (own i l) (within_own (s.period i) i l (w.period_high i (w.known p h)) list_few list_high) (place l p)
      (place_inside l i p (inside n task tick cost p h) e))

-- the slots of a column that holds the ready ticks of a list
pub ready_slot
    : (s : Tasks) (k : ℕ → ℕ) (n : ℕ) (task tick cost rest : List ℕ) (p : ℕ)
    → p < n
    → get_or (ready_list s k (releases_of n task tick cost) ++ rest) p 0 ≡ ready_at s k (releases_of n task tick cost) p
unfolding ready_list
ready_slot s k n task tick cost rest p h =
    let l = releases_of n task tick cost in
    get_or-append (ready_list s k l) rest 0 p (omega (arith, length_table (ready_at s k l) (length l), length_releases n task tick cost))
    ∙ get_or_table (ready_at s k l) 0 (length l) p (inside n task tick cost p h)

-- a loop over the releases of three columns has passed every release before p
pub record Walking (s : Tasks) (k : ℕ → ℕ) (n : ℕ) (task tick : List ℕ) (m : List Shaper) (p : ℕ) : Type 0 where
  pub within : p ≤ n
  pub standing : (cost : List ℕ) → StandingAt s k (releases_of n task tick cost) m p

-- the release at p has gone through its task's shaper, with the answer g. `none` stands for an entry that m does not have
pub record Step (task tick : List ℕ) (m : List Shaper) (p : ℕ) (g : Shaped) : Type 0 where
  pub none : Shaper
  pub shapes : Shapes (get_or m (get_or task p 0) none) (get_or tick p 0) g

module _ (s : Tasks) (k : ℕ → ℕ) (n : ℕ) (task tick : List ℕ) where
  pub walk_fresh : (m : List Shaper) → Standing s.period k (λ i. []) s.count m → Walking s k n task tick m 0
  walk_fresh m st = record { within = omega arith; standing = λ cost. standing_fresh s k (releases_of n task tick cost) m st }

  module _ (w : Shapable s n task tick) (m : List Shaper) (p : ℕ) (v : Walking s k n task tick m p) (h : p < n) where
    abbrev i : ℕ
    i = get_or task p 0

    abbrev a : ℕ
    a = get_or tick p 0

    abbrev l : List ℕ → List Release
    l cost = releases_of n task tick cost

    -- the step is allowed
    pub walk_small : (d : Shaper) → Small (get_or m i d) a
    walk_small d =
        step_small s k (l []) m p i a (v.standing []) (inside n task tick [] p h) (task_is n task tick [] p h) (tick_is n task tick [] p h) w.few_tasks
        (w.known p h) d
        (w.period_high i (w.known p h)) (list_few s n task tick w []) (list_high s n task tick w [])

    module _ (g : Shaped) (f : Step task tick m p g) where
      module _ (cost : List ℕ) where
        -- the step's ready tick is that of the list
        pub walk_ready : g.ready ≡ ready_at s k (l cost) p
        walk_ready =
            step_ready s k (l cost) m p i a (v.standing cost) (inside n task tick cost p h) (task_is n task tick cost p h) (tick_is n task tick cost p h) w.few_tasks
            (w.known p h) f.none
            g f.shapes

        -- and that of the task's history
        pub walk_history : g.ready ≡ ready_next (s.period i) (k i) (history_at s k (l cost) p i) a
        walk_history =
            step_next s k (l cost) m p i a (v.standing cost) (inside n task tick cost p h) (task_is n task tick cost p h) (tick_is n task tick cost p h) w.few_tasks
            (w.known p h) f.none
            g f.shapes

        stands : StandingAt s k (l cost) (set m i g.state) (suc p)
        stands =
            standing_step s k (l cost) m p i a (v.standing cost) (inside n task tick cost p h) (task_is n task tick cost p h) (tick_is n task tick cost p h)
            w.few_tasks (w.known p h) f.none
            g f.shapes

      pub walk_next : Walking s k n task tick (set m i g.state) (p + 1)
      walk_next = record { within = omega arith; standing = λ cost. rw add-one (stands cost) }
