-- Laws of the late list: a trace, all legal, with ready ticks as the window asks for.
use Prim.Native.Nat.{ℕ, suc, ◌+◌, ◌*◌, ◌≤◌, ◌<◌}
use mathlib.Core.Path.{◌≡◌, refl, sym, ap, ◌∙◌}
use mathlib.Core.List.{List, []}
use mathlib.Core.Logic.{dite}
use native.Mathlib.Omega.{arith}
use native.Mathlib.Nat.{mul-le-mul_right}
use native.Mathlib.Decide.{dec_lt, dec_le}
use lib.ListN.{length, get_or}
use borrow.Author.Tests.{lt-ltb, le-ltb}
use Rattle.model.specs.Series.{table}
use Rattle.model.specs.Tasks.{Tasks, Release, release_at}
use Rattle.model.specs.Arrival.{arrivals}
use Rattle.model.specs.Gap.{gap, own, Legal}
use Rattle.model.specs.Ready.{place, ready_at}
use Rattle.model.specs.Claims.{Trace}
use Rattle.shaper.proofs.GapLaws.{gap_le}
use Rattle.trace.proofs.PositionLaws.{own_at, place_inside, Held, held}
use Rattle.trace.proofs.ReadyAtLaws.{ready_own}
use Rattle.model.proofs.TableLaws.{length_table, get_or_table}
use Rattle.witness.proofs.MergeLaws.{all_at, sorted_at, all_merged, sorted_merged, own_merged, own_none, all_map}
use Rattle.witness.specs.Merge.{release_of}
use Rattle.response.proofs.ArrivalLaws.{arrivals_gap}
use Rattle.witness.proofs.GapTimeLaws.{gap_time_rises, gap_times_apart, gap_times_ready}
use Rattle.witness.specs.Scenario.{above, many_of, scenario, spent_of, time_of}

pub above_yes : (i x y j : ℕ) → j < i → above i x y j ≡ x
unfolding above
above_yes i x y j h = rw (lt-ltb j i h)

pub above_no : (i x y j : ℕ) → i ≤ j → above i x y j ≡ y
unfolding above
above_no i x y j h = rw (le-ltb j i h)

module _ (s : Tasks) (k : ℕ → ℕ) (i base first last w : ℕ) where
  abbrev l : List Release
  l = scenario s k i base first last w

  abbrev time : ℕ → ℕ → ℕ
  time = time_of s k i base first

  abbrev many : ℕ → ℕ
  many = many_of s k i last w

  -- the ticks never fall
  pub scenario_rises : (p : ℕ) → suc p < length l → (release_at l p).tick ≤ (release_at l (suc p)).tick
  unfolding scenario
  scenario_rises = sorted_at l (sorted_merged time s.cost many (suc i))

  -- what holds of every release holds at every position
  scenario_at
      : (Q : Release → Type 0) → ((j x : ℕ) → j ≤ i → x < many j → Q (release_of time s.cost j x))
      → (p : ℕ) → p < length l → Q (release_at l p)
  unfolding scenario
  scenario_at Q h = all_at Q l (all_merged time s.cost many Q (suc i) (λ j x a g. h j x (omega arith) g))

  -- the releases are of task i or of a task above
  pub scenario_task : (p : ℕ) → p < length l → (release_at l p).task ≤ i
  scenario_task = scenario_at (λ a. a.task ≤ i) (λ j x h g. h)

  -- and of full cost
  pub scenario_cost : (p : ℕ) → p < length l → (release_at l p).cost ≡ s.cost (release_at l p).task
  scenario_cost = scenario_at (λ a. a.cost ≡ s.cost a.task) (λ j x h g. refl)

  -- a task's own releases
  pub scenario_own : (j : ℕ) → j ≤ i → own j l ≡ table (time j) (many j)
  unfolding scenario
  scenario_own j h = own_merged time s.cost many (suc i) j (omega arith) (gap_time_rises (s.period j) (spent_of s k i j) (above i base first j))

  -- a task below has none
  pub scenario_below : (j : ℕ) → i < j → own j l ≡ []
  unfolding scenario
  scenario_below j h =
      own_none j l (all_map (λ a. a.task ≤ i) (λ a. a.task ≡ j → ⊥) (λ a g e. omega arith) l
      (all_merged time s.cost many (λ a. a.task ≤ i) (suc i) (λ n x a g. omega arith)))

  pub scenario_many : (j : ℕ) → j ≤ i → length (own j l) ≡ many j
  scenario_many j h = ap length (scenario_own j h) ∙ length_table (time j) (many j)

  -- task i has last + 1 releases
  own_many : many i ≡ suc last
  own_many = above_no i (arrivals (s.period i) (k i) w) (suc last) i (omega arith)

  -- so it has a last job
  pub last_job : Held l i last
  last_job = held l i last (omega (arith, scenario_many i (omega arith), own_many))

  -- and this is the release of that job
  pub last_release : (h : Held l i last) → (release_at l h.at).tick ≡ first + gap (s.period i) (s.jitter i) last
  last_release h =
      sym (own_at l i h.at h.inside h.of_task)
      ∙ ap (λ (x : ℕ). get_or (own i l) x 0) h.is
      ∙ ap (λ (x : List ℕ). get_or x last 0) (scenario_own i (omega arith))
      ∙ get_or_table (time i) 0 (many i) last (omega (arith, own_many))
      ∙ rw (above_no i base first i (omega arith), above_no i (k i) (s.jitter i) i (omega arith))

  -- the list is a trace
  pub scenario_trace : ((j : ℕ) → j < s.count → 1 ≤ s.cost j) → i < s.count → Trace s l
  scenario_trace costs hi = record {
    sound = λ p h. record {
      known = omega (arith, scenario_task p h);
      cost_low = rw (scenario_cost p h) (costs (release_at l p).task (omega (arith, scenario_task p h)));
      cost_high = omega (arith, scenario_cost p h);
    };
    rising = scenario_rises;
  }

  module _ (kept : (j : ℕ) → j < s.count → k j ≤ s.jitter j) where
    -- the jitter used up lies between the kept one and the task's
    spent_low : (j : ℕ) → j < s.count → k j ≤ spent_of s k i j
    spent_low j h = dite (dec_lt j i) (λ g. rw (above_yes i (k j) (s.jitter j) j g) (omega arith)) (λ g. rw (above_no i (k j) (s.jitter j) j (omega arith)) (kept j h))

    spent_high : (j : ℕ) → j < s.count → spent_of s k i j ≤ s.jitter j
    spent_high j h = dite (dec_lt j i) (λ g. rw (above_yes i (k j) (s.jitter j) j g) (kept j h)) (λ g. rw (above_no i (k j) (s.jitter j) j (omega arith)) (omega arith))

    -- every task's releases are legal
    pub scenario_legal : (j : ℕ) → j < s.count → Legal s l j
    scenario_legal j h =
        dite (dec_le j i)
        (λ g. rw (scenario_own j g) (gap_times_apart (s.period j) (spent_of s k i j) (above i base first j) (many j) (s.jitter j) (spent_high j h)))
        (λ g. rw (scenario_below j (omega arith)) (λ x y b. absurd (omega arith)))

    -- the x-th release of task j is ready d_K(x) after the first
    pub scenario_ready
        : (j p : ℕ) → j < s.count → p < length l → (release_at l p).task ≡ j → ready_at s k l p ≡ above i base first j + gap (s.period j) (k j) (place l p)
    scenario_ready j p hj h e =
        let g : j ≤ i = rw e at (scenario_task p h) in
        let n : place l p < many j = omega (arith, place_inside l j p h e, scenario_many j g) in
        ready_own s k l j p e ∙ rw (scenario_own j g)
        (gap_times_ready (s.period j) (spent_of s k i j) (above i base first j) (many j) (k j) (place l p) (spent_low j hj) n)

  -- the ticks of the tasks above are before base + w, the own ones at most last periods after the first
  pub scenario_ticks
      : ((j : ℕ) → j < i → 1 ≤ s.period j) → (end : ℕ) → base + w ≤ end → first + last * s.period i ≤ end
      → (p : ℕ) → p < length l → (release_at l p).tick ≤ end
  scenario_ticks periods end a b = scenario_at (λ r. r.tick ≤ end) (λ j x h g. dite (dec_lt j i) (high j x g) (λ n. own_high j x g (omega arith)))
    where
      high : (j x : ℕ) → x < many j → j < i → time j x ≤ end
      high j x g h =
          rw (above_yes i base first j h, above_yes i (k j) (s.jitter j) j h)
          (omega (
            arith,
            arrivals_gap (s.period j) (k j) (periods j h) x w (rw (above_yes i (arrivals (s.period j) (k j) w) (suc last) j h) at g),
          ))

      own_high : (j x : ℕ) → x < many j → j ≡ i → time j x ≤ end
      own_high j x g e =
          let n : x < suc last = rw (e, own_many) at g in
          let f : first + gap (s.period i) (s.jitter i) x ≤ end =
          omega (arith, gap_le (s.period i) (s.jitter i) x, mul-le-mul_right {m = x} {n = last} (s.period i) (omega arith)) in
          rw (e, above_no i base first i (omega arith), above_no i (k i) (s.jitter i) i (omega arith)) f
