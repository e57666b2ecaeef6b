-- The search by count: fewer releases first.
use Prim.Native.Nat.{ℕ, ◌+◌, ◌-◌, ◌≤◌, ◌<◌}
use mathlib.Core.Path.{◌≡◌, refl, sym, ap, ◌∙◌}
use Rattle.std.specs.Prelude.{⊤}
use mathlib.Core.List.{List, [], ◌++◌}
use native.Mathlib.Omega.{arith}
use native.Mathlib.Nat.{sub-zero}
use lib.ListN.{length, get_or}
use Rattle.model.specs.Tasks.{Release}
use Rattle.model.specs.Calls.{releases_of}
use Rattle.model.specs.Series.{table}
use Rattle.enumeration.specs.SmallTraces.{joined, extended}
use Rattle.generator.specs.declared.Grid.{Grid}
use Rattle.std.specs.declared.ops.ControlFlow.{ControlFlow}
use Rattle.std.specs.declared.ops.ControlFlow.TheVariants.{Continue, Break}
use Rattle.generator.specs.Generator.{grid_tasks, Seekable, left_after, left_in, Seeks, Reaches}
use Rattle.generator.proofs.LeftLaws.{left_inside, left_past, Going, going_none, going_all, going_here, going_member, going_next}
use Rattle.generator.proofs.DeeperLaws.{joined_next, joined_end}

-- no release
releases_none : (task tick cost : List ℕ) → releases_of 0 task tick cost ≡ []
unfolding releases_of table
releases_none task tick cost = refl

-- the invariant of the loop over the counts: position p of all is position left of those of n releases or more
pub record Searching (g : Grid) (releases p : ℕ) (task₀ tick₀ cost₀ task tick cost : List ℕ) (left n : ℕ) : Type 0 where
  pub going
      : Going [] (joined (λ k. extended (grid_tasks g) g.pairs k 0 []) 0 (releases + 1))
      (joined (λ k. extended (grid_tasks g) g.pairs k 0 []) n (releases + 1 - n)) p left
  pub task_long : length task ≡ length task₀
  pub tick_long : length tick ≡ length tick₀
  pub cost_long : length cost ≡ length cost₀

module _ (g : Grid) (releases p : ℕ) (task₀ tick₀ cost₀ : List ℕ) where
  abbrev one : ℕ → List (List Release)
  one k = extended (grid_tasks g) g.pairs k 0 []

  abbrev all : List (List Release)
  all = joined one 0 (releases + 1)

  pub searching_none : Searching g releases p task₀ tick₀ cost₀ task₀ tick₀ cost₀ p 0
  searching_none = record { going = rw (sub-zero (releases + 1)) (going_none [] all p); task_long = refl; tick_long = refl; cost_long = refl }

  module _ (task tick cost : List ℕ) (left n : ℕ) (w : Searching g releases p task₀ tick₀ cost₀ task tick cost left n) where
    pub searching_room : Seekable g releases 0 task₀ tick₀ cost₀ → n ≤ releases → Seekable g (0 + n) 0 task tick cost
    searching_room q h =
        record {
          some_task = q.some_task;
          few_tasks = q.few_tasks;
          few_pairs = q.few_pairs;
          room = omega (arith, q.room);
          task_long = omega (arith, q.task_long, w.task_long);
          tick_long = omega (arith, q.tick_long, w.tick_long);
          cost_long = omega (arith, q.cost_long, w.cost_long);
          near = λ k c. absurd (omega arith);
        }

    -- no count is left
    pub searching_all : releases < n → Reaches all releases p task tick cost (Continue left)
    searching_all h =
        record {
          left = going_all [] all p left (rw (joined_end one (releases + 1) n (omega arith)) at w.going);
          found = λ k e. let v : ◌≡◌ {A = ℕ} 0 1 = cc in absurd (omega arith);
          few = λ k e. let v : ◌≡◌ {A = ℕ} 0 1 = cc in absurd (omega arith);
        }

    module _
        (b : n ≤ releases) (task' tick' cost' : List ℕ) (r : ControlFlow ⊤ ℕ)
        (q : Seeks (extended (grid_tasks g) g.pairs n 0 (releases_of 0 task tick cost)) (0 + n) left 0 task tick cost task' tick' cost' r) where
      here : Going [] all (one n ++ joined one (n + 1) (releases + 1 - (n + 1))) p left
      here = rw (joined_next one (releases + 1) n (omega arith)) at w.going

      part : extended (grid_tasks g) g.pairs n 0 (releases_of 0 task tick cost) ≡ one n
      part = ap (extended (grid_tasks g) g.pairs n 0) (releases_none task tick cost)

      told : left_in r ≡ left_after (length (one n)) left
      told = q.left ∙ ap (λ (x : List (List Release)). left_after (length x) left) part

      -- the trace has n releases
      pub searching_found : (u : ⊤) → r ≡ Break u → Reaches all releases p task' tick' cost' (Break n)
      searching_found u e =
          record {
            left = going_here [] all p (one n) _ left here inside;
            found = λ k f.
                ap (λ (x : ℕ). releases_of x task' tick' cost') (count k f)
                ∙ q.found (omega (arith, ap length part, inside))
                ∙ ap (λ (x : List (List Release)). get_or x left []) part
                ∙ going_member [] all p (one n) _ left here inside;
            few = λ k f. omega (arith, count k f);
          }
        where
          inside : left < length (one n)
          inside = left_inside (length (one n)) left (sym (ap left_in e) ∙ told)

          count : (k : ℕ) → ◌≡◌ {A = ControlFlow ℕ ℕ} (Break n) (Break k) → k ≡ 0 + n
          count k f = let c : k ≡ n = cc in omega arith

      -- it has more
      pub searching_next
          : (rest : ℕ) → r ≡ Continue rest → length task' ≡ length task → length tick' ≡ length tick → length cost' ≡ length cost
          → Searching g releases p task₀ tick₀ cost₀ task' tick' cost' rest (n + 1)
      searching_next rest e h k m =
          record {
            going = going_next [] all p (one n) _ left here rest (left_past (length (one n)) left rest (sym (ap left_in e) ∙ told));
            task_long = h ∙ w.task_long;
            tick_long = k ∙ w.tick_long;
            cost_long = m ∙ w.cost_long;
          }
