-- The generator's loop and its calls.
use Prim.Native.Nat.{ℕ, suc, ◌+◌, ◌-◌, ◌/◌, ◌%◌, ◌≤◌, ◌<◌}
use mathlib.Core.Path.{◌≡◌, refl, sym, ap, ◌∙◌}
use mathlib.Core.Bool.{Bool, true, false}
use mathlib.Core.Option.{some, none}
use Rattle.std.specs.Prelude.{⊤}
use mathlib.Core.List.{List, [], ◌∷◌, ◌++◌, reverse}
use native.Mathlib.Omega.{arith}
use mathlib.Core.Logic.{⊎_elim}
use native.Mathlib.Nat.{div-le_self, eq-or-lt_of_le}
use native.Mathlib.Numerals.{add-one}
use borrow.Author.Tests.{lt-leb, le-leb}
use lib.ListN.{length, get_or, set, length-set}
use lib.Seq.{get_or-set_same, get_or-set_other}
use Rattle.model.specs.Tasks.{Tasks, Release}
use Rattle.model.specs.Gap.{own}
use Rattle.model.specs.Ready.{after}
use Rattle.model.specs.Calls.{releases_of}
use Rattle.enumeration.specs.SmallTraces.{pair_release, may_follow, joined, extended}
use Rattle.generator.specs.declared.Grid.{Grid}
use Rattle.std.specs.declared.ops.ControlFlow.{ControlFlow}
use Rattle.std.specs.declared.ops.ControlFlow.TheVariants.{Continue, Break}
use Rattle.generator.specs.Generator.{grid_tasks, Seekable, branch, left_after, left_in, Seeks}
use Rattle.generator.proofs.LeftLaws.{left_none, left_some, left_inside, left_past, Going, going_none, going_all, going_here, going_member, going_next}
use Rattle.generator.proofs.TraceRowLaws.{releases_before, releases_set, same_tick, same_first}

-- pair x of a sheet after the releases l: its task's floor decides
module _ (s : Tasks) (b n : ℕ) (l : List Release) (x : ℕ) where
  abbrev floor : ℕ
  floor = after (s.period (x % s.count)) (s.jitter (x % s.count)) (reverse (own (x % s.count) l)) 1

  abbrev next : List (List Release)
  next = extended s b n x (l ++ (pair_release s x ∷ []))

  by : (c : Bool) → may_follow s l (pair_release s x) ≡ c → branch s b n l x ≡ elim c [ true ↦ next | false ↦ [] ]
  unfolding branch
  by c e = ap (λ (d : Bool). elim d [ true ↦ next | false ↦ [] ]) e

  pub branch_none : x / s.count < floor → branch s b n l x ≡ []
  unfolding may_follow
  branch_none h = by false (lt-leb floor (x / s.count) h)

  pub branch_some : floor ≤ x / s.count → branch s b n l x ≡ extended s b n x (l ++ (pair_release s x ∷ []))
  unfolding may_follow
  branch_some h = by true (le-leb floor (x / s.count) h)

-- the traces of one more release, from pair x on
pub extended_suc : (s : Tasks) (b n x : ℕ) (l : List Release) → 1 ≤ n → extended s b n x l ≡ joined (branch s b (n - 1) l) x (b - x)
unfolding extended branch
extended_suc s b n x l h = let e : n ≡ suc (n - 1) = omega arith in ap (λ (k : ℕ). extended s b k x l) e

pub joined_next : {A : Type 0} (f : ℕ → List A) (b y : ℕ) → y < b → joined f y (b - y) ≡ f y ++ joined f (y + 1) (b - (y + 1))
unfolding joined
joined_next f b y h =
    let e : b - y ≡ suc (b - (y + 1)) = omega arith in
    ap (joined f y) e ∙ ap (λ (k : ℕ). f y ++ joined f k (b - (y + 1))) (sym (add-one y))

pub joined_end : {A : Type 0} (f : ℕ → List A) (b y : ℕ) → b ≤ y → joined f y (b - y) ≡ []
unfolding joined
joined_end f b y h = let e : b - y ≡ 0 = omega arith in ap (joined f y) e

-- a search among no traces
pub seeks_none
    : (all : List (List Release)) (n p at : ℕ) (task tick cost : List ℕ) → all ≡ [] → Seeks all n p at task tick cost task tick cost (Continue p)
seeks_none all n p at task tick cost e =
    record {
      left = sym (ap (λ (l : List (List Release)). left_after (length l) p) e ∙ left_some 0 p (omega arith) ∙ ap some (omega arith));
      found = λ h. absurd (omega (arith, ap length e));
      kept = refl;
    }

-- no release more to be placed: the one trace is that of the rows
pub seeks_ended
    : (s : Tasks) (b x at : ℕ) (task tick cost : List ℕ) (n p : ℕ) (r : ControlFlow ⊤ ℕ) → n ≡ 0 → left_in r ≡ left_after 1 p
    → Seeks (extended s b n x (releases_of at task tick cost)) (at + n) p at task tick cost task tick cost r
unfolding extended
seeks_ended s b x at task tick cost n p r e h =
    rw (e, extended)
    (record {
      left = h;
      found = λ c. let z : p ≡ 0 = omega arith in rw z (ap (λ (k : ℕ). releases_of k task tick cost) (omega arith));
      kept = refl;
    })

-- with one release more in the rows
module _
    (g : Grid) (n x at i e : ℕ) (task tick cost : List ℕ) (q : Seekable g n at task tick cost) (h : x < g.pairs) (k : at < n) where
  pub seekable_deeper : Seekable g n (at + 1) (set task at i) (set tick at (x / g.tasks)) (set cost at e)
  seekable_deeper =
      record {
        some_task = q.some_task;
        few_tasks = q.few_tasks;
        few_pairs = q.few_pairs;
        room = q.room;
        task_long = simp length-set q.task_long;
        tick_long = simp length-set q.tick_long;
        cost_long = simp length-set q.cost_long;
        near = λ p c. ⊎_elim (here p) (other p) (eq-or-lt_of_le {n = p} {m = at} (omega arith));
      }
    where
      here : (p : ℕ) → p ≡ at → get_or (set tick at (x / g.tasks)) p 0 ≤ 36
      here p e =
          rw (e, get_or-set_same tick at (x / g.tasks) 0 (omega (arith, q.tick_long))) (omega (arith, q.few_pairs, div-le_self x g.tasks))

      other : (p : ℕ) → p < at → get_or (set tick at (x / g.tasks)) p 0 ≤ 36
      other p c = rw (get_or-set_other tick at p (x / g.tasks) 0 (λ e. omega arith)) (q.near p c)

-- one release put into the rows, and the search among the traces that have it
module _
    (s : Tasks) (b n x p at : ℕ) (task tick cost : List ℕ) (i a e : ℕ) (is-i : i ≡ x % s.count) (is-a : a ≡ x / s.count) (is-e : e ≡ s.cost (x % s.count))
    (h : at < length task) (k : at < length tick) (m : at < length cost) where
  put : releases_of (at + 1) (set task at i) (set tick at a) (set cost at e) ≡ releases_of at task tick cost ++ (pair_release s x ∷ [])
  put = releases_set at task tick cost i a e h k m ∙ ap (λ (r : Release). releases_of at task tick cost ++ (r ∷ [])) cc

  pub seeks_deeper
      : (task' tick' cost' : List ℕ) (r : ControlFlow ⊤ ℕ)
      → after (s.period (x % s.count)) (s.jitter (x % s.count)) (reverse (own (x % s.count) (releases_of at task tick cost))) 1 ≤ x / s.count
      → Seeks (extended s b n x (releases_of (at + 1) (set task at i) (set tick at a) (set cost at e))) (at + 1 + n) p (at + 1)
      (set task at i) (set tick at a) (set cost at e) task' tick' cost' r
      → Seeks (branch s b n (releases_of at task tick cost) x) (at + 1 + n) p at task tick cost task' tick' cost' r
  seeks_deeper task' tick' cost' r f w =
      record {
        left = w.left ∙ ap (λ (l : List (List Release)). left_after (length l) p) same;
        found = λ c. w.found (omega (arith, ap length same)) ∙ ap (λ (l : List (List Release)). get_or l p []) same;
        kept =
            same_first (at + 1) _ _ _ task' tick' cost' w.kept at (omega arith)
            ∙ releases_before at task tick cost i a e;
      }
    where
      same
          : extended s b n x (releases_of (at + 1) (set task at i) (set tick at a) (set cost at e))
          ≡ branch s b n (releases_of at task tick cost) x
      same = ap (extended s b n x) put ∙ sym (branch_some s b n (releases_of at task tick cost) x f)

-- the invariant of the loop over the pairs: position p of the traces that extend the first releases of the rows is position left of those that extend them by pair y
-- or a later one, and those releases are as they were
pub record Seeking (g : Grid) (n x p at : ℕ) (task₀ tick₀ cost₀ task tick cost : List ℕ) (left y : ℕ) : Type 0 where
  pub going
      : Going [] (extended (grid_tasks g) g.pairs n x (releases_of at task₀ tick₀ cost₀))
      (joined (branch (grid_tasks g) g.pairs (n - 1) (releases_of at task₀ tick₀ cost₀)) y (g.pairs - y)) p left
  pub kept : releases_of at task tick cost ≡ releases_of at task₀ tick₀ cost₀
  pub some_left : 1 ≤ n
  pub task_long : length task ≡ length task₀
  pub tick_long : length tick ≡ length tick₀
  pub cost_long : length cost ≡ length cost₀

module _ (g : Grid) (n x p at : ℕ) (task₀ tick₀ cost₀ : List ℕ) where
  abbrev l : List Release
  l = releases_of at task₀ tick₀ cost₀

  abbrev all : List (List Release)
  all = extended (grid_tasks g) g.pairs n x l

  abbrev one : ℕ → List (List Release)
  one = branch (grid_tasks g) g.pairs (n - 1) l

  pub seeking_none : 1 ≤ n → Seeking g n x p at task₀ tick₀ cost₀ task₀ tick₀ cost₀ p x
  seeking_none h =
      record {
        going = rw (extended_suc (grid_tasks g) g.pairs n x l h) (going_none [] _ p);
        kept = refl;
        some_left = h;
        task_long = refl;
        tick_long = refl;
        cost_long = refl;
      }

  module _ (task tick cost : List ℕ) (left y : ℕ) (w : Seeking g n x p at task₀ tick₀ cost₀ task tick cost left y) where
    -- what a call of the next pair needs
    pub seeking_room : Seekable g (at + n) at task₀ tick₀ cost₀ → Seekable g (at + 1 + (n - 1)) at task tick cost
    seeking_room q =
        record {
          some_task = q.some_task;
          few_tasks = q.few_tasks;
          few_pairs = q.few_pairs;
          room = omega (arith, q.room, w.some_left);
          task_long = omega (arith, q.task_long, w.task_long, w.some_left);
          tick_long = omega (arith, q.tick_long, w.tick_long, w.some_left);
          cost_long = omega (arith, q.cost_long, w.cost_long, w.some_left);
          near = λ k c. omega (arith, q.near k c, same_tick at task₀ tick₀ cost₀ task tick cost w.kept k c);
        }

    -- no pair is left
    pub seeking_all : g.pairs ≤ y → Seeks all (at + n) p at task₀ tick₀ cost₀ task tick cost (Continue left)
    seeking_all h =
        record {
          left = over;
          found = λ c. let z : some left ≡ none = over ∙ left_none (length all) p c in let v : ◌≡◌ {A = ℕ} 0 1 = cc in absurd (omega arith);
          kept = w.kept;
        }
      where
        over : some left ≡ left_after (length all) p
        over = going_all [] all p left (rw (joined_end one g.pairs y h) at w.going)

    module _
        (b : y < g.pairs) (task' tick' cost' : List ℕ) (r : ControlFlow ⊤ ℕ)
        (q : Seeks (branch (grid_tasks g) g.pairs (n - 1) (releases_of at task tick cost) y) (at + 1 + (n - 1)) left at task tick cost task' tick' cost' r) where
      here : Going [] all (one y ++ joined one (y + 1) (g.pairs - (y + 1))) p left
      here = rw (joined_next one g.pairs y b) at w.going

      part : branch (grid_tasks g) g.pairs (n - 1) (releases_of at task tick cost) y ≡ one y
      part = ap (λ (x : List Release). branch (grid_tasks g) g.pairs (n - 1) x y) w.kept

      told : left_in r ≡ left_after (length (one y)) left
      told = q.left ∙ ap (λ (x : List (List Release)). left_after (length x) left) part

      -- the trace was found among those of pair y
      pub seeking_found : (u : ⊤) → r ≡ Break u → Seeks all (at + n) p at task₀ tick₀ cost₀ task' tick' cost' (Break u)
      seeking_found u e =
          record {
            left = going_here [] all p (one y) _ left here inside;
            found = λ c.
                ap (λ (k : ℕ). releases_of k task' tick' cost') (omega (arith, w.some_left))
                ∙ q.found (omega (arith, ap length part, inside))
                ∙ ap (λ (x : List (List Release)). get_or x left []) part
                ∙ going_member [] all p (one y) _ left here inside;
            kept = q.kept ∙ w.kept;
          }
        where
          inside : left < length (one y)
          inside = left_inside (length (one y)) left (sym (ap left_in e) ∙ told)

      -- it is a later one
      pub seeking_next
          : (rest : ℕ) → r ≡ Continue rest → length task' ≡ length task → length tick' ≡ length tick → length cost' ≡ length cost
          → Seeking g n x p at task₀ tick₀ cost₀ task' tick' cost' rest (y + 1)
      seeking_next rest e h k m =
          record {
            going = going_next [] all p (one y) _ left here rest (left_past (length (one y)) left rest (sym (ap left_in e) ∙ told));
            kept = q.kept ∙ w.kept;
            some_left = w.some_left;
            task_long = h ∙ w.task_long;
            tick_long = k ∙ w.tick_long;
            cost_long = m ∙ w.cost_long;
          }
