-- 32 entries that a loop fills from task 0 on.
use Prim.Native.Nat.{ℕ, suc, ◌+◌, ◌-◌, ◌≤◌, ◌<◌}
use mathlib.Core.Path.{◌≡◌, refl, sym, ap, ap₂, ◌∙◌}
use mathlib.Core.List.{List, ◌++◌}
use native.Mathlib.Omega.{arith}
use native.Mathlib.Numerals.{add-one}
use lib.ListN.{length, take, drop, set, replicate, length-set, take-append-drop}
use lib.Seq.{take-suc-set, drop-set-lt, drop-drop}
use Rattle.model.specs.Series.{table}
use Rattle.taskset.specs.declared.Task.{Task}
use Rattle.taskset.specs.TaskSet.{no_task}

-- the first i are those of f, the others 0
pub record Filled (f : ℕ → Task) (tasks : List Task) (i : ℕ) : Type 0 where
  pub long : length tasks ≡ 32
  pub within : i ≤ 32
  pub front : take i tasks ≡ table f i
  pub padded : drop i tasks ≡ replicate (32 - i) no_task

pub filled_none : (f : ℕ → Task) (tasks : List Task) → tasks ≡ replicate 32 no_task → Filled f tasks 0
unfolding table
filled_none f tasks e = record { long = ap length e; within = omega arith; front = refl; padded = e }

pub filled_next : (f : ℕ → Task) (tasks : List Task) (i : ℕ) (t : Task) → Filled f tasks i → i < 32 → t ≡ f i → Filled f (set tasks i t) (i + 1)
unfolding table
filled_next f tasks i t h l e =
    let k : 32 - i ≡ suc (32 - (i + 1)) = omega arith in
    record {
      long = simp length-set h.long;
      within = omega arith;
      front = rw (add-one, take-suc-set tasks i t (omega (arith, h.long)), h.front, e);
      padded =
          drop-set-lt (i + 1) tasks i t (omega arith) ∙ sym (drop-drop 1 i tasks)
          ∙ ap (drop 1) (h.padded ∙ ap (λ n. replicate n no_task) k);
    }

pub filled_all : (f : ℕ → Task) (tasks : List Task) (i n m : ℕ) → Filled f tasks i → i ≡ n → 32 - i ≡ m → tasks ≡ table f n ++ replicate m no_task
filled_all f tasks i n m h e k =
    sym (take-append-drop i tasks) ∙ ap₂ ◌++◌ (h.front ∙ ap (table f) e) (h.padded ∙ ap (λ x. replicate x no_task) k)
