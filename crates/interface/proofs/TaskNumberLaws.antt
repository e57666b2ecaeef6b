-- Laws of the numbers of tasks.
use Prim.Native.Nat.{ℕ, suc, ◌+◌, ◌*◌, ◌≤◌, ◌<◌}
use mathlib.Core.Path.{◌≡◌, refl, sym, ap, ◌∙◌}
use mathlib.Core.List.{List, [], ◌∷◌, ◌++◌}
use native.Mathlib.Omega.{arith}
use native.Mathlib.Numerals.{add-one}
use lib.ListN.{length, get_or, take, drop, set}
use lib.Seq.{sets, length-sets, sets-eq, take-suc, take_all, length-take-le}
use Rattle.taskset.specs.declared.Task.{Task}
use Rattle.taskset.specs.TaskSet.{no_task}
use Rattle.text.proofs.TextLaws.{sets_append}
use Rattle.interface.specs.TaskNumbers.{task_numbers, numbers_of}

pub numbers_append : (a b : List Task) → numbers_of (a ++ b) ≡ numbers_of a ++ numbers_of b
unfolding numbers_of
numbers_append [] b = refl
numbers_append (t ∷ a) b = ap (λ (l : List ℕ). task_numbers t ++ l) (numbers_append a b)

pub length_numbers : (a : List Task) → length (numbers_of a) ≡ 5 * length a
unfolding numbers_of
length_numbers [] = refl
length_numbers (t ∷ a) = let e = length_numbers a in omega (arith, e)

-- five stores, one after the other
pub five_set
    : (l : List ℕ) (at a b c d e : ℕ)
    → set (set (set (set (set l at a) (at + 1) b) (at + 2) c) (at + 3) d) (at + 4) e ≡ sets l at (a ∷ b ∷ c ∷ d ∷ e ∷ [])
five_set l at a b c d e =
    let x : at + 2 ≡ suc (suc at) = omega arith in
    let y : at + 3 ≡ suc (suc (suc at)) = omega arith in
    let z : at + 4 ≡ suc (suc (suc (suc at))) = omega arith in
    rw (add-one, x, y, z)

-- the numbers of the first i of 32 entries are written
pub record Put (held : List ℕ) (tasks : List Task) (now : List ℕ) (i : ℕ) : Type 0 where
  pub many : length tasks ≡ 32
  pub within : i ≤ 32
  pub room : 160 ≤ length held
  pub long : length now ≡ length held
  pub whole : now ≡ sets held 0 (numbers_of (take i tasks))

pub put_none : (held : List ℕ) (tasks : List Task) → length tasks ≡ 32 → 160 ≤ length held → Put held tasks held 0
unfolding numbers_of
put_none held tasks h g = record { many = h; within = omega arith; room = g; long = refl; whole = refl }

pub put_next
    : (held : List ℕ) (tasks : List Task) (now now' : List ℕ) (i : ℕ)
    → Put held tasks now i
    → i < 32
    → now' ≡ sets now (5 * i) (task_numbers (get_or tasks i no_task))
    → Put held tasks now' (i + 1)
unfolding numbers_of
put_next held tasks now now' i f h e =
    let t = get_or tasks i no_task in
    let front = numbers_of (take i tasks) in
    let n : length front ≡ 5 * i = length_numbers (take i tasks) ∙ ap (λ (k : ℕ). 5 * k) (length-take-le i tasks (omega (arith, f.many))) in
    let z : 5 * i ≡ 0 + length front = omega (arith, n) in
    let more : numbers_of (take (i + 1) tasks) ≡ front ++ task_numbers t =
    rw (add-one, take-suc tasks i no_task (omega (arith, f.many))) (numbers_append (take i tasks) (t ∷ [])) in
    record {
      many = f.many;
      within = omega arith;
      room = f.room;
      long = ap length e ∙ length-sets now (5 * i) (task_numbers t) ∙ f.long;
      whole =
          e ∙ ap (λ (l : List ℕ). sets l (5 * i) (task_numbers t)) f.whole ∙ ap (λ (k : ℕ). sets (sets held 0 front) k (task_numbers t)) z
          ∙ sets_append held 0 front (task_numbers t) ∙ sym (ap (sets held 0) more);
    }

pub put_all : (held : List ℕ) (tasks : List Task) (now : List ℕ) (i : ℕ) → Put held tasks now i → 32 ≤ i → now ≡ numbers_of tasks ++ drop (length (numbers_of tasks)) held
put_all held tasks now i f h =
    let e : take i tasks ≡ tasks = take_all i tasks (omega (arith, f.many)) in
    let n : length (numbers_of tasks) ≡ 160 = length_numbers tasks ∙ ap (λ (k : ℕ). 5 * k) f.many in
    let z : 0 + length (numbers_of tasks) ≡ length (numbers_of tasks) = omega arith in
    f.whole
    ∙ ap (λ (l : List Task). sets held 0 (numbers_of l)) e
    ∙ sets-eq (numbers_of tasks) held 0 (omega (arith, n, f.room))
    ∙ ap (λ (k : ℕ). numbers_of tasks ++ drop k held) z
