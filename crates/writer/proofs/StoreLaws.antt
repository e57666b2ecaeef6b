-- Laws of runs of stores: what stands in the lent bytes after each record.
use Prim.Native.Nat.{ℕ, suc, ◌+◌, ◌%◌, ◌/◌, ◌≤◌, ◌<◌}
use mathlib.Core.Path.{◌≡◌, refl, sym, ap, ap₂, ◌∙◌}
use mathlib.Core.Bool.{true, false}
use mathlib.Core.List.{List, [], ◌∷◌, ◌++◌, append_assoc, append-nil}
use native.Mathlib.Omega.{arith}
use native.Mathlib.Nat.{mod-eq_of_lt}
use native.Mathlib.Numerals.{add-one}
use lib.ListN.{length, get_or, take, drop, set, length-append}
use lib.Seq.{length-sets, sets-eq, take-suc, take_all, get_or-take}
use Rattle.taskset.specs.declared.Task.{Task}
use Rattle.taskset.specs.declared.TaskSet.{TaskSet}
use Rattle.taskset.specs.TaskSet.{no_task, view_of}
use Rattle.releases.specs.Releases.{release}
use Rattle.writer.specs.Writer.{stored, number_bytes}
use Rattle.fileformat.specs.Numbers.{bytes_of}
use Rattle.fileformat.specs.Records.{Width, kind_of, tick_bytes, task_size, task_bytes, release_bytes, record_bytes}
use Rattle.fileformat.specs.File.{joined}
use Rattle.fileformat.specs.FileCalls.{tasks_in, tasks_bytes}
use Rattle.fileformat.proofs.NumberLaws.{length_bytes, bytes_eight}
use Rattle.fileformat.proofs.RecordLaws.{length_task}
use Rattle.fileformat.proofs.TaskSizeLaws.{tasks_bytes_none, tasks_bytes_more, tasks_bytes_longer}
use Rattle.fileformat.proofs.SheetLaws.{length_tasks}
use Rattle.fileformat.proofs.RoundTrips.{task_part, task_part_more, charge_part, no_charge_part, some_charge_part}

-- a run of stores after another
pub stored_more : (l a b : List ℕ) (i : ℕ) → stored l i (a ++ b) ≡ stored (stored l i a) (i + length a) b
unfolding stored
stored_more l [] b i = let e : i + 0 ≡ i = omega arith in rw e
stored_more l (x ∷ a) b i =
    let e : suc i + length a ≡ i + suc (length a) = omega arith in
    stored_more (set l i x) a b (suc i) ∙ ap (λ k. stored (stored (set l i x) (suc i) a) k b) e

-- at a place that is known by its number
pub stored_at : (l a b : List ℕ) (i j : ℕ) → j ≡ i + length a → stored (stored l i a) j b ≡ stored l i (a ++ b)
stored_at l a b i j e = ap (λ k. stored (stored l i a) k b) e ∙ sym (stored_more l a b i)

-- stores keep the length
pub stored_long : (m l vs : List ℕ) (i : ℕ) → m ≡ stored l i vs → length m ≡ length l
unfolding stored
stored_long m l vs i e = ap length e ∙ length-sets l i vs

pub stored_one : (l : List ℕ) (i v : ℕ) → set l i v ≡ stored l i (v ∷ [])
unfolding stored
stored_one l i v = refl

pub stored_none : (l : List ℕ) (i : ℕ) → l ≡ stored l i []
unfolding stored
stored_none l i = refl

-- what stands there afterwards
pub stored_all : (l vs : List ℕ) → length vs ≤ length l → stored l 0 vs ≡ vs ++ drop (length vs) l
unfolding stored
stored_all l vs h =
    let e : 0 + length vs ≡ length vs = omega arith in
    sets-eq vs l 0 (omega arith) ∙ ap (λ k. vs ++ drop k l) e

pub put_four
    : (l : List ℕ) (at n a b c d : ℕ) → a ≡ n % 256 → b ≡ n / 256 % 256 → c ≡ n / 256 / 256 % 256 → d ≡ n / 256 / 256 / 256 % 256
    → set (set (set (set l at a) (at + 1) b) (at + 2) c) (at + 3) d ≡ stored l at (bytes_of 4 n)
unfolding bytes_of stored
put_four l at n a b c d p q r s =
    let x : at + 2 ≡ suc (suc at) = omega arith in
    let y : at + 3 ≡ suc (suc (suc at)) = omega arith in
    rw (p, q, r, s, add-one, x, y)

-- the stores of the kind and the numbers of a task record
pub put_number_bytes
    : (l l₁ l₂ l₃ l₄ : List ℕ) (at kind : ℕ) (t : Task) → l₁ ≡ stored (set l at kind) (at + 1) (bytes_of 4 t.period)
    → l₂ ≡ stored l₁ (at + 5) (bytes_of 4 t.jitter) → l₃ ≡ stored l₂ (at + 9) (bytes_of 4 t.cost)
    → l₄ ≡ stored l₃ (at + 13) (bytes_of 4 t.deadline) → l₄ ≡ stored l at (kind ∷ number_bytes t)
put_number_bytes l l₁ l₂ l₃ l₄ at kind t e₁ e₂ e₃ e₄ =
    let n : (k : ℕ) → length (bytes_of 4 k) ≡ 4 = length_bytes 4 in
    let a₁ = e₁ ∙ ap (λ x. stored x (at + 1) (bytes_of 4 t.period)) (stored_one l at kind) ∙ stored_at l (kind ∷ []) (bytes_of 4 t.period) at (at + 1) refl in
    let a₂ = e₂ ∙ ap (λ x. stored x (at + 5) (bytes_of 4 t.jitter)) a₁ ∙ stored_at l (kind ∷ bytes_of 4 t.period) (bytes_of 4 t.jitter) at (at + 5)
    (omega (arith, n t.period)) in
    let a₃ = e₃ ∙ ap (λ x. stored x (at + 9) (bytes_of 4 t.cost)) a₂ ∙ stored_at l (kind ∷ (bytes_of 4 t.period ++ bytes_of 4 t.jitter)) (bytes_of 4 t.cost) at
    (at + 9) (omega (arith, n t.period, n t.jitter, length-append (bytes_of 4 t.period) (bytes_of 4 t.jitter))) in
    let a₄ = e₄ ∙ ap (λ x. stored x (at + 13) (bytes_of 4 t.deadline)) a₃ ∙ stored_at l (kind ∷ (bytes_of 4 t.period ++ bytes_of 4 t.jitter ++ bytes_of 4 t.cost))
    (bytes_of 4 t.deadline) at (at + 13)
    (omega (
      arith,
      n t.period,
      n t.jitter,
      n t.cost,
      length-append (bytes_of 4 t.period) (bytes_of 4 t.jitter),
      length-append
          (bytes_of 4 t.period ++ bytes_of 4 t.jitter) (bytes_of 4 t.cost),
    )) in
    a₄ ∙ ap (λ x. stored l at (kind ∷ x)) (simp append_assoc)

-- of a low task, with the last byte, and of a high one
number_long : (t : Task) → length (number_bytes t) ≡ 16
number_long t =
    let n : (k : ℕ) → length (bytes_of 4 k) ≡ 4 = length_bytes 4 in
    simp length-append (omega (arith, n t.period, n t.jitter, n t.cost, n t.deadline))

low_bytes_lem : (t : Task) → t.low ≡ true → task_bytes t ≡ (6 ∷ number_bytes t) ++ (0 ∷ [])
unfolding task_bytes
low_bytes_lem t e = rw (task_bytes, e) (simp append_assoc refl)

high_bytes_lem : (t : Task) → t.low ≡ false → task_bytes t ≡ 1 ∷ number_bytes t
unfolding task_bytes
high_bytes_lem t e = rw (task_bytes, e) (simp append-nil refl)

module _ (l l₁ : List ℕ) (at : ℕ) (t : Task) where
  pub put_low_bytes : t.low ≡ true → l₁ ≡ stored l at (6 ∷ number_bytes t) → set l₁ (at + 17) 0 ≡ stored l at (task_bytes t)
  put_low_bytes e f =
      stored_one l₁ (at + 17) 0 ∙ ap (λ x. stored x (at + 17) (0 ∷ [])) f
      ∙ stored_at l (6 ∷ number_bytes t) (0 ∷ []) at (at + 17) (omega (arith, number_long t)) ∙ ap (stored l at) (sym (low_bytes_lem t e))

  pub put_high_bytes : t.low ≡ false → l₁ ≡ stored l at (1 ∷ number_bytes t) → l₁ ≡ stored l at (task_bytes t)
  put_high_bytes e f = f ∙ ap (stored l at) (sym (high_bytes_lem t e))

-- eight bytes are those of two numbers of four
pub put_eight
    : (l l₁ l₂ : List ℕ) (at n : ℕ) → n < 18446744073709551616 → l₁ ≡ stored l at (bytes_of 4 (n % 4294967296)) → l₂ ≡ stored l₁ (at + 4) (bytes_of 4 (n / 4294967296))
    → l₂ ≡ stored l at (bytes_of 8 n)
put_eight l l₁ l₂ at n h e₁ e₂ =
    e₂ ∙ ap (λ x. stored x (at + 4) (bytes_of 4 (n / 4294967296))) e₁
    ∙ stored_at l (bytes_of 4 (n % 4294967296)) (bytes_of 4 (n / 4294967296)) at (at + 4) (omega (arith, length_bytes 4 (n % 4294967296)))
    ∙ ap (stored l at) (sym (bytes_eight n h))

-- the stores with which a release record begins, and those of the whole record
pub put_head_bytes : (l : List ℕ) (at kind task b : ℕ) → b ≡ task % 256 → set (set l at kind) (at + 1) b ≡ stored l at (kind ∷ bytes_of 1 task)
unfolding bytes_of
put_head_bytes l at kind task b p =
    ap₂ (λ x v. set x (at + 1) v) (stored_one l at kind) p ∙ stored_one (stored l at (kind ∷ [])) (at + 1) (task % 256)
    ∙ stored_at l (kind ∷ []) ((task % 256) ∷ []) at (at + 1) refl

pub put_release_bytes
    : (w : Width) (l l₀ l₁ l₂ : List ℕ) (at task tick cost : ℕ) → l₀ ≡ stored l at (kind_of w ∷ bytes_of 1 task)
    → l₁ ≡ stored l₀ (at + 2) (bytes_of (tick_bytes w) tick) → l₂ ≡ stored l₁ (at + (2 + tick_bytes w)) (bytes_of 4 cost)
    → l₂ ≡ stored l at (release_bytes w (release task tick cost))
unfolding release_bytes
put_release_bytes w l l₀ l₁ l₂ at task tick cost e₀ e₁ e₂ =
    let k = tick_bytes w in
    let h : List ℕ = kind_of w ∷ bytes_of 1 task in
    let n : length (bytes_of 1 task) ≡ 1 = length_bytes 1 task in
    let a₁ = e₁ ∙ ap (λ x. stored x (at + 2) (bytes_of k tick)) e₀ ∙ stored_at l (kind_of w ∷ bytes_of 1 task) (bytes_of k tick) at (at + 2) (omega (arith, n)) in
    e₂ ∙ ap (λ x. stored x (at + (2 + k)) (bytes_of 4 cost)) a₁
    ∙ stored_at l (kind_of w ∷ (bytes_of 1 task ++ bytes_of k tick)) (bytes_of 4 cost) at (at + (2 + k))
    (omega (arith, n, length_bytes k tick, length-append (bytes_of 1 task) (bytes_of k tick)))
    ∙ ap (λ x. stored l at (kind_of w ∷ x)) (append_assoc (bytes_of 1 task) (bytes_of k tick) (bytes_of 4 cost))

-- the tasks of a set, of which the first i are written from an offset on
pub record TasksPut (s : TaskSet) (held : List ℕ) (from count : ℕ) (now : List ℕ) (at i : ℕ) : Type 0 where
  pub same : count ≡ s.count
  pub within : i ≤ s.count
  pub few : s.count ≤ 32
  pub offset : at ≡ from + tasks_bytes (view_of s) i
  pub room : from + tasks_bytes (view_of s) s.count ≤ length now
  pub long : length now ≡ length held
  pub in_array : s.count ≤ length s.tasks
  pub size : length (task_part (take i (tasks_in s))) ≡ tasks_bytes (view_of s) i
  pub front : now ≡ stored held from (task_part (take i (tasks_in s)))

module _ (s : TaskSet) (held : List ℕ) (from : ℕ) where
  pub tasks_none
      : s.count ≤ 32 → from + tasks_bytes (view_of s) s.count ≤ length held → s.count ≤ length s.tasks → TasksPut s held from s.count held from 0
  unfolding joined
  tasks_none f r a = record {
    same = refl;
    within = omega arith;
    few = f;
    offset = omega (arith, tasks_bytes_none (view_of s));
    room = r;
    long = refl;
    in_array = a;
    size = sym (tasks_bytes_none (view_of s));
    front = stored_none held from;
  }

  module _ (count : ℕ) (now : List ℕ) (at i : ℕ) (p : TasksPut s held from count now at i) where
    long_tasks : length (tasks_in s) ≡ s.count
    long_tasks = length_tasks s p.in_array

    -- there is room for the task that is due
    pub tasks_room : i < count → at + task_size (get_or s.tasks i no_task).low ≤ length now
    tasks_room h =
        omega (arith, p.same, p.offset, p.room, tasks_bytes_more (view_of s) i, tasks_bytes_longer (view_of s) (suc i) s.count (omega (arith, p.same)))

    pub tasks_next
        : (now' : List ℕ) (size : ℕ) → i < count → now' ≡ stored now at (task_bytes (get_or s.tasks i no_task)) → length now' ≡ length now
        → size ≡ task_size (get_or s.tasks i no_task).low → TasksPut s held from count now' (at + size) (i + 1)
    unfolding tasks_in
    tasks_next now' size h e g w =
        let k : i < s.count = omega (arith, p.same) in
        let t : take (suc i) (tasks_in s) ≡ take i (tasks_in s) ++ (get_or s.tasks i no_task ∷ []) = take-suc (tasks_in s) i no_task (omega (arith, long_tasks)) ∙ ap
        (λ x. take i (tasks_in s) ++ (x ∷ [])) (get_or-take s.count s.tasks i no_task k) in
        let q : task_part (take (suc i) (tasks_in s)) ≡ task_part (take i (tasks_in s)) ++ task_bytes (get_or s.tasks i no_task) =
        ap task_part t ∙ task_part_more (take i (tasks_in s)) (get_or s.tasks i no_task) in
        record {
          same = p.same;
          within = omega arith;
          few = p.few;
          offset = rw add-one (omega (arith, p.offset, w, tasks_bytes_more (view_of s) i));
          room = omega (arith, p.room);
          long = g ∙ p.long;
          in_array = p.in_array;
          size =
              rw add-one
              (ap length q ∙ length-append (task_part (take i (tasks_in s))) (task_bytes (get_or s.tasks i no_task))
              ∙ omega (arith, p.size, length_task (get_or s.tasks i no_task), tasks_bytes_more (view_of s) i));
          front =
              rw add-one
              (e ∙ ap (λ x. stored x at (task_bytes (get_or s.tasks i no_task))) p.front
              ∙ stored_at held (task_part (take i (tasks_in s))) (task_bytes (get_or s.tasks i no_task)) from at
              (omega (arith, p.offset, p.size))
              ∙ ap (stored held from) (sym q));
        }

    pub tasks_all : count ≤ i → now ≡ stored held from (task_part (tasks_in s))
    tasks_all h = p.front ∙ ap (λ x. stored held from (task_part x)) (take_all i (tasks_in s) (omega (arith, long_tasks, p.same)))

    pub tasks_end : count ≤ i → at ≡ from + tasks_bytes (view_of s) s.count
    tasks_end h = p.offset ∙ ap (λ k. from + tasks_bytes (view_of s) k) (omega (arith, p.same, p.within))

-- the stores of a charge, which there are where it is not 0
pub put_no_charge : (l : List ℕ) (c : ℕ) → c ≡ 0 → l ≡ stored l 0 (charge_part c)
put_no_charge l c z = stored_none l 0 ∙ ap (stored l 0) (sym (ap charge_part z ∙ no_charge_part))

pub put_charge_bytes : (l : List ℕ) (c : ℕ) → 1 ≤ c → c < 256 → set (set l 0 5) 1 c ≡ stored l 0 (charge_part c)
unfolding record_bytes bytes_of
put_charge_bytes l c h g =
    ap (λ x. set (set l 0 5) 1 x) (sym (mod-eq_of_lt g)) ∙ put_head_bytes l 0 5 c (c % 256) refl ∙ ap (stored l 0) (sym (some_charge_part c h))
