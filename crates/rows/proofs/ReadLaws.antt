-- What is read of a row, part by part, where the row begins with what was written.
use Prim.Native.Nat.{ℕ, ◌+◌, ◌-◌, ◌*◌, ◌≤◌, ◌<◌, min}
use mathlib.Core.Path.{◌≡◌, refl, sym, ap, subst, ◌∙◌}
use mathlib.Core.Bool.{Bool, true, false, not}
use mathlib.Core.Option.{Option, some, none}
use mathlib.Core.List.{List, [], ◌∷◌, ◌++◌, append_assoc}
use native.Mathlib.Omega.{arith}
use lib.Dec.{eqb}
use Rattle.std.specs.Prelude as std
use lib.ListN.{length, get_or, take, replicate, length-append, get_or-append}
use lib.Seq.{get_or-take, ext_get_or, length-take-le}
use Rattle.model.specs.Series.{table}
use Rattle.model.specs.Frame as model_frame
use Rattle.model.specs.Tasks.{Tasks}
use Rattle.model.specs.Choice.{Scope, ordinary, high_only, scope_in}
use Rattle.model.specs.SameTasks.{SameWindows, SameFrame, SameTasks}
use Rattle.model.proofs.TableLaws.{length_table, get_or_table}
use Rattle.model.proofs.FrameLaws.{Ruled}
use Rattle.taskset.specs.TaskSet.{no_task}
use Rattle.frame.specs.declared.Window.{Window}
use Rattle.frame.specs.declared.Frame.{Frame}
use Rattle.frame.specs.FrameView.{no_window, windows_of, frame_of, framed_of}
use Rattle.interface.specs.Interface.{task_at, sheet_from}
use Rattle.interface.specs.TaskNumbers.{mark_number}
use Rattle.admission.specs.Offers.{entry_at}
use Rattle.admission.proofs.SameLaws.{same_by}
use Rattle.plan.specs.PlanView.{task_entry}
use Rattle.rows.specs.Rows.{window_in, frame_numbers, frame_in, tasks_row, windows_row, padded, scope_number, frame_row}
use Rattle.rows.proofs.BlockLaws.{get_or_joined, get_d_past}
use Rattle.rows.proofs.FillLaws.{frame_none, frame_some}
use Rattle.rows.proofs.RowLaws.{task_group, window_group, tasks_joined, windows_joined}

-- a mark, and which of the two choices
mark_back : (b : Bool) → not (eqb (mark_number b) 0) ≡ b
unfolding mark_number
mark_back true = refl
mark_back false = refl

pub scope_back : (s : Scope) → scope_in (not (eqb (scope_number s) 0)) ≡ s
unfolding scope_number
scope_back ordinary = refl
scope_back high_only = refl

-- a column
pub column_back
    : (l : List ℕ) (start : ℕ) (k : List ℕ) (n : ℕ) → length k ≡ n → n ≤ 32 → ((i : ℕ) → i < n → get_or l (start + i) 0 ≡ get_or k i 0)
    → take n (table (λ i. get_or l (start + i) 0) 32) ≡ k
column_back l start k n e h each =
    let f : ℕ → ℕ = λ i. get_or l (start + i) 0 in
    let m : length (take n (table f 32)) ≡ n = length-take-le n (table f 32) (omega (arith, length_table f 32)) in
    ext_get_or 0 (take n (table f 32)) k (m ∙ sym e)
    (λ i b. let c : i < n = omega (arith, m) in get_or-take n (table f 32) i 0 c ∙ get_or_table f 0 32 i (omega arith) ∙ each i c)

-- a number below the length of a column that was filled up
pub padded_at : (n : ℕ) (k rest : List ℕ) (i : ℕ) → i < length k → get_or (padded n k ++ rest) i 0 ≡ get_or k i 0
padded_at n k rest i h =
    get_or-append (padded n k) rest 0 i (omega (arith, length-append k (replicate (n - length k) 0)))
    ∙ get_or-append k (replicate (n - length k) 0) 0 i h

-- tasks
module _ (s : Tasks) (n : ℕ) (rest : List ℕ) where
  number_back : (i j : ℕ) → i < n → j < 5 → get_or (tasks_row s n ++ rest) (i * 5 + j) 0 ≡ get_or (task_group s i) j 0
  number_back i j h l =
      ap (λ (x : List ℕ). get_or (x ++ rest) (i * 5 + j) 0) (tasks_joined s n) ∙ get_or_joined (task_group s) 5 (λ k. refl) n rest i j h l

  pub task_back : (i : ℕ) → i < n → task_entry (task_at (tasks_row s n ++ rest) i) ≡ entry_at s i
  unfolding task_at
  task_back i h =
      let l = tasks_row s n ++ rest in
      let k : 5 * i ≡ i * 5 + 0 = omega arith in
      let m : 5 * i ≡ i * 5 = omega arith in
      let to : (j : ℕ) → 5 * i + j ≡ i * 5 + j = λ j. ap (λ (x : ℕ). x + j) m in
      let p = ap (λ (x : ℕ). get_or l x 0) k ∙ number_back i 0 h (omega arith) in
      let q = ap (λ (x : ℕ). get_or l x 0) (to 1) ∙ number_back i 1 h (omega arith) in
      let c = ap (λ (x : ℕ). get_or l x 0) (to 2) ∙ number_back i 2 h (omega arith) in
      let d = ap (λ (x : ℕ). get_or l x 0) (to 3) ∙ number_back i 3 h (omega arith) in
      let b = ap (λ (x : ℕ). not (eqb x 0)) (ap (λ (x : ℕ). get_or l x 0) (to 4) ∙ number_back i 4 h (omega arith)) ∙ mark_back (s.low i) in
      λ x. record { period = p x; jitter = q x; cost = c x; deadline = d x; low = b x }

-- the sheet that is read
pub sheet_back
    : (s : Tasks) (f : std.Option Frame) (l rest : List ℕ) (n c : ℕ)
    → s.count ≤ 32
    → l ≡ tasks_row s s.count ++ rest
    → n ≡ s.count
    → c ≡ s.charge
    → SameFrame (frame_of f) s.frame
    → SameTasks (framed_of (sheet_from l n c) f) s
sheet_back s f l rest n c few e m h same = same_by _ _ m h each same
  where
    each : (i : ℕ) → i < n → entry_at (framed_of (sheet_from l n c) f) i ≡ entry_at s i
    each i b =
        ap task_entry
        (get_or-append (table (task_at l) (min n 32)) (replicate (32 - n) no_task) no_task i (omega (arith, length_table (task_at l) (min n 32)))
        ∙ get_or_table (task_at l) no_task (min n 32) i (omega arith)
        ∙ ap (λ (x : List ℕ). task_at x i) e)
        ∙ task_back s s.count rest i (omega arith)

-- windows
windows_back
    : (f : model_frame.Frame) (n : ℕ) (rest : List ℕ) (k j : ℕ) → k < n → j < 2
    → get_or (windows_row f n ++ rest) (k * 2 + j) 0 ≡ get_or (window_group f k) j 0
windows_back f n rest k j h l =
    ap (λ (x : List ℕ). get_or (x ++ rest) (k * 2 + j) 0) (windows_joined f n) ∙ get_or_joined (window_group f) 2 (λ i. refl) n rest k j h l

-- the frame that is read
none_by : (l : List ℕ) → get_or l 227 0 ≡ 0 → SameFrame (frame_of (frame_in l)) none
none_by l e = subst (λ (o : std.Option Frame). SameFrame (frame_of o) none) (sym (frame_none l e)) tt

some_by
    : (l : List ℕ) (f : model_frame.Frame) → (get_or l 227 0 ≡ 0 → ⊥) → SameWindows (windows_of (frame_numbers l)) f → SameFrame (frame_of (frame_in l)) (some f)
some_by l f h same = subst (λ (o : std.Option Frame). SameFrame (frame_of o) (some f)) (sym (frame_some l h)) same

pub frame_back
    : (o : Option model_frame.Frame) (l a rest : List ℕ) → Ruled o → length a ≡ 227 → l ≡ a ++ (frame_row o ++ rest) → SameFrame (frame_of (frame_in l)) o
unfolding frame_row
frame_back none l a rest h n e =
    none_by l (ap (λ (x : List ℕ). get_or x 227 0) e ∙ get_d_past a (frame_row none ++ rest) 227 0 n)
frame_back (some f) l a rest h n e = some_by l f (λ z. let k : get_or l 227 0 ≡ 1 = number 0 in omega arith) same
  where
    few : f.count ≤ 16
    few = (h f refl).count_high

    number : (j : ℕ) → get_or l (227 + j) 0 ≡ get_or (frame_row (some f) ++ rest) j 0
    number j = ap (λ (x : List ℕ). get_or x (227 + j) 0) e ∙ get_d_past a (frame_row (some f) ++ rest) 227 j n

    -- number j of window k
    window : (k j i : ℕ) → k < f.count → j < 2 → i ≡ 227 + (3 + (k * 2 + j)) → get_or l i 0 ≡ get_or (window_group f k) j 0
    window k j i b c d =
        ap (λ (x : ℕ). get_or l x 0) d ∙ number (3 + (k * 2 + j))
        ∙ get_d_past (1 ∷ f.ticks ∷ f.count ∷ []) (padded 32 (windows_row f f.count) ++ rest) 3 (k * 2 + j) refl
        ∙ ap (λ (x : List ℕ). get_or x (k * 2 + j) 0) (append_assoc (windows_row f f.count) (replicate (32 - length (windows_row f f.count)) 0) rest)
        ∙ windows_back f f.count (replicate (32 - length (windows_row f f.count)) 0 ++ rest) k j b c

    listed : (k : ℕ) → k < f.count → get_or (table (window_in l) 16) k no_window ≡ window_in l k
    listed k b = get_or_table (window_in l) no_window 16 k (omega (arith, few))

    same : SameWindows (windows_of (frame_numbers l)) f
    same = record {
      ticks = number 1;
      count = number 2;
      first =
          λ k b. let c : k < f.count = omega (arith, number 2) in
          ap (λ (w : Window). w.first) (listed k c) ∙ window k 0 (230 + 2 * k) c (omega arith) (omega arith);
      size =
          λ k b. let c : k < f.count = omega (arith, number 2) in
          ap (λ (w : Window). w.length) (listed k c) ∙ window k 1 (231 + 2 * k) c (omega arith) (omega arith);
    }
