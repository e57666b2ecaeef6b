-- Rows: how long they are, that records which say the same have the same row, and that what was written is read back.
use Rattle.std.specs.Prelude as std
use Prim.Native.Nat.{ℕ, ◌+◌, ◌-◌, ◌*◌, ◌/◌, ◌%◌, ◌≤◌, ◌<◌}
use mathlib.Core.Path.{◌≡◌, refl, sym, ap, ap₂, ◌∙◌}
use mathlib.Core.Option.{Option, some, none}
use mathlib.Core.List.{List, [], ◌∷◌, ◌++◌, append_assoc}
use mathlib.Core.Bool.{not}
use native.Mathlib.Omega.{arith}
use lib.Dec.{eqb}
use lib.ListN.{length, get_or, take, replicate, length-append}
use Rattle.model.specs.Series.{table}
use Rattle.model.specs.Frame as model_frame
use Rattle.model.specs.Tasks.{Tasks}
use Rattle.model.specs.Choice.{scope_in}
use Rattle.model.specs.SameTasks.{SameWindows, SameFrame, SameTasks}
use Rattle.frame.specs.declared.Frame.{Frame}
use Rattle.frame.specs.FrameView.{frame_of}
use Rattle.admission.specs.Offers.{Plan, SamePlan}
use Rattle.admission.specs.Boards.{Board}
use Rattle.admission.proofs.SameLaws.{entry_same}
use Rattle.plan.specs.PlanView.{plan_view, board_view}
use Rattle.rows.specs.Rows.{plan_from, frame_in, board_from, entry_numbers, tasks_row, windows_row, padded, scope_number, plan_row, frame_row, board_row}
use Rattle.rows.specs.RoundRows.{Writable, SameBoard, RowsLong, RowsSame, RowsRead}
use Rattle.rows.proofs.BlockLaws.{joined_agree, get_d_past, length_padded}
use Rattle.rows.proofs.RowLaws.{task_group, window_group, tasks_joined, windows_joined, length_tasks, length_plan, length_frame, length_board}
use Rattle.rows.proofs.ReadLaws.{scope_back, column_back, padded_at, sheet_back, frame_back}

-- how long the rows are
pub plan_long : (p : Plan) → Writable p → length (plan_row p) ≡ 227
plan_long p h =
    let few = h.valid.few_tasks in length_plan p few (omega (arith, h.kept_long)) (omega (arith, h.worst_long))

pub board_long : (b : Board) → Writable b.plan → length (board_row b) ≡ 264
board_long b h =
    let few = h.valid.few_tasks in
    length_board b few h.valid.framed (omega (arith, h.kept_long)) (omega (arith, h.worst_long))

pub rows_long : RowsLong
rows_long = record { plan = plan_long; board = board_long }

-- records that say the same have the same row
tasks_same : (s s' : Tasks) → SameTasks s s' → tasks_row s s.count ≡ tasks_row s' s'.count
tasks_same s s' same =
    tasks_joined s s.count ∙ joined_agree (task_group s) (task_group s') s.count (λ i h. ap entry_numbers (entry_same s s' same i h))
    ∙ sym (tasks_joined s' s.count) ∙ ap (tasks_row s') same.count

windows_same : (f g : model_frame.Frame) → SameWindows f g → windows_row f f.count ≡ windows_row g g.count
windows_same f g same =
    windows_joined f f.count
    ∙ joined_agree (window_group f) (window_group g) f.count (λ k h. ap₂ (λ (a b : ℕ). a ∷ b ∷ []) (same.first k h) (same.size k h))
    ∙ sym (windows_joined g f.count) ∙ ap (windows_row g) same.count

frame_same : (o p : Option model_frame.Frame) → SameFrame o p → frame_row o ≡ frame_row p
unfolding frame_row
frame_same none none same = refl
frame_same none (some g) same = absurd same
frame_same (some f) none same = absurd same
frame_same (some f) (some g) same =
    let t = same.ticks in
    let n = same.count in
    let w = windows_same f g same in
    λ x. 1 ∷ t x ∷ n x ∷ padded 32 (w x)

pub plan_same : (a b : Plan) → SamePlan a b → plan_row a ≡ plan_row b
plan_same a b same =
    let t = tasks_same a.tasks b.tasks same.tasks in
    let n = same.tasks.count in
    let c = same.tasks.charge in
    let s = same.scope in
    let k = same.kept in
    let w = same.worst in
    λ x. padded 160 (t x) ++ (n x ∷ c x ∷ scope_number (s x) ∷ []) ++ padded 32 (k x) ++ padded 32 (w x)

pub board_same : (a b : Board) → SameBoard a b → board_row a ≡ board_row b
board_same a b same =
    let p = plan_same a.plan b.plan same.plan in
    let f = frame_same a.plan.tasks.frame b.plan.tasks.frame same.plan.tasks.frame in
    let l = same.last in
    λ x. p x ++ f x ++ (l x % 4294967296 ∷ l x / 4294967296 ∷ [])

pub rows_same : RowsSame
rows_same = record { plan = plan_same; board = board_same }

-- an offer is read back
module _ (p : Plan) (f : std.Option Frame) (l rest : List ℕ) (h : Writable p) (e : l ≡ plan_row p ++ rest) (framed : SameFrame (frame_of f) p.tasks.frame) where
  abbrev tasks : List ℕ
  tasks = tasks_row p.tasks p.tasks.count

  abbrev head : List ℕ
  head = p.tasks.count ∷ p.tasks.charge ∷ scope_number p.scope ∷ []

  abbrev after : List ℕ
  after = padded 32 p.kept ++ (padded 32 p.worst ++ rest)

  few : p.tasks.count ≤ 32
  few = h.valid.few_tasks

  tasks_long : length (padded 160 tasks) ≡ 160
  tasks_long = length_padded 160 tasks (omega (arith, few, length_tasks p.tasks p.tasks.count))

  kept_long : length (padded 32 p.kept) ≡ 32
  kept_long = length_padded 32 p.kept (omega (arith, few, h.kept_long))

  -- its blocks
  blocks : l ≡ padded 160 tasks ++ (head ++ after)
  blocks =
      e ∙ append_assoc (padded 160 tasks ++ head ++ padded 32 p.kept) (padded 32 p.worst) rest
      ∙ append_assoc (padded 160 tasks ++ head) (padded 32 p.kept) (padded 32 p.worst ++ rest)
      ∙ append_assoc (padded 160 tasks) head after

  head_at : (j : ℕ) → get_or l (160 + j) 0 ≡ get_or (head ++ after) j 0
  head_at j = ap (λ (x : List ℕ). get_or x (160 + j) 0) blocks ∙ get_d_past (padded 160 tasks) (head ++ after) 160 j tasks_long

  after_at : (j i : ℕ) → i ≡ 160 + (3 + j) → get_or l i 0 ≡ get_or after j 0
  after_at j i k = ap (λ (x : ℕ). get_or l x 0) k ∙ head_at (3 + j) ∙ get_d_past head after 3 j refl

  kept_at : (i : ℕ) → i < p.tasks.count → get_or l (163 + i) 0 ≡ get_or p.kept i 0
  kept_at i b = after_at i (163 + i) (omega arith) ∙ padded_at 32 p.kept (padded 32 p.worst ++ rest) i (omega (arith, h.kept_long))

  worst_at : (i : ℕ) → i < p.tasks.count → get_or l (195 + i) 0 ≡ get_or p.worst i 0
  worst_at i b =
      after_at (32 + i) (195 + i) (omega arith) ∙ get_d_past (padded 32 p.kept) (padded 32 p.worst ++ rest) 32 i kept_long
      ∙ padded_at 32 p.worst rest i (omega (arith, h.worst_long))

  charge_is : get_or l 161 0 % 256 ≡ p.tasks.charge
  charge_is = let b = h.byte in ap (λ (x : ℕ). x % 256) (head_at 1) ∙ omega arith

  read_plan : SamePlan (plan_view (plan_from l) f) p
  read_plan = record {
    tasks =
        sheet_back p.tasks f l (replicate (160 - length tasks) 0 ++ (head ++ after)) (get_or l 160 0) (get_or l 161 0 % 256) few
        (blocks ∙ append_assoc tasks (replicate (160 - length tasks) 0) (head ++ after)) (head_at 0) charge_is framed;
    kept =
        ap (λ (n : ℕ). take n (table (λ i. get_or l (163 + i) 0) 32)) (head_at 0)
        ∙ column_back l 163 p.kept p.tasks.count h.kept_long few kept_at;
    worst =
        ap (λ (n : ℕ). take n (table (λ i. get_or l (195 + i) 0) 32)) (head_at 0)
        ∙ column_back l 195 p.worst p.tasks.count h.worst_long few worst_at;
    scope = ap (λ (x : ℕ). scope_in (not (eqb x 0))) (head_at 2) ∙ scope_back p.scope;
  }

pub plan_read
    : (p : Plan) (f : std.Option Frame) (rest : List ℕ) → Writable p → SameFrame (frame_of f) p.tasks.frame → SamePlan (plan_view (plan_from (plan_row p ++ rest)) f) p
plan_read p f rest h framed = read_plan p f (plan_row p ++ rest) rest h refl framed

-- a board is read back
module _ (b : Board) (rest : List ℕ) (h : Writable b.plan) where
  abbrev row : List ℕ
  row = board_row b ++ rest

  abbrev frame : List ℕ
  frame = frame_row b.plan.tasks.frame

  abbrev last : List ℕ
  last = b.last % 4294967296 ∷ b.last / 4294967296 ∷ []

  -- its blocks
  parts : row ≡ plan_row b.plan ++ (frame ++ (last ++ rest))
  parts = append_assoc (plan_row b.plan ++ frame) last rest ∙ append_assoc (plan_row b.plan) frame (last ++ rest)

  last_at : (j : ℕ) → get_or row (262 + j) 0 ≡ get_or (last ++ rest) j 0
  last_at j =
      let n = length-append (plan_row b.plan) frame in
      let x = plan_long b.plan h in
      let y = length_frame b.plan.tasks.frame h.valid.framed in
      ap (λ (z : List ℕ). get_or z (262 + j) 0) (append_assoc (plan_row b.plan ++ frame) last rest)
      ∙ get_d_past (plan_row b.plan ++ frame) (last ++ rest) 262 j (omega (arith, n, x, y))

  read_frame : SameFrame (frame_of (frame_in row)) b.plan.tasks.frame
  read_frame = frame_back b.plan.tasks.frame row (plan_row b.plan) (last ++ rest) h.valid.framed (plan_long b.plan h) parts

  read_board : SameBoard (board_view (board_from row)) b
  read_board = record {
    plan = read_plan b.plan (frame_in row) row (frame ++ (last ++ rest)) h parts read_frame;
    last = ap₂ (λ (x y : ℕ). x + y * 4294967296) (last_at 0) (last_at 1) ∙ omega arith;
  }

pub board_read : (b : Board) (rest : List ℕ) → Writable b.plan → SameBoard (board_view (board_from (board_row b ++ rest))) b
board_read b rest h = read_board b rest h

pub rows_read : RowsRead
rows_read = record { plan = plan_read; board = board_read }
