-- What is written for a sheet, a choice, a frame and a board, block by block, and how long it is.
use Prim.Native.Nat.{ℕ, zero, suc, ◌+◌, ◌-◌, ◌*◌, ◌/◌, ◌%◌, ◌≤◌, ◌<◌}
use mathlib.Core.Path.{◌≡◌, refl, sym, ap, ap₂, ◌∙◌}
use mathlib.Core.Option.{Option, some, none}
use mathlib.Core.List.{List, [], ◌∷◌, ◌++◌}
use native.Mathlib.Omega.{arith}
use lib.ListN.{length, get_or, take, drop, set, replicate, length-append, length-take, get_or-eq_default}
use lib.Seq.{sets, get_or-take}
use Rattle.std.specs.Prelude as std
use Rattle.model.specs.Series.{table}
use Rattle.model.specs.Frame as model_frame
use Rattle.model.specs.Tasks.{Tasks, Valid}
use Rattle.model.specs.Choice.{scope_in}
use Rattle.model.proofs.FrameLaws.{Ruled}
use Rattle.taskset.specs.declared.Task.{Task}
use Rattle.taskset.specs.declared.TaskSet.{TaskSet}
use Rattle.taskset.specs.TaskSet.{no_task, entry_of}
use Rattle.taskset.proofs.FilledLaws.{Filled, filled_all}
use Rattle.frame.specs.declared.Window.{Window}
use Rattle.frame.specs.declared.Frame.{Frame}
use Rattle.frame.specs.FrameView.{no_window, windows_of, frame_of, framed_of}
use Rattle.interface.specs.TaskNumbers.{mark_number, task_numbers, numbers_of}
use Rattle.interface.proofs.TaskNumberLaws.{numbers_append}
use Rattle.admission.specs.Offers as admission_offers
use Rattle.admission.specs.Boards as admission_boards
use Rattle.plan.specs.declared.Plan.{Plan}
use Rattle.plan.specs.declared.Board.{Board}
use Rattle.plan.specs.PlanView.{plan_view, board_view}
use Rattle.rows.specs.Rows.{entry_numbers, tasks_row, windows_row, padded, scope_number, plan_row, frame_row, board_row, offer_numbers, board_numbers}
use Rattle.rows.proofs.BlockLaws.{joined, length_joined, joined_padded, column_padded, ones, length_padded, sets_then, sets_front, Written, written_next, written_All}

-- tasks and windows as groups
abbrev pub task_group : Tasks → ℕ → List ℕ
task_group s i = entry_numbers (admission_offers.entry_at s i)

abbrev pub window_group : model_frame.Frame → ℕ → List ℕ
window_group f k = f.first k ∷ f.size k ∷ []

pub tasks_joined : (s : Tasks) (n : ℕ) → tasks_row s n ≡ joined (task_group s) n
unfolding tasks_row joined
tasks_joined s zero = refl
tasks_joined s (suc n) = ap (λ (l : List ℕ). l ++ task_group s n) (tasks_joined s n)

pub windows_joined : (f : model_frame.Frame) (n : ℕ) → windows_row f n ≡ joined (window_group f) n
unfolding windows_row joined
windows_joined f zero = refl
windows_joined f (suc n) = ap (λ (l : List ℕ). l ++ window_group f n) (windows_joined f n)

pub length_tasks : (s : Tasks) (n : ℕ) → length (tasks_row s n) ≡ n * 5
length_tasks s n = ap length (tasks_joined s n) ∙ length_joined (task_group s) 5 (λ i. refl) n

pub length_windows : (f : model_frame.Frame) (n : ℕ) → length (windows_row f n) ≡ n * 2
length_windows f n = ap length (windows_joined f n) ∙ length_joined (window_group f) 2 (λ i. refl) n

-- the numbers of a sheet whose entries past the count are 0
numbers_table : (e : ℕ → Task) (n : ℕ) → numbers_of (table e n) ≡ joined (λ i. task_numbers (e i)) n
unfolding table joined numbers_of
numbers_table e zero = refl
numbers_table e (suc n) = numbers_append (table e n) (e n ∷ []) ∙ ap (λ (l : List ℕ). l ++ task_numbers (e n)) (numbers_table e n)

numbers_none : (m : ℕ) → numbers_of (replicate m no_task) ≡ replicate (m * 5) 0
unfolding numbers_of mark_number
numbers_none zero = refl
numbers_none (suc m) =
    let e : suc m * 5 ≡ suc (suc (suc (suc (suc (m * 5))))) = omega arith in
    ap (λ (l : List ℕ). 0 ∷ 0 ∷ 0 ∷ 0 ∷ 0 ∷ l) (numbers_none m) ∙ ap (λ (k : ℕ). replicate k 0) (sym e)

pub cleaned_all
    : (s : TaskSet) (tasks : List Task) (i : ℕ) → i ≤ s.count → Filled (entry_of s) tasks i → s.count ≤ i
    → tasks ≡ table (entry_of s) s.count ++ replicate (32 - s.count) no_task
cleaned_all s tasks i l f h =
    let e : i ≡ s.count = omega arith in
    filled_all (entry_of s) tasks i s.count (32 - s.count) f e (ap (λ (k : ℕ). 32 - k) e)

pub cleaned_numbers
    : (s : TaskSet) (f : std.Option Frame) (tasks : List Task) → s.count ≤ 32 → tasks ≡ table (entry_of s) s.count ++ replicate (32 - s.count) no_task
    → numbers_of tasks ≡ padded 160 (tasks_row (framed_of s f) s.count)
cleaned_numbers s f tasks h e =
    let n = length_tasks (framed_of s f) s.count in
    let k : (32 - s.count) * 5 ≡ 160 - length (tasks_row (framed_of s f) s.count) = omega (arith, n) in
    ap numbers_of e ∙ numbers_append (table (entry_of s) s.count) (replicate (32 - s.count) no_task)
    ∙ ap₂ ◌++◌ (numbers_table (entry_of s) s.count ∙ sym (tasks_joined (framed_of s f) s.count))
    (numbers_none (32 - s.count) ∙ ap (λ (m : ℕ). replicate m 0) k)

-- a value of a list cut off at a count
pub below_count : {A : Type 0} (l : List A) (n i : ℕ) (d : A) → i < n → get_or l i d ≡ get_or (take n l) i d
below_count l n i d h = sym (get_or-take n l i d h)

pub past_count : {A : Type 0} (l : List A) (n i : ℕ) (d : A) → n ≤ i → d ≡ get_or (take n l) i d
past_count l n i d h = sym (get_or-eq_default (take n l) d (omega (arith, length-take n l)))

-- 32 numbers of a column cut off at a count
unfoldable pub cut_number : List ℕ → ℕ → ℕ → List ℕ
cut_number l n = ones (λ i. get_or (take n l) i 0)

pub numbers_next
    : (held : List ℕ) (at : ℕ) (l : List ℕ) (n : ℕ) (now : List ℕ) (i x : ℕ)
    → Written held at (cut_number l n) 1 32 now i
    → i < 32
    → x ≡ get_or (take n l) i 0
    → Written held at (cut_number l n) 1 32 (set now (at + i) x) (i + 1)
unfolding cut_number
numbers_next held at l n now i x f h e =
    let k : at + i ≡ at + i * 1 = omega arith in
    written_next held at (cut_number l n) 1 32 now (set now (at + i) x) i (λ j. refl) f h (ap₂ (λ (m v : ℕ). set now m v) k e)

pub numbers_all
    : (held : List ℕ) (at : ℕ) (l : List ℕ) (n : ℕ) (now : List ℕ) (i : ℕ) → n ≤ 32 → Written held at (cut_number l n) 1 32 now i → 32 ≤ i
    → now ≡ sets held at (padded 32 (take n l))
unfolding cut_number
numbers_all held at l n now i b f h =
    written_All held at (cut_number l n) 1 32 now i f h ∙ ap (sets held at) (column_padded (take n l) 32 (omega (arith, length-take n l)))

-- 16 windows of a frame cut off at a count
unfoldable pub cut_window : Frame → ℕ → ℕ → List ℕ
cut_window f n k = (get_or (take n f.windows) k no_window).first ∷ (get_or (take n f.windows) k no_window).length ∷ []

pub windows_next
    : (held : List ℕ) (f : Frame) (n : ℕ) (now : List ℕ) (k : ℕ) (w : Window)
    → Written held 230 (cut_window f n) 2 16 now k
    → k < 16
    → w ≡ get_or (take n f.windows) k no_window
    → Written held 230 (cut_window f n) 2 16 (set (set now (230 + 2 * k) w.first) (231 + 2 * k) w.length) (k + 1)
unfolding cut_window
windows_next held f n now k w d h e =
    let a : 230 + 2 * k ≡ 230 + k * 2 = omega arith in
    let b : 231 + 2 * k ≡ suc (230 + k * 2) = omega arith in
    written_next held 230 (cut_window f n) 2 16 now (set (set now (230 + 2 * k) w.first) (231 + 2 * k) w.length) k (λ j. refl) d h
    (ap₂ (λ (i j : ℕ). set (set now i w.first) j w.length) a b
    ∙ ap (λ (v : Window). set (set now (230 + k * 2) v.first) (suc (230 + k * 2)) v.length) e)

windows_put : (f : Frame) (n : ℕ) → n ≤ 16 → joined (cut_window f n) 16 ≡ padded 32 (windows_row (windows_of f) n)
unfolding cut_window
windows_put f n h =
    joined_padded (cut_window f n) (window_group (windows_of f)) 2 n 16 h (λ k. refl)
    (λ k l. ap (λ (w : Window). w.first ∷ w.length ∷ []) (sym (below_count f.windows n k no_window l)))
    (λ k l. ap (λ (w : Window). w.first ∷ w.length ∷ []) (sym (past_count f.windows n k no_window l)))
    ∙ ap (padded 32) (sym (windows_joined (windows_of f) n))

pub windows_all
    : (held : List ℕ) (f : Frame) (n : ℕ) (now : List ℕ) (k : ℕ) → n ≤ 16 → Written held 230 (cut_window f n) 2 16 now k → 16 ≤ k
    → now ≡ sets held 230 (padded 32 (windows_row (windows_of f) n))
windows_all held f n now k b d h = written_All held 230 (cut_window f n) 2 16 now k d h ∙ ap (sets held 230) (windows_put f n b)

-- the windows of a frame within the rules are few
pub count_there : (f : Frame) → Ruled (some (windows_of f)) → f.count ≤ 16
count_there f h = (h (windows_of f) refl).count_high

-- the numbers of no frame
unfoldable pub blank : ℕ → List ℕ
blank = ones (λ i. 0)

pub blank_next
    : (held now : List ℕ) (i : ℕ) → Written held 227 blank 1 35 now i → i < 35 → Written held 227 blank 1 35 (set now (227 + i) 0) (i + 1)
unfolding blank
blank_next held now i f h =
    let k : 227 + i ≡ 227 + i * 1 = omega arith in
    written_next held 227 blank 1 35 now (set now (227 + i) 0) i (λ j. refl) f h (ap (λ (m : ℕ). set now m 0) k)

pub blank_all : (held now : List ℕ) (i : ℕ) → Written held 227 blank 1 35 now i → 35 ≤ i → now ≡ sets held 227 (frame_row none)
unfolding blank frame_row joined
blank_all held now i f h = written_All held 227 blank 1 35 now i f h

-- how long the rows are
pub length_plan : (p : admission_offers.Plan) → p.tasks.count ≤ 32 → length p.kept ≤ 32 → length p.worst ≤ 32 → length (plan_row p) ≡ 227
length_plan p h k w =
    let a = padded 160 (tasks_row p.tasks p.tasks.count) in
    let b = p.tasks.count ∷ p.tasks.charge ∷ scope_number p.scope ∷ [] in
    let x = length_padded 160 (tasks_row p.tasks p.tasks.count) (omega (arith, length_tasks p.tasks p.tasks.count)) in
    let y = length_padded 32 p.kept k in
    let z = length_padded 32 p.worst w in
    let t = length-append a b in
    let u = length-append (a ++ b) (padded 32 p.kept) in
    let v = length-append (a ++ b ++ padded 32 p.kept) (padded 32 p.worst) in
    v ∙ omega (arith, x, y, z, t, u)

pub length_frame : (o : Option model_frame.Frame) → Ruled o → length (frame_row o) ≡ 35
unfolding frame_row
length_frame none h = refl
length_frame (some f) h =
    let v = (h f refl).count_high in
    let x = length_padded 32 (windows_row f f.count) (omega (arith, length_windows f f.count)) in
    omega (arith, x)

pub length_board
    : (b : admission_boards.Board) → b.plan.tasks.count ≤ 32 → Ruled b.plan.tasks.frame → length b.plan.kept ≤ 32 → length b.plan.worst ≤ 32
    → length (board_row b) ≡ 264
length_board b h r k w =
    let x = length_plan b.plan h k w in
    let y = length_frame b.plan.tasks.frame r in
    let t = b.last % 4294967296 ∷ b.last / 4294967296 ∷ [] in
    let u = length-append (plan_row b.plan) (frame_row b.plan.tasks.frame) in
    length-append (plan_row b.plan ++ frame_row b.plan.tasks.frame) t ∙ omega (arith, x, y, u)

-- the blocks of a sheet with its choice, one after the other
pub plan_put
    : (p : Plan) (f : std.Option Frame) (held : List ℕ) (tasks : List Task) (r₁ r₂ r₃ r₄ : List ℕ)
    → offer_numbers ≤ length held
    → p.tasks.count ≤ 32
    → tasks ≡ table (entry_of p.tasks) p.tasks.count ++ replicate (32 - p.tasks.count) no_task
    → r₁ ≡ numbers_of tasks ++ drop (length (numbers_of tasks)) held
    → r₂ ≡ sets r₁ 160 (p.tasks.count ∷ p.tasks.charge ∷ scope_number (scope_in p.partial) ∷ [])
    → r₃ ≡ sets r₂ 163 (padded 32 (take p.tasks.count p.keep))
    → r₄ ≡ sets r₃ 195 (padded 32 (take p.tasks.count p.worst))
    → r₄ ≡ plan_row (plan_view p f) ++ drop offer_numbers held
plan_put p f held tasks r₁ r₂ r₃ r₄ room few is e₁ e₂ e₃ e₄ =
    let n = p.tasks.count in
    let a = padded 160 (tasks_row (framed_of p.tasks f) n) in
    let b = n ∷ p.tasks.charge ∷ scope_number (scope_in p.partial) ∷ [] in
    let k = padded 32 (take n p.keep) in
    let q : numbers_of tasks ≡ a = cleaned_numbers p.tasks f tasks few is in
    let x : length a ≡ 160 = length_padded 160 (tasks_row (framed_of p.tasks f) n) (omega (arith, length_tasks (framed_of p.tasks f) n)) in
    let m : length (numbers_of tasks) ≡ 160 = ap length q ∙ x in
    let y : length k ≡ 32 = length_padded 32 (take n p.keep) (omega (arith, length-take n p.keep)) in
    let t = length-append a b in
    let u = length-append (a ++ b) k in
    let d₁ : r₁ ≡ sets held 0 a = e₁ ∙ sym (sets_front held (numbers_of tasks) _ refl (omega (arith, m))) ∙ ap (sets held 0) q in
    let d₂ = sets_then held 0 a r₁ 160 b r₂ d₁ (omega (arith, x)) e₂ in
    let d₃ = sets_then held 0 (a ++ b) r₂ 163 k r₃ d₂ (omega (arith, x, t)) e₃ in
    sets_then held 0 (a ++ b ++ k) r₃ 195 (padded 32 (take n p.worst)) r₄ d₃ (omega (arith, x, y, t, u)) e₄
    ∙ sets_front held (plan_row (plan_view p f)) 227
    (length_plan (plan_view p f) few (omega (arith, length-take n p.keep)) (omega (arith, length-take n p.worst))) room

-- the blocks of a frame
pub frame_blocks
    : (f : Frame) (held : List ℕ) (r : List ℕ)
    → r ≡ sets (set (set (set held 227 1) 228 f.ticks) 229 f.count) 230 (padded 32 (windows_row (windows_of f) f.count))
    → r ≡ sets held 227 (frame_row (some (windows_of f)))
unfolding frame_row
frame_blocks f held r e = e

-- the blocks of a board
pub board_put
    : (b : Board) (held r₁ r₂ r₃ : List ℕ)
    → board_numbers ≤ length held
    → Valid (framed_of b.plan.tasks b.frame)
    → r₁ ≡ plan_row (plan_view b.plan b.frame) ++ drop offer_numbers held
    → r₂ ≡ sets r₁ 227 (frame_row (frame_of b.frame))
    → r₃ ≡ sets r₂ 262 (b.last % 4294967296 ∷ b.last / 4294967296 ∷ [])
    → r₃ ≡ board_row (board_view b) ++ drop board_numbers held
board_put b held r₁ r₂ r₃ room v e₁ e₂ e₃ =
    let p = plan_view b.plan b.frame in
    let f = frame_row (frame_of b.frame) in
    let n = b.plan.tasks.count in
    let few : n ≤ 32 = v.few_tasks in
    let k : length p.kept ≤ 32 = omega (arith, length-take n b.plan.keep) in
    let w : length p.worst ≤ 32 = omega (arith, length-take n b.plan.worst) in
    let x : length (plan_row p) ≡ 227 = length_plan p few k w in
    let y : length f ≡ 35 = length_frame (frame_of b.frame) v.framed in
    let t = length-append (plan_row p) f in
    let d₁ : r₁ ≡ sets held 0 (plan_row p) = e₁ ∙ sym (sets_front held (plan_row p) 227 x (omega arith)) in
    let d₂ = sets_then held 0 (plan_row p) r₁ 227 f r₂ d₁ (omega (arith, x)) e₂ in
    sets_then held 0 (plan_row p ++ f) r₂ 262 (b.last % 4294967296 ∷ b.last / 4294967296 ∷ []) r₃ d₂ (omega (arith, x, y, t)) e₃
    ∙ sets_front held (board_row (board_view b)) 264 (length_board (board_view b) few v.framed k w) room
