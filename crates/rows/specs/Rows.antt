-- Rows of numbers for C (document 02, R-11): an offer has 227, a board 264. How a row is read, whatever it holds, and what is written.
use Rattle.std.specs.Prelude as std
use Rattle.std.specs.Prelude.{ℕ, zero, suc, ◌+◌, ◌-◌, ◌*◌, ◌/◌, ◌%◌, not, true, false, List, [], ◌∷◌, ◌++◌, eqb, length, get_or, replicate}
use Rattle.std.proofs.Math.Option.{Option, some, none}
use Rattle.model.specs.Series.{table}
use Rattle.model.specs.Frame as model_frame
use Rattle.model.specs.Tasks.{Tasks}
use Rattle.model.specs.Choice.{Scope, ordinary, high_only}
use Rattle.frame.specs.declared.Window.{Window}
use Rattle.frame.specs.declared.Frame.{Frame}
use Rattle.admission.specs.Offers as admission_offers
use Rattle.admission.specs.Boards as admission_boards
use Rattle.plan.specs.declared.Plan.{Plan}
use Rattle.plan.specs.declared.Board.{Board}
use Rattle.interface.specs.Interface.{sheet_from}
use Rattle.interface.specs.TaskNumbers.{mark_number}

-- numbers of an offer and of a board
abbrev pub offer_numbers : ℕ
offer_numbers = 227

abbrev pub board_numbers : ℕ
board_numbers = 264

-- the number at a place of a row, 0 past its end
abbrev pub at : List ℕ → ℕ → ℕ
at l i = get_or l i 0

-- an offer: the numbers of 32 tasks, count, charge, which of the two choices (0 for the ordinary one), 32 kept jitters, 32 worst values. Of the charge the low byte counts
abbrev pub plan_from : List ℕ → Plan
plan_from l = record {
  tasks = sheet_from l (at l 160) (at l 161 % 256);
  keep = table (λ i. at l (163 + i)) 32;
  worst = table (λ i. at l (195 + i)) 32;
  partial = not (eqb (at l 162) 0);
}

-- the frame of a board: whether there is one (0 for none), its ticks, its count, first tick and length of 16 windows, which count where there is one
abbrev pub window_in : List ℕ → ℕ → Window
window_in l k = record { first = at l (230 + 2 * k); length = at l (231 + 2 * k) }

abbrev pub frame_numbers : List ℕ → Frame
frame_numbers l = record { ticks = at l 228; count = at l 229; windows = table (window_in l) 16 }

unfoldable pub frame_in : List ℕ → std.Option Frame
frame_in l = elim (eqb (at l 227) 0) [ true ↦ std.None | false ↦ std.Some (frame_numbers l) ]

-- a board: an offer, the frame, and the tick of the last commit, its low 32 bits first
abbrev pub board_from : List ℕ → Board
board_from l = record { plan = plan_from l; frame = frame_in l; last = at l 262 + at l 263 * 4294967296 }

-- what is written: the numbers of a task
abbrev pub entry_numbers : admission_offers.Entry → List ℕ
entry_numbers t = t.period ∷ t.jitter ∷ t.cost ∷ t.deadline ∷ mark_number t.low ∷ []

-- of the first n tasks
unfoldable pub tasks_row : Tasks → ℕ → List ℕ
tasks_row s zero = []
tasks_row s (suc n) = tasks_row s n ++ entry_numbers (admission_offers.entry_at s n)

-- of the first n windows
unfoldable pub windows_row : model_frame.Frame → ℕ → List ℕ
windows_row f zero = []
windows_row f (suc n) = windows_row f n ++ (f.first n ∷ f.size n ∷ [])

-- a column filled up with 0 to n numbers
abbrev pub padded : ℕ → List ℕ → List ℕ
padded n l = l ++ replicate (n - length l) 0

-- which of the two choices
unfoldable pub scope_number : Scope → ℕ
scope_number ordinary = 0
scope_number high_only = 1

-- an offer; entries past the count are 0
abbrev pub plan_row : admission_offers.Plan → List ℕ
plan_row p =
    padded 160 (tasks_row p.tasks p.tasks.count)
    ++ (p.tasks.count ∷ p.tasks.charge ∷ scope_number p.scope ∷ [])
    ++ padded 32 p.kept
    ++ padded 32 p.worst

-- the frame of a board; windows past the count are 0, and all is 0 where there is no frame
unfoldable pub frame_row : Option model_frame.Frame → List ℕ
frame_row none = replicate 35 0
frame_row (some f) = 1 ∷ f.ticks ∷ f.count ∷ padded 32 (windows_row f f.count)

-- a board
abbrev pub board_row : admission_boards.Board → List ℕ
board_row b = plan_row b.plan ++ frame_row b.plan.tasks.frame ++ (b.last % 4294967296 ∷ b.last / 4294967296 ∷ [])
