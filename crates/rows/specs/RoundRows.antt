-- Rows: how long they are, that records which say the same have the same row, and that what was written is read back: the statements. proofs/RoundRows.antt proves them
-- (`rows_long`, `rows_same`, `rows_read`).
use Rattle.std.specs.Prelude as std
use Rattle.std.specs.Prelude.{ℕ, ◌≤◌, ◌≡◌, List, ◌++◌, length}
use Rattle.model.specs.Limits.{max_charge}
use Rattle.model.specs.Tasks.{Valid}
use Rattle.model.specs.SameTasks.{SameFrame}
use Rattle.frame.specs.declared.Frame.{Frame}
use Rattle.frame.specs.FrameView.{frame_of}
use Rattle.admission.specs.Offers as admission_offers
use Rattle.admission.specs.Boards as admission_boards
use Rattle.plan.specs.PlanView.{plan_view, board_view}
use Rattle.rows.specs.Rows.{offer_numbers, board_numbers, plan_from, board_from, plan_row, board_row}

-- a sheet within the limits, its charge a byte, with a kept jitter and a worst value for each task
pub record Writable (p : admission_offers.Plan) : Type 0 where
  pub valid : Valid p.tasks
  pub byte : p.tasks.charge ≤ max_charge
  pub kept_long : length p.kept ≡ p.tasks.count
  pub worst_long : length p.worst ≡ p.tasks.count

-- boards that say the same
pub record SameBoard (a b : admission_boards.Board) : Type 0 where
  pub plan : admission_offers.SamePlan a.plan b.plan
  pub last : a.last ≡ b.last

-- how many numbers there are
pub record RowsLong : Type 0 where
  pub plan : (p : admission_offers.Plan) → Writable p → length (plan_row p) ≡ offer_numbers
  pub board : (b : admission_boards.Board) → Writable b.plan → length (board_row b) ≡ board_numbers

-- records that say the same have the same row
pub record RowsSame : Type 0 where
  pub plan : (a b : admission_offers.Plan) → admission_offers.SamePlan a b → plan_row a ≡ plan_row b
  pub board : (a b : admission_boards.Board) → SameBoard a b → board_row a ≡ board_row b

-- what was written is read back, whatever stands after it in the row. An offer holds no frame: it is read with one that says what the frame of its sheet says
pub record RowsRead : Type 0 where
  pub plan
      : (p : admission_offers.Plan) (f : std.Option Frame) (rest : List ℕ) → Writable p → SameFrame (frame_of f) p.tasks.frame
      → admission_offers.SamePlan (plan_view (plan_from (plan_row p ++ rest)) f) p
  pub board : (b : admission_boards.Board) (rest : List ℕ) → Writable b.plan → SameBoard (board_view (board_from (board_row b ++ rest))) b
