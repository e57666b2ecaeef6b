-- A board in a row stays well-formed: the row that an opening or an accepted commit wrote holds the board that the definitions give, and a refusal leaves the row.
-- proofs/RowsStay.antt proves it (`rows_stay`).
use Rattle.std.specs.Prelude.{ℕ, ◌≤◌, ◌≡◌, List, length}
use Rattle.model.specs.Limits.{max_charge}
use Rattle.model.specs.Tasks.{Tasks}
use Rattle.model.specs.Refusal.{Refusal, refused, answered}
use Rattle.admission.specs.Boards as admission_boards
use Rattle.plan.specs.PlanView.{board_view}
use Rattle.rows.specs.Rows.{board_numbers, board_from, board_row}
use Rattle.rows.specs.RoundRows.{SameBoard}
use Rattle.interface.specs.Interface.{as_words, Ends}

-- the board that a row holds
abbrev pub held_in : List ℕ → admission_boards.Board
held_in row = board_view (board_from row)

-- a row that holds this board, and a well-formed one
pub record Holding (row : List ℕ) (b : admission_boards.Board) : Type 0 where
  pub same : SameBoard (held_in row) b
  pub well_formed : admission_boards.WellFormed (held_in row)

-- how the contracts say that a call on a row ends (`Ends`), and what stands in the row then. A charge is a byte, as the calls take it
pub record RowsStay : Type 0 where
  pub opened
      : (s : Tasks) (b : admission_boards.Board) (held : List ℕ) (r : ℕ) (row : List ℕ) → s.charge ≤ max_charge → admission_boards.open_call s ≡ answered b
      → board_numbers ≤ length held → Ends board_numbers (as_words board_row (admission_boards.open_call s)) held r row → (r ≡ 0) × Holding row b
  pub committed
      : (c : admission_boards.Commit) (b : admission_boards.Board) (held : List ℕ) (r : ℕ) (row : List ℕ) → c.offer.tasks.charge ≤ max_charge
      → admission_boards.commit_call (held_in held) c ≡ answered b → board_numbers ≤ length held
      → Ends board_numbers (as_words board_row (admission_boards.commit_call (held_in held) c)) held r row → (r ≡ 0) × Holding row b
  pub left
      : (c : admission_boards.Commit) (q : Refusal) (held : List ℕ) (r : ℕ) (row : List ℕ) → admission_boards.commit_call (held_in held) c ≡ refused q
      → Ends board_numbers (as_words board_row (admission_boards.commit_call (held_in held) c)) held r row → row ≡ held
