-- A tick before the window is not in it; another is by its distance from the first.
use Rattle.frame.proofs.ColumnLaws.{window_before, window_by}
use Rattle.frame.proofs.in_window.Goals as goal

pub returns-then-x-first : goal.returns-then-x-first
returns-then-x-first c = window_before _ _ _ c.if-x-first.true

pub returns : goal.returns
returns c = window_by _ _ _ c.if-x-first.false
