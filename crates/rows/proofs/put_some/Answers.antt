-- Three stores, and the windows.
use native.Mathlib.Omega.{arith}
use mathlib.Core.Path.{ap, ◌∙◌}
use mathlib.Core.Option.{some}
use lib.ListN.{length, length-set}
use lib.Seq.{length-sets}
use Rattle.frame.specs.FrameView.{windows_of}
use Rattle.rows.specs.Rows.{frame_row}
use Rattle.rows.proofs.RowLaws.{frame_blocks}
use Rattle.rows.proofs.put_some.Goals as goal

pub bounds-row-228 : goal.bounds-row-228
bounds-row-228 c = simp length-set (omega arith)

pub bounds-row-229 : goal.bounds-row-229
bounds-row-229 c = simp length-set (omega arith)

pub returns : goal.returns
returns c = frame_blocks c.args.f _ _ c.put_windows.ensures

pub shape_of-row : goal.shape_of-row
shape_of-row c =
    ap length (frame_blocks c.args.f _ _ c.put_windows.ensures) ∙ length-sets c.args.row.now 227 (frame_row (some (windows_of c.args.f)))
