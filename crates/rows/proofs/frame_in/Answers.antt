-- No frame, or numbers and windows that make one.
use Rattle.rows.proofs.FillLaws.{no_frame_made, frame_made}
use Rattle.rows.proofs.frame_in.Goals as goal

pub returns-then-number_at-eq0 : goal.returns-then-number_at-eq0
returns-then-number_at-eq0 c = no_frame_made c.args.row.now _ c.number_at.ensures c.if-number_at-eq0.true

pub returns : goal.returns
returns c =
    frame_made c.args.row.now _ _ _ _ c.number_at.ensures c.if-number_at-eq0.false
    c.number_at-ticks.ensures c.number_at-count.ensures c.windows_in-windows.ensures
