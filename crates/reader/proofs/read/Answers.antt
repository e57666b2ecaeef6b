-- A refusal of the scan, then 13, else the releases are written.
use native.Mathlib.Omega.{arith}
use Rattle.refusal.proofs.PassedOn.{passed}
use Rattle.releases.proofs.ReleaseLaws.{columns_of}
use Rattle.reader.proofs.ReadColumnLaws.{reads_halted, reads_short, reads_fine}
use Rattle.reader.proofs.read.Goals as goal

pub returns-in_err-s : goal.returns-in_err-s
returns-in_err-s c = rw (passed _ _ c.from_residual.ensures.1) (reads_halted _ _ _ _ _ c.in_err-s.ensures)

pub returns-in_err-check_columns : goal.returns-in_err-check_columns
returns-in_err-check_columns c =
    rw (passed _ _ c.from_residual-in_err-check_columns.ensures.1) (reads_short _ _ _ _ _ c.in_ok-s.ensures _ c.in_err-check_columns.ensures)

pub put_columns-requires : goal.put_columns-requires
put_columns-requires c =
    let a = c.args in
    let s = c.in_ok-s.s in
    let long = columns_of s.releases a.task.now a.tick.now a.cost.now c.in_ok-check_columns.ensures in
    let h = c.in_ok-s.ensures.found in
    (omega (arith, h.begins, h.inside), rw h.begins h.stand, long.task_long, long.tick_long, long.cost_long)

pub returns : goal.returns
returns c = reads_fine _ _ _ _ _ c.in_ok-s.ensures _ _ _ c.in_ok-check_columns.ensures (rw c.in_ok-s.ensures.found.begins at c.put_columns.ensures)
