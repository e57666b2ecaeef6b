-- What was written is not longer than the buffer.
use Prim.Native.Nat.{◌≤◌}
use mathlib.Core.Path.{sym}
use native.Mathlib.Omega.{arith}
use lib.ListN.{length}
use lib.Seq.{length-take-le}
use Rattle.choose_csv.proofs.print.Goals.{After-choose_csv_text-m}
use Rattle.choose_csv.proofs.print.Goals as goal

short : (c : After-choose_csv_text-m) → c.choose_csv_text-m.result ≤ length c.choose_csv_text-m.new.out
short c = omega (arith, (c.choose_csv_text-m.ensures.line c.requires.text c.requires.is).small, c.choose_csv_text-m.auto.out)

pub slice_bounds-out-end : goal.slice_bounds-out-end
slice_bounds-out-end c = short (goal.at.slice_bounds-out-end c).After-choose_csv_text-m

pub slice_bounds-write_all-end : goal.slice_bounds-write_all-end
slice_bounds-write_all-end c = sym (length-take-le _ _ (short (goal.at.slice_bounds-write_all-end c).After-choose_csv_text-m))
