use native.Mathlib.Omega.{arith}
use lib.ListN.{length-set}
use Rattle.fileformat.proofs.RoundTrips.{some_charge_bytes}
use Rattle.writer.proofs.StoreLaws.{put_no_charge, put_charge_bytes}
use Rattle.writer.proofs.put_charge.Goals as goal

pub returns-then-charge-eq0 : goal.returns-then-charge-eq0
returns-then-charge-eq0 c = put_no_charge _ _ (omega arith)

pub bounds-out-0 : goal.bounds-out-0
bounds-out-0 c = omega (arith, some_charge_bytes c.args.charge (omega arith))

pub bounds-out-1 : goal.bounds-out-1
bounds-out-1 c = omega (arith, some_charge_bytes c.args.charge (omega arith), length-set c.args.out.now 0 5)

pub returns : goal.returns
returns c = put_charge_bytes _ _ (omega arith) (omega arith)
