use native.Mathlib.Omega.{arith}
use Rattle.writer.proofs.StoreLaws.{put_eight}
use Rattle.writer.proofs.put_wide_number.Goals as goal

pub returns : goal.returns
returns c = put_eight _ _ _ _ _ (omega arith) c.put_number.ensures c.put_number-2.ensures
