use native.Mathlib.Omega.{arith}
use lib.ListN.{length-set}
use Rattle.writer.proofs.StoreLaws.{put_head_bytes}
use Rattle.writer.proofs.put_head.Goals as goal

pub bounds-out-at-2 : goal.bounds-out-at-2
bounds-out-at-2 c = simp length-set (omega arith)

pub returns : goal.returns
returns c = put_head_bytes _ _ _ _ _ c.low.ensures
