use native.Mathlib.Omega.{arith}
use Rattle.text.proofs.TextLaws.{put_copied}
use Rattle.text.proofs.put_bytes.Goals as goal

pub returns : goal.returns
returns c = put_copied _ _ _ _ _ (omega arith) c.requires c.copy_from_slice.ensures.after
