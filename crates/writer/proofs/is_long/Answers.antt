use Rattle.fileformat.proofs.WidthLaws.{width_test}
use Rattle.writer.proofs.is_long.Goals as goal

pub returns : goal.returns
returns c = width_test c.args.tick
