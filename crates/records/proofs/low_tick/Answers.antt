use mathlib.Core.Path.{sym, ap, ◌∙◌}
use Rattle.fileformat.specs.File.{low_tick}
use Rattle.fileformat.specs.Records.{width_in}
use Rattle.records.proofs.low_tick.Goals as goal

pub returns-then-long : goal.returns-then-long
returns-then-long c = c.max.ensures ∙ ap (λ b. low_tick (width_in b) c.args.before) (sym c.if-long.true)
