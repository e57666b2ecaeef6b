-- The column of the call, and its refusal as a code.
use mathlib.Core.Path.{ap, ◌∙◌}
use Rattle.interface.specs.Interface.{code_of}
use Rattle.nolkrada.proofs.nolkrada_ready.Goals as goal

pub returns : goal.returns
returns c =
    (record {
      code = c.code_of.ensures ∙ ap code_of (rw c.sheet_from-s.ensures at c.ready_ticks-checked.ensures.refusal);
      ticks = (rw c.sheet_from-s.ensures at c.ready_ticks-checked.ensures.ticks);
    })
