-- The columns of the call, and its refusal as a code.
use mathlib.Core.Path.{ap, ◌∙◌}
use Rattle.interface.specs.Interface.{code_of}
use Rattle.nolkrada.proofs.nolkrada_run.Goals as goal

pub returns : goal.returns
returns c =
    let f = c.sheet_from-s.ensures in
    let g = c.frame_from-f.ensures in
    (record {
      code = c.code_of.ensures ∙ ap code_of (rw (f, g) at c.run-checked.ensures.refusal);
      ticks = rw (f, g) at c.run-checked.ensures.ticks;
      ends = rw (f, g) at c.run-checked.ensures.finishes;
    })
