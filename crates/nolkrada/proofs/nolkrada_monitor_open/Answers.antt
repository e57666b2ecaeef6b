-- The slots of the call, and its refusal as a code.
use mathlib.Core.Path.{ap, ◌∙◌}
use Rattle.interface.specs.Interface.{code_of}
use Rattle.nolkrada.proofs.nolkrada_monitor_open.Goals as goal

pub returns : goal.returns
returns c =
    let e = rw c.sheet_from-s.ensures at c.open_window-checked.ensures in
    (record {
      code = c.code_of.ensures ∙ ap code_of e.code;
      slots = e.slots;
    })
