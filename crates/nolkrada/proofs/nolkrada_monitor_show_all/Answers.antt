-- The columns of the call, and its refusal as a code.
use mathlib.Core.Path.{ap, ◌∙◌}
use Rattle.interface.specs.Interface.{code_of}
use Rattle.nolkrada.proofs.nolkrada_monitor_show_all.Goals as goal

pub returns : goal.returns
returns c =
    let e = c.show_all-checked.ensures in
    (record {
      code = c.code_of.ensures ∙ ap code_of e.code;
      jobs_shown = e.jobs_shown;
      late_shown = e.late_shown;
      largest_shown = e.largest_shown;
    })
