-- The shorter of the two columns decides.
use mathlib.Core.Path.{ap, ◌∙◌}
use Rattle.model.specs.Checks.{refusal_of}
use Rattle.taskset.specs.TaskSet.{view_of}
use Rattle.trace.specs.TraceCalls.{call_inputs}
use Rattle.trace.proofs.check_two.Goals as goal

pub returns : goal.returns
returns c =
    let a = c.args in
    c.check_call.ensures
    ∙ ap (λ x. refusal_of (call_inputs (view_of a.s) a.kept.now a.list.now.count a.list.now.task.now a.list.now.tick.now a.list.now.cost.now x)) c.min.ensures
