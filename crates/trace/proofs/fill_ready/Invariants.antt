-- The loop has written the ready ticks of every release before p.
use mathlib.Core.List.{[]}
use Rattle.model.specs.Tasks.{Tasks}
use Rattle.model.specs.Choice.{column}
use Rattle.trace.specs.Standing.{Standing}
use Rattle.trace.specs.TraceCalls.{Shapable}
use Rattle.trace.proofs.ReadyFillLaws.{Filling}
use Rattle.trace.proofs.fill_ready.Given as goal

-- for every sheet that the shapers were made for, since the loop does not look at the sheet
abbrev pub invariant-loop-p : goal.invariant-loop-p
invariant-loop-p l =
    (s : Tasks) → Shapable s l.count l.task l.tick → Standing s.period (column l.kept) (λ i. []) s.count l.initial.all.of → Filling s (column l.kept) l.count l.task l.tick l.initial.ready
    l.all.of l.ready l.p
