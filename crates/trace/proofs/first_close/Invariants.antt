-- The loop has passed every release before p: none of them is too close, and the shapers have moved none.
use mathlib.Core.List.{[]}
use Rattle.model.specs.Tasks.{Tasks}
use Rattle.trace.specs.Standing.{Standing}
use Rattle.trace.specs.TraceCalls.{Shapable}
use Rattle.trace.proofs.CloseLaws.{Tracing}
use Rattle.trace.proofs.first_close.Given as goal

-- for every sheet that the shapers were made for, since the loop does not look at the sheet
abbrev pub invariant-loop-p : goal.invariant-loop-p
invariant-loop-p l = (s : Tasks) → Shapable s l.count l.task l.tick → Standing s.period s.jitter (λ i. []) s.count l.initial.all.of → Tracing s l.count l.task l.tick l.all.of l.p
