-- The loop has filled the first i slots.
use Rattle.cases.specs.Cases.{tick_at}
use Rattle.cases.proofs.CaseLaws.{Filling}
use Rattle.cases.proofs.ticks.Given as goal

abbrev pub invariant-loop-i : goal.invariant-loop-i
invariant-loop-i l = Filling 8 tick_at l.s l.initial.out l.n l.i l.out
