-- The loop has filled the first i slots.
use Rattle.cases.specs.Cases.{number_at}
use Rattle.cases.proofs.CaseLaws.{Filling}
use Rattle.cases.proofs.numbers.Given as goal

abbrev pub invariant-loop-i : goal.invariant-loop-i
invariant-loop-i l = Filling 4 number_at l.s l.initial.out l.n l.i l.out
