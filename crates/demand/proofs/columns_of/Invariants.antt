-- The loop has copied the slots below j.
use Rattle.demand.specs.Columns.{Copied}
use Rattle.demand.proofs.columns_of.Given as goal

abbrev pub invariant-loop-j : goal.invariant-loop-j
invariant-loop-j l = Copied l.s l.j l.loads l.periods
