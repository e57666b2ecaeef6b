-- The loop has passed the ticks below i.
use Rattle.board.proofs.OverLaws.{Passing}
use Rattle.board.proofs.any_over.Given as goal

abbrev pub invariant-loop-i : goal.invariant-loop-i
invariant-loop-i l = Passing l.t l.n l.column l.i
