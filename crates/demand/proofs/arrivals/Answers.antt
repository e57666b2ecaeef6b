-- The two cases of the definition, t = 0 and t ≥ 1.
use mathlib.Core.Path.{◌≡◌, sym}
use native.Mathlib.Omega.{arith}
use Rattle.demand.proofs.ArrivalCountLaws.{arrivals_at, arrivals_none}
use Rattle.demand.proofs.arrivals.Goals as goal

pub returns-then-t-eq0 : goal.returns-then-t-eq0
returns-then-t-eq0 c = let e : c.args.t ≡ 0 = omega arith in rw e (sym (arrivals_none _ _))

pub returns : goal.returns
returns c = rw (c.from-p.ensures, c.from.ensures, c.from-2.ensures) (sym (arrivals_at _ _ _ (omega arith)))
