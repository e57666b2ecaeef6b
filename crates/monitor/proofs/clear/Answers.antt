use Rattle.monitor.proofs.ColumnLaws.{cleared_lem}
use native.Mathlib.Omega.{arith}
use Rattle.std.proofs.lemmas.List.{length-take-le}
use Rattle.monitor.proofs.clear.Goals as goal

pub returns : goal.returns
returns c = record {
  jobs_after = cleared_lem _ _ _ _ (c.fill.ensures.after (λ y e. e)) (length-take-le _ _ (omega arith));
  late_after = cleared_lem _ _ _ _ (c.fill-2.ensures.after (λ y e. e)) (length-take-le _ _ (omega arith));
  largest_after = cleared_lem _ _ _ _ (c.fill-3.ensures.after (λ y e. e)) (length-take-le _ _ (omega arith));
}
