-- Demand 3 on any processor, for every pickup, load and supply.
use native.Mathlib.Omega.{arith}
use Rattle.guarantee.specs.OnProcessor.{DemandOnHolds}
use Rattle.processor.proofs.LimitShareOnProcessor.{limit_on, share_on}
use Rattle.processor.proofs.FitsOnProcessor.{fits_on}
use Rattle.witness.proofs.LateLaw.{missed_on}

-- limit, share and "fits" by the crate `processor`, the list of a late verdict by `witness`
pub demand_on_lem : DemandOnHolds
demand_on_lem m r s periods costs k kept i h = record {
  limit = λ l tr. limit_on m r s k i l tr (periods i h);
  share = λ l tr. share_on m r s k i l tr (λ j g. periods j (omega arith));
  if_fits = fits_on m r s k i (λ j g. periods j (omega arith));
  if_late = λ d. (missed_on m r s periods costs k kept i h d).0;
}
