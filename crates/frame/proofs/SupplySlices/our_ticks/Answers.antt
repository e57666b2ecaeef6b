-- Whole frames by division, and one pass over the windows for the rest.
use mathlib.Core.Path.{refl}
use native.Mathlib.Omega.{arith}
use Rattle.frame.proofs.ReachLaws.{ours_absent_ticks, place_in, sizes, our_ticks_is, our_ticks_high}
use Rattle.frame.proofs.SupplySlices.our_ticks.Goals as goal

pub returns-then-not-self : goal.returns-then-not-self
returns-then-not-self c = ours_absent_ticks c.args.self.now.framed c.args.self.now.ticks c.args.self.now.count c.args.self.now.first.now c.args.self.now.size.now c.requires.columns c.if-not-self.true-raw c.args.t

pub nonzero_rem-t : goal.nonzero_rem-t
nonzero_rem-t c = omega (arith, c.from-length.ensures, (sizes _ _ _ _ _ _ c.requires c.if-not-self.false-raw).ticks_low)

pub overflow_cast-t : goal.overflow_cast-t
overflow_cast-t c =
    omega (
      arith,
      place_in _ _ _ _ _ c.requires.columns c.if-not-self.false-raw c.args.t _ c.from-length.ensures,
      (sizes _ _ _ _ _ _ c.requires c.if-not-self.false-raw).ticks_high,
    )

pub within-rest-requires : goal.within-rest-requires
within-rest-requires c = c.requires.columns.windows

pub nonzero_div-result : goal.nonzero_div-result
nonzero_div-result c = omega (arith, c.from-length.ensures, (sizes _ _ _ _ _ _ c.requires c.if-not-self.false-raw).ticks_low)

pub overflow_mul-result : goal.overflow_mul-result
overflow_mul-result c =
    omega (
      arith,
      our_ticks_high _ _ _ _ _ _ c.requires c.if-not-self.false-raw c.args.t _ _ _ _ c.from-length.ensures c.within-rest.ensures c.from.ensures refl,
    )

pub overflow_add-result : goal.overflow_add-result
overflow_add-result c =
    omega (
      arith,
      our_ticks_high _ _ _ _ _ _ c.requires c.if-not-self.false-raw c.args.t _ _ _ _ c.from-length.ensures c.within-rest.ensures
          c.from.ensures c.from-2.ensures,
    )

pub returns : goal.returns
returns c =
    our_ticks_is _ _ _ _ _ _ c.requires c.if-not-self.false-raw c.args.t _ _ _ _ c.from-length.ensures c.within-rest.ensures
    c.from.ensures c.from-2.ensures
