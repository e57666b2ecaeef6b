-- From the place of the tick in the frame.
use native.Mathlib.Omega.{arith}
use Rattle.frame.proofs.ReachLaws.{reach_absent, place_in, sizes, begins_place, reach_place}
use Rattle.frame.proofs.SupplySlices.reach.Goals as goal

pub returns-then-not-self : goal.returns-then-not-self
returns-then-not-self c =
    reach_absent c.args.self.now.framed c.args.self.now.ticks c.args.self.now.count c.args.self.now.first.now c.args.self.now.size.now c.requires.supplies.columns
    c.if-not-self.true-raw c.args.t c.args.d

pub nonzero_rem-at : goal.nonzero_rem-at
nonzero_rem-at c = omega (arith, c.from.ensures, (sizes _ _ _ _ _ _ c.requires.supplies c.if-not-self.false-raw).ticks_low)

pub overflow_cast-at : goal.overflow_cast-at
overflow_cast-at c =
    omega (
      arith,
      place_in _ _ _ _ _ c.requires.supplies.columns c.if-not-self.false-raw c.args.t _ c.from.ensures,
      (sizes _ _ _ _ _ _ c.requires.supplies c.if-not-self.false-raw).ticks_high,
    )

pub within-before-requires : goal.within-before-requires
within-before-requires c = c.requires.supplies.columns.windows

pub reach_from-requires : goal.reach_from-requires
reach_from-requires c =
    (record {
      supplies = c.requires.supplies;
      begins = begins_place _ _ _ _ _ c.requires.supplies.columns c.if-not-self.false-raw c.args.t _ _ c.from.ensures c.within-before.ensures;
      d_le_max_tick = c.requires.d_le_max_tick;
    })

pub returns : goal.returns
returns c =
    reach_place c.args.self.now.framed c.args.self.now.ticks c.args.self.now.count c.args.self.now.first.now c.args.self.now.size.now c.requires.supplies.columns c.if-not-self.false-raw c.args.t c.args.d
    _ _ c.from.ensures c.reach_from.ensures
