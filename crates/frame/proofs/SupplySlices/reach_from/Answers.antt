-- Whole frames by division, and one pass over the windows for the last of them.
use Prim.Native.Nat.{◌+◌, ◌-◌, ◌/◌, ◌*◌, ◌≤◌}
use native.Mathlib.Omega.{arith}
use Rattle.model.specs.Frame.{ours_in}
use Rattle.frame.specs.Reached.{IsReach}
use Rattle.frame.specs.WindowColumns.{frame_in, supply_lent}
use Rattle.frame.proofs.ReachLaws.{reach_absent, reach_nothing, sizes, rest_high, frames_high, reach_code}
use Rattle.frame.proofs.SupplySlices.reach_from.Goals.{After-from-2, After-from-4}
use Rattle.frame.proofs.SupplySlices.reach_from.Goals as goal

-- whole frames fit in 64 bits
frames : (c : After-from-2)
    → (c.from.result + c.args.d - 1) / c.from-each.result * c.from-2.result
    ≤ 10000000001600000000
frames c =
    frames_high _ _ _ _ _ _ c.requires.supplies c.if-not-self.false-raw _ _ _
    (omega (arith, c.from.ensures, c.requires.begins.within.high, c.requires.d_le_max_tick)) c.from-2.ensures

-- the number of ticks
found : (c : After-from-4)
    → let past = c.from.result + c.args.d - 1 in
    let sum = past / c.from-each.result * c.from-2.result + c.from-3.result in
    (c.from-4.result ≤ sum)
    × IsReach (ours_in (frame_in (supply_lent c.args.self.now))) c.args.at
    c.args.d (sum - c.from-4.result)
found c =
    reach_code c.args.self.now.framed c.args.self.now.ticks c.args.self.now.per c.args.self.now.count c.args.self.now.first.now c.args.self.now.size.now c.requires.supplies c.if-not-self.false-raw
    c.args.at c.args.before c.args.d _ _ _ _ _ _ c.requires.begins (omega arith) c.from.ensures
    c.from-each.ensures c.from-2.ensures c.from-3.ensures c.from-4.ensures
    c.locate-x.ensures

pub returns-then-not-self : goal.returns-then-not-self
returns-then-not-self c =
    reach_absent c.args.self.now.framed c.args.self.now.ticks c.args.self.now.count c.args.self.now.first.now c.args.self.now.size.now c.requires.supplies.columns
    c.if-not-self.true-raw c.args.at c.args.d

pub returns-then-d-eq0 : goal.returns-then-d-eq0
returns-then-d-eq0 c =
    reach_nothing c.args.self.now.framed c.args.self.now.ticks c.args.self.now.count c.args.self.now.first.now c.args.self.now.size.now c.requires.supplies.columns
    c.args.at c.args.d (omega arith)

pub overflow_add-past : goal.overflow_add-past
overflow_add-past c = omega (arith, c.from.ensures, c.requires.begins.within.high, c.requires.d_le_max_tick)

pub nonzero_rem-past : goal.nonzero_rem-past
nonzero_rem-past c = omega (arith, c.from-each.ensures, (sizes _ _ _ _ _ _ c.requires.supplies c.if-not-self.false-raw).per_low)

pub overflow_cast-past : goal.overflow_cast-past
overflow_cast-past c = omega (arith, (rest_high _ _ _ _ _ _ c.requires.supplies c.if-not-self.false-raw (c.from.result + c.args.d - 1) _ c.from-each.ensures).1)

pub overflow_add-past-2 : goal.overflow_add-past-2
overflow_add-past-2 c = omega (arith, (rest_high _ _ _ _ _ _ c.requires.supplies c.if-not-self.false-raw (c.from.result + c.args.d - 1) _ c.from-each.ensures).1)

pub locate-x-requires : goal.locate-x-requires
locate-x-requires c =
    (record {
      windows = c.requires.supplies.columns.windows;
      le_r = omega arith;
      r_bound = (rest_high _ _ _ _ _ _ c.requires.supplies c.if-not-self.false-raw _ _ c.from-each.ensures).0;
    })

pub nonzero_div-result : goal.nonzero_div-result
nonzero_div-result c = omega (arith, c.from-each.ensures, (sizes _ _ _ _ _ _ c.requires.supplies c.if-not-self.false-raw).per_low)

pub overflow_mul-result : goal.overflow_mul-result
overflow_mul-result c = omega (arith, frames (goal.at.overflow_mul-result c).After-from-2)

pub overflow_add-result : goal.overflow_add-result
overflow_add-result c = omega (arith, frames (goal.at.overflow_add-result c).After-from-2)

pub overflow_sub-result : goal.overflow_sub-result
overflow_sub-result c = (found (goal.at.overflow_sub-result c).After-from-4).0

pub returns : goal.returns
returns c = (found (goal.at.returns c).After-from-4).1
