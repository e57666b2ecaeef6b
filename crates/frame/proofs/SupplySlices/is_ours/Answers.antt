-- Without a frame every tick is ours; with one a tick is ours by its place.
use Prim.Native.Nat.{◌%◌}
use mathlib.Core.Path.{sym, ap}
use native.Mathlib.Omega.{arith}
use Rattle.frame.proofs.ColumnLaws.{ours_absent, ours_present}
use Rattle.frame.proofs.ReachLaws.{place_in}
use Rattle.frame.proofs.SupplySlices.is_ours.Goals as goal

pub returns-then-not-self : goal.returns-then-not-self
returns-then-not-self c =
    let a = c.args in
    sym (ours_absent a.self.now.framed a.self.now.ticks a.self.now.count a.self.now.first.now a.self.now.size.now c.if-not-self.true-raw a.t)

pub nonzero_rem-t : goal.nonzero_rem-t
nonzero_rem-t c = omega (arith, c.from.ensures, (c.requires.rules (c.if-not-self.false)).ticks_low)

pub overflow_cast-t : goal.overflow_cast-t
overflow_cast-t c =
    omega (
      arith,
      place_in _ _ _ _ _ c.requires c.if-not-self.false-raw c.args.t _ c.from.ensures,
      (c.requires.rules (c.if-not-self.false)).ticks_high,
    )

pub in_some-requires : goal.in_some-requires
in_some-requires c = c.requires.windows

pub returns : goal.returns
returns c =
    let a = c.args in
    ours_present a.self.now.framed a.self.now.ticks a.self.now.count a.self.now.first.now a.self.now.size.now c.if-not-self.false-raw a.t _
    (ap (◌%◌ a.t) c.from.ensures) _ c.in_some.ensures
