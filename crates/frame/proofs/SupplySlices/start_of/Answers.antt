-- The end of window k, by its place in the frame.
use Prim.Native.Nat.{◌<◌}
use native.Mathlib.Omega.{arith}
use Rattle.frame.proofs.ColumnLaws.{starts_present, start_absent, start_present}
use Rattle.frame.proofs.SupplySlices.start_of.Goals.{Else-not-self}
use Rattle.frame.proofs.SupplySlices.start_of.Goals as goal

-- the window is one of the frame
known : (c : Else-not-self) → c.args.k < c.args.self.now.count
known c =
    let a = c.args in
    omega (arith, c.requires.k_bound, starts_present a.self.now.framed a.self.now.ticks a.self.now.count a.self.now.first.now a.self.now.size.now c.if-not-self.false-raw)

pub returns-then-not-self : goal.returns-then-not-self
returns-then-not-self c =
    let a = c.args in
    start_absent a.self.now.framed a.self.now.ticks a.self.now.count a.self.now.first.now a.self.now.size.now a.k c.if-not-self.true-raw

pub offset_bounds-self-k : goal.offset_bounds-self-k
offset_bounds-self-k c = omega (arith, known (goal.at.offset_bounds-self-k c).Else-not-self, c.requires.frame_columns.windows.few)

pub bounds-self-k : goal.bounds-self-k
bounds-self-k c = omega (arith, known (goal.at.bounds-self-k c).Else-not-self, c.requires.frame_columns.windows.first_long)

pub offset_bounds-self-k-2 : goal.offset_bounds-self-k-2
offset_bounds-self-k-2 c = omega (arith, known (goal.at.offset_bounds-self-k-2 c).Else-not-self, c.requires.frame_columns.windows.few)

pub bounds-self-k-2 : goal.bounds-self-k-2
bounds-self-k-2 c = omega (arith, known (goal.at.bounds-self-k-2 c).Else-not-self, c.requires.frame_columns.windows.size_long)

pub overflow_add-result : goal.overflow_add-result
overflow_add-result c =
    let w = c.requires.frame_columns.windows in
    omega (arith, w.first_high _ (known (goal.at.overflow_add-result c).Else-not-self), w.size_high _ (known (goal.at.overflow_add-result c).Else-not-self))

pub nonzero_rem-result : goal.nonzero_rem-result
nonzero_rem-result c = omega (arith, (c.requires.frame_columns.rules (c.if-not-self.false)).ticks_low)

pub returns : goal.returns
returns c =
    let a = c.args in
    start_present a.self.now.framed a.self.now.ticks a.self.now.count a.self.now.first.now a.self.now.size.now a.k c.if-not-self.false-raw
