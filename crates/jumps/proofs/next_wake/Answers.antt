use mathlib.Core.Path.{◌≡◌, sym, ◌∙◌}
use native.Mathlib.Omega.{arith}
use Rattle.jumps.proofs.WakeLaws.{next_none, next_next, next_after}
use Rattle.jumps.proofs.next_wake.Goals as goal

pub returns-then-t-wake : goal.returns-then-t-wake
returns-then-t-wake c = (c.requires.1, c.if-t-wake.true)

pub loop-i-init : goal.loop-i-init
loop-i-init c = (omega arith, c.requires.1.awake, next_none _ _ _ _)

pub next_due-soon-requires : goal.next_due-soon-requires
next_due-soon-requires c = (c.requires.0, c.loop-i.invariant.1, c.loop-i-test.true)

pub loop-i-preserved : goal.loop-i-preserved
loop-i-preserved c = (
  omega arith,
  c.next_due-soon.ensures.0,
  rw c.min-least.ensures (next_next _ _ _ _ _ _ _ c.loop-i.invariant.2 c.next_due-soon.ensures.1),
)

pub shape_of-coming : goal.shape_of-coming
shape_of-coming c = c.loop-i.invariant.1.long ∙ sym c.requires.1.awake.long

pub shape_of-due : goal.shape_of-due
shape_of-due c = c.loop-i.invariant.1.due_long ∙ sym c.requires.1.awake.due_long

pub returns : goal.returns
returns c =
    let e : c.loop-i.i ≡ c.args.tasks = omega arith in
    let n = rw e at c.loop-i.invariant.2 in
    (record { awake = c.loop-i.invariant.1; next = λ l. n }, next_after _ _ _ _ _ _ c.requires.2 n)
