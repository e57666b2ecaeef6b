use mathlib.Core.Path.{◌≡◌, ap}
use native.Mathlib.Omega.{arith}
use Rattle.fileformat.specs.Records.{task_size}
use Rattle.writer.proofs.StoreLaws.{stored_long, put_low_bytes, put_high_bytes}
use Rattle.writer.proofs.put_task.Goals.{Then-t, Else-t}
use Rattle.writer.proofs.put_task.Goals as goal

-- the record has 18 bytes, or 17
is_low : (c : Then-t) → task_size c.args.t.low ≡ 18
is_low c = ap task_size c.if-t.true

is_high : (c : Else-t) → task_size c.args.t.low ≡ 17
is_high c = ap task_size c.if-t.false

pub put_numbers-requires : goal.put_numbers-requires
put_numbers-requires c = omega (arith, is_low (goal.at.put_numbers-requires c).Then-t)

pub overflow_add-out : goal.overflow_add-out
overflow_add-out c = omega (arith, is_low (goal.at.overflow_add-out c).Then-t)

pub bounds-out-at : goal.bounds-out-at
bounds-out-at c = omega (arith, is_low (goal.at.bounds-out-at c).Then-t, stored_long _ _ _ _ c.put_numbers.ensures)

pub returns-then-t : goal.returns-then-t
returns-then-t c = put_low_bytes _ _ _ _ c.if-t.true c.put_numbers.ensures

pub put_numbers-requires-2 : goal.put_numbers-requires-2
put_numbers-requires-2 c = omega (arith, is_high (goal.at.put_numbers-requires-2 c).Else-t)

pub returns : goal.returns
returns c = put_high_bytes _ _ _ _ c.if-t.false c.put_numbers-2.ensures
