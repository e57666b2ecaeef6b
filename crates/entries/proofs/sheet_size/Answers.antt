use Prim.Native.Nat.{ℕ, ◌+◌, ◌*◌, ◌≤◌, ◌<◌}
use mathlib.Core.Path.{◌≡◌, ap, ◌∙◌}
use native.Mathlib.Omega.{arith}
use native.Mathlib.Numerals.{add-one}
use Rattle.taskset.specs.declared.TaskSet.{TaskSet}
use Rattle.taskset.specs.TaskSet.{view_of}
use Rattle.fileformat.specs.Records.{task_size}
use Rattle.fileformat.specs.FileCalls.{charge_bytes, tasks_bytes, sheet_bytes}
use Rattle.fileformat.proofs.TaskSizeLaws.{task_size_high, tasks_bytes_none, tasks_bytes_more, tasks_bytes_high}
use Rattle.fileformat.proofs.RoundTrips.{charge_bytes_high}
use Rattle.entries.proofs.sheet_size.Invariants.{Counted}
use Rattle.entries.proofs.sheet_size.Goals as goal

counted_more : (s : TaskSet) (size i more : ℕ) → Counted s size i → i < s.count → more ≡ task_size ((view_of s).low i) → Counted s (size + more) (i + 1)
counted_more s size i more a h e =
    record { whole = rw add-one (omega (arith, a.whole, tasks_bytes_more (view_of s) i)); within = omega arith }

-- it is small
counted_high : (s : TaskSet) (size i : ℕ) → Counted s size i → size ≤ 2 + 18 * i
counted_high s size i a = omega (arith, a.whole, charge_bytes_high s.charge, tasks_bytes_high (view_of s) i)

counted_all : (s : TaskSet) (size i : ℕ) → Counted s size i → i ≡ s.count → size ≡ sheet_bytes (view_of s)
counted_all s size i a e = a.whole ∙ ap (λ k. charge_bytes s.charge + tasks_bytes (view_of s) k) e

pub loop-i-init : goal.loop-i-init
loop-i-init c = record { whole = omega (arith, c.charge_size-size.ensures, tasks_bytes_none (view_of c.args.s)); within = omega arith }

pub overflow_add-size : goal.overflow_add-size
overflow_add-size c =
    omega (
      arith,
      counted_high _ _ _ c.loop-i.invariant,
      c.loop-i.invariant.within,
      c.requires,
      c.task_size-size.ensures,
      task_size_high ((view_of c.args.s).low c.loop-i.i),
    )

pub loop-i-preserved : goal.loop-i-preserved
loop-i-preserved c = counted_more _ _ _ _ c.loop-i.invariant (omega arith) c.task_size-size.ensures

pub returns : goal.returns
returns c = counted_all _ _ _ c.loop-i.invariant (omega (arith, c.loop-i.invariant.within))
