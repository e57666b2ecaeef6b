-- A sheet passed as numbers: the five numbers of each task below the count are looked at, and no others.
use Prim.Native.Nat.{ℕ, ◌+◌, ◌-◌, ◌*◌, ◌<◌, min}
use mathlib.Core.Path.{◌≡◌, ap}
use mathlib.Core.Bool.{not}
use mathlib.Core.List.{List, ◌++◌}
use lib.Dec.{eqb}
use native.Mathlib.Omega.{arith}
use lib.ListN.{get_or, replicate}
use Rattle.model.proofs.TableLaws.{table_agree}
use Rattle.taskset.specs.declared.Task.{Task}
use Rattle.taskset.specs.TaskSet.{no_task}
use Rattle.interface.specs.Interface.{task_at, sheet_from}

-- numbers that agree below 5 × the count are the same sheet to every call for C
pub same_numbers : (l l' : List ℕ) (n c : ℕ) → ((j : ℕ) → j < 5 * n → get_or l j 0 ≡ get_or l' j 0) → sheet_from l n c ≡ sheet_from l' n c
unfolding task_at
same_numbers l l' n c same =
    ap (λ (t : List Task). record { tasks = t ++ replicate (32 - n) no_task; count = n; charge = c }) (table_agree (task_at l) (task_at l') (min n 32) entry)
  where
    entry : (i : ℕ) → i < min n 32 → task_at l i ≡ task_at l' i
    entry i h = λ x. record {
      period = same (5 * i) (omega arith) x;
      jitter = same (5 * i + 1) (omega arith) x;
      cost = same (5 * i + 2) (omega arith) x;
      deadline = same (5 * i + 3) (omega arith) x;
      low = not (eqb (same (5 * i + 4) (omega arith) x) 0);
    }
