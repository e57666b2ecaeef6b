-- Entries of a task set past its count do not matter to any call on values.
use Prim.Native.Nat.{ℕ, ◌<◌}
use mathlib.Core.Path.{◌≡◌, ap}
use Rattle.model.specs.SameTasks.{SameTasks, SameAnswers}
use Rattle.model.proofs.SameAnswers.{same_answers}
use Rattle.taskset.specs.declared.TaskSet.{TaskSet}
use Rattle.taskset.specs.TaskSet.{entry_of, view_of}

-- two task sets with equal counts, equal charges and equal entries below the count ..
module _ (s s' : TaskSet) (count : s.count ≡ s'.count) (charge : s.charge ≡ s'.charge) (entries : (i : ℕ) → i < s.count → entry_of s i ≡ entry_of s' i) where
  -- .. are the same sheet below the count ..
  pub same_entries : SameTasks (view_of s) (view_of s')
  same_entries =
      record {
        count = count;
        period = λ i l. ap (λ t. t.period) (entries i l);
        jitter = λ i l. ap (λ t. t.jitter) (entries i l);
        cost = λ i l. ap (λ t. t.cost) (entries i l);
        deadline = λ i l. ap (λ t. t.deadline) (entries i l);
        low = λ i l. ap (λ t. t.low) (entries i l);
        charge = charge;
        frame = tt;
      }

  -- .. and get the same answer of every call
  pub same_calls : SameAnswers (view_of s) (view_of s')
  same_calls = same_answers (view_of s) (view_of s') same_entries
