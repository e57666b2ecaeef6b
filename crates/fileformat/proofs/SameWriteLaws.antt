-- Task sets that agree on the tasks below the count are written alike.
use Prim.Native.Nat.{ℕ, ◌≤◌, ◌<◌}
use mathlib.Core.Path.{◌≡◌, refl, sym, ap, ap₂, ◌∙◌}
use mathlib.Core.Option.{some, none}
use mathlib.Core.List.{List, [], ◌∷◌}
use native.Mathlib.Omega.{arith}
use lib.ListN.{length, take}
use lib.Seq.{get_or-take, length-take-le, ext_get_or}
use Rattle.model.specs.Checks.{refusal_of}
use Rattle.model.specs.Calls.{lends, releases_of}
use Rattle.model.specs.SameTasks.{SameTasks}
use Rattle.model.proofs.CheckLaws.{valid_of}
use Rattle.model.proofs.OrderLaws.{accepted_of}
use Rattle.model.proofs.SameAnswers.{refusal_same, answer_same, column_same}
use Rattle.taskset.specs.declared.TaskSet.{TaskSet}
use Rattle.taskset.specs.TaskSet.{no_task, view_of}
use Rattle.fileformat.specs.File.{encode}
use Rattle.fileformat.specs.FileCalls.{tasks_in, write_inputs, file_of}
use Rattle.fileformat.specs.SameWrites.{SameWrites}
use Rattle.fileformat.proofs.TaskSizeLaws.{bytes_needed_same}
use Rattle.fileformat.proofs.RoundTripCalls.{covers}

module _ (s s' : TaskSet) (same : SameTasks (view_of s) (view_of s')) where
  tasks_alike : s.count ≤ length s.tasks → s'.count ≤ length s'.tasks → tasks_in s ≡ tasks_in s'
  unfolding tasks_in
  tasks_alike h h' =
      ext_get_or no_task (take s.count s.tasks) (take s'.count s'.tasks) (length-take-le _ _ h ∙ same.count ∙ sym (length-take-le _ _ h'))
      (λ i l.
      let b : i < s.count = omega (arith, length-take-le s.count s.tasks h) in
      get_or-take s.count s.tasks i no_task b
      ∙ (λ x. record { period = same.period i b x; jitter = same.jitter i b x; cost = same.cost i b x; deadline = same.deadline i b x; low = same.low i b x })
      ∙ sym (get_or-take s'.count s'.tasks i no_task (omega (arith, same.count))))

  module _ (n : ℕ) (task tick cost out : List ℕ) where
    refused_alike : refusal_of (write_inputs (view_of s) n task tick cost (length out)) ≡ refusal_of (write_inputs (view_of s') n task tick cost (length out))
    refused_alike =
        refusal_same (view_of s) (view_of s') same none (some n) _ _ none (releases_of n task tick cost) none none
        (ap (λ b. lends n task ∷ lends n tick ∷ lends n cost ∷ record { needed = b; slots = length out } ∷ [])
        (bytes_needed_same (view_of s) (view_of s') same (releases_of n task tick cost)))
        refl

    -- a set that is not refused has an entry for each of its tasks
    files_alike : none ≡ refusal_of (write_inputs (view_of s) n task tick cost (length out)) → file_of s n task tick cost ≡ file_of s' n task tick cost
    files_alike e =
        ap₂ (λ S l. record { charge = S; tasks = l; releases = releases_of n task tick cost }) same.charge
        (tasks_alike (covers s (valid_of (view_of s) (sym (accepted_of _ e).tasks))) (covers s' (valid_of (view_of s') (sym (accepted_of _ (e ∙ refused_alike)).tasks))))

  -- entries past the count do not matter
  pub same_writes : SameWrites s s'
  same_writes =
      record {
        answer = λ n task tick cost out.
            answer_same _ _ _ _ (refused_alike n task tick cost out) (λ e. ap (λ x. length (encode x)) (files_alike n task tick cost out e));
        bytes = λ n task tick cost out.
            column_same _ _ _ _ out (refused_alike n task tick cost out) (λ e. ap encode (files_alike n task tick cost out e));
      }
