-- "Entries of a sheet past its count .. do not matter": a write of either of two task sets, whatever else goes in.
-- proofs/SameWriteLaws.antt proves it where their sheets agree below the count, `SameTasks` (`same_writes`).
use Rattle.std.specs.Prelude.{ℕ, ◌≡◌, List, length}
use Rattle.model.specs.Checks.{refusal_of, answer_of}
use Rattle.model.specs.Calls.{column_after}
use Rattle.taskset.specs.declared.TaskSet.{TaskSet}
use Rattle.taskset.specs.TaskSet.{view_of}
use Rattle.fileformat.specs.File.{encode}
use Rattle.fileformat.specs.FileCalls.{write_inputs, file_of}

-- the same answer, a refusal or the number of bytes, and the same in the lent bytes afterwards
pub record SameWrites (s s' : TaskSet) : Type 0 where
  pub answer
      : (n : ℕ) (task tick cost out : List ℕ)
      → answer_of (write_inputs (view_of s) n task tick cost (length out)) (length (encode (file_of s n task tick cost)))
      ≡ answer_of (write_inputs (view_of s') n task tick cost (length out)) (length (encode (file_of s' n task tick cost)))
  pub bytes
      : (n : ℕ) (task tick cost out : List ℕ)
      → column_after (refusal_of (write_inputs (view_of s) n task tick cost (length out))) (encode (file_of s n task tick cost)) out
      ≡ column_after (refusal_of (write_inputs (view_of s') n task tick cost (length out))) (encode (file_of s' n task tick cost)) out
