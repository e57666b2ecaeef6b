-- "The same as the ticking run": what both runs of the same list have in common.
use Rattle.std.specs.Prelude.{ℕ, ◌≡◌, List, Result}
use Rattle.model.specs.Tasks.{Tasks}
use Rattle.model.specs.Choice.{column}
use Rattle.model.specs.Checks.{refusal_of}
use Rattle.model.specs.Ready.{ready_list}
use Rattle.model.specs.Run.{finish_list}
use Rattle.model.specs.Calls.{releases_of, column_after, run_inputs, jump_call}
use Rattle.refusal.specs.declared.Refusal.{Refusal}
use Rattle.refusal.specs.Refusal.{refusal_in}
use Rattle.jumps.specs.Jumps.{jump_in}

-- what the ticking run answers and leaves in its columns
pub record Ticked (s : Tasks) (kept : List ℕ) (n : ℕ) (task tick cost ready finish : List ℕ) (r : Result Unit Refusal) (ready' finish' : List ℕ) : Type 0 where
  pub refusal : refusal_in r ≡ refusal_of (run_inputs s kept n task tick cost ready finish)
  pub ready_column
      : ready' ≡ column_after (refusal_of (run_inputs s kept n task tick cost ready finish)) (ready_list s (column kept) (releases_of n task tick cost)) ready
  pub finish_column
      : finish' ≡ column_after (refusal_of (run_inputs s kept n task tick cost ready finish)) (finish_list s (column kept) (releases_of n task tick cost)) finish

-- what the run that jumps answers and leaves in its columns
pub record Jumped (s : Tasks) (kept : List ℕ) (n : ℕ) (task tick cost ready finish : List ℕ) (r : Result ℕ Refusal) (ready' finish' : List ℕ) : Type 0 where
  pub answer : jump_in r ≡ jump_call s kept n task tick cost ready finish
  pub ready_column
      : ready' ≡ column_after (refusal_of (run_inputs s kept n task tick cost ready finish)) (ready_list s (column kept) (releases_of n task tick cost)) ready
  pub finish_column
      : finish' ≡ column_after (refusal_of (run_inputs s kept n task tick cost ready finish)) (finish_list s (column kept) (releases_of n task tick cost)) finish

-- the ticking run's answer and columns, and those of the run that jumps: "the same columns and the same refusals"
pub record SameEnds (ticked : Result Unit Refusal) (ready finish : List ℕ) (jumped : Result ℕ Refusal) (readies finishes : List ℕ) : Type 0 where
  pub refusal : refusal_in ticked ≡ refusal_in jumped
  pub ready_column : ready ≡ readies
  pub finish_column : finish ≡ finishes
