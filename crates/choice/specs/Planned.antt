-- How the evaluations of a choice are planned (document 02, R-8). proofs/PlannedLaws.antt proves it (`planned_choice`).
use Rattle.std.specs.Prelude.{ℕ, ◌≤◌, ◌<◌, ◌≡◌, List, map, get_or, take, ℤ, pos}
use Rattle.model.specs.Series.{sum}
use Rattle.model.specs.Tasks.{Tasks, Valid}
use Rattle.model.specs.Verdict.{fits}
use Rattle.model.specs.Evaluations.{evaluations}
use Rattle.model.specs.Choice.{column, ordinary}
use Rattle.model.specs.Refusal.{answered}
use Rattle.model.specs.Calls.{verdict_call}
use Rattle.choice.specs.declared.Choices.{Choices}
use Rattle.choice.specs.Choices.{ChoicesAre}

-- a choice of kept jitters ks and worst values ws that took n evaluations
pub record Planned (s : Tasks) (ks : List ℕ) (ws : List ℤ) (n : ℕ) : Type 0 where
  -- the verdict of each task at the chosen kept jitters answers "fits" with the worst value chosen, and a number of evaluations
  pub answers
      : (i : ℕ) → i < s.count
      → (q : ℕ) × (verdict_call s i ks ≡ answered (record { says = fits (get_or ws i (pos 0)) q; evaluations = evaluations s (column ks) i }))
  -- these numbers, added up, are the evaluations of the choice
  pub adds_up : n ≡ sum (λ i. evaluations s (column ks) i) s.count

-- so it is of an ordinary choice where every task fits, n being what the choice has counted
abbrev pub PlannedChoice : Type 0
PlannedChoice =
    (s : Tasks) → Valid s → (r : Choices) → ChoicesAre ordinary s r → s.count ≤ r.fitted
    → Planned s (take s.count r.keep) (map pos (take s.count r.worst)) r.evaluations
