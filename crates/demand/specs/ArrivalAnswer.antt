-- What an answer of the call "arrival count" means.
use Rattle.std.specs.Prelude.{ℕ, Result}
use Rattle.model.specs.Refusal.{Answer}
use Rattle.refusal.specs.declared.Refusal.{Refusal}
use Rattle.refusal.specs.Refusal.{answer_in}

-- document 01's answer of the call "arrival count"
abbrev pub arrival_in : Result ℕ Refusal → Answer ℕ
arrival_in = answer_in (λ n. n)
