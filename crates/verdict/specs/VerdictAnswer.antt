-- What an answer of the call "verdict" means.
use Rattle.std.specs.Prelude.{pos, Result}
use Rattle.model.specs.Refusal.{Answer}
use Rattle.model.specs.Verdict as model
use Rattle.model.specs.Evaluations.{Judged}
use Rattle.refusal.specs.declared.Refusal.{Refusal}
use Rattle.refusal.specs.Refusal.{answer_in}
use Rattle.verdict.specs.declared.Verdict.{Verdict}
use Rattle.verdict.specs.declared.Verdict.TheVariants.{Horizon, Late, Fits}

-- the verdict of one task, with document 02's number of evaluations n
abbrev pub judged_in : Verdict → Judged
judged_in (Horizon q n) = record { says = model.horizon q; evaluations = n }
judged_in (Late q r n) = record { says = model.late q (pos r); evaluations = n }
judged_in (Fits r q n) = record { says = model.fits (pos r) q; evaluations = n }

-- document 01's answer of the call "verdict of one task"
abbrev pub verdict_in : Result Verdict Refusal → Answer Judged
verdict_in = answer_in judged_in
