-- The reader tells the file's refusal, the number of releases, or how many slots they need.
use mathlib.Core.Path.{sym, ap, ◌∙◌}
use Rattle.refusal.specs.Refusal.{number_of, reason_of}
use Rattle.refusal.proofs.ReasonNumbers.{reason_of_number}
use Rattle.nolkrada.proofs.ReadLaws.{count_read, count_few, count_refused}
use Rattle.nolkrada.proofs.releases_in.Goals as goal

pub returns-in-Ok : goal.returns-in-Ok
returns-in-Ok c = count_read _ _ _ _ _ c.in-Ok.ensures.outcome

pub returns-in-ShortSlice : goal.returns-in-ShortSlice
returns-in-ShortSlice c = count_few _ _ _ _ _ _ (ap number_of c.in-ShortSlice.is) c.in-Err.ensures.outcome

pub returns-in_default : goal.returns-in_default
returns-in_default c =
    count_refused _ _ _ _ _ _ (λ e. c.in_default.not-ShortSlice (sym (reason_of_number _) ∙ ap reason_of e)) c.in-Err.ensures.outcome
