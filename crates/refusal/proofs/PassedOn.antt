-- What a `?` answers where a call refuses: the same refusal.
use Rattle.std.specs.Prelude.{◌≡◌, Result, Err, IsErrAnd}
use Rattle.std.proofs.Common.{ap, ◌∙◌}
use Rattle.std.proofs.Math.Option.{Option}
use Rattle.std.proofs.lemmas.Result.{err_from_is_err_and}
use Rattle.model.specs.Refusal as model
use Rattle.refusal.specs.declared.Refusal.{Refusal}
use Rattle.refusal.specs.Refusal.{refusal_in, answer_in}

-- the answer itself
pub passed : {A : Type 0} (r : Result A Refusal) (e : Refusal) → IsErrAnd r (λ y. y ≡ e) → r ≡ Err e
passed r e h = let p = err_from_is_err_and r h in p.1 ∙ ap Err p.2

-- the refusal that it holds
pub passed_on
    : {A : Type 0} (r : Result A Refusal) (e : Refusal) {x : Option model.Refusal} → IsErrAnd r (λ y. y ≡ e) → refusal_in {A = A} (Err e) ≡ x → refusal_in r ≡ x
passed_on r e h g = ap refusal_in (passed r e h) ∙ g

-- what it means
pub passed_answer
    : {A B : Type 0} (f : A → B) (r : Result A Refusal) (e : Refusal) {x : model.Answer B} → IsErrAnd r (λ y. y ≡ e) → answer_in f (Err e) ≡ x → answer_in f r ≡ x
passed_answer f r e h g = ap (answer_in f) (passed r e h) ∙ g
