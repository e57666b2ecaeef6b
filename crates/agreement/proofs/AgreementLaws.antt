-- The contracts of both runs over columns that held the same give the same.
use Prim.Native.Nat.{ℕ}
use Rattle.std.specs.Prelude.{Result, Ok, Err}
use mathlib.Core.Path.{◌≡◌, refl, sym, ap, ◌∙◌}
use mathlib.Core.Option.{Option, some, none}
use mathlib.Core.List.{List}
use native.Mathlib.Omega.{arith}
use Rattle.model.specs.Tasks.{Tasks}
use Rattle.model.specs.Refusal as model
use Rattle.model.specs.Refusal.{Answer, refused, answered}
use Rattle.model.specs.Checks.{Inputs, refusal_of, answer_of}
use Rattle.model.specs.Calls.{run_inputs, jump_call}
use Rattle.model.proofs.OrderLaws.{answers, refuses}
use Rattle.refusal.specs.declared.Refusal.{Refusal}
use Rattle.refusal.specs.Refusal.{number_of, refusal_in}
use Rattle.jumps.specs.Jumps.{jump_in}
use Rattle.agreement.specs.Agreement.{Ticked, Jumped, SameEnds}

-- an answer that is a call's answer has the call's refusal
same_refusal : (r : Result ℕ Refusal) (c : Inputs) (a : ℕ) → jump_in r ≡ answer_of c a → refusal_in r ≡ refusal_of c
same_refusal r c a h = go r (refusal_of c) refl h
  where
    go : (x : Result ℕ Refusal) (o : Option model.Refusal) → refusal_of c ≡ o → jump_in x ≡ answer_of c a → refusal_in x ≡ refusal_of c
    go (Ok n) none e g = sym e
    go (Ok n) (some q) e g =
        let f : answered n ≡ refused q = g ∙ sym (refuses c a q (sym e)) in
        let z : ◌≡◌ {A = ℕ} 0 1 = cc in absurd (omega arith)
    go (Err r) none e g =
        let f : refused (record { number = number_of r.reason; place = r.place }) ≡ answered a = g ∙ sym (answers c a (sym e)) in
        let z : ◌≡◌ {A = ℕ} 0 1 = cc in absurd (omega arith)
    go (Err r) (some q) e g =
        let f : ◌≡◌ {A = Answer ℕ} (refused (record { number = number_of r.reason; place = r.place })) (refused q) = g ∙ sym (refuses c a q (sym e)) in
        let y : record { number = number_of r.reason; place = r.place } ≡ q = cc in
        ap some y ∙ sym e

module _ (s : Tasks) (kept : List ℕ) (n : ℕ) (task tick cost ready finish readies finishes : List ℕ) where
  pub same_ends : (ticked : Result Unit Refusal) (jumped : Result ℕ Refusal) (a b c d : List ℕ)
      → Ticked s kept n task tick cost ready finish ticked a b
      → Jumped s kept n task tick cost readies finishes jumped c d
      → ready ≡ readies
      → finish ≡ finishes
      → SameEnds ticked a b jumped c d
  unfolding jump_call
  same_ends ticked jumped a b c d t j g h =
      let j' : Jumped s kept n task tick cost ready finish jumped c d = rw (g, h) j in
      record {
        refusal = t.refusal ∙ sym (same_refusal jumped (run_inputs s kept n task tick cost ready finish) _ j'.answer);
        ready_column = t.ready_column ∙ sym j'.ready_column;
        finish_column = t.finish_column ∙ sym j'.finish_column;
      }
