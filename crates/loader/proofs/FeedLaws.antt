-- What each byte does to a loader, and where the loader stands in a piece of text.
use Prim.Native.Nat.{ℕ, suc, ◌+◌, ◌≤◌, ◌<◌}
use mathlib.Core.Path.{◌≡◌, refl, sym, ap, ap₂, ◌∙◌}
use mathlib.Core.Bool.{true, false}
use mathlib.Core.Option.{none}
use mathlib.Core.List.{List, [], ◌∷◌}
use native.Mathlib.Numerals.{add-one}
use lib.ListN.{length, get_or, drop, set, drop_of_length-le}
use lib.Seq.{drop-cons}
use Rattle.std.specs.Prelude.{Result, Ok, Err}
use Rattle.std.specs.Result.{is_err}
use Rattle.model.specs.Limits.{max_tasks}
use Rattle.model.specs.Refusal as model
use Rattle.model.specs.Checks.{fault_at}
use Rattle.model.proofs.CheckLaws.{fault_of_lem, faultless_of}
use Rattle.refusal.specs.declared.Refusal.{Refusal}
use Rattle.refusal.specs.Refusal.{number_of, reason_of}
use Rattle.refusal.proofs.ReasonNumbers.{reason_of_number}
use Rattle.taskset.specs.declared.Task.{Task}
use Rattle.taskset.specs.declared.TaskSet.{TaskSet}
use Rattle.fileformat.specs.File.{task_fault}
use Rattle.fileformat.proofs.StepLaws.{task_few}
use Rattle.loader.specs.declared.LineSoFar.{LineSoFar}
use Rattle.loader.specs.declared.Taken.TheVariants.{Goes, Ends, Broken}
use Rattle.loader.specs.declared.Loader.{Loader}
use Rattle.loader.specs.Loader.{no_line, taken, going, halted, pushed, after, stepped, fed}

-- a loader that is refused with a number and a place
abbrev pub stopped : TaskSet → LineSoFar → ℕ → ℕ → Loader
stopped s m k p = record { tasks = s; line = m; answer = Err (record { reason = reason_of k; place = p }) }

-- one byte, given what it does to the line
module _ (s : TaskSet) (m : LineSoFar) (b : ℕ) where
  pub step_goes : (m' : LineSoFar) → Goes m' ≡ taken m b → going s m' ≡ stepped (going s m) b
  unfolding stepped after
  step_goes m' e = ap (after (going s m)) e

  pub step_broken : Broken ≡ taken m b → stopped s m 16 s.count ≡ stepped (going s m) b
  unfolding stepped after halted
  step_broken e = ap (after (going s m)) e

  module _ (t : Task) (e : Ends t ≡ taken m b) where
    pub step_stops
        : (r : Result Unit Refusal) (q : Refusal) → r ≡ Err q → model.refuse (number_of q.reason) q.place ≡ fault_at s.count (task_fault 0 s.count 0 t)
        → record { tasks = s; line = m; answer = r } ≡ stepped (going s m) b
    unfolding stepped after halted
    step_stops r q f g =
        let w = fault_of_lem s.count _ (record { number = number_of q.reason; place = q.place }) g in
        let p : q.place ≡ s.count = ap (λ (x : model.Refusal). x.place) w.1 in
        let a : after (going s m) (Ends t) ≡ stopped s m (number_of q.reason) s.count = rw (after, w.0) in
        ap (λ (x : Result Unit Refusal). record { tasks = s; line = m; answer = x })
        (f ∙ ap₂ (λ c n. Err (record { reason = c; place = n })) (sym (reason_of_number q.reason)) p)
        ∙ sym a
        ∙ ap (after (going s m)) e

    pub step_few : none ≡ fault_at s.count (task_fault 0 s.count 0 t) → s.count < max_tasks
    step_few g = task_few _ _ _ t (faultless_of s.count _ g)

    pub step_pushes
        : none ≡ fault_at s.count (task_fault 0 s.count 0 t) → (m' : LineSoFar) → m' ≡ no_line
        → going (record { tasks = set s.tasks s.count t; count = s.count + 1; charge = s.charge }) m' ≡ stepped (going s m) b
    unfolding stepped after pushed
    step_pushes g m' z =
        let a : after (going s m) (Ends t) ≡ pushed (going s m) t = rw (after, faultless_of s.count _ g) in
        ap (going (record { tasks = set s.tasks s.count t; count = s.count + 1; charge = s.charge })) z ∙ sym a ∙ ap (after (going s m)) e

-- what is refused stays so
step_refused : (s : Loader) (q : Refusal) (b : ℕ) → s.answer ≡ Err q → stepped s b ≡ s
unfolding stepped
step_refused s q b e = ap (λ (x : Result Unit Refusal). elim x [ Ok u ↦ after s (taken s.line b) | Err p ↦ s ]) e

pub fed_refused : (s : Loader) (q : Refusal) (l : List ℕ) → s.answer ≡ Err q → fed s l ≡ s
unfolding fed
fed_refused s q [] e = refl
fed_refused s q (b ∷ l) e = ap (λ x. fed x l) (step_refused s q b e) ∙ fed_refused s q l e

pub fed_decided : (s : Loader) (l : List ℕ) → is_err s.answer ≡ true → fed s l ≡ s
fed_decided s l h = go s.answer refl
  where
    go : (r : Result Unit Refusal) → s.answer ≡ r → fed s l ≡ s
    go (Ok u) e = let w : true ≡ false = sym h ∙ ap is_err e in cc
    go (Err q) e = fed_refused s q l e

-- a loader that is not refused
pub undecided : (s : Loader) → is_err s.answer ≡ false → s ≡ going s.tasks s.line
undecided s n = go s.answer refl
  where
    go : (r : Result Unit Refusal) → s.answer ≡ r → s ≡ going s.tasks s.line
    go (Err q) g = let w : true ≡ false = sym (ap is_err g) ∙ n in cc
    go (Ok u) g = ap (λ (x : Result Unit Refusal). record { tasks = s.tasks; line = s.line; answer = x }) g

-- one byte of a piece: what is left of it is fed to the loader after the byte
pub feeding_next
    : (s t : Loader) (a : Loader) (piece : List ℕ) (i : ℕ) → fed s piece ≡ fed a (drop i piece) → i < length piece → is_err a.answer ≡ false
    → t ≡ stepped (going a.tasks a.line) (get_or piece i 0) → fed s piece ≡ fed t (drop (i + 1) piece)
unfolding fed
feeding_next s t a piece i f h n e =
    f ∙ ap (fed a) (drop-cons piece i 0 h)
    ∙ rw add-one (ap (λ x. fed x (drop (suc i) piece)) (ap (λ x. stepped x (get_or piece i 0)) (undecided a n) ∙ sym e))

-- what a step answers is the answer of the loader after it
pub answered_by
    : (s : TaskSet) (m : LineSoFar) (r q : Result Unit Refusal) (t : Loader) → r ≡ q → record { tasks = s; line = m; answer = r } ≡ t
    → record { tasks = s; line = m; answer = q } ≡ t
answered_by s m r q t e h = ap (λ (x : Result Unit Refusal). record { tasks = s; line = m; answer = x }) (sym e) ∙ h

-- the whole piece
pub feeding_ends : (s a : Loader) (piece : List ℕ) (i : ℕ) → fed s piece ≡ fed a (drop i piece) → length piece ≤ i → a ≡ fed s piece
unfolding fed
feeding_ends s a piece i f h = sym (f ∙ ap (fed a) (drop_of_length-le piece {i = i} h))

-- the rest is not looked at
pub feeding_stops : (s a : Loader) (piece : List ℕ) (i : ℕ) → fed s piece ≡ fed a (drop i piece) → is_err a.answer ≡ true → a ≡ fed s piece
feeding_stops s a piece i f h = sym (f ∙ fed_decided a (drop i piece) h)
