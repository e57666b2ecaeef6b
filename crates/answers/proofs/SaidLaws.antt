-- The text that follows from what the calls say.
use Prim.Native.Nat.{ℕ, zero, suc, ◌+◌, ◌≤◌}
use mathlib.Core.Path.{◌≡◌, refl, sym, ap, ◌∙◌}
use mathlib.Core.Option.{none}
use mathlib.Core.List.{List, [], ◌∷◌, ◌++◌, map}
use native.Mathlib.Omega.{arith}
use lib.ListN.{length, get_or, drop, replicate, length-map, length-append}
use lib.Seq.{get_or-drop}
use lib.IntN.{nat_abs}
use Rattle.model.specs.Tasks.{Tasks}
use Rattle.model.specs.Checks.{check_tasks, refusal_of}
use Rattle.model.specs.Refusal.{answered, refused}
use Rattle.model.specs.Choice.{unfit, column, scope, choice}
use Rattle.model.specs.Calls.{column_after, choice_inputs, choice_call, kept_column, worst_column}
use Rattle.model.proofs.CheckLaws.{Chosen}
use Rattle.model.proofs.OrderLaws.{answered_of, refused_of}
use Rattle.choice.specs.Choices.{extent_in}
use Rattle.response.proofs.ChoiceLaws.{choice_length, chosen_to}
use Rattle.report.specs.Report.{choice_text, refusal_text}
use Rattle.answers.specs.Answers.{chosen_text, sheet_text, list_text}
use Rattle.answers.proofs.AnswerColumnLaws.{choice_text_same}
use Rattle.answers.proofs.AcceptedCallLaws.{choice_refused, choice_fine, keeps_pass}
use Rattle.answers.specs.Listed.{kept_text}
use Rattle.answers.specs.declared.Chosen.{Chosen as Columns}
use Rattle.answers.specs.Tried.{Made}

-- a column of 0s, as far as it goes
abbrev pub Zeros : List ℕ → Type 0
Zeros z = (i : ℕ) → get_or z i 0 ≡ 0

pub zeros_rest : (n m : ℕ) → Zeros (drop m (replicate n 0))
zeros_rest n m i = get_or-drop m (replicate n 0) i 0 ∙ zeros n (m + i)
  where
    zeros : (k x : ℕ) → ◌≡◌ {A = ℕ} (get_or (replicate k 0) x 0) 0
    zeros zero x = refl
    zeros (suc k) zero = refl
    zeros (suc k) (suc x) = zeros k x

pad_zeros : (l z : List ℕ) → Zeros z → (i : ℕ) → get_or (l ++ z) i 0 ≡ get_or l i 0
pad_zeros [] z h i = h i
pad_zeros (x ∷ l) z h zero = refl
pad_zeros (x ∷ l) z h (suc i) = pad_zeros l z h i

-- kept jitters followed by 0s are the same kept jitters
same_column_lem : (l z : List ℕ) → Zeros z → column (l ++ z) ≡ column l
same_column_lem l z h = λ t i. pad_zeros l z h i t

module _ (s : Tasks) (kept worst : List ℕ) (ok : none ≡ check_tasks s) (hk : s.count ≤ length kept) (hw : s.count ≤ length worst) where
  -- a refused choice
  pub not_chosen
      : (n p : ℕ) → refused (record { number = n; place = p }) ≡ choice_call s kept worst → (15 ≡ n) × (choice s ≡ unfit p)
  unfolding choice_call
  not_chosen n p h =
      choice_refused s kept worst ok hk hw n p (refused_of (choice_inputs s kept worst) (scope s) (record { number = n; place = p }) (sym h))

  -- a choice that was made
  pub made
      : (c : Columns) → answered (extent_in c.extent) ≡ choice_call s kept worst
      → c.keep ≡ column_after (refusal_of (choice_inputs s kept worst)) (kept_column (choice s)) kept
      → c.worst ≡ column_after (refusal_of (choice_inputs s kept worst)) (worst_column (choice s)) worst
      → Zeros (drop (length (kept_column (choice s))) kept) → Made s c
  unfolding choice_call chosen_text list_text kept_text column_after kept_column worst_column
  made c h ek ew z = go (choice_fine s kept worst fine)
    where
      both : (none ≡ refusal_of (choice_inputs s kept worst)) × (scope s ≡ extent_in c.extent)
      both = answered_of (choice_inputs s kept worst) (scope s) (extent_in c.extent) (sym h)

      fine : none ≡ refusal_of (choice_inputs s kept worst)
      fine = both.0

      go : Chosen (choice s) → Made s c
      go d =
          let ks : List ℕ = d.keeps in
          let ws : List ℕ = map nat_abs d.worsts in
          let ak : c.keep ≡ ks ++ drop (length ks) kept = rw (← fine, d.is) at ek in
          let aw : c.worst ≡ ws ++ drop (length ws) worst = rw (← fine, d.is) at ew in
          let zs : Zeros (drop (length ks) kept) = rw d.is at z in
          let long : s.count ≤ length ks = omega (arith, choice_length (scope s) s ks d.worsts d.is) in
          let first : choice_text (extent_in c.extent) s c.keep c.worst ≡ choice_text (extent_in c.extent) s ks ws =
          rw (ak, aw)
          (choice_text_same (extent_in c.extent) s ks ws (drop (length ks) kept) (drop (length ws) worst) long
          (omega (arith, length-map d.worsts nat_abs, (chosen_to (scope s) s s.count ks d.worsts d.is).long_worst))) in
          let same : column c.keep ≡ column ks = ap column ak ∙ same_column_lem ks (drop (length ks) kept) zs in
          record {
            text = first ∙ ap (λ x. choice_text x s ks ws) (sym both.1) ∙ ap (chosen_text (scope s) s) (sym d.is);
            kept = record {
              long = omega (arith, ap length ak, length-append ks (drop (length ks) kept), long);
              within = rw same (rw (same_column_lem ks (drop (length ks) kept) zs) at (keeps_pass s ks d.worsts (drop (length ks) kept) d.is));
            };
            list = λ m x y v. rw (same, d.is);
          }

-- what is printed where no choice was made
pub unfit_sheet : (s : Tasks) (n p : ℕ) → (15 ≡ n) × (choice s ≡ unfit p) → refusal_text n p ≡ sheet_text s
unfolding chosen_text
unfit_sheet s n p u = rw (← u.0, u.1)

pub unfit_list : (s : Tasks) (n p m : ℕ) (a b c : List ℕ) → (15 ≡ n) × (choice s ≡ unfit p) → refusal_text n p ≡ list_text s m a b c (choice s)
unfolding list_text
unfit_list s n p m a b c u = rw (← u.0, u.1)
