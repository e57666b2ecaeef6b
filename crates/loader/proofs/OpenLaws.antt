-- While a text is not decided, what follows counts: a line that goes on with a letter has another form, and a line that goes on to four numbers has not.
use Prim.Native.Nat.{ℕ, zero, suc, ◌+◌, ◌-◌, ◌≤◌, ◌<◌}
use mathlib.Core.Path.{◌≡◌, refl, sym, ap, subst, ◌∙◌}
use mathlib.Core.Bool.{Bool, true, false, true≢false}
use mathlib.Core.Logic.{⊎_elim}
use mathlib.Core.Option.{Option, some, none}
use mathlib.Core.List.{List, [], ◌∷◌, ◌++◌}
use native.Mathlib.Omega.{arith}
use lib.Dec.{eqb, ltb}
use borrow.Author.Tests.{eqb-true, eqb-false, ltb-true, ltb-false}
use Rattle.std.specs.Prelude.{Result, Ok, Err}
use Rattle.model.specs.Refusal as model
use Rattle.model.specs.Refusal.{Answer, refused, answered}
use Rattle.refusal.specs.declared.Refusal.{Refusal}
use Rattle.refusal.specs.Refusal.{number_of, reason_of}
use Rattle.taskset.specs.declared.Task.{Task}
use Rattle.taskset.specs.declared.TaskSet.{TaskSet}
use Rattle.fileformat.specs.File.{task_fault}
use Rattle.text.specs.Text.{line_feed}
use Rattle.textformat.specs.Numerals.{is_digit}
use Rattle.textformat.specs.Lines.{comma}
use Rattle.textformat.specs.TextSheet.{load}
use Rattle.textformat.proofs.TextPlaces.{task_number}
use Rattle.loader.specs.declared.LineSoFar.{LineSoFar}
use Rattle.loader.specs.declared.Taken.{Taken}
use Rattle.loader.specs.declared.Taken.TheVariants.{Goes, Ends, Broken}
use Rattle.loader.specs.declared.Loader.{Loader}
use Rattle.loader.specs.Loader.{with_digit, with_comma, task_so_far, after_zero, taken, fresh, going, halted, pushed, after, stepped, fed, begun, decided, closed, loaded_in}
use Rattle.loader.specs.Pieces.{Open, UndecidedOpen}
use Rattle.loader.proofs.TakenLaws.{taken_leading, taken_digit, taken_early, taken_comma, taken_comma_over, taken_other, taken_short, taken_end}
use Rattle.loader.proofs.PieceLaws.{pieces_join}
use Rattle.loader.proofs.LoadLaws.{known_task, closed_says, closed_fine}

-- what a byte may do to a line so far
data Takes (m : LineSoFar) (b : ℕ) : Taken → Type 0 where
  breaks : Takes m b Broken
  counts : Takes m b (Goes (with_digit m (b - 48)))
  parts : m.commas < 3 → Takes m b (Goes (with_comma m))
  ends : Takes m b (Ends (task_so_far m))

takes : (m : LineSoFar) (b : ℕ) → Takes m b (taken m b)
takes m b = go (is_digit b) refl (after_zero m) refl (eqb b comma) refl m.digit refl (ltb m.commas 3) refl (eqb b line_feed) refl (eqb m.commas 3) refl
  where
    go
        : (d : Bool) → is_digit b ≡ d → (z : Bool) → after_zero m ≡ z → (c : Bool) → eqb b comma ≡ c → (n : Bool) → m.digit ≡ n → (l : Bool) → ltb m.commas 3 ≡ l
        → (f : Bool) → eqb b line_feed ≡ f → (k : Bool) → eqb m.commas 3 ≡ k → Takes m b (taken m b)
    go true d true z c e n g l h f i k j = subst (Takes m b) (taken_leading m b d z) breaks
    go true d false z c e n g l h f i k j = subst (Takes m b) (taken_digit m b d z) counts
    go false d x z c e false g l h f i k j = subst (Takes m b) (taken_early m b d g) breaks
    go false d x z true e true g true h f i k j = subst (Takes m b) (taken_comma m b d (eqb-true _ _ e) g (ltb-true _ _ h)) (parts (ltb-true _ _ h))
    go false d x z true e true g false h f i k j = subst (Takes m b) (taken_comma_over m b d (eqb-true _ _ e) (ltb-false _ _ h)) breaks
    go false d x z false e true g l h false i k j = subst (Takes m b) (taken_other m b d (eqb-false _ _ e) (eqb-false _ _ i)) breaks
    go false d x z false e true g l h true i false j = subst (Takes m b) (taken_short m b d (eqb-true _ _ i) (eqb-false _ _ j)) breaks
    go false d x z false e true g l h true i true j = subst (Takes m b) (taken_end m b d (eqb-true _ _ i) g (eqb-true _ _ j)) ends

-- a line so far has at most three commas
after_few : (s : Loader) (b : ℕ) (t : Taken) → Takes s.line b t → s.line.commas ≤ 3 → (after s t).line.commas ≤ 3
unfolding after halted pushed with_digit with_comma
after_few s b _ breaks h = h
after_few s b _ counts h = h
after_few s b _ (parts l) h = omega arith
after_few s b _ ends h = go (task_fault 0 s.tasks.count 0 (task_so_far s.line)) refl
  where
    go : (o : Option ℕ) → task_fault 0 s.tasks.count 0 (task_so_far s.line) ≡ o → (after s (Ends (task_so_far s.line))).line.commas ≤ 3
    go (some k) e = rw (after, e) h
    go none e = rw (after, e) (omega arith)

fed_few : (l : List ℕ) (s : Loader) → s.line.commas ≤ 3 → (fed s l).line.commas ≤ 3
unfolding fed stepped
fed_few [] s h = h
fed_few (b ∷ l) s h = fed_few l (stepped s b) (go s.answer refl)
  where
    go : (a : Result Unit Refusal) → s.answer ≡ a → (stepped s b).line.commas ≤ 3
    go (Ok u) e = rw (stepped, e) (after_few s b _ (takes s.line b) h)
    go (Err q) e = rw (stepped, e) h

-- an answer that is not 16
abbrev Formed : Answer (List Task) → Type 0
Formed a = (n : ℕ) → a ≡ refused (record { number = 16; place = n }) → ⊥

formed_refused : (k p : ℕ) → (k ≡ 16 → ⊥) → Formed (refused (record { number = k; place = p }))
formed_refused k p h n e =
    let w : ◌≡◌ {A = model.Refusal} (record { number = k; place = p }) (record { number = 16; place = n }) = cc in
    h (ap (λ (r : model.Refusal). r.number) w)

formed_answered : (ts : List Task) → Formed (answered ts)
formed_answered ts n e = let z : ◌≡◌ {A = ℕ} 0 1 = cc in omega arith

-- a line feed after four numbers
formed_end : (s : TaskSet) (m : LineSoFar) → m.digit ≡ true → m.commas ≡ 3 → Formed (loaded_in (closed (fed (going s m) (line_feed ∷ []))))
unfolding fed stepped is_digit closed begun after halted pushed
formed_end s m d c = subst (λ t. Formed (loaded_in (closed (after (going s m) t)))) (taken_end m line_feed refl refl d c) (go (task_fault 0 s.count 0 (task_so_far m)) refl)
  where
    go : (o : Option ℕ) → task_fault 0 s.count 0 (task_so_far m) ≡ o → Formed (loaded_in (closed (after (going s m) (Ends (task_so_far m)))))
    go (some k) e = rw (after, e) (formed_refused (number_of (reason_of k)) s.count (λ y. let z : k ≡ 16 = sym (known_task s.count (task_so_far m) k e) ∙ y in ⊎_elim (λ f. omega arith) (λ f. omega arith) (task_number s.count (task_so_far m) k e)))
    go none e =
        rw (after, e) (subst (λ r. Formed (loaded_in r)) (closed_fine (pushed (going s m) (task_so_far m)) refl refl (omega arith)) (formed_answered _))

-- as many numbers as are missing, and a line feed
rest : ℕ → List ℕ
rest zero = line_feed ∷ []
rest (suc k) = comma ∷ 49 ∷ rest k

formed_rest : (k : ℕ) (s : TaskSet) (m : LineSoFar) → m.digit ≡ true → m.commas + k ≡ 3 → Formed (loaded_in (closed (fed (going s m) (rest k))))
unfolding rest fed stepped is_digit after after_zero with_comma with_digit
formed_rest zero s m d c = formed_end s m d (omega arith)
formed_rest (suc k) s m d c =
    subst (λ t. Formed (loaded_in (closed (fed (stepped (after (going s m) t) 49) (rest k))))) (taken_comma m comma refl refl d (omega arith))
    (subst (λ t. Formed (loaded_in (closed (fed (after (going s (with_comma m)) t) (rest k))))) (taken_digit (with_comma m) 49 refl refl)
    (formed_rest k s (with_digit (with_comma m) 1) refl (omega arith)))

-- so a line so far can go on to four numbers
complete : LineSoFar → List ℕ
complete m = elim m.digit [ true ↦ rest (3 - m.commas) | false ↦ 49 ∷ rest (3 - m.commas) ]

formed_complete : (s : TaskSet) (m : LineSoFar) → m.commas ≤ 3 → Formed (loaded_in (closed (fed (going s m) (complete m))))
unfolding complete fed stepped is_digit after after_zero with_digit
formed_complete s m h = go m.digit refl
  where
    go : (x : Bool) → m.digit ≡ x → Formed (loaded_in (closed (fed (going s m) (complete m))))
    go true d =
        let w : complete m ≡ rest (3 - m.commas) = rw (complete, d) in
        subst (λ l. Formed (loaded_in (closed (fed (going s m) l)))) (sym w) (formed_rest (3 - m.commas) s m d (omega arith))
    go false d =
        let z : after_zero m ≡ false = rw (after_zero, d) in
        let w : complete m ≡ 49 ∷ rest (3 - m.commas) = rw (complete, d) in
        subst (λ l. Formed (loaded_in (closed (fed (going s m) l)))) (sym w)
        (subst (λ t. Formed (loaded_in (closed (fed (after (going s m) t) (rest (3 - m.commas)))))) (taken_digit m 49 refl z)
        (formed_rest (3 - m.commas) s (with_digit m 1) refl (omega arith)))

-- and a letter breaks it
broken_letter : (s : TaskSet) (m : LineSoFar) → loaded_in (closed (fed (going s m) (120 ∷ []))) ≡ refused (record { number = 16; place = s.count })
unfolding fed stepped is_digit after halted closed
broken_letter s m =
    ap (λ t. loaded_in (closed (after (going s m) t))) (sym (taken_other m 120 refl (λ e. omega arith) (λ e. omega arith)))

-- what a text answers that goes on from here
goes_on : (text more : List ℕ) → load (text ++ more) ≡ loaded_in (closed (fed (fed fresh text) more))
goes_on text more = sym (closed_says (text ++ more)).answer ∙ ap (λ q. loaded_in (closed q)) (sym (pieces_join fresh text more))

open_from : (text : List ℕ) (s : Loader) → s ≡ fed fresh text → s.line.commas ≤ 3 → s.answer ≡ Ok tt → Open text
open_from text s e h f =
    let a : s ≡ going s.tasks s.line = ap (λ q. record { tasks = s.tasks; line = s.line; answer = q }) f in
    let g : (more : List ℕ) → load (text ++ more) ≡ loaded_in (closed (fed (going s.tasks s.line) more)) =
    λ more. goes_on text more ∙ ap (λ q. loaded_in (closed (fed q more))) (sym e ∙ a) in
    record {
      one = 120 ∷ [];
      other = complete s.line;
      differ =
          λ w. formed_complete s.tasks s.line h s.tasks.count
          (sym (g (complete s.line)) ∙ sym w ∙ g (120 ∷ []) ∙ broken_letter s.tasks s.line);
    }

pub undecided_open : UndecidedOpen
unfolding decided
undecided_open text e = go (fed fresh text).answer refl
  where
    go : (a : Result Unit Refusal) → (fed fresh text).answer ≡ a → Open text
    go (Ok u) h = open_from text (fed fresh text) refl (fed_few text fresh (omega arith)) h
    go (Err q) h = absurd (true≢false (sym (rw h) ∙ e))
