-- The earliest line decides: what the lines before say, whatever follows.
use Prim.Native.Nat.{ℕ, suc, ◌<◌, ◌+◌}
use mathlib.Core.Path.{◌≡◌, refl, sym, ap, ◌∙◌}
use mathlib.Core.Bool.{false}
use mathlib.Core.Option.{Option, some, none}
use mathlib.Core.List.{List, [], ◌∷◌, ◌++◌, map, append_assoc, append-nil}
use native.Mathlib.Omega.{arith}
use lib.ListN.{length, get_or, length-append, length-map}
use lib.Seq.{append_snoc}
use Rattle.model.specs.Refusal.{Refusal, refused, answered}
use Rattle.taskset.specs.declared.Task.{Task}
use Rattle.taskset.specs.TaskSet.{no_task}
use Rattle.fileformat.specs.File.{task_fault}
use Rattle.fileformat.proofs.StepLaws.{end_early, end_fine}
use Rattle.textformat.specs.Lines.{Line, lines_of}
use Rattle.textformat.specs.TextSheet.{has_form, line_fault, load_from, load, line_text, text_of}
use Rattle.textformat.specs.TextTrips.{as_high, OtherForm, EarlierDecides}
use Rattle.textformat.proofs.TextTrips.{line_of, text_lines, sheet_lines, line_fault_lem, load_stop, load_none, load_end, task_line}

-- the lines of the text of some tasks, and those after it
pub lines_after : (ts : List Task) (rest : List ℕ) → lines_of (text_of ts ++ rest) ≡ map line_of ts ++ lines_of rest
unfolding text_of
lines_after [] rest = refl
lines_after (t ∷ ts) rest =
    ap lines_of (append_assoc (line_text t) (text_of ts) rest) ∙ text_lines t (text_of ts ++ rest) ∙ ap (λ x. line_of t ∷ x) (lines_after ts rest)

-- lines of tasks without a fault are taken, whatever follows them
pub all_taken
    : (us ts : List Task) (l : List Line) → ((i : ℕ) → i < length us → task_fault 0 (length ts + i) 0 (get_or us i no_task) ≡ none)
    → load_from ts (map line_of us ++ l) ≡ load_from (ts ++ map as_high us) l
all_taken [] ts l h = ap (λ x. load_from x l) (sym (append-nil ts))
all_taken (t ∷ us) ts l h =
    let a : length ts ≡ length ts + 0 = omega arith in
    task_line ts t (map line_of us ++ l) (ap (λ n. task_fault 0 n 0 t) a ∙ h 0 (omega arith)) ∙ all_taken us (ts ++ (as_high t ∷ [])) l after
    ∙ ap (λ x. load_from x l) (append_snoc ts (as_high t) (map as_high us))
  where
    after : (i : ℕ) → i < length us → task_fault 0 (length (ts ++ (as_high t ∷ [])) + i) 0 (get_or us i no_task) ≡ none
    after i g =
        let b : length (ts ++ (as_high t ∷ [])) + i ≡ length ts + suc i = omega (arith, length-append ts (as_high t ∷ [])) in
        ap (λ n. task_fault 0 n 0 (get_or us i no_task)) b ∙ h (suc i) (omega arith)

-- a line of another form
pub other_line : (ts : List Task) (x : Line) (l : List Line) → has_form x ≡ false → load_from ts (x ∷ l) ≡ refused (record { number = 16; place = length ts })
unfolding line_fault
other_line ts x l e = load_stop ts x l 16 (rw (line_fault, e))

-- a line of another form after lines that are accepted
pub other_form : OtherForm
unfolding load
other_form ts rest x l h e f =
    ap (load_from []) (lines_after ts rest ∙ ap (λ y. map line_of ts ++ y) e) ∙ all_taken ts [] (x ∷ l) fine ∙ other_line (map as_high ts) x l f
    ∙ ap (λ n. refused (record { number = 16; place = n })) (length-map ts as_high)
  where
    fine : (i : ℕ) → i < length ts → task_fault 0 (0 + i) 0 (get_or ts i no_task) ≡ none
    fine i g = let a : 0 + i ≡ i = omega arith in ap (λ n. task_fault 0 n 0 (get_or ts i no_task)) a ∙ h i g

-- the refusal at the end is 5
end_refused : (ts : List Task) (r : Refusal) → load_from ts [] ≡ refused r → r.number ≡ 5
end_refused [] r e = let w = sym (load_none [] 5 (end_early 0 refl)) ∙ e in cc
end_refused (t ∷ ts) r e =
    let w : answered (t ∷ ts) ≡ refused r = sym (load_end (t ∷ ts) (end_fine (length (t ∷ ts)) (omega arith))) ∙ e in
    let z : ◌≡◌ {A = ℕ} 0 1 = cc in absurd (omega arith)

-- lines of tasks that are refused, whatever follows them
refused_stays
    : (us ts : List Task) (l : List Line) (r : Refusal) → load_from ts (map line_of us) ≡ refused r → (r.number ≡ 5 → ⊥)
    → load_from ts (map line_of us ++ l) ≡ refused r
refused_stays [] ts l r e h = absurd (h (end_refused ts r e))
refused_stays (t ∷ us) ts l r e h = go (task_fault 0 (length ts) 0 t) refl (refused_stays us (ts ++ (as_high t ∷ [])) l r)
  where
    go
        : (o : Option ℕ) → task_fault 0 (length ts) 0 t ≡ o
        → (load_from (ts ++ (as_high t ∷ [])) (map line_of us) ≡ refused r → (r.number ≡ 5 → ⊥) → load_from (ts ++ (as_high t ∷ [])) (map line_of us ++ l) ≡ refused r)
        → load_from ts (line_of t ∷ (map line_of us ++ l)) ≡ refused r
    go (some k) f ih =
        let g = line_fault_lem (length ts) t ∙ f in
        load_stop ts (line_of t) (map line_of us ++ l) k g ∙ sym (load_stop ts (line_of t) (map line_of us) k g) ∙ e
    go none f ih = task_line ts t (map line_of us ++ l) f ∙ ih (sym (task_line ts t (map line_of us) f) ∙ e) h

-- lines that are refused decide
pub earlier_decides : EarlierDecides
unfolding load
earlier_decides ts rest r e h =
    ap (load_from []) (lines_after ts rest) ∙ refused_stays ts [] (lines_of rest) r (ap (load_from []) (sym (sheet_lines ts)) ∙ e) h
