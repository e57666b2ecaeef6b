-- Texts and sheets, both ways: the line of a task, the text of a sheet, and what is loaded.
use Prim.Native.Nat.{ℕ, suc, ◌+◌, ◌≤◌, ◌<◌}
use mathlib.Core.Path.{◌≡◌, refl, sym, ap, ap₂, ◌∙◌}
use mathlib.Core.Bool.{Bool, true, false}
use mathlib.Core.Option.{Option, some, none}
use mathlib.Core.List.{List, [], ◌∷◌, ◌++◌, map, append_assoc, append-nil, tail-eq_of_cons-eq}
use native.Mathlib.Omega.{arith}
use borrow.Author.Tests.{eqb-true}
use lib.Dec.{eqb}
use lib.ListN.{length, length-append}
use lib.Seq.{append_snoc}
use Rattle.model.specs.Limits.{max_tasks}
use Rattle.model.specs.Tasks.{Valid}
use Rattle.model.specs.Refusal.{refused, answered}
use Rattle.model.specs.Checks.{in_range, carries, entry_fault}
use Rattle.model.proofs.FrameLaws.{unframed_ruled}
use Rattle.model.proofs.CheckLaws.{both, in_range_yes, valid_of, valid_passes}
use Rattle.model.proofs.ChargeLaws.{entry_uncharged}
use Rattle.taskset.specs.declared.Task.{Task}
use Rattle.fileformat.specs.File.{sheet_of, task_fault, end_fault}
use Rattle.fileformat.specs.OldFiles.{AllHigh}
use Rattle.fileformat.proofs.StepLaws.{Ranged, task_same, task_numbers_lem, task_few, task_ranged, end_early, end_fine}
use Rattle.fileformat.proofs.RoundTrips.{never_answered, AllRanged, all_more}
use Rattle.text.specs.Text.{line_feed, decimal, field}
use Rattle.textformat.specs.Numerals.{is_digit, all_digits, is_numeral, value_from, value}
use Rattle.textformat.specs.Lines.{comma, Line, last_line, lines_from, lines_of, fields_from, fields_of}
use Rattle.textformat.specs.TextSheet.{all_numerals, is_four, has_form, task_of, task_in, line_fault, load_from, load, line_text, text_of}
use Rattle.textformat.specs.TextTrips.{FieldsInOrder, as_high, TextLoads, HighIsSame, LoadedIsHigh, LoadedIsText, LoadedIsValid, FormIsText, TextHasForm, line_bytes, lines_text}
use Rattle.textformat.proofs.NumeralLaws.{numeral_digits, numeral_decimal, value_decimal, decimal_value}
use Rattle.textformat.proofs.LineLaws.{Without, without_append, digits_without, line_first, lines_join, field_first, field_alone, commas, fields_join}

-- the order of the fields
pub fields_in_order : FieldsInOrder
unfolding load load_from lines_of lines_from last_line fields_of fields_from is_digit all_digits is_numeral value_from value all_numerals is_four has_form task_of task_in line_fault task_fault end_fault entry_fault in_range carries
fields_in_order = refl

-- four fields
record Four (fields : List (List ℕ)) : Type 0 where
  a : List ℕ
  b : List ℕ
  c : List ℕ
  d : List ℕ
  are : fields ≡ a ∷ b ∷ c ∷ d ∷ []

-- that are numbers
record Numbers (a b c d : List ℕ) : Type 0 where
  first : is_numeral a ≡ true
  second : is_numeral b ≡ true
  third : is_numeral c ≡ true
  fourth : is_numeral d ≡ true

four_of : (l : List (List ℕ)) → length l ≡ 4 → Four l
four_of [] e = absurd (omega arith)
four_of (a ∷ []) e = absurd (omega arith)
four_of (a ∷ b ∷ []) e = absurd (omega arith)
four_of (a ∷ b ∷ c ∷ []) e = absurd (omega arith)
four_of (a ∷ b ∷ c ∷ d ∷ []) e = record { a = a; b = b; c = c; d = d; are = refl }
four_of (a ∷ b ∷ c ∷ d ∷ f ∷ l) e = absurd (omega arith)

numbers_of_lem : (a b c d : List ℕ) → all_numerals (a ∷ b ∷ c ∷ d ∷ []) ≡ true → Numbers a b c d
unfolding all_numerals
numbers_of_lem a b c d e =
    let s = both (is_numeral a) (all_numerals (b ∷ c ∷ d ∷ [])) e in
    let t = both (is_numeral b) (all_numerals (c ∷ d ∷ [])) s.1 in
    let u = both (is_numeral c) (all_numerals (d ∷ [])) t.1 in
    record { first = s.0; second = t.0; third = u.0; fourth = (both (is_numeral d) true u.1).0 }

four_text
    : (a b c d bytes : List ℕ) → Numbers a b c d → fields_of bytes ≡ a ∷ b ∷ c ∷ d ∷ [] → bytes ++ (line_feed ∷ []) ≡ line_text (task_of (a ∷ b ∷ c ∷ d ∷ []))
unfolding line_text field task_of commas
four_text a b c d bytes n e =
    let j : bytes ≡ a ++ (comma ∷ (b ++ (comma ∷ (c ++ (comma ∷ (d ++ [])))))) = tail-eq_of_cons-eq (sym (fields_join bytes) ∙ ap commas e) in
    rw (decimal_value a n.first, decimal_value b n.second, decimal_value c n.third, decimal_value d n.fourth, j)
    (simp (append_assoc, append-nil) refl)

-- a line of the form has the bytes of the task that it gives ..
form_text : (x : Line) → has_form x ≡ true → x.bytes ++ (line_feed ∷ []) ≡ line_text (task_in x)
unfolding has_form is_four task_in
form_text x h =
    let s = both x.ended (is_four (fields_of x.bytes)) h in
    let t = both (eqb (length (fields_of x.bytes)) 4) (all_numerals (fields_of x.bytes)) s.1 in
    let f = four_of (fields_of x.bytes) (eqb-true _ _ t.0) in
    four_text f.a f.b f.c f.d x.bytes (numbers_of_lem _ _ _ _ (sym (ap all_numerals f.are) ∙ t.1)) f.are
    ∙ ap (λ l. line_text (task_of l)) (sym f.are)

-- .. and its line feed: it is the line of that task
pub form_is_text : FormIsText
unfolding has_form line_bytes task_in
form_is_text x h = rw (line_bytes, (both x.ended (is_four (fields_of x.bytes)) h).0) (form_text x h)

-- P,J,E,D of a task without the line feed, and as a line
abbrev pub fields_text : Task → List ℕ
fields_text t = decimal t.period ++ (comma ∷ (decimal t.jitter ++ (comma ∷ (decimal t.cost ++ (comma ∷ decimal t.deadline)))))

abbrev pub line_of : Task → Line
line_of t = record { bytes = fields_text t; ended = true }

line_text_lem : (t : Task) (l : List ℕ) → line_text t ++ l ≡ fields_text t ++ (line_feed ∷ l)
unfolding line_text field
line_text_lem t l = simp append_assoc refl

-- a number holds no line feed and no comma
no_feed : (n : ℕ) → Without line_feed (decimal n)
unfolding is_digit
no_feed n = digits_without line_feed (decimal n) refl (numeral_digits (decimal n) (numeral_decimal n))

no_comma : (n : ℕ) → Without comma (decimal n)
unfolding is_digit
no_comma n = digits_without comma (decimal n) refl (numeral_digits (decimal n) (numeral_decimal n))

line_without : (t : Task) → Without line_feed (fields_text t)
line_without t =
    without_append line_feed (decimal t.period) _ (no_feed t.period) (
      (λ e. omega arith),
      without_append line_feed (decimal t.jitter) _ (no_feed t.jitter)
          ((λ e. omega arith), without_append line_feed (decimal t.cost) _ (no_feed t.cost) ((λ e. omega arith), no_feed t.deadline)),
    )

-- the fields of the line of a task
line_fields : (t : Task) → fields_of (fields_text t) ≡ decimal t.period ∷ decimal t.jitter ∷ decimal t.cost ∷ decimal t.deadline ∷ []
line_fields t =
    rw (
      field_first (decimal t.period) _ (no_comma t.period),
      field_first (decimal t.jitter) _ (no_comma t.jitter),
      field_first (decimal t.cost) _ (no_comma t.cost),
      field_alone (decimal t.deadline) (no_comma t.deadline),
    )

-- the line of a task has the form ..
pub line_formed : (t : Task) → has_form (line_of t) ≡ true
unfolding has_form is_four all_numerals
line_formed t =
    rw (line_fields t, numeral_decimal t.period, numeral_decimal t.jitter, numeral_decimal t.cost, numeral_decimal t.deadline)

-- .. and gives the high task with its numbers
pub line_gives : (t : Task) → task_in (line_of t) ≡ as_high t
unfolding task_in task_of
line_gives t =
    ap task_of (line_fields t) ∙ rw (value_decimal t.period, value_decimal t.jitter, value_decimal t.cost, value_decimal t.deadline)

-- the line of a task is the first line of a text that begins with it
pub text_lines : (t : Task) (l : List ℕ) → lines_of (line_text t ++ l) ≡ line_of t ∷ lines_of l
text_lines t l = ap lines_of (line_text_lem t l) ∙ line_first (fields_text t) l (line_without t)

-- the line of any task is one line of the form, and gives the high task with its numbers
pub text_has_form : TextHasForm
unfolding lines_of lines_from last_line
text_has_form t = record {
  line = line_of t;
  alone = ap lines_of (sym (append-nil (line_text t))) ∙ text_lines t [];
  formed = line_formed t;
  task = line_gives t;
}

-- the lines of the text of some tasks
pub sheet_lines : (ts : List Task) → lines_of (text_of ts) ≡ map line_of ts
unfolding text_of lines_of lines_from last_line
sheet_lines [] = refl
sheet_lines (t ∷ l) = text_lines t (text_of l) ∙ ap (λ x. line_of t ∷ x) (sheet_lines l)

-- what is wrong with the line of a task is what is wrong with the task
pub line_fault_lem : (n : ℕ) (t : Task) → line_fault n (line_of t) ≡ task_fault 0 n 0 t
unfolding line_fault
line_fault_lem n t = rw (line_fault, line_formed t, line_gives t) (task_same 0 n 0 (as_high t) t refl)

-- one line of the load: a fault stops it at the line's number; without one the task is taken
module _ (ts : List Task) (x : Line) (l : List Line) where
  pub load_stop : (k : ℕ) → line_fault (length ts) x ≡ some k → load_from ts (x ∷ l) ≡ refused (record { number = k; place = length ts })
  unfolding load_from
  load_stop k e = rw (load_from, e)

  pub load_next : line_fault (length ts) x ≡ none → load_from ts (x ∷ l) ≡ load_from (ts ++ (task_in x ∷ [])) l
  unfolding load_from
  load_next e = rw (load_from, e)

-- after the last line: 5 where there is no task, else the tasks
module _ (ts : List Task) where
  pub load_none : (k : ℕ) → end_fault (length ts) ≡ some k → load_from ts [] ≡ refused (record { number = k; place = length ts })
  unfolding load_from
  load_none k e = rw (load_from, e)

  pub load_end : end_fault (length ts) ≡ none → load_from ts [] ≡ answered ts
  unfolding load_from
  load_end e = rw (load_from, e)

-- the line of a task without a fault is taken
pub task_line
    : (ts : List Task) (t : Task) (l : List Line) → task_fault 0 (length ts) 0 t ≡ none → load_from ts (line_of t ∷ l) ≡ load_from (ts ++ (as_high t ∷ [])) l
task_line ts t l e = load_next ts (line_of t) l (line_fault_lem (length ts) t ∙ e) ∙ ap (λ x. load_from (ts ++ (x ∷ [])) l) (line_gives t)

-- a task within its limits has no fault, where there is room for it
pub task_clear : (n : ℕ) (t : Task) → n < max_tasks → Ranged t → task_fault 0 n 0 t ≡ none
task_clear n t l h = task_numbers_lem 0 n 0 t refl l ∙ entry_uncharged _ _ _ _ ∙ rw (in_range_yes _ _ _ _ h)

loads_tasks
    : (l ts : List Task) → AllRanged l → length ts + length l ≤ max_tasks → 1 ≤ length ts + length l → load_from ts (map line_of l) ≡ answered (ts ++ map as_high l)
loads_tasks [] ts h c s = load_end ts (end_fine (length ts) (omega arith)) ∙ ap answered (sym (append-nil ts))
loads_tasks (t ∷ l) ts h c s =
    task_line ts t (map line_of l) (task_clear (length ts) t (omega arith) (h 0 (omega arith)))
    ∙ loads_tasks l (ts ++ (as_high t ∷ [])) (λ i g. h (suc i) (omega arith)) (omega (arith, length-append ts (as_high t ∷ [])))
    (omega (arith, length-append ts (as_high t ∷ [])))
    ∙ ap answered (append_snoc ts (as_high t) (map as_high l))

-- the text of a valid sheet loads to that sheet with each task high
pub text_loads : TextLoads
unfolding load
text_loads ts h =
    let v = valid_of (sheet_of ts) h in
    ap (load_from []) (sheet_lines ts) ∙ loads_tasks ts [] v.in_range_lem (omega (arith, v.few_tasks)) (omega (arith, v.some_task))

-- a line that is taken: it has the form, and its task no fault
pub record TakenLine (n : ℕ) (x : Line) : Type 0 where
  pub formed : has_form x ≡ true
  pub fine : task_fault 0 n 0 (task_in x) ≡ none

-- a line without a fault
pub taken_of : (n : ℕ) (x : Line) → line_fault n x ≡ none → TakenLine n x
unfolding line_fault
taken_of n x e = go (has_form x) refl
  where
    go : (b : Bool) → has_form x ≡ b → TakenLine n x
    go true h = record { formed = h; fine = (rw (line_fault, h) at e) }
    go false h = let w : ◌≡◌ {A = Option ℕ} (some 16) none = (rw (line_fault, h) at e) in let z : ◌≡◌ {A = ℕ} 0 1 = cc in absurd (omega arith)

-- an answered load, by what led to it: each line was taken, and there was a task at the end
pub data Loads : List Task → List Line → List Task → Type 0 where
  ends : (ts : List Task) → 1 ≤ length ts → Loads ts [] ts
  takes : (ts : List Task) (x : Line) (l : List Line) (us : List Task) → TakenLine (length ts) x → Loads (ts ++ (task_in x ∷ [])) l us → Loads ts (x ∷ l) us

loads_end : (ts us : List Task) → load_from ts [] ≡ answered us → Loads ts [] us
loads_end [] us e = absurd (never_answered _ us (sym (load_none [] 5 (end_early 0 refl)) ∙ e))
loads_end (t ∷ ts) us e =
    let w = sym (load_end (t ∷ ts) (end_fine (length (t ∷ ts)) (omega arith))) ∙ e in
    let q : t ∷ ts ≡ us = cc in
    rw (← q) (ends (t ∷ ts) (omega arith))

-- every answered load is of that kind
pub loads_of : (ts : List Task) (l : List Line) (us : List Task) → load_from ts l ≡ answered us → Loads ts l us
loads_of ts [] us e = loads_end ts us e
loads_of ts (x ∷ l) us e = go (line_fault (length ts) x) refl (loads_of (ts ++ (task_in x ∷ [])) l us)
  where
    go : (o : Option ℕ) → line_fault (length ts) x ≡ o → (load_from (ts ++ (task_in x ∷ [])) l ≡ answered us → Loads (ts ++ (task_in x ∷ [])) l us) → Loads ts (x ∷ l) us
    go (some k) h ih = absurd (never_answered _ us (sym (load_stop ts x l k h) ∙ e))
    go none h ih = takes ts x l us (taken_of _ x h) (ih (sym (load_next ts x l h) ∙ e))

-- the text of one task more
text_more : (ts : List Task) (t : Task) → text_of (ts ++ (t ∷ [])) ≡ text_of ts ++ line_text t
unfolding text_of
text_more [] t = append-nil (line_text t)
text_more (a ∷ ts) t = ap (λ x. line_text a ++ x) (text_more ts t) ∙ sym (append_assoc (line_text a) (text_of ts) (line_text t))

loads_text : (ts : List Task) (l : List Line) (us : List Task) → Loads ts l us → text_of us ≡ text_of ts ++ lines_text l
unfolding lines_text
loads_text ts l us (ends vs h) = sym (append-nil (text_of ts))
loads_text ts l us (takes vs x m ws k n) =
    loads_text (vs ++ (task_in x ∷ [])) m ws n
    ∙ ap (λ y. y ++ lines_text m) (text_more vs (task_in x) ∙ ap (λ y. text_of vs ++ y) (sym (form_is_text x k.formed)))
    ∙ append_assoc (text_of vs) (line_bytes x) (lines_text m)

-- an accepted text is the text of its sheet, byte for byte
pub loaded_is_text : LoadedIsText
unfolding load text_of
loaded_is_text text ts e = loads_text [] (lines_of text) ts (loads_of [] (lines_of text) ts e) ∙ lines_join text

loads_valid : (ts : List Task) (l : List Line) (us : List Task) → Loads ts l us → AllRanged ts → length ts ≤ max_tasks → Valid (sheet_of us)
loads_valid ts l us (ends vs h) r f =
    record {
      some_task = h;
      few_tasks = f;
      in_range_lem = r;
      carried = λ i g. record { load_period = omega (arith, (r i g).cost_period); load_deadline = omega (arith, (r i g).cost_deadline) };
      framed = unframed_ruled;
    }
loads_valid ts l us (takes vs x m ws k n) r f =
    loads_valid (vs ++ (task_in x ∷ [])) m ws n (all_more Ranged vs (task_in x) r (task_ranged 0 _ 0 (task_in x) k.fine))
    (omega (arith, length-append vs (task_in x ∷ []), task_few 0 _ 0 (task_in x) k.fine))

-- a high task is the high task with its numbers
pub task_high : (t : Task) → t.low ≡ false → as_high t ≡ t
task_high t e = ap (λ b. record { period = t.period; jitter = t.jitter; cost = t.cost; deadline = t.deadline; low = b }) (sym e)

pub high_same : HighIsSame
high_same [] h = refl
high_same (t ∷ ts) h = ap₂ (λ u us. u ∷ us) (task_high t (h 0 (omega arith))) (high_same ts (λ i g. h (suc i) (omega arith)))

loads_high : (ts : List Task) (l : List Line) (us : List Task) → Loads ts l us → AllHigh ts → AllHigh us
unfolding task_in task_of
loads_high ts l us (ends vs h) r = r
loads_high ts l us (takes vs x m ws k n) r = loads_high (vs ++ (task_in x ∷ [])) m ws n (all_more (λ t. t.low ≡ false) vs (task_in x) r refl)

-- what is loaded is high ..
pub loaded_high : LoadedIsHigh
unfolding load
loaded_high text ts e = loads_high [] (lines_of text) ts (loads_of [] (lines_of text) ts e) (λ i l. absurd (omega arith))

-- .. and within document 01's limits
pub loaded_valid : LoadedIsValid
unfolding load
loaded_valid text ts e =
    sym (valid_passes (sheet_of ts) (loads_valid [] (lines_of text) ts (loads_of [] (lines_of text) ts e) (λ i l. absurd (omega arith)) (omega arith)))
