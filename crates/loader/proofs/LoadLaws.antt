-- A loader that was fed a text answers what the text answers.
use Prim.Native.Nat.{ℕ, suc, ◌+◌, ◌-◌, ◌≤◌, ◌<◌}
use mathlib.Core.Path.{◌≡◌, refl, sym, ap, subst, ◌∙◌}
use mathlib.Core.Bool.{Bool, true, false, and-false, true≢false}
use mathlib.Core.Logic.{⊎_elim}
use mathlib.Core.Option.{Option, some, none}
use mathlib.Core.List.{List, [], ◌∷◌, ◌++◌, append-nil}
use native.Mathlib.Omega.{arith}
use lib.Dec.{eqb}
use lib.ListN.{length, set, replicate, length-append}
use lib.Seq.{append_snoc, set-append_seam}
use borrow.Author.Tests.{eqb-true, eqb-false}
use Rattle.std.specs.Prelude.{Result, Ok, Err}
use Rattle.model.specs.Limits.{max_tasks}
use Rattle.model.specs.Refusal.{Answer, refused, answered}
use Rattle.refusal.specs.declared.Refusal.{Refusal}
use Rattle.refusal.specs.Refusal.{number_of, reason_of}
use Rattle.taskset.specs.declared.Task.{Task}
use Rattle.taskset.specs.declared.TaskSet.{TaskSet}
use Rattle.taskset.specs.TaskSet.{no_task}
use Rattle.fileformat.specs.File.{task_fault, end_fault}
use Rattle.fileformat.specs.FileCalls.{tasks_in, set_with, set_of}
use Rattle.fileformat.proofs.StepLaws.{task_few, end_early, end_fine}
use Rattle.fileformat.proofs.RoundTripCalls.{tasks_of_set}
use Rattle.text.specs.Text.{line_feed}
use Rattle.textformat.specs.Lines.{Line, last_line, lines_from, lines_of, fields_of}
use Rattle.textformat.specs.TextSheet.{is_four, has_form, task_of, task_in, line_fault, load_from, load, load_sheet}
use Rattle.textformat.specs.TextTrips.{cut_at}
use Rattle.textformat.proofs.LineLaws.{line_ends, line_stays}
use Rattle.textformat.proofs.TextTrips.{load_stop, load_next, load_none, load_end}
use Rattle.textformat.proofs.EarliestLine.{other_line}
use Rattle.textformat.proofs.TextPlaces.{task_number}
use Rattle.textformat.proofs.AnyNumbers.{same_fault, uncut}
use Rattle.loader.specs.declared.LineSoFar.{LineSoFar}
use Rattle.loader.specs.declared.Taken.{Taken}
use Rattle.loader.specs.declared.Taken.TheVariants.{Ends}
use Rattle.loader.specs.declared.Loader.{Loader}
use Rattle.loader.specs.Loader.{cap, no_line, taken, fresh, going, halted, pushed, after, stepped, fed, begun, decided, refusal, closed, loaded_in, LoadSays, Finishes}
use Rattle.loader.specs.Pieces.{ClosedSays, DecidedStays}
use Rattle.loader.proofs.FeedLaws.{stopped, fed_refused}
use Rattle.loader.proofs.PieceLaws.{pieces_join}
use Rattle.loader.proofs.SeenLaws.{Seen, seen_nothing, some_byte, some_last, Steps, goes, breaks, seen_steps, Closes, forms, fails, seen_closes}

-- one task more, in the first entry that is free
set_more : (ts : List Task) (t : Task) → length ts < max_tasks → record { tasks = set (set_of ts).tasks (length ts) t; count = length ts + 1; charge = 0 } ≡ set_of (ts ++ (t ∷ []))
unfolding set_with
set_more ts t h =
    let e : max_tasks - length ts ≡ suc (max_tasks - (length ts + 1)) = omega arith in
    let n : length (ts ++ (t ∷ [])) ≡ length ts + 1 = length-append ts (t ∷ []) in
    let a : set (ts ++ replicate (max_tasks - length ts) no_task) (length ts) t ≡ (ts ++ (t ∷ [])) ++ replicate (max_tasks - (length ts + 1)) no_task =
    ap (λ k. set (ts ++ replicate k no_task) (length ts) t) e ∙ set-append_seam ts no_task (replicate (max_tasks - (length ts + 1)) no_task) t
    ∙ sym (append_snoc ts t (replicate (max_tasks - (length ts + 1)) no_task)) in
    rw n (ap (λ l. record { tasks = l; count = length ts + 1; charge = 0 }) a)

-- a number of the table
abbrev pub Known : ℕ → Type 0
Known k = number_of (reason_of k) ≡ k

pub known_task : (n : ℕ) (t : Task) (k : ℕ) → task_fault 0 n 0 t ≡ some k → Known k
known_task n t k g = ⊎_elim (λ e. rw e) (λ e. rw e) (task_number n t k g)

known_end : (n k : ℕ) → end_fault n ≡ some k → Known k
unfolding end_fault
known_end n k g = go (eqb n 0) refl
  where
    go : (b : Bool) → eqb n 0 ≡ b → Known k
    go true e = let w : some 5 ≡ some k = sym (rw (end_fault, e)) ∙ g in let f : k ≡ 5 = cc in rw f
    go false e = let w : none ≡ some k = sym (rw (end_fault, e)) ∙ g in cc

-- a refusal, and no task
says_refused : (k n : ℕ) (a : Answer (List Task)) → Known k → a ≡ refused (record { number = k; place = n }) → LoadSays a (refusal k n)
says_refused k n a v e = record { answer = ap (λ x. refused (record { number = x; place = n })) v ∙ sym e; sheet = λ s z. cc }

-- a loader that is refused
stopped_says
    : (s : TaskSet) (m : LineSoFar) (k n : ℕ) (r : List ℕ) (a : Answer (List Task)) → Known k → a ≡ refused (record { number = k; place = n })
    → LoadSays a (closed (fed (stopped s m k n) r))
unfolding closed
stopped_says s m k n r a v e = rw (fed_refused (stopped s m k n) _ r refl) (says_refused k n a v e)

-- the end of the text
no_line_more : (ts : List Task) (m : LineSoFar) → begun m ≡ false → LoadSays (load_from ts []) (closed (going (set_of ts) m))
unfolding closed set_with load_sheet
no_line_more ts m b = go (end_fault (length ts)) refl
  where
    go : (o : Option ℕ) → end_fault (length ts) ≡ o → LoadSays (load_from ts []) (closed (going (set_of ts) m))
    go (some k) e = rw (closed, b, e) (says_refused k (length ts) _ (known_end (length ts) k e) (load_none ts k e))
    go none e =
        rw (closed, b, e)
        (record { answer = ap answered (tasks_of_set 0 ts) ∙ sym (load_end ts e); sheet = λ s z. (let y : s ≡ set_of ts = cc in y) ∙ ap load_sheet (sym (load_end ts e)) })

line_open : (ts : List Task) (m : LineSoFar) (x : Line) → begun m ≡ true → x.ended ≡ false → LoadSays (load_from ts (x ∷ [])) (closed (going (set_of ts) m))
unfolding closed set_with has_form
line_open ts m x b e = rw (closed, b) (says_refused 16 (length ts) _ refl (other_line ts x [] (rw e)))

at_end : (ts : List Task) (m : LineSoFar) (p : List ℕ) → Seen m p → LoadSays (load_from ts (last_line p)) (closed (going (set_of ts) m))
unfolding last_line some_byte
at_end ts m [] s = no_line_more ts m s.begins
at_end ts m (b ∷ p) s = line_open ts m (record { bytes = b ∷ p; ended = false }) s.begins refl

-- the first line begins with the bytes before
record Starts (c : List ℕ) (l : List ℕ) : Type 0 where
  rest : List ℕ
  ended : Bool
  more : List Line
  is : lines_from c l ≡ record { bytes = c ++ rest; ended = ended } ∷ more

last_some : (c : List ℕ) → some_byte c ≡ true → last_line c ≡ record { bytes = c; ended = false } ∷ []
unfolding last_line some_byte
last_some [] e = absurd (true≢false (sym e))
last_some (b ∷ c) e = refl

starts_with : (c l : List ℕ) → some_byte c ≡ true → Starts c l
unfolding lines_from
starts_with c [] e = record { rest = []; ended = false; more = []; is = last_some c e ∙ ap (λ x. record { bytes = x; ended = false } ∷ []) (sym (append-nil c)) }
starts_with c (b ∷ l) e = go (eqb b line_feed) refl (starts_with (c ++ (b ∷ [])) l (some_last c b))
  where
    go : (x : Bool) → eqb b line_feed ≡ x → Starts (c ++ (b ∷ [])) l → Starts c (b ∷ l)
    go true f h = record { rest = []; ended = true; more = lines_from [] l; is = rw append-nil (line_ends c b l f) }
    go false f h =
        record {
          rest = b ∷ h.rest;
          ended = h.ended;
          more = h.more;
          is = line_stays c b l f ∙ h.is ∙ ap (λ x. record { bytes = x; ended = h.ended } ∷ h.more) (append_snoc c b h.rest);
        }

-- the task of four fields is not changed by the cut, where it has no fault
uncut_fields : (n : ℕ) (fields : List (List ℕ)) → task_fault 0 n 0 (task_of fields) ≡ none → cut_at cap (task_of fields) ≡ task_of fields
unfolding task_of
uncut_fields n fields g = uncut cap (omega arith) n (task_of fields) g

-- what the lines from here on say, for what follows
abbrev Rest : List ℕ → Type 0
Rest r =
    (ts : List Task) (m : LineSoFar) (p : List ℕ) → Seen m p → length ts ≤ max_tasks → LoadSays (load_from ts (lines_from p r)) (closed (fed (going (set_of ts) m) r))

module _ (r : List ℕ) (ih : Rest r) (ts : List Task) (m : LineSoFar) (p : List ℕ) (h : length ts ≤ max_tasks) where
  -- a byte that is no line feed
  on_byte : (b : ℕ) (t : Taken) → Steps p b t → LoadSays (load_from ts (lines_from (p ++ (b ∷ [])) r)) (closed (fed (after (going (set_of ts) m) t) r))
  unfolding after halted set_with has_form
  on_byte b _ (goes m' s) = ih ts m' (p ++ (b ∷ [])) s h
  on_byte b _ (breaks f) =
      let w = starts_with (p ++ (b ∷ [])) r (some_last p b) in
      let z : is_four (fields_of ((p ++ (b ∷ [])) ++ w.rest)) ≡ false = ap (λ x. is_four (fields_of x)) (append_snoc p b w.rest) ∙ f w.rest in
      stopped_says (set_of ts) m 16 (length ts) r _ refl (ap (load_from ts) w.is ∙ other_line ts _ w.more (rw z (and-false w.ended)))

  -- a line feed after four numbers
  abbrev line : Line
  line = record { bytes = p; ended = true }

  four_fault : is_four (fields_of p) ≡ true → (o : Option ℕ) → task_fault 0 (length ts) 0 (task_of (fields_of p)) ≡ o → line_fault (length ts) line ≡ o
  unfolding line_fault has_form task_in
  four_fault f o g = rw (line_fault, f) g

  on_task
      : (t : Task) → is_four (fields_of p) ≡ true → t ≡ cut_at cap (task_of (fields_of p)) → (o : Option ℕ) → task_fault 0 (length ts) 0 (task_of (fields_of p)) ≡ o
      → LoadSays (load_from ts (line ∷ lines_from [] r)) (closed (fed (after (going (set_of ts) m) (Ends t)) r))
  unfolding after halted pushed set_with task_in
  on_task t f e (some k) g =
      let a : task_fault 0 (length ts) 0 t ≡ some k = ap (task_fault 0 (length ts) 0) e ∙ same_fault cap (omega arith) (length ts) (task_of (fields_of p)) ∙ g in
      rw (after, a) (stopped_says (set_of ts) m k (length ts) r _ (known_task _ _ k a) (load_stop ts line (lines_from [] r) k (four_fault f (some k) g)))
  on_task t f e none g =
      let a : task_fault 0 (length ts) 0 t ≡ none = ap (task_fault 0 (length ts) 0) e ∙ same_fault cap (omega arith) (length ts) (task_of (fields_of p)) ∙ g in
      let u : t ≡ task_of (fields_of p) = e ∙ uncut_fields (length ts) (fields_of p) g in
      let few = task_few 0 (length ts) 0 (task_of (fields_of p)) g in
      let s : pushed (going (set_of ts) m) t ≡ going (set_of (ts ++ (task_of (fields_of p) ∷ []))) no_line =
      ap (λ q. going q no_line) (ap (λ x. record { tasks = set (set_of ts).tasks (length ts) x; count = length ts + 1; charge = 0 }) u ∙ set_more ts (task_of (fields_of p)) few) in
      rw (after, a, s, load_next ts line (lines_from [] r) (four_fault f none g))
      (ih (ts ++ (task_of (fields_of p) ∷ [])) no_line [] seen_nothing (omega (arith, length-append ts (task_of (fields_of p) ∷ []))))

  -- a line feed
  on_feed : (t : Taken) → Closes p t → LoadSays (load_from ts (record { bytes = p; ended = true } ∷ lines_from [] r)) (closed (fed (after (going (set_of ts) m) t) r))
  unfolding after halted set_with has_form
  on_feed _ (fails f) = stopped_says (set_of ts) m 16 (length ts) r _ refl (other_line ts _ (lines_from [] r) f)
  on_feed _ (forms t f e) = on_task t f e (task_fault 0 (length ts) 0 (task_of (fields_of p))) refl

rest_says : (r : List ℕ) → Rest r
unfolding fed stepped lines_from
rest_says [] ts m p s h = at_end ts m p s
rest_says (b ∷ r) ts m p s h = go (eqb b line_feed) refl (rest_says r)
  where
    go : (x : Bool) → eqb b line_feed ≡ x → Rest r → LoadSays (load_from ts (lines_from p (b ∷ r))) (closed (fed (going (set_of ts) m) (b ∷ r)))
    go true e ih = rw (line_ends p b r e, eqb-true b line_feed e) (on_feed r ih ts m p h (taken m line_feed) (seen_closes m p s))
    go false e ih = rw (line_stays p b r e) (on_byte r ih ts m p h b (taken m b) (seen_steps m p b s (eqb-false b line_feed e)))

pub closed_says : ClosedSays
unfolding load lines_of set_with
closed_says text =
    let h = rest_says text [] no_line [] seen_nothing (omega arith) in
    record { answer = h.answer; sheet = h.sheet }

-- the end of the text, case by case
pub closed_refused : (s : Loader) (q : Refusal) → s.answer ≡ Err q → Err q ≡ closed s
unfolding closed
closed_refused s q e = rw (closed, e)

module _ (s : Loader) (e : s.answer ≡ Ok tt) where
  pub closed_open : begun s.line ≡ true → refusal 16 s.tasks.count ≡ closed s
  unfolding closed
  closed_open b = rw (closed, e, b)

  pub closed_none : begun s.line ≡ false → s.tasks.count ≡ 0 → refusal 5 0 ≡ closed s
  unfolding closed
  closed_none b z = rw (closed, e, b, end_early s.tasks.count z) (ap (refusal 5) (sym z))

  pub closed_fine : begun s.line ≡ false → 1 ≤ s.tasks.count → Ok s.tasks ≡ closed s
  unfolding closed
  closed_fine b l = rw (closed, e, b, end_fine s.tasks.count l)

-- what the end of the text answers
pub finishes : (s : Loader) (r : Result TaskSet Refusal) → r ≡ closed s → Finishes s r
finishes s r e = record {
  is = e;
  says = λ text f. subst (LoadSays (load text)) (ap closed (sym f) ∙ sym e) (closed_says text);
}

-- what a loader said of a text: number and place, or the tasks
module _ (a : Answer (List Task)) (got : Result TaskSet Refusal) (s : LoadSays a got) where
  pub said_refused : (q : Refusal) → got ≡ Err q → a ≡ refused (record { number = number_of q.reason; place = q.place })
  said_refused q e = sym (rw e at s.answer)

  pub said_tasks : (t : TaskSet) → got ≡ Ok t → a ≡ answered (tasks_in t)
  said_tasks t e = sym (rw e at s.answer)

  -- and the sheet of these tasks
  pub said_sheet : (t : TaskSet) → got ≡ Ok t → t ≡ set_of (tasks_in t)
  unfolding load_sheet
  said_sheet t e = s.sheet t e ∙ ap load_sheet (said_tasks t e)

-- a refusal stays
decided_refused : (s : Loader) (l : List ℕ) → decided s ≡ true → s ≡ fed s l
unfolding decided
decided_refused s l e = go s.answer refl
  where
    go : (a : Result Unit Refusal) → s.answer ≡ a → s ≡ fed s l
    go (Ok u) h = absurd (true≢false (sym e ∙ rw h))
    go (Err q) h = sym (fed_refused s q l h)

pub decided_stays : DecidedStays
decided_stays text more e =
    let s : fed fresh (text ++ more) ≡ fed fresh text = sym (pieces_join fresh text more) ∙ sym (decided_refused (fed fresh text) more e) in
    sym (closed_says (text ++ more)).answer ∙ ap (λ q. loaded_in (closed q)) s ∙ (closed_says text).answer
