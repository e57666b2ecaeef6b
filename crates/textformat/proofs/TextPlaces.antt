-- Numbers and places of the refusals of a text: a text is refused with 4, 5, 6 or 16, a place is the number of a line, and after 32 tasks no line is taken.
use Prim.Native.Nat.{ℕ, ◌≤◌, ◌<◌}
use mathlib.Core.Path.{◌≡◌, refl, sym, subst, ◌∙◌}
use mathlib.Core.Logic.{◌⊎◌, inl, inr}
use mathlib.Core.Bool.{Bool, true, false}
use mathlib.Core.Option.{Option, some, none}
use mathlib.Core.List.{List, [], ◌∷◌, ◌++◌}
use native.Mathlib.Omega.{arith}
use borrow.Author.Tests.{leb-true, leb-false}
use lib.Dec.{leb}
use lib.ListN.{length, length-append}
use Rattle.model.specs.Limits.{max_tasks}
use Rattle.model.specs.Refusal.{Refusal, Answer, refused, answered}
use Rattle.model.specs.Checks.{in_range}
use Rattle.model.proofs.CheckLaws.{in_range_of, entry_outside}
use Rattle.model.proofs.RefusalPlaces.{largest_number, Within}
use Rattle.taskset.specs.declared.Task.{Task}
use Rattle.fileformat.specs.File.{task_fault}
use Rattle.fileformat.proofs.StepLaws.{task_over, task_numbers_lem, task_few, end_early, end_fine}
use Rattle.textformat.specs.Lines.{Line, lines_of}
use Rattle.textformat.specs.TextSheet.{has_form, task_in, line_fault, load_from, load}
use Rattle.textformat.specs.TextTrips.{TextNumber, TextNumbers}
use Rattle.textformat.proofs.TextTrips.{task_clear, load_stop, load_next, load_none, load_end, taken_of}

-- a task after n others, without a charge: 4 or 6
pub task_number : (n : ℕ) (t : Task) (k : ℕ) → task_fault 0 n 0 t ≡ some k → (k ≡ 4) ⊎ (k ≡ 6)
task_number n t k e = over (leb max_tasks n) refl
  where
    is : (m : ℕ) → task_fault 0 n 0 t ≡ some m → k ≡ m
    is m h = let w : some m ≡ some k = sym h ∙ e in cc

    outside : n < max_tasks → (b : Bool) → in_range t.period t.jitter t.cost t.deadline ≡ b → (k ≡ 4) ⊎ (k ≡ 6)
    outside l false h = inr (is 6 (task_numbers_lem 0 n 0 t refl l ∙ entry_outside 0 _ _ _ _ h))
    outside l true h =
        let w : none ≡ some k = sym (task_clear n t l (in_range_of _ _ _ _ h)) ∙ e in
        let z : ◌≡◌ {A = ℕ} 0 1 = cc in absurd (omega arith)

    over : (b : Bool) → leb max_tasks n ≡ b → (k ≡ 4) ⊎ (k ≡ 6)
    over true h = inl (is 4 (task_over 0 n 0 t refl (leb-true _ _ h)))
    over false h = outside (leb-false _ _ h) (in_range t.period t.jitter t.cost t.deadline) refl

-- a line: 16, or what is wrong with its task
line_number : (m : ℕ) (x : Line) (n : ℕ) → line_fault m x ≡ some n → TextNumber n
unfolding line_fault
line_number m x n e = go (has_form x) refl
  where
    either : (n ≡ 4) ⊎ (n ≡ 6) → TextNumber n
    either (inl h) = inl h
    either (inr h) = inr (inr (inl h))

    go : (a : Bool) → has_form x ≡ a → TextNumber n
    go false h = let w : some 16 ≡ some n = (rw (line_fault, h) at e) in inr (inr (inr (cc)))
    go true h = either (task_number m (task_in x) n (rw (line_fault, h) at e))

-- number and place of a refusal
record Said (r : Refusal) : Type 0 where
  number : TextNumber r.number
  place : r.place ≤ max_tasks

-- a refusal that is known
said_known
    : (n p : ℕ) (r : Refusal) → TextNumber n → p ≤ max_tasks → ◌≡◌ {A = Answer (List Task)} (refused (record { number = n; place = p })) (refused r) → Said r
said_known n p r a h e = let w : record { number = n; place = p } ≡ r = cc in subst Said w (record { number = a; place = h })

-- the lines after at most 32 tasks
from_said : (l : List Line) (ts : List Task) (r : Refusal) → length ts ≤ max_tasks → load_from ts l ≡ refused r → Said r
from_said [] [] r h e = said_known 5 0 r (inr (inl refl)) (omega arith) (sym (load_none [] 5 (end_early 0 refl)) ∙ e)
from_said [] (t ∷ ts) r h e =
    let w : answered (t ∷ ts) ≡ refused r = sym (load_end (t ∷ ts) (end_fine (length (t ∷ ts)) (omega arith))) ∙ e in
    let z : ◌≡◌ {A = ℕ} 0 1 = cc in absurd (omega arith)
from_said (x ∷ l) ts r h e = go (line_fault (length ts) x) refl (from_said l (ts ++ (task_in x ∷ [])) r)
  where
    go
        : (o : Option ℕ)
        → line_fault (length ts) x ≡ o
        → (length (ts ++ (task_in x ∷ [])) ≤ max_tasks → load_from (ts ++ (task_in x ∷ [])) l ≡ refused r → Said r)
        → Said r
    go (some k) g ih = said_known k (length ts) r (line_number (length ts) x k g) h (sym (load_stop ts x l k g) ∙ e)
    go none g ih =
        ih (omega (arith, length-append ts (task_in x ∷ []), task_few 0 (length ts) 0 (task_in x) (taken_of (length ts) x g).fine)) (sym (load_next ts x l g) ∙ e)

load_said : (text : List ℕ) (r : Refusal) → load text ≡ refused r → Said r
unfolding load
load_said text r = from_said (lines_of text) [] r (omega arith)

-- a refused text, of whatever length: 4, 5, 6 or 16 ..
pub text_numbers : TextNumbers
text_numbers text r e = (load_said text r e).number

bounds : (n : ℕ) → TextNumber n → (1 ≤ n) × (n ≤ largest_number)
bounds n (inl e) = (omega arith, omega arith)
bounds n (inr (inl e)) = (omega arith, omega arith)
bounds n (inr (inr (inl e))) = (omega arith, omega arith)
bounds n (inr (inr (inr e))) = (omega arith, omega arith)

-- .. and a place of at most 32
pub load_within_lem : (text : List ℕ) (r : Refusal) → load text ≡ refused r → Within max_tasks r
load_within_lem text r e =
    let s = load_said text r e in
    let b = bounds r.number s.number in
    record { number_low = b.0; number_high = b.1; place_high = s.place }
