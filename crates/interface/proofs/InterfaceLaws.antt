-- Laws of codes, lent words and sheets passed as numbers.
use Prim.Native.Nat.{ℕ, ◌+◌, ◌-◌, ◌≤◌, ◌<◌, min}
use mathlib.Core.Path.{◌≡◌, refl, sym, ap}
use mathlib.Core.Bool.{Bool, true, false, ◌||◌}
use mathlib.Core.Option.{some}
use mathlib.Core.List.{List, ◌++◌}
use native.Mathlib.Omega.{arith}
use borrow.Author.Tests.{lt-ltb, le-ltb, le-leb, lt-leb, eq-eqb, ne_eqb}
use lib.Dec.{leb, eqb}
use lib.ListN.{length, drop, set, replicate}
use Rattle.model.specs.Refusal.{Refusal, Answer, refused, answered}
use Rattle.taskset.specs.declared.Task.{Task}
use Rattle.taskset.specs.declared.TaskSet.{TaskSet}
use Rattle.taskset.specs.TaskSet.{no_task}
use Rattle.taskset.proofs.FilledLaws.{Filled, filled_none, filled_next, filled_all}
use Rattle.interface.specs.Interface.{task_at, sheet_from, refusal_code, code_of, code_in, words_after, as_words, after_slots, too_few, or_too_few, with_slots, Ends}

-- of 32 entries the first i, of those used, are those of the numbers, the others 0
pub record Entries (l : List ℕ) (used : ℕ) (tasks : List Task) (i : ℕ) : Type 0 where
  pub few : used ≤ 32
  pub within : i ≤ used
  pub filled : Filled (task_at l) tasks i

pub entries_none : (l : List ℕ) (used : ℕ) (tasks : List Task) → used ≤ 32 → tasks ≡ replicate 32 no_task → Entries l used tasks 0
entries_none l used tasks h e = record { few = h; within = omega arith; filled = filled_none (task_at l) tasks e }

pub entries_next
    : (l : List ℕ) (used : ℕ) (tasks : List Task) (i : ℕ) (t : Task) → Entries l used tasks i → i < used → t ≡ task_at l i → Entries l used (set tasks i t) (i + 1)
entries_next l used tasks i t f h e =
    record { few = f.few; within = omega arith; filled = filled_next (task_at l) tasks i t f.filled (omega (arith, f.few)) e }

pub entries_sheet
    : (l : List ℕ) (n c used : ℕ) (tasks : List Task) (i : ℕ) → Entries l used tasks i → used ≡ min n 32 → used ≤ i
    → ◌≡◌ {A = TaskSet} (record { tasks = tasks; count = n; charge = c }) (sheet_from l n c)
entries_sheet l n c used tasks i f u h =
    ap (λ (ts : List Task). record { tasks = ts; count = n; charge = c })
    (filled_all (task_at l) tasks i (min n 32) (32 - n) f.filled (omega (arith, f.within)) (omega (arith, f.within)))

-- where the slots are enough, the call without them answers
pub with_enough : {A : Type 0} (n slots : ℕ) (a : Answer A) → n ≤ slots → with_slots n slots a ≡ a
unfolding with_slots or_too_few
with_enough n slots (answered x) h = rw (with_slots, le-ltb slots n h)
with_enough n slots (refused r) h = rw (with_slots, or_too_few, le-ltb slots n h)

pub with_few : {A : Type 0} (n slots : ℕ) (x : A) → slots < n → with_slots n slots (answered x) ≡ refused (too_few n)
unfolding with_slots
with_few n slots x h = rw (with_slots, lt-ltb slots n h)

-- which numbers come after the slices
pub after_none : (n : ℕ) → n < 7 → false ≡ after_slots n
unfolding after_slots
after_none n h = rw (after_slots, ne_eqb n 12 (λ e. omega arith), lt-leb 7 n h, ne_eqb n 15 (λ e. omega arith), lt-leb 19 n (omega arith))

pub after_release : (n : ℕ) → 7 ≤ n → n ≤ 9 → true ≡ after_slots n
unfolding after_slots
after_release n h g = rw (after_slots, ne_eqb n 12 (λ e. omega arith), le-leb 7 n h, le-leb n 9 g)

pub after_kept : (n : ℕ) → n ≡ 12 → true ≡ after_slots n
unfolding after_slots
after_kept n h = rw (after_slots, eq-eqb n 12 h)

or_none : (b : Bool) → (b || false) ≡ b
or_none true = refl
or_none false = refl

pub after_choice : (n : ℕ) → 9 < n → (n ≡ 12 → ⊥) → n < 19 → eqb n 15 ≡ after_slots n
unfolding after_slots
after_choice n h g l = rw (after_slots, ne_eqb n 12 g, le-leb 7 n (omega arith), lt-leb n 9 h, lt-leb 19 n l) (sym (or_none (eqb n 15)))

pub after_commit : (n : ℕ) → 19 ≤ n → leb n 20 ≡ after_slots n
unfolding after_slots
after_commit n h =
    rw (after_slots, ne_eqb n 12 (λ e. omega arith), le-leb 7 n (omega arith), lt-leb n 9 (omega arith), ne_eqb n 15 (λ e. omega arith), le-leb 19 n h)

-- the refusal of a call, by what is known of the slots and of its number
pub kept_enough : (n slots : ℕ) (r : Refusal) → n ≤ slots → or_too_few n slots r ≡ r
unfolding or_too_few
kept_enough n slots r h = rw (or_too_few, le-ltb slots n h)

pub kept_before : (n slots : ℕ) (r : Refusal) → slots < n → after_slots r.number ≡ false → or_too_few n slots r ≡ r
unfolding or_too_few
kept_before n slots r h g = rw (or_too_few, lt-ltb slots n h, g)

pub few_before : (n slots : ℕ) (r : Refusal) → slots < n → after_slots r.number ≡ true → or_too_few n slots r ≡ too_few n
unfolding or_too_few
few_before n slots r h g = rw (or_too_few, lt-ltb slots n h, g)

-- a call that answers in lent words ends with a refusal, or with an answer for which the words may be too few
module _ {A : Type 0} (n : ℕ) (f : A → List ℕ) (a : Answer A) (held : List ℕ) where
  pub ends_refused
      : (r number place : ℕ)
      → refused (record { number = number; place = place }) ≡ a
      → r ≡ code_of (some (or_too_few n (length held) (record { number = number; place = place })))
      → Ends n (as_words f a) held r held
  unfolding code_of code_in words_after as_words with_slots
  ends_refused r number place g e = rw (← g) (e, refl)

  pub ends_answered : (x : A) (r : ℕ) (words : List ℕ) → answered x ≡ a → Ends n (answered (f x)) held r words → Ends n (as_words f a) held r words
  unfolding as_words
  ends_answered x r words g e = rw (← g) e

-- words that are put, or are not for want of slots
module _ (n : ℕ) (l held : List ℕ) where
  pub put_few : (r : ℕ) → length held < n → r ≡ refusal_code 13 n → Ends n (answered l) held r held
  unfolding code_in words_after
  put_few r h e = rw (with_few n (length held) l h) (e, refl)

  pub put_words : (words : List ℕ) → n ≤ length held → words ≡ l ++ drop (length l) held → Ends n (answered l) held 0 words
  unfolding code_in words_after
  put_words words h e = rw (with_enough n (length held) (answered l) h) (refl, e)

  pub words_put : (r : ℕ) (words : List ℕ) → n ≤ length held → Ends n (answered l) held r words → (r ≡ 0) × (words ≡ l ++ drop (length l) held)
  unfolding code_in words_after
  words_put r words h e = rw (with_enough n (length held) (answered l) h) at e
