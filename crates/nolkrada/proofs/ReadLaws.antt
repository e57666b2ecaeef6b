-- Laws of a read that lends too few slots: what is wrong with a file is never 13, so that a 13 tells how many releases it has.
use Prim.Native.Nat.{ℕ, zero, suc, ◌+◌, ◌-◌, ◌≤◌, ◌<◌}
use mathlib.Core.Path.{◌≡◌, refl, ap, ◌∙◌}
use mathlib.Core.Bool.{Bool, true, false, ◌||◌}
use mathlib.Core.Option.{Option, some, none}
use mathlib.Core.List.{List, [], ◌∷◌, ◌++◌}
use native.Mathlib.Omega.{arith}
use lib.Dec.{leb, ltb, eqb}
use lib.ListN.{length, drop}
use Rattle.model.specs.Limits.{max_tasks, max_releases}
use Rattle.model.specs.Tasks.{Tasks, Release}
use Rattle.model.specs.Refusal.{Refusal, Answer, refused, answered}
use Rattle.model.specs.Checks.{Lent, in_range, carries, entry_fault, check_slots, release_fault}
use Rattle.model.specs.Calls.{lends}
use Rattle.model.proofs.CheckLaws.{slots_next, slot_of}
use Rattle.taskset.specs.declared.Task.{Task}
use Rattle.fileformat.specs.Numbers.{field}
use Rattle.fileformat.specs.Records.{task_body, body_size, long, short, Width, Record, broken, wrong_mark, task_record, release_record, charge_record, end_record, marked_from, record_of, whole, size_of}
use Rattle.fileformat.specs.File.{File, State, Step, stop, next, last, charge_fault, task_fault, mark_fault, low_tick, high_tick, list_fault, end_fault, unless, advance, after_end, read_by, read_from, decode}
use Rattle.fileformat.specs.FileCalls.{read_call, read_count}
use Rattle.interface.specs.Interface.{refusal_code, code_of, code_in, too_few}
use Rattle.interface.proofs.AnswerOrderLaws.{slots_extra}
use Rattle.nolkrada.specs.Files.{read_lent, read_within}

-- both ways of a test
either : {A : Type 0} (P : A → Type 0) (b : Bool) (x y : A) → P x → P y → P (elim b [ true ↦ x | false ↦ y ])
either P true x y p q = p
either P false x y p q = q

-- a number that differs from 13 by at least 1
abbrev NotSlots : ℕ → Type 0
NotSlots n = 1 ≤ (n - 13) + (13 - n)

-- of a fault, a record, a step or an answer, where it has a number
abbrev OtherFault : Option ℕ → Type 0
OtherFault none = 0 ≤ 0
OtherFault (some n) = NotSlots n

abbrev OtherRecord : Record → Type 0
OtherRecord (broken n) = NotSlots n
OtherRecord wrong_mark = 0 ≤ 0
OtherRecord (task_record t) = 0 ≤ 0
OtherRecord (release_record w r) = 0 ≤ 0
OtherRecord (charge_record c) = 0 ≤ 0
OtherRecord end_record = 0 ≤ 0

abbrev OtherStep : Step → Type 0
OtherStep (stop n) = NotSlots n
OtherStep (next s) = 0 ≤ 0
OtherStep last = 0 ≤ 0

abbrev OtherAnswer : Answer File → Type 0
OtherAnswer (refused q) = NotSlots q.number
OtherAnswer (answered x) = 0 ≤ 0

whole_other : (n : ℕ) (l : List ℕ) (r : Record) → OtherRecord r → OtherRecord (whole n l r)
unfolding whole
whole_other n l r h = either OtherRecord (ltb (length l) n) _ _ (omega arith) h

marked_other : (l : List ℕ) → OtherRecord (marked_from l)
unfolding marked_from
marked_other l = either OtherRecord (eqb (field 16 1 l) 0) _ _ (omega arith) (omega arith)

record_other : (f : List ℕ) → OtherRecord (record_of f)
unfolding record_of
record_other [] = omega arith
record_other (k ∷ l) =
    either OtherRecord (eqb k 1) _ _ (whole_other (task_body false) l _ (omega arith))
    (either OtherRecord (eqb k 2) _ _ (whole_other (body_size short) l _ (omega arith))
    (either OtherRecord (eqb k 3) _ _ (whole_other 0 l _ (omega arith))
    (either OtherRecord (eqb k 4) _ _ (whole_other (body_size long) l _ (omega arith))
    (either OtherRecord (eqb k 5) _ _ (whole_other 1 l _ (omega arith))
    (either OtherRecord (eqb k 6) _ _ (whole_other (task_body true) l _ (marked_other l)) (omega arith))))))

charge_other : (a b c d : ℕ) → OtherFault (charge_fault a b c d)
unfolding charge_fault
charge_other a b c d =
    either OtherFault (ltb 0 a || ltb 0 b || ltb 0 c) _ _ (omega arith) (either OtherFault (eqb d 0) _ _ (omega arith) (omega arith))

-- both ways of a test whose first answer is that of false
neither : {A : Type 0} (P : A → Type 0) (b : Bool) (x y : A) → P x → P y → P (elim b [ false ↦ x | true ↦ y ])
neither P true x y p q = q
neither P false x y p q = p

task_other : (c a b : ℕ) (t : Task) → OtherFault (task_fault c a b t)
unfolding task_fault entry_fault
task_other c a b t =
    either OtherFault (ltb 0 b) _ _ (omega arith)
    (either OtherFault (leb max_tasks a) _ _ (omega arith)
    (neither OtherFault (in_range t.period t.jitter t.cost t.deadline) _ _ (omega arith)
    (neither OtherFault (carries c t.period t.cost t.deadline) _ _ (omega arith) (omega arith))))

mark_other : (a b : ℕ) → NotSlots (mark_fault a b)
unfolding mark_fault
mark_other a b = either NotSlots (ltb 0 b) _ _ (omega arith) (either NotSlots (leb max_tasks a) _ _ (omega arith) (omega arith))

release_other : (s : Tasks) (low high : ℕ) (r : Release) → OtherFault (release_fault s low high r)
unfolding release_fault
release_other s low high r =
    either OtherFault (leb s.count r.task) _ _ (omega arith)
    (either OtherFault (ltb r.tick low || ltb high r.tick) _ _ (omega arith)
    (either OtherFault (eqb r.cost 0 || ltb (s.cost r.task) r.cost) _ _ (omega arith) (omega arith)))

list_other : (s : Tasks) (n before : ℕ) (w : Width) (r : Release) → OtherFault (list_fault s n before w r)
unfolding list_fault
list_other s n before w r =
    either OtherFault (eqb s.count 0) _ _ (omega arith) (go (release_fault s (low_tick w before) (high_tick w) r) (release_other s (low_tick w before) (high_tick w) r))
  where
    go : (o : Option ℕ) → OtherFault o → OtherFault (elim o [ some k ↦ some k | none ↦ elim (leb max_releases n) [ true ↦ some 10 | false ↦ none ] ])
    go none h = either OtherFault (leb max_releases n) _ _ (omega arith) (omega arith)
    go (some k) h = h

end_other : (n : ℕ) → OtherFault (end_fault n)
unfolding end_fault
end_other n = either OtherFault (eqb n 0) _ _ (omega arith) (omega arith)

unless_other : (o : Option ℕ) (t : Step) → OtherFault o → OtherStep t → OtherStep (unless o t)
unfolding unless
unless_other none t h g = g
unless_other (some n) t h g = h

advance_other : (s : State) (r : Record) → OtherRecord r → OtherStep (advance s r)
unfolding advance
advance_other s (broken n) h = h
advance_other s wrong_mark h = mark_other (length s.tasks) (length s.releases)
advance_other s (task_record t) h = unless_other _ _ (task_other _ _ _ t) (omega arith)
advance_other s (release_record w r) h = unless_other _ _ (list_other _ _ _ w r) (omega arith)
advance_other s (charge_record c) h = unless_other _ _ (charge_other _ _ _ c) (omega arith)
advance_other s end_record h = unless_other _ _ (end_other _) (omega arith)

end_of_other : (s : State) (at : ℕ) (f : List ℕ) → OtherAnswer (after_end s at f)
unfolding after_end
end_of_other s at [] = omega arith
end_of_other s at (b ∷ l) = omega arith

from_other : (n : ℕ) (s : State) (at : ℕ) (f : List ℕ) → OtherAnswer (read_from n s at f)
unfolding read_by
from_other zero s at f = omega arith
from_other (suc n) s at f =
    go (advance s (record_of f)) (advance_other s (record_of f) (record_other f)) (λ s'. from_other n s' (at + size_of (record_of f)) (drop (size_of (record_of f)) f))
  where
    go
        : (t : Step)
        → OtherStep t
        → ((s' : State) → OtherAnswer (read_from n s' (at + size_of (record_of f)) (drop (size_of (record_of f)) f)))
        → OtherAnswer
        (elim t [
          | stop k ↦ refused (record { number = k; place = at })
          | next s' ↦ read_from n s' (at + size_of (record_of f)) (drop (size_of (record_of f)) f)
          | last ↦ after_end s (at + size_of (record_of f)) (drop (size_of (record_of f)) f)
        ])
    go (stop k) h g = h
    go (next s') h g = g s'
    go last h g = end_of_other s (at + size_of (record_of f)) (drop (size_of (record_of f)) f)

-- what is wrong with a file has a number other than 13
pub decode_other : (f : List ℕ) → OtherAnswer (decode f)
unfolding decode
decode_other f = from_other (suc (length f)) _ 0 f

-- three columns that need as many slots each are enough, or 13 tells how many slots
three_slots : (n : ℕ) (a b c : List ℕ) (q : Refusal) → check_slots (lends n a ∷ lends n b ∷ lends n c ∷ []) ≡ some q → q ≡ too_few n
unfolding check_slots
three_slots n a b c q e = go (ltb (length a) n) (ltb (length b) n) (ltb (length c) n) e
  where
    go
        : (x y z : Bool)
        → elim x [
          | true ↦ some (too_few n)
          | false ↦ elim y [ true ↦ some (too_few n) | false ↦ elim z [ true ↦ some (too_few n) | false ↦ none ] ]
        ]
        ≡ some q
        → q ≡ too_few n
    go true y z e = cc
    go false true z e = cc
    go false false true e = cc
    go false false false e = let z : ◌≡◌ {A = ℕ} 0 1 = cc in absurd (omega arith)

-- a call to which three columns are lent, by what the file is
module _ (a b c : List ℕ) where
  abbrev three : File → Option Refusal
  three x = check_slots (lends (length x.releases) a ∷ lends (length x.releases) b ∷ lends (length x.releases) c ∷ [])

  abbrev pub told : Answer File → Answer File
  told d = elim d [ refused q ↦ refused q | answered x ↦ elim (three x) [ none ↦ answered x | some q ↦ refused q ] ]

  pub call_told : (f : List ℕ) → read_call f a b c ≡ told (decode f)
  unfolding read_call
  call_told f = refl

  told_read : (d : Answer File) (m : ℕ) → answered m ≡ read_count (told d) → answered m ≡ read_count d
  unfolding read_count
  told_read (refused q) m e = e
  told_read (answered x) m e = go (three x) e
    where
      go : (o : Option Refusal) → answered m ≡ read_count (elim o [ none ↦ answered x | some q ↦ refused q ]) → answered m ≡ read_count (answered x)
      go none e = e
      go (some q) e = let z : ◌≡◌ {A = ℕ} 0 1 = cc in absurd (omega arith)

  told_few : (d : Answer File) (m : ℕ) → OtherAnswer d → refused (too_few m) ≡ read_count (told d) → answered m ≡ read_count d
  unfolding read_count
  told_few (refused q) m l e = let g : too_few m ≡ q = cc in absurd (omega (arith, ap (λ (r : Refusal). r.number) g))
  told_few (answered x) m l e = go (three x) refl e
    where
      go
          : (o : Option Refusal)
          → three x ≡ o
          → refused (too_few m) ≡ read_count (elim o [ none ↦ answered x | some q ↦ refused q ])
          → answered m ≡ read_count (answered x)
      go none i e = let z : ◌≡◌ {A = ℕ} 0 1 = cc in absurd (omega arith)
      go (some q) i e =
          let g : too_few m ≡ q = cc in
          let h : q ≡ too_few (length x.releases) = three_slots (length x.releases) a b c q i in
          ap answered (ap (λ (r : Refusal). r.place) (g ∙ h))

  told_refused
      : (d : Answer File) (number place : ℕ)
      → (number ≡ 13 → ⊥)
      → refused (record { number = number; place = place }) ≡ read_count (told d)
      → refused (record { number = number; place = place }) ≡ read_count d
  unfolding read_count
  told_refused (refused q) number place h e = e
  told_refused (answered x) number place h e = go (three x) refl e
    where
      go
          : (o : Option Refusal)
          → three x ≡ o
          → refused (record { number = number; place = place }) ≡ read_count (elim o [ none ↦ answered x | some q ↦ refused q ])
          → refused (record { number = number; place = place }) ≡ read_count (answered x)
      go none i e = let z : ◌≡◌ {A = ℕ} 0 1 = cc in absurd (omega arith)
      go (some q) i e =
          let g : record { number = number; place = place } ≡ q = cc in
          absurd (h (ap (λ (r : Refusal). r.number) (g ∙ three_slots (length x.releases) a b c q i)))

-- what a read with any columns tells of the file
module _ (f a b c : List ℕ) where
  pub count_read : (m : ℕ) → answered m ≡ read_count (read_call f a b c) → answered m ≡ read_count (decode f)
  count_read m e = told_read a b c (decode f) m (e ∙ ap read_count (call_told a b c f))

  pub count_few
      : (number m : ℕ)
      → number ≡ 13
      → refused (record { number = number; place = m }) ≡ read_count (read_call f a b c)
      → answered m ≡ read_count (decode f)
  count_few number m h e =
      let e' : refused (too_few m) ≡ read_count (read_call f a b c) = rw h at e in
      told_few a b c (decode f) m (decode_other f) (e' ∙ ap read_count (call_told a b c f))

  pub count_refused
      : (number place : ℕ)
      → (number ≡ 13 → ⊥)
      → refused (record { number = number; place = place }) ≡ read_count (read_call f a b c)
      → refused (record { number = number; place = place }) ≡ read_count (decode f)
  count_refused number place h e = told_refused a b c (decode f) number place h (e ∙ ap read_count (call_told a b c f))

-- a read that is refused
abbrev pub Halts : Answer File → Type 0
Halts (refused q) = 0 ≤ 0
Halts (answered x) = ⊥

halting : (o : Option Refusal) (x : File) → (none ≡ o → ⊥) → Halts (elim o [ none ↦ answered x | some q ↦ refused q ])
halting none x h = h refl
halting (some q) x h = omega arith

-- it is where the sheet or the words are too few
module _ (sheet task tick cost answer : ℕ) where
  abbrev lent : ℕ → Option Refusal
  lent m = check_slots (read_lent m sheet task tick cost answer)

  sheet_enough : (m : ℕ) → none ≡ lent m → 160 ≤ sheet
  sheet_enough m e = (slot_of _ _ e).0

  answer_enough : (m : ℕ) → none ≡ lent m → 3 ≤ answer
  answer_enough m e = (slot_of _ _ (slot_of _ _ (slot_of _ _ (slot_of _ _ (slot_of _ _ e).1).1).1).1).0

  pub sheet_halts : (a : Answer File) → sheet < 160 → Halts (read_within a sheet task tick cost answer)
  unfolding read_within
  sheet_halts (refused q) h = omega arith
  sheet_halts (answered x) h = halting (lent (length x.releases)) x (λ e. omega (arith, sheet_enough (length x.releases) e))

  pub answer_halts : (a : Answer File) → answer < 3 → Halts (read_within a sheet task tick cost answer)
  unfolding read_within
  answer_halts (refused q) h = omega arith
  answer_halts (answered x) h = halting (lent (length x.releases)) x (λ e. omega (arith, answer_enough (length x.releases) e))

  -- the code of a read, by what is wrong with the file or by the slices
  pub code_refused
      : (a : Answer File) (r number place : ℕ)
      → refused (record { number = number; place = place }) ≡ read_count a
      → r ≡ refusal_code number place
      → r ≡ code_in (read_within a sheet task tick cost answer)
  unfolding read_count read_within code_in
  code_refused (refused q) r number place h e = let g : record { number = number; place = place } ≡ q = cc in rw (← g) e
  code_refused (answered x) r number place h e = let z : ◌≡◌ {A = ℕ} 0 1 = cc in absurd (omega arith)

  code_stopped : (o : Option Refusal) (x : File) → code_of o ≡ code_in {A = File} (elim o [ none ↦ answered x | some q ↦ refused q ])
  unfolding code_of code_in
  code_stopped none x = refl
  code_stopped (some q) x = refl

  pub code_slots
      : (a : Answer File) (m r : ℕ) (o : Option Refusal)
      → answered m ≡ read_count a
      → o ≡ lent m
      → r ≡ code_of o
      → r ≡ code_in (read_within a sheet task tick cost answer)
  unfolding read_count read_within
  code_slots (refused q) m r o h g e = let z : ◌≡◌ {A = ℕ} 0 1 = cc in absurd (omega arith)
  code_slots (answered x) m r o h g e =
      let i : m ≡ length x.releases = cc in
      e ∙ ap code_of (g ∙ ap lent i) ∙ code_stopped (lent (length x.releases)) x

-- where both are enough, the columns decide
pub within_enough
    : (d : Answer File) (sheet answer : ℕ) (task tick cost : List ℕ)
    → 160 ≤ sheet
    → 3 ≤ answer
    → read_within d sheet (length task) (length tick) (length cost) answer ≡ told task tick cost d
unfolding read_within
within_enough (refused q) sheet answer task tick cost g h = refl
within_enough (answered x) sheet answer task tick cost g h =
    let m = length x.releases in
    let columns = lends m task ∷ lends m tick ∷ lends m cost ∷ [] in
    let words : Lent = record { needed = 3; slots = answer } in
    ap (λ (o : Option Refusal). elim o [ none ↦ answered x | some q ↦ refused q ])
    (slots_next (record { needed = 160; slots = sheet }) (columns ++ (words ∷ [])) g ∙ slots_extra columns words h)
