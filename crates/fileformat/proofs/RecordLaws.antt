-- Laws of one record: which bytes give it, and what its bytes are.
use Prim.Native.Nat.{ℕ, suc, ◌+◌, ◌-◌, ◌^◌, ◌≤◌, ◌<◌}
use mathlib.Core.Path.{◌≡◌, refl, sym, ap, ◌∙◌}
use mathlib.Core.Bool.{Bool, true, false}
use mathlib.Core.List.{List, [], ◌∷◌, ◌++◌, append_assoc, append-nil}
use native.Mathlib.Omega.{arith}
use native.Mathlib.Nat.{add-zero}
use borrow.Author.Tests.{lt-ltb, le-ltb, eq-eqb, ne_eqb, eqb-true, eqb-false, ltb-true, ltb-false}
use lib.Dec.{ltb, eqb}
use lib.ListN.{length, take, drop, length-append, take-append-drop}
use Rattle.model.specs.Tasks.{Release}
use Rattle.taskset.specs.declared.Task.{Task}
use Rattle.fileformat.specs.Numbers.{number, bytes_of, field, Bytes}
use Rattle.fileformat.specs.Records.{Width, short, long, kind_of, tick_bytes, body_size, task_kind, mark_bytes, task_body, task_size}
use Rattle.fileformat.specs.Records.{Record, broken, wrong_mark, task_record, release_record, charge_record, end_record}
use Rattle.fileformat.specs.Records.{task_from, marked_from, release_from, charge_from, whole, record_of, task_bytes, release_bytes, release_size, record_bytes, size_of}
use Rattle.fileformat.proofs.NumberLaws.{length_bytes, field_here, field_after, bytes_field, take_part, field_one}

-- a whole body gives the record, a cut one 2
pub whole_is : (n : ℕ) (l : List ℕ) (r : Record) → n ≤ length l → whole n l r ≡ r
unfolding whole
whole_is n l r h = rw (whole, le-ltb (length l) n h)

pub whole_cut : (n : ℕ) (l : List ℕ) (r : Record) → length l < n → whole n l r ≡ broken 2
unfolding whole
whole_cut n l r h = rw (whole, lt-ltb (length l) n h)

-- where a kind is due
pub record_due : record_of [] ≡ broken 2
unfolding record_of
record_due = refl

pub record_unknown
    : (k : ℕ) (l : List ℕ) → (k ≡ 1 → ⊥) → (k ≡ 2 → ⊥) → (k ≡ 3 → ⊥) → (k ≡ 4 → ⊥) → (k ≡ 5 → ⊥) → (k ≡ 6 → ⊥) → record_of (k ∷ l) ≡ broken 1
unfolding record_of
record_unknown k l a b c d e f = rw (record_of, ne_eqb k 1 a, ne_eqb k 2 b, ne_eqb k 3 c, ne_eqb k 4 d, ne_eqb k 5 e, ne_eqb k 6 f)

module _ (l : List ℕ) where
  -- a kind 6 record by its last byte
  marked_low : field 16 1 l ≡ 0 → marked_from l ≡ task_record (task_from true l)
  unfolding marked_from
  marked_low e = rw (marked_from, eq-eqb (field 16 1 l) 0 e)

  marked_wrong : (field 16 1 l ≡ 0 → ⊥) → marked_from l ≡ wrong_mark
  unfolding marked_from
  marked_wrong e = rw (marked_from, ne_eqb (field 16 1 l) 0 e)

  -- that of a low task is 0
  abbrev pub Marked : Bool → Type 0
  Marked low = low ≡ true → field 16 1 l ≡ 0

  pub record_task : (low : Bool) → task_body low ≤ length l → Marked low → record_of (task_kind low ∷ l) ≡ task_record (task_from low l)
  unfolding record_of
  record_task true h m = whole_is (task_body true) l _ h ∙ marked_low (m refl)
  record_task false h m = whole_is (task_body false) l _ h

  pub record_task_cut : (low : Bool) → length l < task_body low → record_of (task_kind low ∷ l) ≡ broken 2
  unfolding record_of
  record_task_cut true h = whole_cut (task_body true) l _ h
  record_task_cut false h = whole_cut (task_body false) l _ h

  pub record_wrong_mark : task_body true ≤ length l → (field 16 1 l ≡ 0 → ⊥) → record_of (6 ∷ l) ≡ wrong_mark
  unfolding record_of
  record_wrong_mark h e = whole_is (task_body true) l _ h ∙ marked_wrong e

  pub record_release : (w : Width) → body_size w ≤ length l → record_of (kind_of w ∷ l) ≡ release_record w (release_from w l)
  unfolding record_of
  record_release short h = whole_is (body_size short) l _ h
  record_release long h = whole_is (body_size long) l _ h

  pub record_release_cut : (w : Width) → length l < body_size w → record_of (kind_of w ∷ l) ≡ broken 2
  unfolding record_of
  record_release_cut short h = whole_cut (body_size short) l _ h
  record_release_cut long h = whole_cut (body_size long) l _ h

  pub record_charge : 1 ≤ length l → record_of (5 ∷ l) ≡ charge_record (charge_from l)
  unfolding record_of
  record_charge h = whole_is 1 l _ h

  pub record_charge_cut : length l < 1 → record_of (5 ∷ l) ≡ broken 2
  unfolding record_of
  record_charge_cut h = whole_cut 1 l _ h

  pub record_end : record_of (3 ∷ l) ≡ end_record
  unfolding record_of
  record_end = whole_is 0 l _ (omega arith)

-- the records by the bytes that give them
pub data Shape : List ℕ → Record → Type 0 where
  is_broken : (f : List ℕ) (n : ℕ) → Shape f (broken n)
  is_wrong_mark : (f : List ℕ) → Shape f wrong_mark
  is_task_lem : (low : Bool) (l : List ℕ) → task_body low ≤ length l → Marked l low → Shape (task_kind low ∷ l) (task_record (task_from low l))
  is_release : (w : Width) (l : List ℕ) → body_size w ≤ length l → Shape (kind_of w ∷ l) (release_record w (release_from w l))
  is_charge : (l : List ℕ) → 1 ≤ length l → Shape (5 ∷ l) (charge_record (charge_from l))
  is_end : (l : List ℕ) → Shape (3 ∷ l) end_record

pub shape : (f : List ℕ) → Shape f (record_of f)
shape [] = rw record_due (is_broken [] 2)
shape (k ∷ l) = one (eqb k 1) refl
  where
    release : (w : Width) (b : Bool) → ltb (length l) (body_size w) ≡ b → Shape (kind_of w ∷ l) (record_of (kind_of w ∷ l))
    release w true e = rw (record_release_cut l w (ltb-true _ _ e)) (is_broken (kind_of w ∷ l) 2)
    release w false e = rw (record_release l w (ltb-false _ _ e)) (is_release w l (ltb-false _ _ e))

    charge : (b : Bool) → ltb (length l) 1 ≡ b → Shape (5 ∷ l) (record_of (5 ∷ l))
    charge true e = rw (record_charge_cut l (ltb-true _ _ e)) (is_broken (5 ∷ l) 2)
    charge false e = rw (record_charge l (ltb-false _ _ e)) (is_charge l (ltb-false _ _ e))

    -- a low task, where its last byte is 0
    low_task : task_body true ≤ length l → (b : Bool) → eqb (field 16 1 l) 0 ≡ b → Shape (6 ∷ l) (record_of (6 ∷ l))
    low_task h true e = rw (record_task l true h (λ x. eqb-true _ 0 e)) (is_task_lem true l h (λ x. eqb-true _ 0 e))
    low_task h false e = rw (record_wrong_mark l h (eqb-false _ 0 e)) (is_wrong_mark (6 ∷ l))

    marked : (b : Bool) → ltb (length l) (task_body true) ≡ b → Shape (6 ∷ l) (record_of (6 ∷ l))
    marked true e = rw (record_task_cut l true (ltb-true _ _ e)) (is_broken (6 ∷ l) 2)
    marked false e = low_task (ltb-false _ _ e) (eqb (field 16 1 l) 0) refl

    six
        : (k ≡ 1 → ⊥) → (k ≡ 2 → ⊥) → (k ≡ 3 → ⊥) → (k ≡ 4 → ⊥) → (k ≡ 5 → ⊥) → (b : Bool) → eqb k 6 ≡ b → Shape (k ∷ l) (record_of (k ∷ l))
    six v w x y z true e = rw (eqb-true k 6 e) (marked (ltb (length l) (task_body true)) refl)
    six v w x y z false e = rw (record_unknown k l v w x y z (eqb-false k 6 e)) (is_broken (k ∷ l) 1)

    five : (k ≡ 1 → ⊥) → (k ≡ 2 → ⊥) → (k ≡ 3 → ⊥) → (k ≡ 4 → ⊥) → (b : Bool) → eqb k 5 ≡ b → Shape (k ∷ l) (record_of (k ∷ l))
    five w x y z true e = rw (eqb-true k 5 e) (charge (ltb (length l) 1) refl)
    five w x y z false e = six w x y z (eqb-false k 5 e) (eqb k 6) refl

    four : (k ≡ 1 → ⊥) → (k ≡ 2 → ⊥) → (k ≡ 3 → ⊥) → (b : Bool) → eqb k 4 ≡ b → Shape (k ∷ l) (record_of (k ∷ l))
    four x y z true e = rw (eqb-true k 4 e) (release long (ltb (length l) (body_size long)) refl)
    four x y z false e = five x y z (eqb-false k 4 e) (eqb k 5) refl

    three : (k ≡ 1 → ⊥) → (k ≡ 2 → ⊥) → (b : Bool) → eqb k 3 ≡ b → Shape (k ∷ l) (record_of (k ∷ l))
    three x y true e = rw (eqb-true k 3 e, record_end l) (is_end l)
    three x y false e = four x y (eqb-false k 3 e) (eqb k 4) refl

    two : (k ≡ 1 → ⊥) → (b : Bool) → eqb k 2 ≡ b → Shape (k ∷ l) (record_of (k ∷ l))
    two x true e = rw (eqb-true k 2 e) (release short (ltb (length l) (body_size short)) refl)
    two x false e = three x (eqb-false k 2 e) (eqb k 3) refl

    no_mark : Marked l false
    no_mark h = let w : ◌≡◌ {A = ℕ} 0 1 = cc in absurd (omega arith)

    task : (b : Bool) → ltb (length l) (task_body false) ≡ b → Shape (1 ∷ l) (record_of (1 ∷ l))
    task true e = rw (record_task_cut l false (ltb-true _ _ e)) (is_broken (1 ∷ l) 2)
    task false e = rw (record_task l false (ltb-false _ _ e) no_mark) (is_task_lem false l (ltb-false _ _ e) no_mark)

    one : (b : Bool) → eqb k 1 ≡ b → Shape (k ∷ l) (record_of (k ∷ l))
    one true e = rw (eqb-true k 1 e) (task (ltb (length l) (task_body false)) refl)
    one false e = two (eqb-false k 1 e) (eqb k 2) refl

-- the sizes are the numbers of bytes
length_mark : (low : Bool) → 16 + length (mark_bytes low) ≡ task_body low
length_mark true = refl
length_mark false = refl

pub length_task : (t : Task) → length (task_bytes t) ≡ task_size t.low
unfolding task_bytes
length_task t =
    let e : (n : ℕ) → length (bytes_of 4 n) ≡ 4 = length_bytes 4 in
    simp length-append (omega (arith, e t.period, e t.jitter, e t.cost, e t.deadline, length_mark t.low))

pub length_release : (w : Width) (r : Release) → length (release_bytes w r) ≡ release_size w
unfolding release_bytes
length_release w r =
    simp length-append (omega (arith, length_bytes 1 r.task, length_bytes (tick_bytes w) r.tick, length_bytes 4 r.cost))

pub length_charge : (c : ℕ) → length (record_bytes (charge_record c)) ≡ 2
unfolding record_bytes
length_charge c = ap suc (length_bytes 1 c)

-- a tick has four bytes at least and eight at most
pub tick_bytes_lem : (w : Width) → (4 ≤ tick_bytes w) × (tick_bytes w ≤ 8)
tick_bytes_lem short = (omega arith, omega arith)
tick_bytes_lem long = (omega arith, omega arith)

-- numbers that their bytes hold
pub record TaskFits (t : Task) : Type 0 where
  pub period : t.period < 4294967296
  pub jitter : t.jitter < 4294967296
  pub cost : t.cost < 4294967296
  pub deadline : t.deadline < 4294967296

pub record ReleaseFits (w : Width) (r : Release) : Type 0 where
  pub task : r.task < 256
  pub tick : r.tick < 256 ^ tick_bytes w
  pub cost : r.cost < 4294967296

-- the bytes of a task give it back
module _ (t : Task) (m : List ℕ) where
  -- its body from each number on, and then some bytes
  abbrev from_deadline : List ℕ
  from_deadline = bytes_of 4 t.deadline ++ m

  abbrev from_cost : List ℕ
  from_cost = bytes_of 4 t.cost ++ from_deadline

  abbrev from_jitter : List ℕ
  from_jitter = bytes_of 4 t.jitter ++ from_cost

  abbrev from_period : List ℕ
  from_period = bytes_of 4 t.period ++ from_jitter

  task_from_lem : TaskFits t → task_from t.low from_period ≡ t
  unfolding task_from
  task_from_lem f =
      let e1 = field_here 4 t.period from_jitter f.period in
      let e2 = field_after 0 4 4 t.period from_jitter ∙ field_here 4 t.jitter from_cost f.jitter in
      let e3 = field_after 4 4 4 t.period from_jitter ∙ field_after 0 4 4 t.jitter from_cost ∙ field_here 4 t.cost from_deadline f.cost in
      let e4 = field_after 8 4 4 t.period from_jitter ∙ field_after 4 4 4 t.jitter from_cost ∙ field_after 0 4 4 t.cost from_deadline
      ∙ field_here 4 t.deadline m f.deadline in
      rw (e1, e2, e3, e4)

  -- the byte past them
  past_numbers : field 16 1 from_period ≡ field 0 1 m
  past_numbers =
      field_after 12 1 4 t.period from_jitter ∙ field_after 8 1 4 t.jitter from_cost ∙ field_after 4 1 4 t.cost from_deadline
      ∙ field_after 0 1 4 t.deadline m

marked_here : (low : Bool) (m : List ℕ) → low ≡ true → field 0 1 (mark_bytes low ++ m) ≡ 0
unfolding field number
marked_here true m e = refl
marked_here false m e = let w : ◌≡◌ {A = ℕ} 0 1 = cc in absurd (omega arith)

pub task_read : (t : Task) (m : List ℕ) → TaskFits t → record_of (task_bytes t ++ m) ≡ task_record t
unfolding task_bytes
task_read t m f =
    record_task _ t.low (omega (arith, long)) (simp append_assoc (λ e. past_numbers t (mark_bytes t.low ++ m) ∙ marked_here t.low m e))
    ∙ ap task_record (simp append_assoc (task_from_lem t (mark_bytes t.low ++ m) f))
  where
    long : length (task_bytes t ++ m) ≡ task_size t.low + length m
    long = length-append (task_bytes t) m ∙ ap (λ x. x + length m) (length_task t)

release_from_lem
    : (w : Width) (r : Release) (m : List ℕ) → ReleaseFits w r → release_from w (bytes_of 1 r.task ++ (bytes_of (tick_bytes w) r.tick ++ (bytes_of 4 r.cost ++ m))) ≡ r
unfolding release_from
release_from_lem w r m f =
    let k = tick_bytes w in
    let rest = bytes_of (tick_bytes w) r.tick ++ (bytes_of 4 r.cost ++ m) in
    let e1 = field_here 1 r.task rest f.task in
    let e2 = field_after 0 k 1 r.task rest ∙ field_here k r.tick (bytes_of 4 r.cost ++ m) f.tick in
    let e3 = field_after k 4 1 r.task rest ∙ ap (λ a. field a 4 rest) (sym (add-zero k)) ∙ field_after 0 4 k r.tick (bytes_of 4 r.cost ++ m) ∙ field_here 4
    r.cost m f.cost in
    rw (e1, e2, e3)

pub release_read : (w : Width) (r : Release) (m : List ℕ) → ReleaseFits w r → record_of (release_bytes w r ++ m) ≡ release_record w r
unfolding release_bytes
release_read w r m f =
    record_release _ w (omega (arith, whole_length)) ∙ ap (release_record w) (simp append_assoc (release_from_lem w r m f))
  where
    whole_length : length (release_bytes w r ++ m) ≡ release_size w + length m
    whole_length = length-append (release_bytes w r) m ∙ ap (λ x. x + length m) (length_release w r)

pub charge_read : (c : ℕ) (m : List ℕ) → c < 256 → record_of (record_bytes (charge_record c) ++ m) ≡ charge_record c
unfolding record_bytes charge_from
charge_read c m f =
    record_charge _ (omega (arith, length-append (bytes_of 1 c) m, length_bytes 1 c)) ∙ ap charge_record (field_here 1 c m f)

-- the bytes that give a record are its bytes
mark_bytes_lem
    : (low : Bool) (l : List ℕ) → Bytes l → task_body low ≤ length l → Marked l low
    → take 4 (drop 12 l) ++ mark_bytes low ≡ take (task_body low - 12) (drop 12 l)
unfolding bytes_of
mark_bytes_lem true l b h m = ap (λ x. take 4 (drop 12 l) ++ x) (ap (bytes_of 1) (sym (m refl)) ∙ bytes_field 16 1 l b h) ∙ sym (take_part 12 4 1 l)
mark_bytes_lem false l b h m = append-nil (take 4 (drop 12 l))

split_body : (low : Bool) (l : List ℕ) → take (task_body low) l ≡ take 4 l ++ (take 4 (drop 4 l) ++ (take 4 (drop 8 l) ++ take (task_body low - 12) (drop 12 l)))
split_body true l = take_part 0 4 13 l ∙ ap (λ x. take 4 l ++ x) (take_part 4 4 9 l ∙ ap (λ x. take 4 (drop 4 l) ++ x) (take_part 8 4 5 l))
split_body false l = take_part 0 4 12 l ∙ ap (λ x. take 4 l ++ x) (take_part 4 4 8 l ∙ ap (λ x. take 4 (drop 4 l) ++ x) (take_part 8 4 4 l))

task_bytes_lem
    : (low : Bool) (l : List ℕ) → Bytes l → task_body low ≤ length l → Marked l low
    → task_bytes (task_from low l) ≡ task_kind low ∷ take (task_body low) l
unfolding task_bytes task_from
task_bytes_lem low l b h m =
    let e : 16 ≤ length l = omega (arith, length_mark low) in
    rw (bytes_field 0 4 l b (omega arith), bytes_field 4 4 l b (omega arith), bytes_field 8 4 l b (omega arith), bytes_field 12 4 l b (omega arith))
    (ap (λ x. task_kind low ∷ x) (ap (λ x. take 4 l ++ (take 4 (drop 4 l) ++ (take 4 (drop 8 l) ++ x))) (mark_bytes_lem low l b h m) ∙ sym (split_body low l)))

release_bytes_lem : (w : Width) (l : List ℕ) → Bytes l → body_size w ≤ length l → release_bytes w (release_from w l) ≡ kind_of w ∷ take (body_size w) l
unfolding release_bytes release_from
release_bytes_lem w l b h =
    let k = tick_bytes w in
    let e : 1 + (tick_bytes w + 4) ≡ body_size w = omega arith in
    rw (bytes_field 0 1 l b (omega arith), bytes_field 1 k l b (omega arith), bytes_field (1 + k) 4 l b (omega arith))
    (ap (λ x. kind_of w ∷ x) (ap (λ x. take 1 l ++ x) (sym (take_part 1 k 4 l)) ∙ sym (take_part 0 1 (k + 4) l) ∙ ap (λ n. take n l) e))

-- of a record that has any
pub bytes_read : (f : List ℕ) (r : Record) → Shape f r → Bytes f → 1 ≤ size_of r → record_bytes r ++ drop (size_of r) f ≡ f
unfolding record_bytes size_of charge_from task_from
bytes_read f r (is_broken g n) b h = absurd (omega arith)
bytes_read f r (is_wrong_mark g) b h = absurd (omega arith)
bytes_read f r (is_task_lem low l g m) b h =
    ap (λ x. x ++ drop (task_body low) l) (task_bytes_lem low l (λ i. b (suc i)) g m) ∙ ap (λ x. task_kind low ∷ x) (take-append-drop (task_body low) l)
bytes_read f r (is_release w l g) b h =
    ap (λ x. x ++ drop (release_size w) (kind_of w ∷ l)) (release_bytes_lem w l (λ i. b (suc i)) g) ∙ ap (λ x. kind_of w ∷ x) (take-append-drop (body_size w) l)
bytes_read f r (is_charge l g) b h =
    ap (λ x. 5 ∷ (x ++ drop 1 l)) (bytes_field 0 1 l (λ i. b (suc i)) g) ∙ ap (λ x. 5 ∷ x) (take-append-drop 1 l)
bytes_read f r (is_end l) b h = refl

-- a charge that some bytes give is a byte
pub charge_byte : (f : List ℕ) (r : Record) → Shape f r → Bytes f → (c : ℕ) → r ≡ charge_record c → c < 256
unfolding charge_from
charge_byte f r (is_broken g n) b c e = let w : ◌≡◌ {A = ℕ} 0 1 = cc in absurd (omega arith)
charge_byte f r (is_wrong_mark g) b c e = let w : ◌≡◌ {A = ℕ} 0 1 = cc in absurd (omega arith)
charge_byte f r (is_task_lem low l g m) b c e = let w : ◌≡◌ {A = ℕ} 0 1 = cc in absurd (omega arith)
charge_byte f r (is_release v l g) b c e = let w : ◌≡◌ {A = ℕ} 0 1 = cc in absurd (omega arith)
charge_byte f r (is_charge l g) b c e =
    let w : field 0 1 l ≡ c = cc in
    omega (arith, field_one 0 l g, b 1)
charge_byte f r (is_end l) b c e = let w : ◌≡◌ {A = ℕ} 0 1 = cc in absurd (omega arith)

-- a record lies within the bytes that give it
pub size_in : (f : List ℕ) (r : Record) → Shape f r → size_of r ≤ length f
unfolding size_of task_from
size_in f r (is_broken g n) = omega arith
size_in f r (is_wrong_mark g) = omega arith
size_in f r (is_task_lem low l h m) = omega arith
size_in f r (is_release w l h) = omega arith
size_in f r (is_charge l h) = omega arith
size_in f r (is_end l) = omega arith
