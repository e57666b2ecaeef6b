-- Files of document 01, of R-3 and of R-4 are read and written as before.
use Prim.Native.Nat.{ℕ, zero, suc, ◌+◌, ◌≤◌}
use mathlib.Core.Path.{◌≡◌, refl, sym, ap, ap₂, ◌∙◌}
use mathlib.Core.Bool.{Bool, true, false}
use mathlib.Core.Logic.{◌⊎◌, inl, inr}
use mathlib.Core.Option.{some}
use mathlib.Core.List.{List, [], ◌∷◌, ◌++◌, map, append-nil}
use native.Mathlib.Omega.{arith}
use native.Mathlib.Nat.{add-zero, zero-add}
use borrow.Author.Tests.{leb-true, leb-false}
use lib.Dec.{ltb, leb}
use lib.ListN.{length, get_or, drop}
use lib.Seq.{get_or-drop}
use Rattle.model.specs.Limits.{max_tasks}
use Rattle.model.specs.Tasks.{Release}
use Rattle.model.specs.Refusal.{refused}
use Rattle.model.proofs.ChargeLaws.{entry_uncharged}
use Rattle.taskset.specs.declared.Task.{Task}
use Rattle.fileformat.specs.Records.{short, broken, task_record, release_record, end_record, record_of, size_of, task_bytes, record_bytes, written_record}
use Rattle.fileformat.specs.File.{File, State, Step, stop, next, last, charge_records, joined, encode, records_of, task_fault}
use Rattle.fileformat.specs.File.{advance, read_by, read_from, empty, decode}
use Rattle.fileformat.specs.OldFiles.{old_task_bytes, old_tasks, AllHigh, unmarked_encode, uncharged_encode, long_encode, ShortTicks}
use Rattle.fileformat.specs.OldFiles.{old_record, old_decode, last_kind, old_task_fault}
use Rattle.fileformat.specs.OldFiles.{UnmarkedIsWritten, UnmarkedIsRead, ReadIsUnmarked, UnchargedIsWritten, UnchargedIsRead, ReadIsUncharged}
use Rattle.fileformat.specs.OldFiles.{OldIsWritten, OldIsRead, ReadIsOld, OldIsAnswered, OldTask}
use Rattle.fileformat.specs.RoundTrips.{IsByte}
use Rattle.fileformat.proofs.RecordLaws.{record_unknown}
use Rattle.fileformat.proofs.StepLaws.{broken_stops, stops_by, goes_by, ends_by, read_stop, read_next, read_last}
use Rattle.fileformat.proofs.WidthLaws.{width_short}
use Rattle.fileformat.proofs.RoundTrips.{joined_append, task_part, decode_encode, encode_decode}

-- a release within document 01's limit is written as a record of kind 2
short_records : (l : List Release) → ShortTicks l → map written_record l ≡ map (release_record short) l
short_records [] h = refl
short_records (r ∷ l) h =
    ap₂ ◌∷◌ (ap (λ w. release_record w r) (width_short r.tick (h 0 (omega arith)))) (short_records l (λ p i. h (suc p) (omega arith)))

-- high tasks are written in records without a mark
high_bytes_lem : (t : Task) → t.low ≡ false → task_bytes t ≡ old_task_bytes t
unfolding task_bytes old_task_bytes
high_bytes_lem t h = rw (h, append-nil)

high_tasks : (l : List Task) → AllHigh l → task_part l ≡ old_tasks l
unfolding joined record_bytes old_tasks
high_tasks [] h = refl
high_tasks (t ∷ l) h = ap₂ ◌++◌ (high_bytes_lem t (h 0 (omega arith))) (high_tasks l (λ i k. h (suc i) (omega arith)))

pub unmarked_encoded : UnmarkedIsWritten
unfolding encode records_of unmarked_encode
unmarked_encoded x a =
    let rest = map written_record x.releases ++ (end_record ∷ []) in
    joined_append (charge_records x.charge) (map task_record x.tasks ++ rest)
    ∙ ap (λ y. joined (charge_records x.charge) ++ y) (joined_append (map task_record x.tasks) rest ∙ ap (λ y. y ++ joined rest) (high_tasks x.tasks a))

pub unmarked_decoded : UnmarkedIsRead
unmarked_decoded x v b a = ap decode (sym (unmarked_encoded x a)) ∙ decode_encode x b v

pub unmarked_only : ReadIsUnmarked
unmarked_only f x b e a = sym (encode_decode f x b e) ∙ unmarked_encoded x a

-- without a charge there is no record of it
uncharged_unmarked : (x : File) → x.charge ≡ 0 → unmarked_encode x ≡ long_encode x
unfolding unmarked_encode uncharged_encode joined charge_records
uncharged_unmarked x z = ap (λ c. joined (charge_records c) ++ (old_tasks x.tasks ++ joined (map written_record x.releases ++ (end_record ∷ [])))) z

pub uncharged_encoded : UnchargedIsWritten
uncharged_encoded x a z = unmarked_encoded x a ∙ uncharged_unmarked x z

zero_byte : (c : ℕ) → c ≡ 0 → IsByte c
zero_byte c z = omega arith

pub uncharged_decoded : UnchargedIsRead
uncharged_decoded x v a z = ap decode (sym (uncharged_encoded x a z)) ∙ decode_encode x (zero_byte x.charge z) v

pub uncharged_only : ReadIsUncharged
uncharged_only f x b e a z = sym (encode_decode f x b e) ∙ uncharged_encoded x a z

pub old_encoded : OldIsWritten
unfolding uncharged_encode
old_encoded x a z h = uncharged_encoded x a z ∙ ap (λ l. old_tasks x.tasks ++ joined (l ++ (end_record ∷ []))) (short_records x.releases h)

pub old_decoded : OldIsRead
old_decoded x v a z h = ap decode (sym (old_encoded x a z h)) ∙ decode_encode x (zero_byte x.charge z) v

pub old_only : ReadIsOld
old_only f x b e a z h = sym (encode_decode f x b e) ∙ old_encoded x a z h

pub old_task : OldTask
unfolding task_fault old_task_fault
old_task tasks releases t = λ x.
    elim (ltb 0 releases) [
      | true ↦ some 3
      | false ↦ elim (leb max_tasks tasks) [ true ↦ some 4 | false ↦ entry_uncharged t.period t.jitter t.cost t.deadline x ]
    ]

-- the reading from an offset on, given the first kind that there was not: as the reader before it, or that one refuses with 1 such a kind
module _ (first : ℕ) where
  abbrev SameFrom : ℕ → State → ℕ → List ℕ → Type 0
  SameFrom n s at f =
      (read_by (old_record first) n s at f ≡ read_from n s at f)
      ⊎ ((p : ℕ) × (first ≤ get_or f p 0) × (get_or f p 0 ≤ last_kind) × (read_by (old_record first) n s at f ≡ refused (record { number = 1; place = at + p })))

  -- a kind byte from that kind on, and another
  old_late : (k : ℕ) (l : List ℕ) → leb first k ≡ true → old_record first (k ∷ l) ≡ broken 1
  unfolding old_record
  old_late k l e = rw (old_record, e)

  old_other : (k : ℕ) (l : List ℕ) → leb first k ≡ false → old_record first (k ∷ l) ≡ record_of (k ∷ l)
  unfolding old_record
  old_other k l e = rw (old_record, e)

  old_due : old_record first [] ≡ record_of []
  unfolding old_record
  old_due = refl

  -- bytes that begin with the same record are read alike where what follows it is
  module _ (n : ℕ) (s : State) (at : ℕ) (f : List ℕ) (e : old_record first f ≡ record_of f) where
    later
        : (s' : State) → advance s (record_of f) ≡ next s' → SameFrom n s' (at + size_of (record_of f)) (drop (size_of (record_of f)) f)
        → SameFrom (suc n) s at f
    later s' d (inl h) = inl (goes_by (old_record first) n s at f (record_of f) e s' d ∙ h ∙ sym (read_next n s at f (record_of f) refl s' d))
    later s' d (inr (p, b, c, h)) =
        let z = size_of (record_of f) in
        let i : at + z + p ≡ at + (z + p) = omega arith in
        inr (
          z + p,
          rw (get_or-drop z f p 0) at b,
          rw (get_or-drop z f p 0) at c,
          goes_by (old_record first) n s at f (record_of f) e s' d ∙ h ∙ ap (λ q. refused (record { number = 1; place = q })) i,
        )

    alike : ((s' : State) → SameFrom n s' (at + size_of (record_of f)) (drop (size_of (record_of f)) f)) → SameFrom (suc n) s at f
    alike rest = go (advance s (record_of f)) refl
      where
        go : (t : Step) → advance s (record_of f) ≡ t → SameFrom (suc n) s at f
        go (stop k) d = inl (stops_by (old_record first) n s at f (record_of f) e k d ∙ sym (read_stop n s at f (record_of f) refl k d))
        go (next s') d = later s' d (rest s')
        go last d = inl (ends_by (old_record first) n s at f (record_of f) e d ∙ sym (read_last n s at f (record_of f) refl d))

  -- a kind that is new: refused with 1 before; past the last kind it still is
  late_refused : (n : ℕ) (s : State) (at k : ℕ) (l : List ℕ) → leb first k ≡ true → (b : Bool) → leb k last_kind ≡ b → SameFrom (suc n) s at (k ∷ l)
  late_refused n s at k l e true g =
      inr (
        0,
        leb-true _ _ e,
        leb-true _ _ g,
        stops_by (old_record first) n s at (k ∷ l) (broken 1) (old_late k l e) 1 (broken_stops s 1)
            ∙ ap (λ p. refused (record { number = 1; place = p })) (sym (add-zero at)),
      )
  late_refused n s at k l e false g =
      let h = leb-false k last_kind g in
      inl
      (stops_by (old_record first) n s at (k ∷ l) (broken 1) (old_late k l e) 1 (broken_stops s 1)
      ∙ sym
      (read_stop n s at (k ∷ l) (broken 1)
      (record_unknown k l (λ x. omega arith) (λ x. omega arith) (λ x. omega arith) (λ x. omega arith) (λ x. omega arith) (λ x. omega arith)) 1 (broken_stops s 1)))

  same_from : (n : ℕ) (s : State) (at : ℕ) (f : List ℕ) → SameFrom n s at f
  unfolding read_by
  same_from zero s at f = inl refl
  same_from (suc n) s at [] = alike n s at [] old_due (λ s'. same_from n s' _ _)
  same_from (suc n) s at (k ∷ l) = by_kind (leb first k) refl (λ s'. same_from n s' _ _)
    where
      by_kind
          : (b : Bool) → leb first k ≡ b → ((s' : State) → SameFrom n s' (at + size_of (record_of (k ∷ l))) (drop (size_of (record_of (k ∷ l))) (k ∷ l)))
          → SameFrom (suc n) s at (k ∷ l)
      by_kind true e rest = late_refused n s at k l e (leb k last_kind) refl
      by_kind false e rest = alike n s at (k ∷ l) (old_other k l e) rest

pub old_answered : OldIsAnswered
unfolding old_decode decode
old_answered first f = go (same_from first (suc (length f)) empty 0 f)
  where
    go
        : SameFrom first (suc (length f)) empty 0 f
        → (old_decode first f ≡ decode f)
        ⊎ ((p : ℕ) × (first ≤ get_or f p 0) × (get_or f p 0 ≤ last_kind) × (old_decode first f ≡ refused (record { number = 1; place = p })))
    go (inl e) = inl e
    go (inr (p, b, c, e)) = inr (p, b, c, e ∙ ap (λ q. refused (record { number = 1; place = q })) (zero-add p))
