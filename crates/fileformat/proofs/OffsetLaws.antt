-- The record at an offset of a file, by the tests that a reader makes.
use Prim.Native.Nat.{ℕ, ◌+◌, ◌-◌, ◌≤◌, ◌<◌}
use mathlib.Core.Path.{◌≡◌, refl, sym, ap, ◌∙◌}
use mathlib.Core.Bool.{Bool, true, false}
use mathlib.Core.List.{List, ◌∷◌}
use native.Mathlib.Omega.{arith}
use native.Mathlib.Numerals.{add-one}
use native.Mathlib.Nat.{add-zero}
use lib.ListN.{length, get_or, drop, length-drop, drop_of_length-le}
use lib.Seq.{drop-cons}
use Rattle.model.specs.Tasks.{Release}
use Rattle.taskset.specs.declared.Task.{Task}
use Rattle.fileformat.specs.Numbers.{field}
use Rattle.fileformat.specs.Records.{Width, kind_of, tick_bytes, release_size, task_kind, task_size}
use Rattle.fileformat.specs.Records.{Record, broken, wrong_mark, task_record, release_record, charge_record, end_record}
use Rattle.fileformat.specs.Records.{task_from, release_from, charge_from, record_of, size_of}
use Rattle.fileformat.proofs.NumberLaws.{field_drop, field_one}
use Rattle.fileformat.proofs.RecordLaws.{shape, size_in, record_due, record_unknown}
use Rattle.fileformat.proofs.RecordLaws.{record_task, record_task_cut, record_wrong_mark}
use Rattle.fileformat.proofs.RecordLaws.{record_release, record_release_cut, record_charge, record_charge_cut, record_end}

module _ (f : List ℕ) (at : ℕ) where
  pub at_due : length f ≤ at → broken 2 ≡ record_of (drop at f)
  at_due h = sym (ap record_of (drop_of_length-le f h) ∙ record_due)

  -- the kind byte and what follows it
  from_kind : (k : ℕ) → at < length f → get_or f at 0 ≡ k → drop at f ≡ k ∷ drop (at + 1) f
  from_kind k h e = rw (add-one, ← e) (drop-cons f at 0 h)

  body : length (drop (at + 1) f) ≡ length f - (at + 1)
  body = length-drop (at + 1) f

  pub at_task_cut : (low : Bool) → at < length f → get_or f at 0 ≡ task_kind low → length f - at < task_size low → broken 2 ≡ record_of (drop at f)
  at_task_cut low h e l = sym (ap record_of (from_kind (task_kind low) h e) ∙ record_task_cut _ low (omega (arith, body)))

  pub at_task : (t : Task) → at < length f → get_or f at 0 ≡ 1 → 17 ≤ length f - at → t ≡ task_from false (drop (at + 1) f) → task_record t ≡ record_of (drop at f)
  at_task t h e l q =
      ap task_record q
      ∙ sym (ap record_of (from_kind 1 h e) ∙ record_task _ false (omega (arith, body)) (λ x. let w : ◌≡◌ {A = ℕ} 0 1 = cc in absurd (omega arith)))

  -- the last byte of a kind 6 record
  mark_byte : 18 ≤ length f - at → field 16 1 (drop (at + 1) f) ≡ get_or f (at + 17) 0
  mark_byte l =
      let e : at + 1 + 16 ≡ at + 17 = omega arith in
      field_drop (at + 1) 16 1 f ∙ ap (λ a. field a 1 f) e ∙ field_one (at + 17) f (omega arith)

  pub at_low_task
      : (t : Task) → at < length f → get_or f at 0 ≡ 6 → 18 ≤ length f - at → get_or f (at + 17) 0 ≡ 0 → t ≡ task_from true (drop (at + 1) f)
      → task_record t ≡ record_of (drop at f)
  at_low_task t h e l z q =
      ap task_record q ∙ sym (ap record_of (from_kind 6 h e) ∙ record_task _ true (omega (arith, body)) (λ x. mark_byte l ∙ z))

  pub at_wrong_mark : at < length f → get_or f at 0 ≡ 6 → 18 ≤ length f - at → (get_or f (at + 17) 0 ≡ 0 → ⊥) → wrong_mark ≡ record_of (drop at f)
  at_wrong_mark h e l z = sym (ap record_of (from_kind 6 h e) ∙ record_wrong_mark _ (omega (arith, body)) (λ x. z (sym (mark_byte l) ∙ x)))

  pub at_release_cut : (w : Width) → at < length f → get_or f at 0 ≡ kind_of w → length f - at < release_size w → broken 2 ≡ record_of (drop at f)
  at_release_cut w h e l = sym (ap record_of (from_kind (kind_of w) h e) ∙ record_release_cut _ w (omega (arith, body)))

  pub at_release
      : (w : Width) (r : Release) → at < length f → get_or f at 0 ≡ kind_of w → release_size w ≤ length f - at → r ≡ release_from w (drop (at + 1) f)
      → release_record w r ≡ record_of (drop at f)
  at_release w r h e l q = ap (release_record w) q ∙ sym (ap record_of (from_kind (kind_of w) h e) ∙ record_release _ w (omega (arith, body)))

  pub at_charge_cut : at < length f → get_or f at 0 ≡ 5 → length f - at < 2 → broken 2 ≡ record_of (drop at f)
  at_charge_cut h e l = sym (ap record_of (from_kind 5 h e) ∙ record_charge_cut _ (omega (arith, body)))

  pub at_charge : (c : ℕ) → at < length f → get_or f at 0 ≡ 5 → 2 ≤ length f - at → c ≡ get_or f (at + 1) 0 → charge_record c ≡ record_of (drop at f)
  unfolding charge_from
  at_charge c h e l q =
      ap charge_record (q ∙ sym (field_drop (at + 1) 0 1 f ∙ ap (λ a. field a 1 f) (add-zero (at + 1)) ∙ field_one (at + 1) f (omega arith)))
      ∙ sym (ap record_of (from_kind 5 h e) ∙ record_charge _ (omega (arith, body)))

  pub at_end : at < length f → get_or f at 0 ≡ 3 → end_record ≡ record_of (drop at f)
  at_end h e = sym (ap record_of (from_kind 3 h e) ∙ record_end _)

  pub at_unknown
      : at < length f → (get_or f at 0 ≡ 1 → ⊥) → (get_or f at 0 ≡ 2 → ⊥) → (get_or f at 0 ≡ 3 → ⊥) → (get_or f at 0 ≡ 4 → ⊥) → (get_or f at 0 ≡ 5 → ⊥)
      → (get_or f at 0 ≡ 6 → ⊥) → broken 1 ≡ record_of (drop at f)
  at_unknown h a b c d e k = sym (ap record_of (from_kind (get_or f at 0) h refl) ∙ record_unknown _ _ a b c d e k)

  -- a record that is found ends within the file
  pub room : (r : Record) → at ≤ length f → r ≡ record_of (drop at f) → at + size_of r ≤ length f
  room r h e = rw e (omega (arith, size_in (drop at f) (record_of (drop at f)) (shape (drop at f)), length-drop at f))

  -- its fields
  pub task_fields
      : (low : Bool) (p j e d : ℕ) → p ≡ field at 4 f → j ≡ field (at + 4) 4 f → e ≡ field (at + 8) 4 f → d ≡ field (at + 12) 4 f
      → ◌≡◌ {A = Task} (record { period = p; jitter = j; cost = e; deadline = d; low = low }) (task_from low (drop at f))
  unfolding task_from
  task_fields low p j e d a b c g =
      rw (field_drop at 0 4 f, field_drop at 4 4 f, field_drop at 8 4 f, field_drop at 12 4 f, a, b, c, g, add-zero)

  pub release_fields
      : (w : Width) (i t c : ℕ) → i ≡ field at 1 f → t ≡ field (at + 1) (tick_bytes w) f → c ≡ field (at + (1 + tick_bytes w)) 4 f
      → ◌≡◌ {A = Release} (record { task = i; tick = t; cost = c }) (release_from w (drop at f))
  unfolding release_from
  release_fields w i t c a b g = rw (field_drop at 0 1 f, field_drop at 1 (tick_bytes w) f, field_drop at (1 + tick_bytes w) 4 f, a, b, g, add-zero)
