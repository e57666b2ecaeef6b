-- The answer of a read depends on the first 14,932 bytes only: a charge, 32 tasks, 1,024 releases and one task record more, all of the longest.
use Prim.Native.Nat.{ℕ, zero, suc, ◌+◌, ◌*◌, ◌-◌, ◌≤◌, ◌<◌}
use mathlib.Core.Path.{◌≡◌, refl, sym, ap, ap₂, ◌∙◌}
use mathlib.Core.Bool.{Bool, true, false}
use mathlib.Core.List.{List, [], ◌∷◌}
use native.Mathlib.Omega.{arith}
use borrow.Author.Tests.{eqb-true, eqb-false}
use lib.Dec.{eqb}
use lib.ListN.{length, take, drop, length-take, length-drop, length-append}
use lib.Seq.{take-take}
use Rattle.model.specs.Limits.{max_tasks, max_releases}
use Rattle.fileformat.specs.Records.{Width, short, long, tick_bytes, body_size, task_body, Record, wrong_mark, task_record, release_record, charge_record}
use Rattle.fileformat.specs.Records.{task_from, marked_from, release_from, charge_from, whole, record_of, size_of}
use Rattle.fileformat.specs.File.{State, Step, next, with_charge, with_task, with_release, advance, after_end, read_from, empty, decode}
use Rattle.fileformat.specs.FileCalls.{charge_bytes}
use Rattle.fileformat.specs.RoundTrips.{FirstBytesDecide}
use Rattle.fileformat.proofs.NumberLaws.{by_order, drop_take, field_take}
use Rattle.fileformat.proofs.RecordLaws.{shape, size_in, whole_is, whole_cut, record_unknown, tick_bytes_lem}
use Rattle.fileformat.proofs.WidthLaws.{size_high}
use Rattle.fileformat.proofs.TaskSizeLaws.{task_size_high}
use Rattle.fileformat.proofs.RoundTrips.{no_charge_bytes, some_charge_bytes, charge_bytes_high}
use Rattle.fileformat.proofs.StepLaws.{Moves, stops, takes_charge, takes_task, takes_release, ends, moves, read_stop, read_next, read_last}

whole_take : (n m : ℕ) (l : List ℕ) (r r' : Record) → n ≤ m → r ≡ r' → whole n (take m l) r ≡ whole n l r'
whole_take n m l r r' h e =
    by_order n (length l)
    (λ g. whole_is n (take m l) r (omega (arith, length-take m l)) ∙ e ∙ sym (whole_is n l r' g))
    (λ g. whole_cut n (take m l) r (omega (arith, length-take m l)) ∙ sym (whole_cut n l r' g))

task_take : (low : Bool) (m : ℕ) (l : List ℕ) → 16 ≤ m → task_from low (take m l) ≡ task_from low l
unfolding task_from
task_take low m l h =
    rw (field_take 0 4 m l (omega arith), field_take 4 4 m l (omega arith), field_take 8 4 m l (omega arith), field_take 12 4 m l (omega arith))

marked_take : (m : ℕ) (l : List ℕ) → 17 ≤ m → marked_from (take m l) ≡ marked_from l
unfolding marked_from
marked_take m l h =
    ap₂ {C = Record} (λ b t. elim (eqb b 0) [ true ↦ task_record t | false ↦ wrong_mark ]) (field_take 16 1 m l h) (task_take true m l (omega arith))

release_take : (w : Width) (m : ℕ) (l : List ℕ) → 16 ≤ m → release_from w (take m l) ≡ release_from w l
unfolding release_from
release_take w m l h =
    let k = (tick_bytes_lem w).1 in
    rw (field_take 0 1 m l (omega arith), field_take 1 (tick_bytes w) m l (omega (arith, k)), field_take (1 + tick_bytes w) 4 m l (omega (arith, k)))

-- a record depends on the first 18 bytes only
body_take : (k m : ℕ) (l : List ℕ) → 17 ≤ m → record_of (k ∷ take m l) ≡ record_of (k ∷ l)
unfolding record_of charge_from
body_take k m l h = one (eqb k 1) refl
  where
    six
        : (k ≡ 1 → ⊥) → (k ≡ 2 → ⊥) → (k ≡ 3 → ⊥) → (k ≡ 4 → ⊥) → (k ≡ 5 → ⊥) → (b : Bool) → eqb k 6 ≡ b → record_of (k ∷ take m l) ≡ record_of (k ∷ l)
    six v w x y z true e = rw (eqb-true k 6 e) (whole_take (task_body true) m l _ _ h (marked_take m l h))
    six v w x y z false e = record_unknown k (take m l) v w x y z (eqb-false k 6 e) ∙ sym (record_unknown k l v w x y z (eqb-false k 6 e))

    five : (k ≡ 1 → ⊥) → (k ≡ 2 → ⊥) → (k ≡ 3 → ⊥) → (k ≡ 4 → ⊥) → (b : Bool) → eqb k 5 ≡ b → record_of (k ∷ take m l) ≡ record_of (k ∷ l)
    five w x y z true e = rw (eqb-true k 5 e) (whole_take 1 m l _ _ (omega arith) (ap charge_record (field_take 0 1 m l (omega arith))))
    five w x y z false e = six w x y z (eqb-false k 5 e) (eqb k 6) refl

    four : (k ≡ 1 → ⊥) → (k ≡ 2 → ⊥) → (k ≡ 3 → ⊥) → (b : Bool) → eqb k 4 ≡ b → record_of (k ∷ take m l) ≡ record_of (k ∷ l)
    four x y z true e = rw (eqb-true k 4 e) (whole_take (body_size long) m l _ _ (omega arith) (ap (release_record long) (release_take long m l (omega arith))))
    four x y z false e = five x y z (eqb-false k 4 e) (eqb k 5) refl

    three : (k ≡ 1 → ⊥) → (k ≡ 2 → ⊥) → (b : Bool) → eqb k 3 ≡ b → record_of (k ∷ take m l) ≡ record_of (k ∷ l)
    three x y true e = rw (eqb-true k 3 e) (whole_take 0 m l _ _ (omega arith) refl)
    three x y false e = four x y (eqb-false k 3 e) (eqb k 4) refl

    two : (k ≡ 1 → ⊥) → (b : Bool) → eqb k 2 ≡ b → record_of (k ∷ take m l) ≡ record_of (k ∷ l)
    two x true e = rw (eqb-true k 2 e) (whole_take (body_size short) m l _ _ (omega arith) (ap (release_record short) (release_take short m l (omega arith))))
    two x false e = three x (eqb-false k 2 e) (eqb k 3) refl

    one : (b : Bool) → eqb k 1 ≡ b → record_of (k ∷ take m l) ≡ record_of (k ∷ l)
    one true e = rw (eqb-true k 1 e) (whole_take (task_body false) m l _ _ (omega arith) (ap task_record (task_take false m l (omega arith))))
    one false e = two (eqb-false k 1 e) (eqb k 2) refl

record_take : (m : ℕ) (f : List ℕ) → 18 ≤ m → record_of (take m f) ≡ record_of f
record_take zero f h = absurd (omega arith)
record_take (suc m) [] h = refl
record_take (suc m) (k ∷ l) h = body_take k m l (omega arith)

end_take : (s : State) (at m : ℕ) (l : List ℕ) → 1 ≤ m → after_end s at (take m l) ≡ after_end s at l
unfolding after_end
end_take s at zero l h = absurd (omega arith)
end_take s at (suc m) [] h = refl
end_take s at (suc m) (b ∷ l) h = refl

-- where a reading stands: so many bytes were read for the charge, the tasks and releases, and m more are looked at
record Stands (s : State) (at m : ℕ) : Type 0 where
  offset : at ≤ charge_bytes s.charge + 18 * length s.tasks + 14 * length s.releases
  few_tasks : length s.tasks ≤ max_tasks
  few_releases : length s.releases ≤ max_releases
  ahead : m + at ≡ 14932

module _ (n n' : ℕ) (s : State) (at m : ℕ) (f : List ℕ) (a : Stands s at m) (h : length f < suc n) (h' : length (take m f) < suc n') where
  abbrev Rest : ℕ → Type 0
  Rest k =
      (s' : State) → Stands s' (at + k) (m - k) → length (drop k f) < n → length (take (m - k) (drop k f)) < n' → read_from n' s' (at + k)
      (take (m - k) (drop k f)) ≡ read_from n s' (at + k) (drop k f)

  long_enough : 18 ≤ m
  long_enough = omega (arith, a.offset, charge_bytes_high s.charge, a.few_tasks, a.few_releases, a.ahead)

  taken
      : (r : Record) (s' : State) → record_of f ≡ r → record_of (take m f) ≡ r → advance s r ≡ next s' → 1 ≤ size_of r → size_of r ≤ 18
      → Stands s' (at + size_of r) (m - size_of r) → Rest (size_of r) → read_from (suc n') s at (take m f) ≡ read_from (suc n) s at f
  taken r s' d d' e l l' b ih =
      let i : size_of r ≤ length f = size_in f r (rw d at (shape f)) in
      let c : drop (size_of r) (take m f) ≡ take (m - size_of r) (drop (size_of r) f) = drop_take (size_of r) m f (omega (arith, long_enough)) in
      read_next n' s at (take m f) r d' s' e
      ∙ ap (read_from n' s' (at + size_of r)) c
      ∙ ih s' b (omega (arith, length-drop (size_of r) f)) (omega (arith, ap length c, length-drop (size_of r) (take m f), length-take m f, long_enough))
      ∙ sym (read_next n s at f r d s' e)

  one_step : (r : Record) (t : Step) → record_of f ≡ r → advance s r ≡ t → Moves s r t → Rest (size_of r) → read_from (suc n') s at (take m f) ≡ read_from (suc n) s at f
  unfolding size_of
  one_step r t d e (stops q k) ih =
      read_stop n' s at (take m f) r (record_take m f long_enough ∙ d) k e ∙ sym (read_stop n s at f r d k e)
  one_step r t d e (takes_charge c h y z l) ih =
      taken r (with_charge s c) d (record_take m f long_enough ∙ d) e (omega arith) (omega arith)
      (record {
        offset = omega (arith, a.offset, ap charge_bytes h, no_charge_bytes, some_charge_bytes c l);
        few_tasks = a.few_tasks;
        few_releases = a.few_releases;
        ahead = omega (arith, a.ahead, long_enough);
      })
      ih
  one_step r t d e (takes_task t' z l g q) ih =
      taken r (with_task s t') d (record_take m f long_enough ∙ d) e (omega arith) (omega (arith, task_size_high t'.low))
      (record {
        offset = omega (arith, a.offset, task_size_high t'.low, length-append s.tasks (t' ∷ []));
        few_tasks = omega (arith, length-append s.tasks (t' ∷ []));
        few_releases = a.few_releases;
        ahead = omega (arith, a.ahead, task_size_high t'.low, long_enough);
      })
      ih
  one_step r t d e (takes_release w r' l g q) ih =
      taken r (with_release s r') d (record_take m f long_enough ∙ d) e (omega arith) (omega (arith, size_high w))
      (record {
        offset = omega (arith, a.offset, size_high w, length-append s.releases (r' ∷ []));
        few_tasks = a.few_tasks;
        few_releases = omega (arith, length-append s.releases (r' ∷ []));
        ahead = omega (arith, a.ahead, size_high w, long_enough);
      })
      ih
  one_step r t d e (ends l) ih =
      read_last n' s at (take m f) r (record_take m f long_enough ∙ d) e
      ∙ ap (after_end s (at + 1)) (drop_take 1 m f (omega (arith, long_enough)))
      ∙ end_take s (at + 1) (m - 1) (drop 1 f) (omega (arith, long_enough))
      ∙ sym (read_last n s at f r d e)

prefix_from : (n n' : ℕ) (s : State) (at m : ℕ) (f : List ℕ) → Stands s at m → length f < n → length (take m f) < n' → read_from n' s at (take m f) ≡ read_from n s at f
prefix_from zero n' s at m f a h h' = absurd (omega arith)
prefix_from (suc n) zero s at m f a h h' = absurd (omega arith)
prefix_from (suc n) (suc n') s at m f a h h' =
    one_step n n' s at m f a h h' (record_of f) (advance s (record_of f)) refl refl (moves s (record_of f))
    (λ s' b g g'. prefix_from n n' s' (at + size_of (record_of f)) (m - size_of (record_of f)) (drop (size_of (record_of f)) f) b g g')

-- the bytes that decide a read
pub decode_prefix : (f : List ℕ) → decode (take 14932 f) ≡ decode f
unfolding decode
decode_prefix f =
    prefix_from (suc (length f)) (suc (length (take 14932 f))) empty 0 14932 f
    (record { offset = omega (arith, no_charge_bytes); few_tasks = omega arith; few_releases = omega arith; ahead = refl }) (omega arith) (omega arith)

-- and so do more bytes
pub decode_first : FirstBytesDecide
decode_first n f h = sym (decode_prefix (take n f)) ∙ ap decode (take-take 14932 n f h) ∙ decode_prefix f
