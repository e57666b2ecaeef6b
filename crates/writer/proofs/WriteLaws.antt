-- Laws of a write: which refusal comes first, and what stands in the lent bytes afterwards.
use Prim.Native.Nat.{ℕ, suc, ◌+◌, ◌≤◌, ◌<◌}
use mathlib.Core.Path.{◌≡◌, refl, sym, ap, ap₂, ◌∙◌}
use mathlib.Core.Option.{none}
use Rattle.std.specs.Prelude.{Result, Ok, Err, true, is_ok}
use mathlib.Core.List.{List, [], ◌∷◌, ◌++◌, append_assoc}
use native.Mathlib.Omega.{arith}
use lib.ListN.{length, drop, set, length-append}
use Rattle.model.specs.Tasks.{Tasks, Release}
use Rattle.model.specs.Refusal.{refuse}
use Rattle.refusal.specs.declared.Refusal.{Refusal}
use Rattle.refusal.specs.Refusal.{number_of, refusal_in}
use Rattle.model.specs.Checks.{Lent, Inputs, check_slots, check_releases, refusal_of, answer_of}
use Rattle.model.specs.Calls.{releases_of}
use Rattle.taskset.specs.declared.TaskSet.{TaskSet}
use Rattle.taskset.specs.TaskSet.{view_of}
use Rattle.model.specs.Limits.{max_tasks, max_releases}
use Rattle.model.proofs.CheckLaws.{valid_of, count_of, slots_short, slots_next, slots_none, slot_of}
use Rattle.model.proofs.TraceLaws.{trace_of}
use Rattle.model.proofs.OrderLaws.{accepted_of, answers, refuses, column_kept, column_written}
use Rattle.releases.proofs.ReleaseLaws.{Columns, length_releases, release_at_lem}
use Rattle.fileformat.specs.File.{sheet_with, encode}
use Rattle.fileformat.specs.FileCalls.{tasks_in, charge_bytes, tasks_bytes, sheet_bytes, list_bytes, bytes_needed, write_inputs, file_of}
use Rattle.fileformat.proofs.TaskSizeLaws.{tasks_bytes_same}
use Rattle.fileformat.proofs.SheetLaws.{length_tasks, same_sheet}
use Rattle.fileformat.proofs.RoundTrips.{charge_part, length_charge_part, task_part, release_part, encode_parts, length_encode, length_task_part, length_release_part}
use Rattle.writer.specs.Writer.{stored, sheet_part, part, Rising, WriteSays}
use Rattle.writer.proofs.StoreLaws.{stored_at, stored_one, stored_all}
use Rattle.writer.proofs.PartLaws.{bytes_joined}

-- the bytes that a write needs
abbrev pub bytes_lent : Tasks → List Release → ℕ → Lent
bytes_lent s l room = record { needed = bytes_needed s l; slots = room }

-- 13 for the bytes, `start` being those of the sheet and `size` those of the releases
module _ (s : Tasks) (start size : ℕ) (l : List Release) (room : ℕ) (b : start ≡ sheet_bytes s) (e : size ≡ list_bytes l) where
  pub bytes_short : room ≤ start + size → refuse 13 (start + size + 1) ≡ check_slots (bytes_lent s l room ∷ [])
  unfolding bytes_needed
  bytes_short h = ap₂ (λ a k. refuse 13 (a + k + 1)) b e ∙ slots_short _ _ (omega (arith, b, e))

  pub bytes_long : start + size < room → none ≡ check_slots (bytes_lent s l room ∷ [])
  unfolding bytes_needed
  bytes_long h = slots_none ∙ sym (slots_next _ _ (omega (arith, b, e)))

-- a check that passes holds no refusal
pub fine_of : {A : Type 0} (r : Result A Refusal) → is_ok r ≡ true → none ≡ refusal_in r
fine_of (Ok a) e = refl
fine_of (Err q) e = cc

-- the ticks of a list that passes its check never fall
pub rising_of : (s : Tasks) (n : ℕ) (task tick cost : List ℕ) → none ≡ check_releases s 0 0 (releases_of n task tick cost) → Rising n tick
rising_of s n task tick cost e p h =
    let t = (trace_of s (releases_of n task tick cost) (sym e)).rising p (omega (arith, length_releases n task tick cost)) in
    rw (release_at_lem n task tick cost p (omega arith), release_at_lem n task tick cost (suc p) h) at t

-- what a write that is not refused may rely on
pub record WriteFits (s : TaskSet) (n : ℕ) (task tick cost : List ℕ) (room : ℕ) : Type 0 where
  pub few_tasks : s.count ≤ max_tasks
  pub few_releases : n ≤ max_releases
  pub columns : Columns n task tick cost
  pub bytes : sheet_bytes (view_of s) + list_bytes (releases_of n task tick cost) < room
  pub rising : Rising n tick

pub write_fits
    : (s : TaskSet) (n : ℕ) (task tick cost : List ℕ) (room : ℕ) → none ≡ refusal_of (write_inputs (view_of s) n task tick cost room) → WriteFits s n task tick cost room
unfolding bytes_needed
write_fits s n task tick cost room e =
    let a = accepted_of _ e in
    let t = slot_of _ _ a.lent in
    let k = slot_of _ _ t.1 in
    let c = slot_of _ _ k.1 in
    let b = slot_of (bytes_lent (view_of s) (releases_of n task tick cost) room) [] c.1 in
    record {
      few_tasks = (valid_of (view_of s) (sym a.tasks)).few_tasks;
      few_releases = count_of n a.count;
      columns = record { task_long = t.0; tick_long = k.0; cost_long = c.0 };
      bytes = omega (arith, b.0);
      rising = rising_of (view_of s) n task tick cost a.releases;
    }

-- releases written in two parts are written whole
pub stored_both
    : (n k : ℕ) (task tick cost o o₁ o₂ : List ℕ) (from middle : ℕ) → k ≤ n → o₁ ≡ stored o from (release_part (part 0 k task tick cost))
    → middle ≡ from + list_bytes (part 0 k task tick cost) → o₂ ≡ stored o₁ middle (release_part (part k n task tick cost))
    → o₂ ≡ stored o from (release_part (releases_of n task tick cost))
stored_both n k task tick cost o o₁ o₂ from middle h e₁ m e₂ =
    e₂ ∙ ap (λ x. stored x middle (release_part (part k n task tick cost))) e₁
    ∙ stored_at o (release_part (part 0 k task tick cost)) (release_part (part k n task tick cost)) from middle
    (omega (arith, m, length_release_part (part 0 k task tick cost)))
    ∙ ap (stored o from) (bytes_joined task tick cost k n h)

module _ (s : TaskSet) (n : ℕ) (task tick cost out : List ℕ) where
  abbrev inputs : Inputs
  inputs = write_inputs (view_of s) n task tick cost (length out)

  abbrev list : List Release
  list = releases_of n task tick cost

  -- a refusal changes no byte
  pub write_refused : (q : Refusal) → refuse (number_of q.reason) q.place ≡ refusal_of inputs → WriteSays s n task tick cost out (Err q) out
  write_refused q e = record { answer = refuses inputs _ _ e; bytes = column_kept _ _ _ out e }

  -- where the releases begin, and where they end
  abbrev start : ℕ
  start = sheet_bytes (view_of s)

  abbrev end : ℕ
  end = start + list_bytes list

  module _ (h : s.count ≤ length s.tasks) where
    tasks_long : tasks_bytes (sheet_with s.charge (tasks_in s)) (length (tasks_in s)) ≡ tasks_bytes (view_of s) s.count
    tasks_long =
        ap (tasks_bytes (sheet_with s.charge (tasks_in s))) (length_tasks s h)
        ∙ sym (tasks_bytes_same (view_of s) (sheet_with s.charge (tasks_in s)) (same_sheet s h) s.count (omega arith))

    long : length (encode (file_of s n task tick cost)) ≡ end + 1
    long = length_encode (file_of s n task tick cost) ∙ ap (λ a. charge_bytes s.charge + a + list_bytes list + 1) tasks_long

    sheet_long : length (sheet_part s) ≡ start
    sheet_long =
        length-append (charge_part s.charge) (task_part (tasks_in s))
        ∙ ap₂ ◌+◌ (length_charge_part s.charge) (length_task_part s.charge (tasks_in s) ∙ tasks_long)

    parts : (sheet_part s ++ release_part list) ++ (3 ∷ []) ≡ encode (file_of s n task tick cost)
    parts =
        append_assoc (sheet_part s) (release_part list) (3 ∷ [])
        ∙ append_assoc (charge_part s.charge) (task_part (tasks_in s)) (release_part list ++ (3 ∷ []))
        ∙ sym (encode_parts (file_of s n task tick cost))

    filled
        : (o₁ o₂ : List ℕ) → o₁ ≡ stored out 0 (sheet_part s) → o₂ ≡ stored o₁ start (release_part list) → end < length out
        → set o₂ end 3 ≡ encode (file_of s n task tick cost) ++ drop (length (encode (file_of s n task tick cost))) out
    filled o₁ o₂ e₁ e₂ g =
        stored_one o₂ end 3
        ∙ ap (λ x. stored x end (3 ∷ []))
        (e₂ ∙ ap (λ x. stored x start (release_part list)) e₁
        ∙ stored_at out (sheet_part s) (release_part list) 0 start (omega (arith, sheet_long)))
        ∙ stored_at out (sheet_part s ++ release_part list) (3 ∷ []) 0 end
        (omega (arith, sheet_long, length_release_part list, length-append (sheet_part s) (release_part list)))
        ∙ ap (stored out 0) parts
        ∙ stored_all out (encode (file_of s n task tick cost)) (omega (arith, long))

    -- the whole file is written, the releases ending at an offset
    pub write_done
        : (o₁ o₂ : List ℕ) (from last : ℕ) → none ≡ refusal_of inputs → o₁ ≡ stored out 0 (sheet_part s) → o₂ ≡ stored o₁ from (release_part list)
        → from ≡ start → last ≡ end → end < length out → WriteSays s n task tick cost out (Ok (last + 1)) (set o₂ last 3)
    write_done o₁ o₂ from last e e₁ e₂ b d g =
        rw d
        (record {
          answer = answers inputs (end + 1) e ∙ ap (answer_of inputs) (sym long);
          bytes = filled o₁ o₂ e₁ (e₂ ∙ ap (λ k. stored o₁ k (release_part list)) b) g ∙ column_written _ _ _ out e refl;
        })
