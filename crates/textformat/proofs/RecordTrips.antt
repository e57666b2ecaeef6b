-- A text answers what the file with the same numbers answers.
use Prim.Native.Nat.{ℕ, suc, ◌+◌, ◌*◌, ◌<◌}
use mathlib.Core.Path.{◌≡◌, refl, sym, ap, ap₂, ◌∙◌}
use mathlib.Core.Bool.{false}
use mathlib.Core.Option.{Option, some, none}
use mathlib.Core.List.{List, [], ◌∷◌, ◌++◌, map, append_assoc}
use native.Mathlib.Omega.{arith}
use lib.ListN.{length, get_or, drop, length-append}
use lib.Seq.{drop_at}
use Rattle.model.specs.Checks.{check_releases}
use Rattle.model.specs.Refusal.{Answer, refused}
use Rattle.taskset.specs.declared.Task.{Task}
use Rattle.taskset.specs.TaskSet.{no_task}
use Rattle.fileformat.specs.Records.{task_size, task_record, end_record, task_bytes, record_bytes, size_of}
use Rattle.fileformat.specs.File.{File, sheet_of, joined, encode, decode, read_from, after_end, empty, task_fault, end_fault}
use Rattle.fileformat.specs.OldFiles.{AllHigh}
use Rattle.fileformat.specs.FileCalls.{list_bytes}
use Rattle.fileformat.proofs.TaskSizeLaws.{tasks_bytes_marked}
use Rattle.fileformat.proofs.RecordLaws.{TaskFits, length_task, task_read, record_end}
use Rattle.fileformat.proofs.StepLaws.{task_stops, task_taken, end_stops, end_taken, read_stop, read_next, read_last}
use Rattle.fileformat.proofs.RoundTrips.{task_part, encode_parts, no_charge_part, no_charge_bytes, length_encode, tasks_only, decode_encode}
use Rattle.textformat.specs.TextSheet.{load_from, load, text_of}
use Rattle.textformat.specs.TextTrips.{tasks_alone, LoadedIsRead, in_records}
use Rattle.textformat.proofs.TextTrips.{line_of, sheet_lines, line_fault_lem, load_stop, task_line, load_none, load_end, task_high, loaded_valid}

-- the sheet that is loaded is read from the file that holds it
pub loaded_is_read : LoadedIsRead
unfolding check_releases
loaded_is_read text ts e = decode_encode (tasks_alone ts) (omega arith) (record { tasks = loaded_valid text ts e; releases = refl; few = omega arith })

-- a refusal of a line and that of its record
refused_same : (k n at : ℕ) → at ≡ 17 * n → ◌≡◌ {A = Answer File} (refused (record { number = k; place = at })) (in_records (refused (record { number = k; place = n })))
unfolding in_records
refused_same k n at e = ap (λ p. refused (record { number = k; place = p })) e

same_end : (n : ℕ) (ts : List Task) (at : ℕ) → at ≡ 17 * length ts → read_from (suc n) (tasks_only ts) at (3 ∷ []) ≡ in_records (load_from ts [])
unfolding in_records size_of after_end
same_end n ts at a = go (end_fault (length ts)) refl
  where
    go : (o : Option ℕ) → end_fault (length ts) ≡ o → read_from (suc n) (tasks_only ts) at (3 ∷ []) ≡ in_records (load_from ts [])
    go (some k) e =
        read_stop n (tasks_only ts) at (3 ∷ []) end_record (record_end []) k (end_stops (tasks_only ts) k e)
        ∙ refused_same k (length ts) at a ∙ ap in_records (sym (load_none ts k e))
    go none e =
        read_last n (tasks_only ts) at (3 ∷ []) end_record (record_end []) (end_taken (tasks_only ts) e) ∙ ap in_records (sym (load_end ts e))

-- numbers that kind 1 records can hold
abbrev pub AllFit : List Task → Type 0
AllFit l = (i : ℕ) → i < length l → TaskFits (get_or l i no_task)

-- the record of a high task has 17 bytes
high_size : (t : Task) → t.low ≡ false → size_of (task_record t) ≡ 17
unfolding size_of
high_size t e = ap task_size e

-- the lines of some high tasks and their records, after as many tasks that were taken
same_from
    : (l : List Task) (n : ℕ) (ts : List Task) (at : ℕ) → AllFit l → AllHigh l → at ≡ 17 * length ts
    → read_from (length l + suc n) (tasks_only ts) at (task_part l ++ (3 ∷ [])) ≡ in_records (load_from ts (map line_of l))
unfolding joined record_bytes
same_from [] n ts at h m a = let e : 0 + suc n ≡ suc n = omega arith in rw e (same_end n ts at a)
same_from (t ∷ l) n ts at h m a =
    let e : suc (length l) + suc n ≡ suc (length l + suc n) = omega arith in
    ap₂ (λ k f. read_from k (tasks_only ts) at f) e (append_assoc (task_bytes t) (task_part l) (3 ∷ []))
    ∙ go (task_fault 0 (length ts) 0 t) refl
    (same_from l n (ts ++ (t ∷ [])) (at + 17) (λ i g. h (suc i) (omega arith)) (λ i g. m (suc i) (omega arith)) (omega (arith, length-append ts (t ∷ []))))
  where
    high : t.low ≡ false
    high = m 0 (omega arith)

    f : List ℕ
    f = task_bytes t ++ (task_part l ++ (3 ∷ []))

    go
        : (o : Option ℕ) → task_fault 0 (length ts) 0 t ≡ o
        → read_from (length l + suc n) (tasks_only (ts ++ (t ∷ []))) (at + 17) (task_part l ++ (3 ∷ [])) ≡ in_records (load_from (ts ++ (t ∷ [])) (map line_of l))
        → read_from (suc (length l + suc n)) (tasks_only ts) at f ≡ in_records (load_from ts (line_of t ∷ map line_of l))
    go (some k) e ih =
        read_stop (length l + suc n) (tasks_only ts) at f (task_record t) (task_read t _ (h 0 (omega arith))) k (task_stops (tasks_only ts) t k e)
        ∙ refused_same k (length ts) at a
        ∙ ap in_records (sym (load_stop ts (line_of t) (map line_of l) k (line_fault_lem (length ts) t ∙ e)))
    go none e ih =
        read_next (length l + suc n) (tasks_only ts) at f (task_record t) (task_read t _ (h 0 (omega arith))) (tasks_only (ts ++ (t ∷ [])))
        (task_taken (tasks_only ts) t e)
        ∙ ap (λ k. read_from (length l + suc n) (tasks_only (ts ++ (t ∷ []))) (at + k) (drop k f)) (high_size t high)
        ∙ ap (read_from (length l + suc n) (tasks_only (ts ++ (t ∷ []))) (at + 17))
        (drop_at (task_bytes t) (task_part l ++ (3 ∷ [])) 17 (length_task t ∙ ap task_size high))
        ∙ ih ∙ ap (λ u. in_records (load_from (ts ++ (u ∷ [])) (map line_of l))) (sym (task_high t high)) ∙ ap in_records (sym (task_line ts t (map line_of l) e))

-- numbers of high tasks that records hold: a text answers as the file with the same numbers does, line n as the record at 17n
pub same_if_fit : (ts : List Task) → AllFit ts → AllHigh ts → decode (encode (tasks_alone ts)) ≡ in_records (load (text_of ts))
unfolding decode load joined list_bytes
same_if_fit ts h m =
    let e : suc (length (encode (tasks_alone ts))) ≡ length ts + suc (16 * length ts + 1) =
    omega (arith, length_encode (tasks_alone ts), no_charge_bytes, tasks_bytes_marked (sheet_of ts) (length ts) m) in
    ap₂ (λ k f. read_from k empty 0 f) e (encode_parts (tasks_alone ts) ∙ ap (λ a. a ++ (task_part ts ++ (3 ∷ []))) no_charge_part)
    ∙ same_from ts (16 * length ts + 1) [] 0 h m refl
    ∙ ap (λ x. in_records (load_from [] x)) (sym (sheet_lines ts))
