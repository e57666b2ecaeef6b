-- Numbers and places of the refusals of a read and of a write are bounded: no file gets past a charge, 32 tasks, 1,024 releases and the end record, which are at most
-- 14,915 bytes.
use Prim.Native.Nat.{ℕ, zero, suc, ◌+◌, ◌*◌, ◌≤◌}
use mathlib.Core.Path.{◌≡◌, refl, sym, ap, ◌∙◌}
use mathlib.Core.Bool.{Bool, true, false, ◌||◌}
use mathlib.Core.Logic.{◌⊎◌, inl, inr}
use mathlib.Core.Option.{Option, some, none}
use mathlib.Core.List.{List, [], ◌∷◌}
use native.Mathlib.Omega.{arith}
use lib.Dec.{ltb, leb, eqb}
use lib.ListN.{length, drop, length-append}
use Rattle.model.specs.Limits.{max_tasks, max_releases}
use Rattle.model.specs.Tasks.{Tasks, Release}
use Rattle.model.specs.Refusal.{Refusal, Answer, refused}
use Rattle.model.specs.Checks.{entry_fault, release_fault}
use Rattle.model.specs.Calls.{releases_of}
use Rattle.model.proofs.CheckLaws.{entry_number, count_of}
use Rattle.model.proofs.RefusalPlaces.{largest_number, Within, within_known, fault_number, needs, needs_none, Limited}
use Rattle.releases.proofs.ReleaseLaws.{length_releases}
use Rattle.taskset.specs.declared.Task.{Task}
use Rattle.fileformat.specs.Numbers.{field}
use Rattle.fileformat.specs.Records.{Width, short, long, body_size, task_body, Record, broken, wrong_mark, task_record, release_record, charge_record, end_record}
use Rattle.fileformat.specs.Records.{task_from, marked_from, release_from, charge_from, whole, record_of, size_of}
use Rattle.fileformat.specs.File.{File, State, Step, stop, next, last, charge_fault, task_fault, mark_fault, low_tick, high_tick, list_fault, end_fault}
use Rattle.fileformat.specs.File.{with_charge, with_task, with_release, unless, advance, after_end, read_by, read_from, empty, decode}
use Rattle.fileformat.specs.FileCalls.{charge_bytes, sheet_bytes, list_bytes, bytes_needed, write_inputs}
use Rattle.fileformat.proofs.WidthLaws.{size_high, list_high}
use Rattle.fileformat.proofs.TaskSizeLaws.{task_size_high, tasks_bytes_high}
use Rattle.fileformat.proofs.RoundTrips.{no_charge_bytes, some_charge_bytes, charge_bytes_high}
use Rattle.fileformat.proofs.StepLaws.{Moves, stops, takes_charge, takes_task, takes_release, ends, moves, read_stop, read_next, read_last}

-- a number that a record is refused with
pub record Number (n : ℕ) : Type 0 where
  pub low : 1 ≤ n
  pub high : n ≤ largest_number

-- a kind 6 record that is whole is a task or has a wrong mark
marked_whole : (l : List ℕ) (n : ℕ) → marked_from l ≡ broken n → ⊥
unfolding marked_from
marked_whole l n e = go (eqb (field 16 1 l) 0) refl
  where
    go : (b : Bool) → eqb (field 16 1 l) 0 ≡ b → ⊥
    go true h = let w : task_record (task_from true l) ≡ broken n = rw (marked_from, h) at e in let z : ◌≡◌ {A = ℕ} 0 1 = cc in omega arith
    go false h = let w : wrong_mark ≡ broken n = rw (marked_from, h) at e in let z : ◌≡◌ {A = ℕ} 0 1 = cc in omega arith

-- a record that is broken: 1 or 2
record_number : (f : List ℕ) (n : ℕ) → record_of f ≡ broken n → Number n
unfolding record_of whole
record_number [] n e = let w : 2 ≡ n = cc in record { low = omega arith; high = omega arith }
record_number (k ∷ l) n e = go (eqb k 1) (eqb k 2) (eqb k 3) (eqb k 4) (eqb k 5) (eqb k 6) refl refl refl refl refl refl
  where
    is : (m : ℕ) → 1 ≤ m → m ≤ largest_number → broken m ≡ broken n → Number n
    is m a b h = let w : m ≡ n = cc in record { low = omega arith; high = omega arith }

    -- a record of a known kind: 2, where it is cut
    cut : (m : ℕ) (r : Record) → (r ≡ broken n → ⊥) → whole m l r ≡ broken n → Number n
    cut m r x h = go (ltb (length l) m) refl
      where
        go : (b : Bool) → ltb (length l) m ≡ b → Number n
        go true g = is 2 (omega arith) (omega arith) (rw (whole, g) at h)
        go false g = absurd (x (rw (whole, g) at h))

    go : (a b c d i j : Bool) → eqb k 1 ≡ a → eqb k 2 ≡ b → eqb k 3 ≡ c → eqb k 4 ≡ d → eqb k 5 ≡ i → eqb k 6 ≡ j → Number n
    go true b c d i j p q r t u v =
        cut (task_body false) _ (λ (h : task_record (task_from false l) ≡ broken n). let z : ◌≡◌ {A = ℕ} 0 1 = cc in omega arith) (rw (record_of, p) at e)
    go false true c d i j p q r t u v =
        cut (body_size short) _ (λ (h : release_record short (release_from short l) ≡ broken n). let z : ◌≡◌ {A = ℕ} 0 1 = cc in omega arith) (rw (record_of, p, q) at e)
    go false false true d i j p q r t u v = cut 0 _ (λ (h : end_record ≡ broken n). let z : ◌≡◌ {A = ℕ} 0 1 = cc in omega arith) (rw (record_of, p, q, r) at e)
    go false false false true i j p q r t u v =
        cut (body_size long) _ (λ (h : release_record long (release_from long l) ≡ broken n). let z : ◌≡◌ {A = ℕ} 0 1 = cc in omega arith) (rw (record_of, p, q, r, t) at e)
    go false false false false true j p q r t u v =
        cut 1 _ (λ (h : charge_record (charge_from l) ≡ broken n). let z : ◌≡◌ {A = ℕ} 0 1 = cc in omega arith) (rw (record_of, p, q, r, t, u) at e)
    go false false false false false true p q r t u v = cut (task_body true) _ (marked_whole l n) (rw (record_of, p, q, r, t, u, v) at e)
    go false false false false false false p q r t u v = is 1 (omega arith) (omega arith) (rw (record_of, p, q, r, t, u, v) at e)

-- a number that is known
is_number : (m n : ℕ) → 1 ≤ m → m ≤ largest_number → some m ≡ some n → Number n
is_number m n a b h = let w : m ≡ n = cc in record { low = omega arith; high = omega arith }

not_number : (n : ℕ) → ◌≡◌ {A = Option ℕ} none (some n) → Number n
not_number n h = let z : ◌≡◌ {A = ℕ} 0 1 = cc in absurd (omega arith)

-- a charge record: 3 or 6
charge_number : (held tasks releases c n : ℕ) → charge_fault held tasks releases c ≡ some n → Number n
unfolding charge_fault
charge_number held tasks releases c n e = go (ltb 0 held || ltb 0 tasks || ltb 0 releases) (eqb c 0) refl refl
  where
    go : (a b : Bool) → (ltb 0 held || ltb 0 tasks || ltb 0 releases) ≡ a → eqb c 0 ≡ b → Number n
    go true b p q = is_number 3 n (omega arith) (omega arith) (rw (charge_fault, p) at e)
    go false true p q = is_number 6 n (omega arith) (omega arith) (rw (charge_fault, p, q) at e)
    go false false p q = not_number n (rw (charge_fault, p, q) at e)

-- a task record: 3, 4, 6 or 17
pub task_number : (charge tasks releases : ℕ) (t : Task) (n : ℕ) → task_fault charge tasks releases t ≡ some n → Number n
unfolding task_fault
task_number charge tasks releases t n e =
    go (ltb 0 releases) (leb max_tasks tasks) (entry_fault charge t.period t.jitter t.cost t.deadline) refl refl refl
  where
    numbered : (m : ℕ) → (m ≡ 6) ⊎ (m ≡ 17) → some m ≡ some n → Number n
    numbered m (inl h) w = is_number m n (omega arith) (omega arith) w
    numbered m (inr h) w = is_number m n (omega arith) (omega arith) w

    go : (a b : Bool) (o : Option ℕ) → ltb 0 releases ≡ a → leb max_tasks tasks ≡ b → entry_fault charge t.period t.jitter t.cost t.deadline ≡ o → Number n
    go true b o p q r = is_number 3 n (omega arith) (omega arith) (rw (task_fault, p) at e)
    go false true o p q r = is_number 4 n (omega arith) (omega arith) (rw (task_fault, p, q) at e)
    go false false (some m) p q r = numbered m (entry_number _ _ _ _ _ m r) (rw (task_fault, p, q, r) at e)
    go false false none p q r = not_number n (rw (task_fault, p, q, r) at e)

-- a wrong mark: 3, 4 or 6
mark_number_lem : (tasks releases : ℕ) → Number (mark_fault tasks releases)
unfolding mark_fault
mark_number_lem tasks releases = go (ltb 0 releases) (leb max_tasks tasks) refl refl
  where
    go : (a b : Bool) → ltb 0 releases ≡ a → leb max_tasks tasks ≡ b → Number (mark_fault tasks releases)
    go true b p q = rw (mark_fault, p) (record { low = omega arith; high = omega arith })
    go false true p q = rw (mark_fault, p, q) (record { low = omega arith; high = omega arith })
    go false false p q = rw (mark_fault, p, q) (record { low = omega arith; high = omega arith })

-- a release record: 5, 7, 8, 9 or 10
list_number : (s : Tasks) (releases before : ℕ) (w : Width) (r : Release) (n : ℕ) → list_fault s releases before w r ≡ some n → Number n
unfolding list_fault
list_number s releases before w r n e = go (eqb s.count 0) (release_fault s (low_tick w before) (high_tick w) r) (leb max_releases releases) refl refl refl
  where
    go
        : (a : Bool) (o : Option ℕ) (b : Bool) → eqb s.count 0 ≡ a → release_fault s (low_tick w before) (high_tick w) r ≡ o → leb max_releases releases ≡ b → Number n
    go true o b p q t = is_number 5 n (omega arith) (omega arith) (rw (list_fault, p) at e)
    go false (some m) b p q t =
        let k = fault_number s (low_tick w before) (high_tick w) r m q in
        is_number m n (omega (arith, k.0)) (omega (arith, k.1)) (rw (list_fault, p, q) at e)
    go false none true p q t = is_number 10 n (omega arith) (omega arith) (rw (list_fault, p, q, t) at e)
    go false none false p q t = not_number n (rw (list_fault, p, q, t) at e)

-- the end record: 5
pub end_number : (tasks n : ℕ) → end_fault tasks ≡ some n → Number n
unfolding end_fault
end_number tasks n e = go (eqb tasks 0) refl
  where
    go : (a : Bool) → eqb tasks 0 ≡ a → Number n
    go true p = is_number 5 n (omega arith) (omega arith) (rw (end_fault, p) at e)
    go false p = not_number n (rw (end_fault, p) at e)

-- a step that stops: with the number of a fault
stop_fault : (o : Option ℕ) (t : Step) (k : ℕ) → ((n : ℕ) → o ≡ some n → Number n) → (t ≡ stop k → ⊥) → unless o t ≡ stop k → Number k
unfolding unless
stop_fault none t k h x e = absurd (x e)
stop_fault (some n) t k h x e = let w : n ≡ k = cc in rw w at (h n refl)

stop_number : (s : State) (f : List ℕ) (k : ℕ) → advance s (record_of f) ≡ stop k → Number k
unfolding advance
stop_number s f k e = go (record_of f) refl
  where
    no_next : (t : State) → next t ≡ stop k → ⊥
    no_next t h = let z : ◌≡◌ {A = ℕ} 0 1 = cc in omega arith

    no_last : last ≡ stop k → ⊥
    no_last h = let z : ◌≡◌ {A = ℕ} 0 1 = cc in omega arith

    go : (r : Record) → record_of f ≡ r → Number k
    go (broken n) d = let w : stop n ≡ stop k = rw d at e in let x : n ≡ k = cc in rw x at (record_number f n d)
    go wrong_mark d =
        let w : stop (mark_fault (length s.tasks) (length s.releases)) ≡ stop k = rw d at e in
        let x : mark_fault (length s.tasks) (length s.releases) ≡ k = cc in
        rw x at (mark_number_lem (length s.tasks) (length s.releases))
    go (task_record t) d = stop_fault _ _ k (task_number _ _ _ t) (no_next (with_task s t)) (rw d at e)
    go (release_record w r) d = stop_fault _ _ k (list_number _ _ _ w r) (no_next (with_release s r)) (rw d at e)
    go (charge_record c) d = stop_fault _ _ k (charge_number _ _ _ c) (no_next (with_charge s c)) (rw d at e)
    go end_record d = stop_fault _ _ k (end_number _) no_last (rw d at e)

-- the bytes of the charge, the tasks and releases that are read
record Stands (s : State) (at : ℕ) : Type 0 where
  offset : at ≤ charge_bytes s.charge + 18 * length s.tasks + 14 * length s.releases
  few_tasks : length s.tasks ≤ max_tasks
  few_releases : length s.releases ≤ max_releases

-- a refusal that is known
within_refused
    : (n p : ℕ) (r : Refusal) → 1 ≤ n → n ≤ largest_number → p ≤ 14915
    → ◌≡◌ {A = Answer File} (refused (record { number = n; place = p })) (refused r) → Within 14915 r
within_refused n p r a b c e = within_known 14915 n p r a (omega arith) c (cc)

end_within : (s : State) (at : ℕ) (l : List ℕ) (r : Refusal) → at ≤ 14915 → after_end s at l ≡ refused r → Within 14915 r
unfolding after_end
end_within s at [] r h e = let z : ◌≡◌ {A = ℕ} 0 1 = cc in absurd (omega arith)
end_within s at (b ∷ l) r h e = within_refused 11 at r (omega arith) (omega arith) h e

module _ (n : ℕ) (s : State) (at : ℕ) (f : List ℕ) (r : Refusal) (a : Stands s at) (e : read_from (suc n) s at f ≡ refused r) where
  one_step
      : (q : Record) (t : Step)
      → record_of f ≡ q
      → advance s q ≡ t
      → Moves s q t
      → ((s' : State) → Stands s' (at + size_of q) → read_from n s' (at + size_of q) (drop (size_of q) f) ≡ refused r → Within 14915 r)
      → Within 14915 r
  unfolding size_of
  one_step q t d g (stops _ k) ih =
      let m = stop_number s f k (ap (advance s) d ∙ g) in
      within_refused k at r m.low m.high (omega (arith, a.offset, charge_bytes_high s.charge, a.few_tasks, a.few_releases)) (sym (read_stop n s at f q d k g) ∙ e)
  one_step q t d g (takes_charge c h y z l) ih =
      ih (with_charge s c)
      (record {
        offset = omega (arith, a.offset, ap charge_bytes h, no_charge_bytes, some_charge_bytes c l);
        few_tasks = a.few_tasks;
        few_releases = a.few_releases;
      })
      (sym (read_next n s at f q d (with_charge s c) g) ∙ e)
  one_step q t d g (takes_task t' z l h k) ih =
      ih (with_task s t')
      (record {
        offset = omega (arith, a.offset, task_size_high t'.low, length-append s.tasks (t' ∷ []));
        few_tasks = omega (arith, length-append s.tasks (t' ∷ []));
        few_releases = a.few_releases;
      })
      (sym (read_next n s at f q d (with_task s t') g) ∙ e)
  one_step q t d g (takes_release w r' l h m) ih =
      ih (with_release s r')
      (record {
        offset = omega (arith, a.offset, size_high w, length-append s.releases (r' ∷ []));
        few_tasks = a.few_tasks;
        few_releases = omega (arith, length-append s.releases (r' ∷ []));
      })
      (sym (read_next n s at f q d (with_release s r') g) ∙ e)
  one_step q t d g (ends l) ih =
      end_within s (at + 1) (drop 1 f) r (omega (arith, a.offset, charge_bytes_high s.charge, a.few_tasks, a.few_releases)) (sym (read_last n s at f q d g) ∙ e)

from_within : (n : ℕ) (s : State) (at : ℕ) (f : List ℕ) (r : Refusal) → Stands s at → read_from n s at f ≡ refused r → Within 14915 r
unfolding read_by
from_within zero s at f r a e = within_refused 2 at r (omega arith) (omega arith) (omega (arith, a.offset, charge_bytes_high s.charge, a.few_tasks, a.few_releases)) e
from_within (suc n) s at f r a e =
    one_step n s at f r a e (record_of f) (advance s (record_of f)) refl refl (moves s (record_of f))
    (λ s' b. from_within n s' (at + size_of (record_of f)) (drop (size_of (record_of f)) f) r b)

-- a refused file, of whatever length: the place is at most 14,915
pub decode_within : (f : List ℕ) (r : Refusal) → decode f ≡ refused r → Within 14915 r
unfolding decode
decode_within f r = from_within (suc (length f)) empty 0 f r (record { offset = omega (arith, no_charge_bytes); few_tasks = omega arith; few_releases = omega arith })

-- a refused write: no more bytes are needed
pub write_limited : (s : Tasks) (n : ℕ) (task tick cost : List ℕ) (room : ℕ) → Limited 14915 (write_inputs s n task tick cost room)
unfolding bytes_needed
write_limited s n task tick cost room = record {
  over = omega arith;
  single = λ j e. let z : ◌≡◌ {A = ℕ} 0 1 = cc in absurd (omega arith);
  lent = λ f e.
      let h : n ≤ 14915 = omega (arith, count_of n e) in
      let l = releases_of n task tick cost in
      let b : sheet_bytes s + list_bytes (releases_of n task tick cost) + 1 ≤ 14915 = omega
      (arith, charge_bytes_high s.charge, tasks_bytes_high s s.count, count_of n e, list_high l, length_releases n task tick cost) in
      needs h (needs h (needs h (needs b needs_none)));
  releases = λ e. omega (arith, count_of n e, length_releases n task tick cost);
  unfit = λ j e. let z : ◌≡◌ {A = ℕ} 0 1 = cc in absurd (omega arith);
}
