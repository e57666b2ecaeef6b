-- The two round trips, and that what is read is within the limits.
use Prim.Native.Nat.{ℕ, zero, suc, ◌+◌, ◌^◌, ◌-◌, ◌≤◌, ◌<◌}
use mathlib.Core.Path.{◌≡◌, refl, sym, ap, ap₂, ◌∙◌}
use mathlib.Core.Option.{none}
use mathlib.Core.List.{List, [], ◌∷◌, ◌++◌, map, append_assoc, append-nil, map-append}
use native.Mathlib.Omega.{arith}
use borrow.Author.Tests.{ne_eqb}
use lib.ListN.{length, get_or, drop, length-append}
use lib.Seq.{drop_at, get_or-drop, append_snoc}
use Rattle.model.specs.Limits.{max_tasks, max_releases, max_tick}
use Rattle.model.specs.Tasks.{Release, Valid}
use Rattle.model.specs.Refusal.{Refusal, refused, answered}
use Rattle.model.specs.Checks.{release_fault, check_releases}
use Rattle.model.proofs.FrameLaws.{unframed_ruled}
use Rattle.model.proofs.CheckLaws.{in_range_yes, entry_fine, valid_of, valid_passes}
use Rattle.model.proofs.TraceLaws.{Passed, passed_of, releases_next, passes_cons}
use Rattle.taskset.specs.declared.Task.{Task}
use Rattle.taskset.specs.TaskSet.{no_task}
use Rattle.fileformat.specs.Numbers.{Bytes}
use Rattle.fileformat.specs.Records.{Width, short, long, tick_bytes, task_size, release_size, Record, task_record, release_record, charge_record, end_record}
use Rattle.fileformat.specs.Records.{record_of, task_bytes, release_bytes, record_bytes, size_of, width_for, written_record}
use Rattle.fileformat.specs.File.{File, State, Step, low_tick, high_tick, sheet_with, sheet_in, charge_records, records_of, joined, encode}
use Rattle.fileformat.specs.File.{with_charge, with_task, with_release, advance, after_end, read_by, read_from, empty, decode, ValidFile}
use Rattle.fileformat.specs.FileCalls.{charge_bytes, tasks_bytes, sheet_bytes, list_bytes}
use Rattle.fileformat.specs.RoundTrips.{WrittenIsRead, ReadIsWritten, ReadIsValid, IsByte, ReadIsByte, RecordSizes, ReadIsShort}
use Rattle.fileformat.proofs.WidthLaws.{any_kind, kind_written, written_kind, list_low, list_high}
use Rattle.fileformat.proofs.TaskSizeLaws.{tasks_bytes_none, tasks_bytes_first, tasks_bytes_low, tasks_bytes_high}
use Rattle.fileformat.proofs.RecordLaws.{shape, TaskFits, ReleaseFits, length_task, length_release, length_charge, task_read, release_read, charge_read, record_end, charge_byte, bytes_read}
use Rattle.fileformat.proofs.StepLaws.{task_numbers_lem, charge_fine, list_fine, end_fine, Ranged, Loaded, Moves, stops, takes_charge, takes_task, takes_release, ends, moves}
use Rattle.fileformat.proofs.StepLaws.{charge_taken, task_taken, release_taken, end_taken, read_stop, read_next, read_last}

pub joined_append : (a b : List Record) → joined (a ++ b) ≡ joined a ++ joined b
unfolding joined
joined_append [] b = refl
joined_append (r ∷ a) b = ap (λ x. record_bytes r ++ x) (joined_append a b) ∙ sym (append_assoc (record_bytes r) (joined a) (joined b))

-- the bytes of tasks and of releases
abbrev pub task_part : List Task → List ℕ
task_part l = joined (map task_record l)

abbrev pub release_part : List Release → List ℕ
release_part l = joined (map written_record l)

rest_parts
    : (x : File) → joined (map task_record x.tasks ++ (map written_record x.releases ++ (end_record ∷ []))) ≡ task_part x.tasks ++ (release_part x.releases ++ (3 ∷ []))
unfolding joined record_bytes
rest_parts x =
    joined_append (map task_record x.tasks) (map written_record x.releases ++ (end_record ∷ []))
    ∙ ap (λ y. task_part x.tasks ++ y) (joined_append (map written_record x.releases) (end_record ∷ []))

-- and of a charge
abbrev pub charge_part : ℕ → List ℕ
charge_part c = joined (charge_records c)

pub encode_parts : (x : File) → encode x ≡ charge_part x.charge ++ (task_part x.tasks ++ (release_part x.releases ++ (3 ∷ [])))
unfolding encode records_of
encode_parts x =
    joined_append (charge_records x.charge) (map task_record x.tasks ++ (map written_record x.releases ++ (end_record ∷ [])))
    ∙ ap (λ y. charge_part x.charge ++ y) (rest_parts x)

-- of a charge of 0 there is none, and any other is one record
pub no_charge_part : charge_part 0 ≡ []
unfolding joined charge_records
no_charge_part = refl

pub some_charge_part : (c : ℕ) → 1 ≤ c → charge_part c ≡ record_bytes (charge_record c)
unfolding joined charge_records
some_charge_part c h = rw (charge_records, ne_eqb c 0 (λ e. omega arith)) (append-nil (record_bytes (charge_record c)))

-- by whether it is 0
pub by_charge : (c : ℕ) {C : Type 0} → (c ≡ 0 → C) → (1 ≤ c → C) → C
by_charge zero f g = f refl
by_charge (suc c) f g = g (omega arith)

pub no_charge_bytes : charge_bytes 0 ≡ 0
unfolding charge_bytes
no_charge_bytes = refl

pub some_charge_bytes : (c : ℕ) → 1 ≤ c → charge_bytes c ≡ 2
unfolding charge_bytes
some_charge_bytes c h = rw (charge_bytes, ne_eqb c 0 (λ e. omega arith))

pub length_charge_part : (c : ℕ) → length (charge_part c) ≡ charge_bytes c
length_charge_part c =
    by_charge c (λ e. ap (λ a. length (charge_part a)) e ∙ ap length no_charge_part ∙ sym no_charge_bytes ∙ ap charge_bytes (sym e))
    (λ h. ap length (some_charge_part c h) ∙ length_charge c ∙ sym (some_charge_bytes c h))

pub charge_bytes_high : (c : ℕ) → charge_bytes c ≤ 2
charge_bytes_high c = by_charge c (λ e. omega (arith, ap charge_bytes e, no_charge_bytes)) (λ h. omega (arith, some_charge_bytes c h))

pub task_part_more : (l : List Task) (t : Task) → task_part (l ++ (t ∷ [])) ≡ task_part l ++ task_bytes t
unfolding joined record_bytes
task_part_more l t =
    ap joined (map-append task_record l (t ∷ [])) ∙ joined_append (map task_record l) (task_record t ∷ [])
    ∙ ap (λ x. task_part l ++ x) (append-nil (task_bytes t))

-- the bytes of a release as it is written
abbrev pub written_bytes : Release → List ℕ
written_bytes r = release_bytes (width_for r.tick) r

pub release_part_more : (l : List Release) (r : Release) → release_part (l ++ (r ∷ [])) ≡ release_part l ++ written_bytes r
unfolding joined record_bytes
release_part_more l r =
    ap joined (map-append written_record l (r ∷ [])) ∙ joined_append (map written_record l) (written_record r ∷ [])
    ∙ ap (λ x. release_part l ++ x) (append-nil (written_bytes r))

-- whatever the charge of their sheet
pub length_task_part : (c : ℕ) (l : List Task) → length (task_part l) ≡ tasks_bytes (sheet_with c l) (length l)
unfolding joined record_bytes
length_task_part c [] = sym (tasks_bytes_none (sheet_with c []))
length_task_part c (t ∷ l) =
    length-append (task_bytes t) (task_part l) ∙ omega (arith, length_task t, length_task_part c l, tasks_bytes_first c t l)

pub length_release_part : (l : List Release) → length (release_part l) ≡ list_bytes l
unfolding joined record_bytes list_bytes
length_release_part [] = refl
length_release_part (r ∷ l) =
    length-append (written_bytes r) (release_part l) ∙ omega (arith, length_release (width_for r.tick) r, length_release_part l)

-- the bytes of the sheet, those of the releases, and 1
pub length_encode : (x : File) → length (encode x) ≡ sheet_bytes (sheet_in x) + list_bytes x.releases + 1
length_encode x =
    ap length (encode_parts x)
    ∙ length-append (charge_part x.charge) (task_part x.tasks ++ (release_part x.releases ++ (3 ∷ [])))
    ∙ omega (
      arith,
      length_charge_part x.charge,
      length-append (task_part x.tasks) (release_part x.releases ++ (3 ∷ [])),
      length-append (release_part x.releases) (3 ∷ []),
      length_task_part x.charge x.tasks,
      length_release_part x.releases,
    )

-- the bytes that were read to come to a state: those of the charge and those after it
abbrev rest_of : State → List ℕ
rest_of s = task_part s.tasks ++ release_part s.releases

abbrev pub part_of : State → List ℕ
part_of s = charge_part s.charge ++ rest_of s

no_part : (l : List Release) → length l ≡ 0 → release_part l ≡ []
unfolding joined
no_part [] h = refl
no_part (r ∷ l) h = absurd (omega arith)

no_tasks : (l : List Task) → length l ≡ 0 → task_part l ≡ []
unfolding joined
no_tasks [] h = refl
no_tasks (t ∷ l) h = absurd (omega arith)

part_charge : (s : State) (c : ℕ) → s.charge ≡ 0 → length s.tasks ≡ 0 → length s.releases ≡ 0 → 1 ≤ c → part_of (with_charge s c) ≡ part_of s ++ record_bytes (charge_record c)
part_charge s c z g l h =
    rw (no_tasks s.tasks g, no_part s.releases l, z, no_charge_part) (append-nil (charge_part c) ∙ some_charge_part c h)

-- what comes after the charge grows at the end
part_rest : (s s' : State) (m : List ℕ) → s.charge ≡ s'.charge → rest_of s' ≡ rest_of s ++ m → part_of s' ≡ part_of s ++ m
part_rest s s' m c e =
    ap₂ (λ a b. charge_part a ++ b) (sym c) e ∙ sym (append_assoc (charge_part s.charge) (rest_of s) m)

part_task : (s : State) (t : Task) → length s.releases ≡ 0 → part_of (with_task s t) ≡ part_of s ++ task_bytes t
part_task s t z =
    part_rest s (with_task s t) (task_bytes t) refl
    (rw (no_part s.releases z)
    (append-nil _ ∙ task_part_more s.tasks t ∙ ap (λ x. x ++ task_bytes t) (sym (append-nil (task_part s.tasks)))))

part_release : (s : State) (w : Width) (r : Release) → w ≡ width_for r.tick → part_of (with_release s r) ≡ part_of s ++ release_bytes w r
part_release s w r e =
    part_rest s (with_release s r) (release_bytes w r) refl
    (ap (λ x. task_part s.tasks ++ x) (release_part_more s.releases r)
    ∙ sym (append_assoc (task_part s.tasks) (release_part s.releases) (written_bytes r))
    ∙ ap (λ v. rest_of s ++ release_bytes v r) (sym e))

bytes_drop : (k : ℕ) (f : List ℕ) → Bytes f → Bytes (drop k f)
bytes_drop k f b i = rw (get_or-drop k f i 0) (b (k + i))

after_end_lem : (s : State) (at : ℕ) (l : List ℕ) (x : File) → after_end s at l ≡ answered x → (l ≡ []) × (x ≡ record { charge = s.charge; tasks = s.tasks; releases = s.releases })
unfolding after_end
after_end_lem s at [] x e = (refl, (cc))
after_end_lem s at (b ∷ l) x e = let z : ◌≡◌ {A = ℕ} 0 1 = cc in absurd (omega arith)

-- the bytes of a record that is taken follow those read before
follows
    : (s s' : State) (f : List ℕ) (r : Record) (x : File) → part_of s' ≡ part_of s ++ record_bytes r → record_bytes r ++ drop (size_of r) f ≡ f
    → encode x ≡ part_of s' ++ drop (size_of r) f → encode x ≡ part_of s ++ f
follows s s' f r x p q e =
    e ∙ ap (λ y. y ++ drop (size_of r) f) p ∙ append_assoc (part_of s) (record_bytes r) (drop (size_of r) f) ∙ ap (λ y. part_of s ++ y) q

-- a refusal is no answer
pub never_answered : {A : Type 0} (q : Refusal) (x : A) → refused q ≡ answered x → ⊥
never_answered q x e = let z : ◌≡◌ {A = ℕ} 0 1 = cc in omega arith

written_step
    : (n : ℕ) (s : State) (at : ℕ) (f : List ℕ) (x : File) (r : Record) (t : Step) → record_of f ≡ r → advance s r ≡ t → Moves s r t → Bytes f
    → read_from (suc n) s at f ≡ answered x → ((s' : State) → read_from n s' (at + size_of r) (drop (size_of r) f) ≡ answered x → encode x ≡ part_of s' ++ drop (size_of r) f)
    → encode x ≡ part_of s ++ f
unfolding record_bytes size_of
written_step n s at f x r t d a (stops q k) b e ih =
    absurd (never_answered _ x (sym (read_stop n s at f r d k a) ∙ e))
written_step n s at f x r t d a (takes_charge c z g l h) b e ih =
    follows s (with_charge s c) f r x (part_charge s c z g l h) (bytes_read f r (rw d at (shape f)) b (omega arith))
    (ih _ (sym (read_next n s at f r d _ a) ∙ e))
written_step n s at f x r t d a (takes_task t' z l g k) b e ih =
    follows s (with_task s t') f r x (part_task s t' z) (bytes_read f r (rw d at (shape f)) b (omega arith))
    (ih _ (sym (read_next n s at f r d _ a) ∙ e))
written_step n s at f x r t d a (takes_release w r' l g m) b e ih =
    follows s (with_release s r') f r x (part_release s w r' (kind_written (sheet_with s.charge s.tasks) s.before r' w g))
    (bytes_read f r (rw d at (shape f)) b (omega arith))
    (ih _ (sym (read_next n s at f r d _ a) ∙ e))
written_step n s at f x r t d a (ends l) b e ih =
    let g = after_end_lem s _ _ x (sym (read_last n s at f r d a) ∙ e) in
    ap encode g.1
    ∙ encode_parts (record { charge = s.charge; tasks = s.tasks; releases = s.releases })
    ∙ ap (λ y. charge_part s.charge ++ y) (sym (append_assoc (task_part s.tasks) (release_part s.releases) (3 ∷ [])))
    ∙ sym (append_assoc (charge_part s.charge) (rest_of s) (3 ∷ []))
    ∙ ap (λ y. part_of s ++ y) (ap (λ y. 3 ∷ y) (sym g.0) ∙ bytes_read f r (rw d at (shape f)) b (omega arith))

written : (n : ℕ) (s : State) (at : ℕ) (f : List ℕ) (x : File) → Bytes f → read_from n s at f ≡ answered x → encode x ≡ part_of s ++ f
unfolding read_by
written zero s at f x b e = absurd (never_answered _ x e)
written (suc n) s at f x b e =
    written_step n s at f x (record_of f) (advance s (record_of f)) refl refl (moves s (record_of f)) b e
    (λ s' e'. written n s' _ _ x (bytes_drop (size_of (record_of f)) f b) e')

-- an accepted file is what its contents are written as
pub encode_decode : ReadIsWritten
unfolding decode joined charge_records
encode_decode f x b e = written (suc (length f)) empty 0 f x b e

-- what is read so far: a charge and tasks alone
abbrev pub tasks_with : ℕ → List Task → State
tasks_with c l = record { charge = c; tasks = l; releases = []; before = 0 }

-- without a charge
abbrev pub tasks_only : List Task → State
tasks_only = tasks_with 0

ranged_fits : (t : Task) → Ranged t → TaskFits t
ranged_fits t h = record { period = omega arith; jitter = omega arith; cost = omega arith; deadline = omega arith }

-- each of some tasks is within its limits
abbrev pub AllRanged : List Task → Type 0
AllRanged l = (i : ℕ) → i < length l → Ranged (get_or l i no_task)

-- and the load of each is within P and D
abbrev pub AllLoaded : ℕ → List Task → Type 0
AllLoaded c l = (i : ℕ) → i < length l → Loaded c (get_or l i no_task)

drop_task : (t : Task) (m : List ℕ) → drop (task_size t.low) (task_bytes t ++ m) ≡ m
drop_task t m = drop_at (task_bytes t) m (task_size t.low) (length_task t)

drop_release : (w : Width) (r : Release) (m : List ℕ) → drop (release_size w) (release_bytes w r ++ m) ≡ m
drop_release w r m = drop_at (release_bytes w r) m (release_size w) (length_release w r)

-- a charge that is written is read
reads_charge
    : (c : ℕ) (n at : ℕ) (m : List ℕ) → 1 ≤ c → IsByte c → read_from (suc n) empty at (record_bytes (charge_record c) ++ m) ≡ read_from n (tasks_with c []) (at + 2) m
unfolding size_of
reads_charge c n at m l h =
    read_next n empty at (record_bytes (charge_record c) ++ m) (charge_record c) (charge_read c m (omega arith)) (tasks_with c [])
    (charge_taken empty c (charge_fine _ _ _ c refl refl refl l))
    ∙ ap (read_from n (tasks_with c []) (at + 2)) (drop_at (record_bytes (charge_record c)) m 2 (length_charge c))

-- tasks that are written are read
reads_task
    : (t : Task) (n c : ℕ) (ts : List Task) (at : ℕ) (m : List ℕ) → Ranged t → Loaded c t → length ts < max_tasks
    → read_from (suc n) (tasks_with c ts) at (task_bytes t ++ m) ≡ read_from n (tasks_with c (ts ++ (t ∷ []))) (at + task_size t.low) m
unfolding size_of
reads_task t n c ts at m h g l =
    read_next n (tasks_with c ts) at (task_bytes t ++ m) (task_record t) (task_read t m (ranged_fits t h)) (tasks_with c (ts ++ (t ∷ [])))
    (task_taken (tasks_with c ts) t (task_numbers_lem _ _ _ t refl l ∙ entry_fine _ _ _ _ _ (in_range_yes _ _ _ _ h) g))
    ∙ ap (read_from n (tasks_with c (ts ++ (t ∷ []))) (at + task_size t.low)) (drop_task t m)

reads_tasks
    : (l : List Task) (n c : ℕ) (ts : List Task) (at : ℕ) (m : List ℕ) → AllRanged l → AllLoaded c l → length ts + length l ≤ max_tasks
    → read_from (length l + n) (tasks_with c ts) at (task_part l ++ m) ≡ read_from n (tasks_with c (ts ++ l)) (at + length (task_part l)) m
unfolding joined record_bytes
reads_tasks [] n c ts at m h g d =
    let e : 0 + n ≡ n = omega arith in
    let a : at + 0 ≡ at = omega arith in
    rw (e, a, append-nil)
reads_tasks (t ∷ l) n c ts at m h g d =
    let e : suc (length l) + n ≡ suc (length l + n) = omega arith in
    let a : at + task_size t.low + length (task_part l) ≡ at + length (task_bytes t ++ task_part l) = omega
    (arith, length-append (task_bytes t) (task_part l), length_task t) in
    ap₂ (λ k f. read_from k (tasks_with c ts) at f) e (append_assoc (task_bytes t) (task_part l) m)
    ∙ reads_task t (length l + n) c ts at (task_part l ++ m) (h 0 (omega arith)) (g 0 (omega arith)) (omega arith)
    ∙ reads_tasks l n c (ts ++ (t ∷ [])) (at + task_size t.low) m (λ i k. h (suc i) (omega arith)) (λ i k. g (suc i) (omega arith))
    (omega (arith, length-append ts (t ∷ [])))
    ∙ ap₂ (λ q k. read_from n (tasks_with c q) k m) (append_snoc ts t l) a

-- releases that are written are read
abbrev read_to : ℕ → List Task → List Release → ℕ → State
read_to c ts rs before = record { charge = c; tasks = ts; releases = rs; before = before }

-- ticks that a record may have are held by its bytes
tick_fits : (w : Width) (t : ℕ) → t ≤ high_tick w → t < 256 ^ tick_bytes w
tick_fits short t h = omega arith
tick_fits long t h = omega arith

passed_fits
    : (c : ℕ) (ts : List Task) (before : ℕ) (w : Width) (r : Release) → Valid (sheet_with c ts) → Passed (sheet_with c ts) (low_tick w before) (high_tick w) r → ReleaseFits w r
passed_fits c ts before w r v p =
    record {
      task = omega (arith, v.few_tasks, p.known);
      tick = tick_fits w r.tick p.tick_high;
      cost = omega (arith, p.cost_high, v.in_range_lem r.task p.known);
    }

reads_release
    : (r : Release) (n c : ℕ) (ts : List Task) (rs : List Release) (before at : ℕ) (m : List ℕ) → Valid (sheet_with c ts)
    → release_fault (sheet_with c ts) before max_tick r ≡ none → length rs < max_releases
    → read_from (suc n) (read_to c ts rs before) at (written_bytes r ++ m) ≡ read_from n (read_to c ts (rs ++ (r ∷ [])) r.tick) (at + release_size (width_for r.tick)) m
unfolding size_of
reads_release r n c ts rs before at m v h l =
    let w = width_for r.tick in
    let k = written_kind (sheet_with c ts) before r h in
    read_next n (read_to c ts rs before) at (release_bytes w r ++ m) (release_record w r)
    (release_read w r m (passed_fits c ts before w r v (passed_of (sheet_with c ts) (low_tick w before) (high_tick w) r k))) (read_to c ts (rs ++ (r ∷ [])) r.tick)
    (release_taken (read_to c ts rs before) w r (list_fine (sheet_with c ts) _ _ w r v.some_task k l))
    ∙ ap (read_from n (read_to c ts (rs ++ (r ∷ [])) r.tick) (at + release_size w)) (drop_release w r m)

reads_releases
    : (l : List Release) (n c : ℕ) (ts : List Task) (rs : List Release) (before p at : ℕ) (m : List ℕ) (x : File) → Valid (sheet_with c ts)
    → check_releases (sheet_with c ts) before p l ≡ none → length rs + length l ≤ max_releases → ((b k : ℕ) → read_from n (read_to c ts (rs ++ l) b) k m ≡ answered x)
    → read_from (length l + n) (read_to c ts rs before) at (release_part l ++ m) ≡ answered x
unfolding joined record_bytes
reads_releases [] n c ts rs before p at m x v h d g =
    let e : 0 + n ≡ n = omega arith in
    rw e (rw append-nil at (g before at))
reads_releases (r ∷ l) n c ts rs before p at m x v h d g =
    let e : suc (length l) + n ≡ suc (length l + n) = omega arith in
    let q = passes_cons (sheet_with c ts) before p r l h in
    ap₂ (λ k f. read_from k (read_to c ts rs before) at f) e (append_assoc (written_bytes r) (release_part l) m)
    ∙ reads_release r (length l + n) c ts rs before at (release_part l ++ m) v q.0 (omega arith)
    ∙ reads_releases l n c ts (rs ++ (r ∷ [])) r.tick (suc p) (at + release_size (width_for r.tick)) m x v q.1 (omega (arith, length-append rs (r ∷ [])))
    (λ b k. rw (append_snoc rs r l) (g b k))

reads_end
    : (n c : ℕ) (ts : List Task) (rs : List Release) (b k : ℕ) → 1 ≤ length ts
    → read_from (suc n) (read_to c ts rs b) k (3 ∷ []) ≡ answered (record { charge = c; tasks = ts; releases = rs })
unfolding size_of after_end
reads_end n c ts rs b k l = read_last n (read_to c ts rs b) k (3 ∷ []) end_record (record_end []) (end_taken (read_to c ts rs b) (end_fine _ l))

-- tasks and releases that are written are read, the charge being read
reads_rest
    : (x : File) (n at : ℕ) → ValidFile x
    → read_from (length x.tasks + (length x.releases + suc n)) (tasks_with x.charge []) at (task_part x.tasks ++ (release_part x.releases ++ (3 ∷ []))) ≡ answered x
reads_rest x n at h =
    let v = valid_of (sheet_in x) h.tasks in
    let c : length x.tasks ≤ max_tasks = v.few_tasks in
    reads_tasks x.tasks (length x.releases + suc n) x.charge [] at (release_part x.releases ++ (3 ∷ [])) v.in_range_lem v.carried (omega arith)
    ∙ reads_releases x.releases (suc n) x.charge x.tasks [] 0 0 (at + length (task_part x.tasks)) (3 ∷ []) x v h.releases (omega (arith, h.few))
    (λ b k. reads_end n x.charge x.tasks x.releases b k v.some_task)

-- what is written is read again
pub decode_encode : WrittenIsRead
unfolding decode
decode_encode x y h = by_charge x.charge without with_charge_lem
  where
    left : ℕ
    left = (tasks_bytes (sheet_in x) (length x.tasks) - length x.tasks) + (list_bytes x.releases - length x.releases) + 1

    rest : List ℕ
    rest = task_part x.tasks ++ (release_part x.releases ++ (3 ∷ []))

    without : x.charge ≡ 0 → read_from (suc (length (encode x))) empty 0 (encode x) ≡ answered x
    without z =
        let e : suc (length (encode x)) ≡ length x.tasks + (length x.releases + suc left) = omega
        (arith, length_encode x, list_low x.releases, tasks_bytes_low (sheet_in x) (length x.tasks), ap charge_bytes z, no_charge_bytes) in
        ap₂ (λ k f. read_from k empty 0 f) e (encode_parts x ∙ ap (λ a. charge_part a ++ rest) z ∙ ap (λ a. a ++ rest) no_charge_part)
        ∙ ap (λ a. read_from (length x.tasks + (length x.releases + suc left)) (tasks_with a []) 0 rest) (sym z)
        ∙ reads_rest x left 0 h

    with_charge_lem : 1 ≤ x.charge → read_from (suc (length (encode x))) empty 0 (encode x) ≡ answered x
    with_charge_lem l =
        let e : suc (length (encode x)) ≡ suc (length x.tasks + (length x.releases + suc (suc left))) = omega
        (arith, length_encode x, list_low x.releases, tasks_bytes_low (sheet_in x) (length x.tasks), some_charge_bytes x.charge l) in
        ap₂ (λ k f. read_from k empty 0 f) e (encode_parts x ∙ ap (λ a. a ++ rest) (some_charge_part x.charge l))
        ∙ reads_charge x.charge _ 0 rest l y
        ∙ reads_rest x (suc left) 2 h

-- what is read so far is within the limits
record Good (s : State) : Type 0 where
  ranged : AllRanged s.tasks
  loaded : AllLoaded s.charge s.tasks
  few_tasks : length s.tasks ≤ max_tasks
  few_releases : length s.releases ≤ max_releases
  checked : (l : List Release) → check_releases (sheet_with s.charge s.tasks) 0 0 (s.releases ++ l) ≡ check_releases (sheet_with s.charge s.tasks) s.before (length s.releases) l
  fresh : length s.releases ≡ 0 → s.before ≡ 0

nil_of : (l : List Release) → length l ≡ 0 → l ≡ []
nil_of [] h = refl
nil_of (r ∷ l) h = absurd (omega arith)

-- what holds of each of some tasks holds with one more of which it holds
pub all_more
    : (P : Task → Type 0) (l : List Task) (t : Task) → ((i : ℕ) → i < length l → P (get_or l i no_task)) → P t
    → (i : ℕ) → i < length (l ++ (t ∷ [])) → P (get_or (l ++ (t ∷ [])) i no_task)
all_more P [] t h g zero i = g
all_more P [] t h g (suc j) i = absurd (omega arith)
all_more P (a ∷ l) t h g zero i = h 0 (omega arith)
all_more P (a ∷ l) t h g (suc j) i = all_more P l t (λ k m. h (suc k) (omega arith)) g j (omega arith)

good_charge : (s : State) (c : ℕ) → Good s → length s.tasks ≡ 0 → length s.releases ≡ 0 → Good (with_charge s c)
good_charge s c g y z =
    record {
      ranged = g.ranged;
      loaded = λ i l. absurd (omega arith);
      few_tasks = g.few_tasks;
      few_releases = g.few_releases;
      checked = λ m. rw (nil_of s.releases z, g.fresh z);
      fresh = g.fresh;
    }

good_task : (s : State) (t : Task) → Good s → length s.releases ≡ 0 → length s.tasks < max_tasks → Ranged t → Loaded s.charge t → Good (with_task s t)
good_task s t g z l h k =
    record {
      ranged = all_more Ranged s.tasks t g.ranged h;
      loaded = all_more (Loaded s.charge) s.tasks t g.loaded k;
      few_tasks = omega (arith, length-append s.tasks (t ∷ []));
      few_releases = g.few_releases;
      checked = λ m. rw (nil_of s.releases z, g.fresh z);
      fresh = g.fresh;
    }

good_release : (s : State) (r : Release) → Good s → release_fault (sheet_with s.charge s.tasks) s.before max_tick r ≡ none → length s.releases < max_releases → Good (with_release s r)
good_release s r g f l =
    let e : length (s.releases ++ (r ∷ [])) ≡ suc (length s.releases) = omega (arith, length-append s.releases (r ∷ [])) in
    record {
      ranged = g.ranged;
      loaded = g.loaded;
      few_tasks = g.few_tasks;
      few_releases = omega arith;
      checked =
          λ m.
          rw (e, append_snoc)
          (g.checked (r ∷ m) ∙ releases_next (sheet_with s.charge s.tasks) s.before (length s.releases) r m f);
      fresh = λ z. absurd (omega arith);
    }

good_valid : (s : State) → Good s → 1 ≤ length s.tasks → ValidFile (record { charge = s.charge; tasks = s.tasks; releases = s.releases })
unfolding check_releases
good_valid s g l =
    record {
      tasks = sym (valid_passes (sheet_with s.charge s.tasks) (record { some_task = l; few_tasks = g.few_tasks; in_range_lem = g.ranged; carried = g.loaded; framed = unframed_ruled }));
      releases = ap (check_releases (sheet_with s.charge s.tasks) 0 0) (sym (append-nil s.releases)) ∙ g.checked [];
      few = g.few_releases;
    }

valid_step
    : (n : ℕ) (s : State) (at : ℕ) (f : List ℕ) (x : File) (r : Record) (t : Step) → record_of f ≡ r → advance s r ≡ t → Moves s r t → Good s
    → read_from (suc n) s at f ≡ answered x → ((s' : State) → Good s' → read_from n s' (at + size_of r) (drop (size_of r) f) ≡ answered x → ValidFile x) → ValidFile x
valid_step n s at f x r t d a (stops q k) g e ih = absurd (never_answered _ x (sym (read_stop n s at f r d k a) ∙ e))
valid_step n s at f x r t d a (takes_charge c h y z k) g e ih =
    ih _ (good_charge s c g y z) (sym (read_next n s at f r d _ a) ∙ e)
valid_step n s at f x r t d a (takes_task t' z l h k) g e ih =
    ih _ (good_task s t' g z l h k) (sym (read_next n s at f r d _ a) ∙ e)
valid_step n s at f x r t d a (takes_release w r' l h m) g e ih =
    ih _ (good_release s r' g (any_kind (sheet_with s.charge s.tasks) s.before r' w h) m) (sym (read_next n s at f r d _ a) ∙ e)
valid_step n s at f x r t d a (ends l) g e ih =
    rw (after_end_lem s _ _ x (sym (read_last n s at f r d a) ∙ e)).1 (good_valid s g l)

valid_from : (n : ℕ) (s : State) (at : ℕ) (f : List ℕ) (x : File) → Good s → read_from n s at f ≡ answered x → ValidFile x
unfolding read_by
valid_from zero s at f x g e = absurd (never_answered _ x e)
valid_from (suc n) s at f x g e =
    valid_step n s at f x (record_of f) (advance s (record_of f)) refl refl (moves s (record_of f)) g e
    (λ s' g' e'. valid_from n s' _ _ x g' e')

-- what is read is within the limits
pub decode_valid : ReadIsValid
unfolding decode
decode_valid f x e =
    valid_from (suc (length f)) empty 0 f x
    (record { ranged = λ i l. absurd (omega arith); loaded = λ i l. absurd (omega arith); few_tasks = omega arith; few_releases = omega arith; checked = λ l. refl; fresh = λ z. refl })
    e

-- the charge that is read is a byte
byte_step
    : (n : ℕ) (s : State) (at : ℕ) (f : List ℕ) (x : File) (r : Record) (t : Step) → record_of f ≡ r → advance s r ≡ t → Moves s r t → Bytes f → IsByte s.charge
    → read_from (suc n) s at f ≡ answered x → ((s' : State) → IsByte s'.charge → read_from n s' (at + size_of r) (drop (size_of r) f) ≡ answered x → IsByte x.charge)
    → IsByte x.charge
byte_step n s at f x r t d a (stops q k) b g e ih = absurd (never_answered _ x (sym (read_stop n s at f r d k a) ∙ e))
byte_step n s at f x r t d a (takes_charge c h y z k) b g e ih =
    ih _ (omega (arith, charge_byte f r (rw d at (shape f)) b c refl)) (sym (read_next n s at f r d _ a) ∙ e)
byte_step n s at f x r t d a (takes_task t' z l h k) b g e ih = ih _ g (sym (read_next n s at f r d _ a) ∙ e)
byte_step n s at f x r t d a (takes_release w r' l h m) b g e ih = ih _ g (sym (read_next n s at f r d _ a) ∙ e)
byte_step n s at f x r t d a (ends l) b g e ih = rw (after_end_lem s _ _ x (sym (read_last n s at f r d a) ∙ e)).1 g

byte_from : (n : ℕ) (s : State) (at : ℕ) (f : List ℕ) (x : File) → Bytes f → IsByte s.charge → read_from n s at f ≡ answered x → IsByte x.charge
unfolding read_by
byte_from zero s at f x b g e = absurd (never_answered _ x e)
byte_from (suc n) s at f x b g e =
    byte_step n s at f x (record_of f) (advance s (record_of f)) refl refl (moves s (record_of f)) b g e
    (λ s' g' e'. byte_from n s' _ _ x (bytes_drop (size_of (record_of f)) f b) g' e')

pub decode_charge : ReadIsByte
unfolding decode
decode_charge f x b e = byte_from (suc (length f)) empty 0 f x b (omega arith) e

-- how long records are, and so an accepted file
pub record_sizes : RecordSizes
unfolding record_bytes
record_sizes c t r = (length_charge c, λ e. length_task t ∙ ap task_size e, λ e. length_task t ∙ ap task_size e, length_release short r, length_release long r)

pub decode_short : ReadIsShort
decode_short f x b e =
    let v = decode_valid f x e in
    omega (
      arith,
      ap length (encode_decode f x b e),
      length_encode x,
      charge_bytes_high x.charge,
      tasks_bytes_high (sheet_in x) (length x.tasks),
      list_high x.releases,
      v.few,
      (valid_of (sheet_in x) v.tasks).few_tasks,
    )
