-- Laws of the scan: what holds where the scan stands, and what each record does.
use Prim.Native.Nat.{ℕ, suc, ◌+◌, ◌*◌, ◌-◌, ◌≤◌, ◌<◌}
use mathlib.Core.Path.{◌≡◌, refl, sym, ap, ap₂, ◌∙◌}
use mathlib.Core.Option.{some, none}
use mathlib.Core.List.{List, [], ◌∷◌, ◌++◌}
use Rattle.std.specs.Prelude.{Ok, Err}
use native.Mathlib.Omega.{arith}
use native.Mathlib.Numerals.{add-one}
use lib.ListN.{length, get_or, drop, set, replicate, length-set, drop_of_length-le}
use lib.Seq.{take-suc-set, drop-set-lt, drop-drop, drop-cons, get_or-set_same, get_or-set_other}
use Rattle.model.specs.Limits.{max_tasks}
use Rattle.model.specs.Series.{sum, table}
use Rattle.model.specs.Tasks.{Release}
use Rattle.model.specs.Refusal.{Refusal, refused, answered}
use Rattle.refusal.specs.declared.Refusal.{Refusal as Refused}
use Rattle.refusal.specs.Refusal.{number_of}
use Rattle.model.proofs.SeriesLaws.{sum_eq}
use Rattle.model.proofs.TableLaws.{length_table}
use Rattle.taskset.specs.declared.Task.{Task}
use Rattle.taskset.specs.declared.TaskSet.{TaskSet}
use Rattle.taskset.specs.TaskSet.{no_task, view_of}
use Rattle.model.specs.Checks.{fault_at}
use Rattle.model.proofs.CheckLaws.{fault_of_lem, faultless_of}
use Rattle.fileformat.specs.Records.{Width, Record, broken, wrong_mark, task_record, release_record, charge_record, end_record, task_size, release_size, record_of, size_of}
use Rattle.fileformat.specs.File.{State, stop, sheet_with, charge_fault, task_fault, mark_fault, list_fault, advance, after_end, read_from, decode}
use Rattle.fileformat.specs.FileCalls.{tasks_in, set_of, set_with, charge_bytes, tasks_bytes, read_sheet}
use Rattle.fileformat.proofs.StepLaws.{charge_of, charge_stops, charge_taken, task_few, task_first, end_early, end_fine}
use Rattle.fileformat.proofs.StepLaws.{broken_stops, mark_stops}
use Rattle.fileformat.proofs.StepLaws.{task_stops, task_taken, release_stops, release_taken, end_stops, end_taken, read_stop, read_next, read_last}
use Rattle.fileformat.proofs.SheetLaws.{same_sheet, length_tasks, list_agrees, set_of_tasks}
use Rattle.fileformat.proofs.NumberLaws.{by_order}
use Rattle.fileformat.proofs.OffsetLaws.{room}
use Rattle.fileformat.proofs.RoundTrips.{no_charge_bytes, some_charge_bytes}
use Rattle.fileformat.proofs.WidthLaws.{size_low}
use Rattle.fileformat.proofs.TaskSizeLaws.{tasks_bytes_more}
use Rattle.records.specs.declared.Job.{Job}
use Rattle.records.specs.RecordIn.{release_of}
use Rattle.reader.specs.Reader.{record_there, offset_of, release_in, releases_at, AreReleases, start_in, ScanSays}

-- the releases from an offset on
pub length_releases : (f : List ℕ) (start n : ℕ) → length (releases_at f start n) ≡ n
unfolding releases_at
length_releases f start n = length_table _ n

no_releases : (f : List ℕ) (start n : ℕ) → n ≡ 0 → releases_at f start n ≡ []
unfolding releases_at table
no_releases f start n z = ap (releases_at f start) z

-- a record before which no record stands begins where they begin
offset_none : (f : List ℕ) (start n : ℕ) → n ≡ 0 → offset_of f start n ≡ start
unfolding offset_of
offset_none f start n z = ap (offset_of f start) z

-- one release record more, at its offset
module _ (f : List ℕ) (start n at : ℕ) (w : Width) (r : Release) (o : at ≡ offset_of f start n) (e : release_record w r ≡ record_there f at) where
  record_next : release_record w r ≡ record_there f (offset_of f start n)
  record_next = e ∙ ap (record_there f) o

  pub offset_more : at + release_size w ≡ offset_of f start (n + 1)
  unfolding offset_of size_of
  offset_more = rw (add-one, ← record_next) (ap (λ k. k + release_size w) o)

  releases_more : releases_at f start (n + 1) ≡ releases_at f start n ++ (r ∷ [])
  unfolding releases_at table release_in
  releases_more = rw (add-one, ← record_next)

  stand_more : AreReleases f start n → AreReleases f start (n + 1)
  stand_more h k l = by_order n k (λ g. let x : n ≡ k = omega arith in rw (← x) (w, r, record_next)) (λ g. h k g)

-- what is read so far: the charge, the tasks, and so many releases after them
abbrev pub state_of : List ℕ → TaskSet → ℕ → ℕ → State
state_of f s n before = record { charge = s.charge; tasks = tasks_in s; releases = releases_at f (start_in s) n; before = before }

-- where the scan stands: the file's answer is what the reading gives from here on, for as many records as there may still be
pub record Scanning (f : List ℕ) (s : TaskSet) (n before start at : ℕ) : Type 0 where
  pub records : ℕ
  pub rest : decode f ≡ read_from records (state_of f s n before) at (drop at f)
  pub enough : suc (length f) ≤ records + at
  pub offset : at ≡ offset_of f (start_in s) n
  pub far : start_in s + 10 * n ≤ at
  pub begins : start ≡ start_in s
  pub stand : AreReleases f (start_in s) n
  pub within : at ≤ length f
  pub few_tasks : s.count ≤ max_tasks
  pub tasks_long : length s.tasks ≡ max_tasks
  pub padded : drop s.count s.tasks ≡ replicate (max_tasks - s.count) no_task

module _ (f : List ℕ) (s : TaskSet) (n before start at : ℕ) (i : Scanning f s n before start at) where
  in_array : s.count ≤ length s.tasks
  in_array = omega (arith, i.few_tasks, i.tasks_long)

  length_here : length (releases_at f (start_in s) n) ≡ n
  length_here = length_releases f (start_in s) n

  -- so many records can still be read
  abbrev left : ℕ
  left = i.records - 1

  more : i.records ≡ suc left
  more = omega (arith, i.enough, i.within)

  abbrev state : State
  state = state_of f s n before

  here : decode f ≡ read_from (suc left) state at (drop at f)
  here = i.rest ∙ ap (λ k. read_from k state at (drop at f)) more

  stopped : (r : Record) (k : ℕ) → r ≡ record_of (drop at f) → advance state r ≡ stop k → refused (record { number = k; place = at }) ≡ decode f
  stopped r k e a = sym (here ∙ read_stop left state at (drop at f) r (sym e) k a)

  pub scan_broken : (k : ℕ) → broken k ≡ record_of (drop at f) → refused (record { number = k; place = at }) ≡ decode f
  scan_broken k e = stopped (broken k) k e (broken_stops _ k)

  pub scan_mark : (k : ℕ) → wrong_mark ≡ record_of (drop at f) → k ≡ mark_fault s.count n → refused (record { number = k; place = at }) ≡ decode f
  scan_mark k e a =
      stopped wrong_mark k e (mark_stops state ∙ ap stop (sym (a ∙ ap₂ mark_fault (sym (length_tasks s in_array)) (sym length_here))))

  charge_fault_here : (c : ℕ) → charge_fault s.charge s.count n c ≡ charge_fault s.charge (length (tasks_in s)) (length state.releases) c
  charge_fault_here c = ap₂ (λ a b. charge_fault s.charge a b c) (sym (length_tasks s in_array)) (sym length_here)

  pub scan_charge_stops
      : (c : ℕ) (q : Refusal) → charge_record c ≡ record_of (drop at f) → some q ≡ fault_at at (charge_fault s.charge s.count n c) → refused q ≡ decode f
  scan_charge_stops c q e a =
      let w = fault_of_lem at _ q a in
      ap refused w.1 ∙ stopped (charge_record c) q.number e (charge_stops state c q.number (sym (charge_fault_here c) ∙ w.0))

  task_fault_here : (t : Task) → task_fault s.charge s.count n t ≡ task_fault s.charge (length (tasks_in s)) (length state.releases) t
  task_fault_here t = ap₂ (λ a b. task_fault s.charge a b t) (sym (length_tasks s in_array)) (sym length_here)

  pub scan_task_stops : (t : Task) (q : Refusal) → task_record t ≡ record_of (drop at f) → some q ≡ fault_at at (task_fault s.charge s.count n t) → refused q ≡ decode f
  scan_task_stops t q e a =
      let w = fault_of_lem at _ q a in
      ap refused w.1 ∙ stopped (task_record t) q.number e (task_stops state t q.number (sym (task_fault_here t) ∙ w.0))

  list_fault_here : (w : Width) (r : Release) → list_fault (view_of s) n before w r ≡ list_fault (sheet_with s.charge (tasks_in s)) (length state.releases) before w r
  list_fault_here w r =
      list_agrees (view_of s) (sheet_with s.charge (tasks_in s)) n before w r (same_sheet s in_array)
      ∙ ap (λ k. list_fault (sheet_with s.charge (tasks_in s)) k before w r) (sym length_here)

  pub scan_job_stops
      : (w : Width) (j : Job) (q : Refusal) → release_record w (release_of j) ≡ record_of (drop at f)
      → some q ≡ fault_at at (list_fault (view_of s) n before w (release_of j)) → refused q ≡ decode f
  scan_job_stops w j q e a =
      let b = fault_of_lem at _ q a in
      ap refused b.1
      ∙ stopped (release_record w (release_of j)) q.number e (release_stops state w (release_of j) q.number (sym (list_fault_here w (release_of j)) ∙ b.0))

  pub scan_end_stops : end_record ≡ record_of (drop at f) → s.count ≡ 0 → refused (record { number = 5; place = at }) ≡ decode f
  scan_end_stops e z = stopped end_record 5 e (end_stops state 5 (end_early _ (length_tasks s in_array ∙ z)))

  -- a charge; nothing stands before it
  abbrev with_charge : ℕ → TaskSet
  with_charge c = record { tasks = s.tasks; count = s.count; charge = c }

  state_charge : (c : ℕ) → n ≡ 0 → record { charge = c; tasks = tasks_in s; releases = state.releases; before = before } ≡ state_of f (with_charge c) n before
  unfolding tasks_in
  state_charge c z = ap (λ b. record { charge = c; tasks = tasks_in s; releases = b; before = before }) (no_releases f _ n z ∙ sym (no_releases f _ n z))

  -- the bytes of the tasks are the same
  charge_alone : (c : ℕ) → tasks_bytes (view_of (with_charge c)) s.count ≡ tasks_bytes (view_of s) s.count
  unfolding tasks_bytes
  charge_alone c = refl

  pub scan_charge_next
      : (c : ℕ) → charge_record c ≡ record_of (drop at f) → none ≡ fault_at at (charge_fault s.charge s.count n c) → Scanning f (with_charge c) n before (at + 2) (at + 2)
  unfolding size_of
  scan_charge_next c e a =
      let fine = faultless_of at _ a in
      let g = charge_of _ _ _ c fine in
      let z : n ≡ 0 = g.no_release_lem in
      let b : charge_bytes s.charge ≡ 0 = ap charge_bytes g.no_charge ∙ no_charge_bytes in
      let d = charge_alone c in
      record {
        records = left;
        enough = omega (arith, i.enough, i.within);
        rest =
            here
            ∙ read_next left state at (drop at f) (charge_record c) (sym e) _ (charge_taken state c (sym (charge_fault_here c) ∙ fine))
            ∙ ap (read_from left (record { charge = c; tasks = tasks_in s; releases = state.releases; before = before }) (at + 2)) (drop-drop 2 at f)
            ∙ ap (λ q. read_from left q (at + 2) (drop (at + 2) f)) (state_charge c z);
        offset = omega (arith, i.offset, b, d, some_charge_bytes c g.not_zero, offset_none f (start_in s) n z, offset_none f (start_in (with_charge c)) n z);
        far = omega (arith, i.far, b, d, some_charge_bytes c g.not_zero);
        begins = omega (arith, i.offset, b, d, some_charge_bytes c g.not_zero, offset_none f (start_in s) n z);
        stand = λ r l. absurd (omega arith);
        within = room f at (charge_record c) i.within e;
        few_tasks = i.few_tasks;
        tasks_long = i.tasks_long;
        padded = i.padded;
      }

  -- a task more; no release stands before it
  abbrev with_task : Task → TaskSet
  with_task t = record { tasks = set s.tasks s.count t; count = s.count + 1; charge = s.charge }

  tasks_more : (t : Task) → s.count < max_tasks → tasks_in (with_task t) ≡ tasks_in s ++ (t ∷ [])
  unfolding tasks_in
  tasks_more t h = rw add-one (take-suc-set s.tasks s.count t (omega (arith, i.tasks_long)))

  padded_more : (t : Task) → s.count < max_tasks → drop (s.count + 1) (set s.tasks s.count t) ≡ replicate (max_tasks - (s.count + 1)) no_task
  padded_more t h =
      let e : max_tasks - s.count ≡ suc (max_tasks - (s.count + 1)) = omega arith in
      drop-set-lt (s.count + 1) s.tasks s.count t (omega arith)
      ∙ sym (drop-drop 1 s.count s.tasks)
      ∙ ap (drop 1) (i.padded ∙ ap (λ k. replicate k no_task) e)

  state_task
      : (t : Task) → s.count < max_tasks → n ≡ 0
      → record { charge = s.charge; tasks = tasks_in s ++ (t ∷ []); releases = state.releases; before = before } ≡ state_of f (with_task t) n before
  state_task t h z =
      ap₂ (λ a b. record { charge = s.charge; tasks = a; releases = b; before = before }) (sym (tasks_more t h)) (no_releases f _ n z ∙ sym (no_releases f _ n z))

  -- its record stands before the releases too
  tasks_bytes_kept : (t : Task) → s.count < max_tasks → tasks_bytes (view_of (with_task t)) s.count ≡ tasks_bytes (view_of s) s.count
  unfolding tasks_bytes
  tasks_bytes_kept t h =
      sum_eq (λ p. task_size ((view_of (with_task t)).low p)) (λ p. task_size ((view_of s).low p)) s.count
      (λ p l. ap (λ (u : Task). task_size u.low) (get_or-set_other s.tasks s.count p t no_task (λ e. omega arith)))

  start_more : (t : Task) → s.count < max_tasks → start_in (with_task t) ≡ start_in s + task_size t.low
  start_more t h =
      let e : get_or (set s.tasks s.count t) s.count no_task ≡ t = get_or-set_same s.tasks s.count t no_task (omega (arith, i.tasks_long)) in
      let m : s.count + 1 ≡ suc s.count = omega arith in
      omega (
        arith,
        ap (tasks_bytes (view_of (with_task t))) m,
        tasks_bytes_more (view_of (with_task t)) s.count,
        tasks_bytes_kept t h,
        ap (λ (u : Task). task_size u.low) e,
      )

  task_next
      : (t : Task) → task_record t ≡ record_of (drop at f) → none ≡ fault_at at (task_fault s.charge s.count n t)
      → Scanning f (with_task t) n before (at + task_size t.low) (at + task_size t.low)
  unfolding size_of
  task_next t e a =
      let fine = faultless_of at _ a in
      let room-here : s.count < max_tasks = task_few _ _ _ t fine in
      let size = task_size t.low in
      let z : n ≡ 0 = task_first _ _ _ t fine in
      record {
        records = left;
        enough = omega (arith, i.enough, i.within);
        rest =
            here
            ∙ read_next left state at (drop at f) (task_record t) (sym e) _ (task_taken state t (sym (task_fault_here t) ∙ fine))
            ∙ ap (read_from left (record { charge = s.charge; tasks = tasks_in s ++ (t ∷ []); releases = state.releases; before = before }) (at + size))
            (drop-drop size at f)
            ∙ ap (λ q. read_from left q (at + size) (drop (at + size) f)) (state_task t room-here z);
        offset = omega (arith, i.offset, start_more t room-here, offset_none f (start_in s) n z, offset_none f (start_in (with_task t)) n z);
        far = omega (arith, i.far, start_more t room-here);
        begins = omega (arith, i.offset, start_more t room-here, offset_none f (start_in s) n z);
        stand = λ r l. absurd (omega arith);
        within = room f at (task_record t) i.within e;
        few_tasks = omega arith;
        tasks_long = simp length-set i.tasks_long;
        padded = padded_more t room-here;
      }

  pub scan_task_next
      : (t : Task) (size : ℕ) → task_record t ≡ record_of (drop at f) → none ≡ fault_at at (task_fault s.charge s.count n t) → size ≡ task_size t.low
      → Scanning f (with_task t) n before (at + size) (at + size)
  scan_task_next t size e a z = rw z (task_next t e a)

  -- there is an entry for it
  pub scan_task_room : (t : Task) → none ≡ fault_at at (task_fault s.charge s.count n t) → (s.count < max_tasks) × (length s.tasks ≡ max_tasks)
  scan_task_room t a = (task_few _ _ _ t (faultless_of at _ a), i.tasks_long)

  -- a release more
  pub scan_job_next
      : (w : Width) (j : Job) → release_record w (release_of j) ≡ record_of (drop at f) → none ≡ fault_at at (list_fault (view_of s) n before w (release_of j))
      → Scanning f s (n + 1) j.tick start (at + release_size w)
  unfolding size_of
  scan_job_next w j e a =
      let fine = faultless_of at _ a in
      let z = release_size w in
      record {
        records = left;
        enough = omega (arith, i.enough, i.within, size_low w);
        rest =
            here
            ∙ read_next left state at (drop at f) (release_record w (release_of j)) (sym e) _
            (release_taken state w (release_of j) (sym (list_fault_here w (release_of j)) ∙ fine))
            ∙ ap (read_from left (record { charge = s.charge; tasks = tasks_in s; releases = state.releases ++ (release_of j ∷ []); before = j.tick }) (at + z)) (drop-drop z at f)
            ∙ ap (λ q. read_from left (record { charge = s.charge; tasks = tasks_in s; releases = q; before = j.tick }) (at + z) (drop (at + z) f))
            (sym (releases_more f (start_in s) n at w (release_of j) i.offset e));
        offset = offset_more f (start_in s) n at w (release_of j) i.offset e;
        far = omega (arith, i.far, size_low w);
        begins = i.begins;
        stand = stand_more f (start_in s) n at w (release_of j) i.offset e i.stand;
        within = room f at (release_record w (release_of j)) i.within e;
        few_tasks = i.few_tasks;
        tasks_long = i.tasks_long;
        padded = i.padded;
      }

  -- the end record
  at_last : end_record ≡ record_of (drop at f) → 1 ≤ s.count → decode f ≡ after_end state (at + 1) (drop (at + 1) f)
  unfolding size_of
  at_last e h =
      here ∙ read_last left state at (drop at f) end_record (sym e) (end_taken state (end_fine _ (omega (arith, length_tasks s in_array))))
      ∙ ap (after_end state (at + 1)) (drop-drop 1 at f)

  pub scan_end_more : end_record ≡ record_of (drop at f) → 1 ≤ s.count → at + 1 < length f → refused (record { number = 11; place = at + 1 }) ≡ decode f
  unfolding after_end
  scan_end_more e h g = sym (at_last e h ∙ ap (after_end state (at + 1)) (drop-cons f (at + 1) 0 g))

  scan_end : end_record ≡ record_of (drop at f) → 1 ≤ s.count → length f ≤ at + 1 → answered (record { charge = s.charge; tasks = tasks_in s; releases = state.releases }) ≡ decode f
  unfolding after_end
  scan_end e h g = sym (at_last e h ∙ ap (after_end state (at + 1)) (drop_of_length-le f g))

  pub scan_says
      : end_record ≡ record_of (drop at f) → 1 ≤ s.count → length f ≤ at + 1 → ScanSays f (Ok (record { tasks = s; releases = n; start = start }))
  unfolding read_sheet
  scan_says e h g =
      record {
        answer = scan_end e h g;
        found = record {
          sheet = set_of_tasks s in_array i.padded ∙ ap read_sheet (scan_end e h g);
          few_tasks = i.few_tasks;
          begins = i.begins;
          inside = omega (arith, i.far, i.within);
          stand = i.stand;
        };
      }

-- a refusal of the scan
pub scan_refuses : (f : List ℕ) (e : Refused) → refused (record { number = number_of e.reason; place = e.place }) ≡ decode f → ScanSays f (Err e)
scan_refuses f e h = record { answer = h; found = record {} }

-- where the scan begins
pub scan_begins : (f : List ℕ) (s : TaskSet) → s ≡ set_of [] → Scanning f s 0 0 0 0
unfolding decode set_with tasks_in releases_at table offset_of charge_bytes tasks_bytes sum
scan_begins f s e =
    rw e
    (record {
      records = suc (length f);
      enough = omega arith;
      rest = refl;
      offset = refl;
      far = omega (arith, no_charge_bytes);
      begins = refl;
      stand = λ r l. absurd (omega arith);
      within = omega arith;
      few_tasks = omega arith;
      tasks_long = refl;
      padded = refl;
    })
