-- Laws of the two calls together: what is written is read again, and what is read passes the checks of the calls on values.
use Prim.Native.Nat.{ℕ, zero, suc, ◌-◌, ◌≤◌, ◌<◌}
use mathlib.Core.Path.{◌≡◌, refl, sym, ap, ap₂, ◌∙◌}
use mathlib.Core.Option.{none}
use mathlib.Core.List.{List, [], ◌∷◌, ◌++◌, map}
use native.Mathlib.Omega.{arith}
use lib.ListN.{length, get_or, replicate, length-map, length-append, get_or-append, get_or-map}
use lib.Seq.{take_at, ext_get_or}
use Rattle.model.specs.Limits.{max_tasks}
use Rattle.model.specs.Tasks.{Release, no_release, Valid}
use Rattle.model.specs.Calls.{releases_of}
use Rattle.model.proofs.SeriesLaws.{le_by}
use Rattle.model.proofs.CheckLaws.{valid_of, count_few, count_of, slots_next, slots_none}
use Rattle.model.proofs.OrderLaws.{accepted_of, accepts, no_single, no_kept, no_unfit}
use Rattle.model.proofs.SameAnswers.{tasks_same, releases_same}
use Rattle.releases.proofs.ReleaseLaws.{length_releases, release_at_lem}
use Rattle.taskset.specs.declared.Task.{Task}
use Rattle.taskset.specs.declared.TaskSet.{TaskSet}
use Rattle.taskset.specs.TaskSet.{no_task, view_of}
use Rattle.fileformat.specs.File.{sheet_with, encode}
use Rattle.fileformat.specs.FileCalls.{tasks_in, set_with, file_of}
use Rattle.fileformat.specs.RoundTrips.{WriteIsValid, WriteIsRead, ReadPasses, ReadWrites}
use Rattle.fileformat.proofs.SheetLaws.{same_sheet}
use Rattle.fileformat.proofs.RoundTrips.{decode_encode, encode_decode, decode_valid}

-- past the last entry there is no task
past : (l : List Task) → get_or l (length l) no_task ≡ no_task
past [] = refl
past (t ∷ l) = past l

-- a set that passes its check has an entry for each task of its count
pub covers : (s : TaskSet) → Valid (view_of s) → s.count ≤ length s.tasks
covers s v =
    le_by s.count (length s.tasks)
    (λ l. omega (arith, (v.in_range_lem (length s.tasks) l).period_low, ap (λ (t : Task). t.period) (past s.tasks)))

-- a write that is not refused writes a valid file, which is read again
pub written_valid : WriteIsValid
written_valid s n task tick cost room e =
    let a = accepted_of _ e in
    let v : Valid (view_of s) = valid_of (view_of s) (sym a.tasks) in
    record {
      tasks = sym (a.tasks ∙ tasks_same _ _ (same_sheet s (covers s v)));
      releases = sym (a.releases ∙ releases_same _ _ (same_sheet s (covers s v)) 0 0 _);
      few = omega (arith, count_of n a.count, length_releases n task tick cost);
    }

pub written_read : WriteIsRead
written_read s n task tick cost room b e = decode_encode (file_of s n task tick cost) b (written_valid s n task tick cost room e)

-- the tasks of the set that is returned
pub tasks_of_set : (c : ℕ) (l : List Task) → tasks_in (set_with c l) ≡ l
unfolding tasks_in set_with
tasks_of_set c l = take_at l (replicate (max_tasks - length l) no_task) (length l) refl

-- entries past the count are no other than none
pad : (l : List Task) (n i : ℕ) → get_or (l ++ replicate n no_task) i no_task ≡ get_or l i no_task
pad [] zero i = refl
pad [] (suc n) zero = refl
pad [] (suc n) (suc i) = pad [] n i
pad (t ∷ l) n zero = refl
pad (t ∷ l) n (suc i) = pad l n i

-- its sheet is that of the tasks
pub view_set : (c : ℕ) (l : List Task) → view_of (set_with c l) ≡ sheet_with c l
unfolding set_with
view_set c l = λ t. record {
  count = length l;
  period = λ i. (pad l (max_tasks - length l) i t).period;
  jitter = λ i. (pad l (max_tasks - length l) i t).jitter;
  cost = λ i. (pad l (max_tasks - length l) i t).cost;
  deadline = λ i. (pad l (max_tasks - length l) i t).deadline;
  low = λ i. (pad l (max_tasks - length l) i t).low;
  charge = c;
  frame = none;
}

-- the releases of the columns that are written
module _ (l : List Release) (a b c : List ℕ) where
  abbrev tasks : List ℕ
  tasks = map (λ r. r.task) l ++ a

  abbrev ticks : List ℕ
  ticks = map (λ r. r.tick) l ++ b

  abbrev costs : List ℕ
  costs = map (λ r. r.cost) l ++ c

  entry : (g : Release → ℕ) (x : List ℕ) (i : ℕ) → i < length l → get_or (map g l ++ x) i (g no_release) ≡ g (get_or l i no_release)
  entry g x i k =
      let m : length (map g l) ≡ length l = length-map l g in
      get_or-append (map g l) x (g no_release) i (omega arith) ∙ get_or-map g l i no_release

  pub releases_of_columns : releases_of (length l) tasks ticks costs ≡ l
  releases_of_columns =
      ext_get_or no_release (releases_of (length l) tasks ticks costs) l (length_releases (length l) tasks ticks costs)
      (λ i k.
      let h : i < length l = omega (arith, length_releases (length l) tasks ticks costs) in
      release_at_lem (length l) tasks ticks costs i h
      ∙ rw (entry (λ r. r.task) a i h, entry (λ r. r.tick) b i h, entry (λ r. r.cost) c i h))

-- what is read passes the check of a list, on the set and the columns that a read gives
pub read_passes : ReadPasses
read_passes f x a b c e =
    let v = decode_valid f x e in
    let l = x.releases in
    let long : (g : Release → ℕ) (y : List ℕ) → length x.releases ≤ length (map g x.releases ++ y) = λ g y. omega
    (arith, length-append (map g x.releases) y, length-map x.releases g) in
    accepts _
    (record {
      tasks = rw (view_set x.charge x.tasks) (sym v.tasks);
      single = no_single _;
      count = count_few _ v.few;
      lent = slots_none ∙ sym (slots_next _ _ (long (λ r. r.task) a) ∙ slots_next _ _ (long (λ r. r.tick) b) ∙ slots_next _ _ (long (λ r. r.cost) c));
      kept = no_kept _;
      releases = rw (view_set x.charge x.tasks, releases_of_columns x.releases a b c) (sym v.releases);
      unfit = no_unfit;
    })

-- what is read and written again is the accepted file
pub read_written : ReadWrites
unfolding set_with
read_written f x a b c h e =
    ap encode (ap₂ (λ t l. record { charge = x.charge; tasks = t; releases = l }) (tasks_of_set x.charge x.tasks) (releases_of_columns x.releases a b c))
    ∙ encode_decode f x h e
