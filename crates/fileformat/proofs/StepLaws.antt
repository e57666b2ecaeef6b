-- Laws of one step of the reading: what each record does to what is read so far.
use Prim.Native.Nat.{ℕ, suc, ◌+◌, ◌≤◌, ◌<◌}
use mathlib.Core.Path.{◌≡◌, refl, sym, ap, ◌∙◌}
use mathlib.Core.Bool.{Bool, true, false}
use mathlib.Core.Option.{Option, some, none}
use mathlib.Core.List.{List}
use native.Mathlib.Omega.{arith}
use borrow.Author.Tests.{lt-ltb, le-ltb, le-leb, lt-leb, ne_eqb, eq-eqb, ltb-true, ltb-false, leb-true, leb-false}
use lib.Dec.{ltb, leb}
use lib.ListN.{length, drop}
use Rattle.model.specs.Limits.{max_tasks, max_releases}
use Rattle.model.specs.Processor.{plain}
use Rattle.model.specs.Tasks.{Tasks, Release, InRange, Carried}
use Rattle.model.specs.Refusal.{refused}
use Rattle.model.specs.Checks.{entry_fault, release_fault}
use Rattle.model.proofs.CheckLaws.{entry_of}
use Rattle.taskset.specs.declared.Task.{Task}
use Rattle.fileformat.specs.Records.{Width, Record, broken, wrong_mark, task_record, release_record, charge_record, end_record, record_of, size_of}
use Rattle.fileformat.specs.File.{State, Step, stop, next, last, sheet_with, charge_fault, task_fault, mark_fault, low_tick, high_tick, list_fault, end_fault}
use Rattle.fileformat.specs.File.{with_charge, with_task, with_release, unless, advance, after_end, read_by, read_from}

-- P, J, E and D of a task are within their limits
abbrev pub Ranged : Task → Type 0
Ranged t = InRange t.period t.jitter t.cost t.deadline

-- and its E + S is within P and D
abbrev pub Loaded : ℕ → Task → Type 0
Loaded c t = Carried t.period t.deadline ((plain c).work t.cost)

-- what is wrong with the numbers of a task: 6 or 17
abbrev pub wrong_in : ℕ → Task → Option ℕ
wrong_in c t = entry_fault c t.period t.jitter t.cost t.deadline

module _ (held tasks releases c : ℕ) where
  pub charge_again : 0 < held → charge_fault held tasks releases c ≡ some 3
  unfolding charge_fault
  charge_again h = rw (charge_fault, lt-ltb 0 held h)

  pub charge_after_task : 0 < tasks → charge_fault held tasks releases c ≡ some 3
  unfolding charge_fault
  charge_after_task h = go (ltb 0 held) refl
    where
      go : (b : Bool) → ltb 0 held ≡ b → charge_fault held tasks releases c ≡ some 3
      go true e = rw (charge_fault, e)
      go false e = rw (charge_fault, e, lt-ltb 0 tasks h)

  pub charge_after_release : 0 < releases → charge_fault held tasks releases c ≡ some 3
  unfolding charge_fault
  charge_after_release h = go (ltb 0 held) (ltb 0 tasks) refl refl
    where
      go : (a b : Bool) → ltb 0 held ≡ a → ltb 0 tasks ≡ b → charge_fault held tasks releases c ≡ some 3
      go true b e g = rw (charge_fault, e)
      go false true e g = rw (charge_fault, e, g)
      go false false e g = rw (charge_fault, e, g, lt-ltb 0 releases h)

  pub charge_none : held ≡ 0 → tasks ≡ 0 → releases ≡ 0 → c ≡ 0 → charge_fault held tasks releases c ≡ some 6
  unfolding charge_fault
  charge_none h g l z =
      rw (charge_fault, le-ltb 0 held (omega arith), le-ltb 0 tasks (omega arith), le-ltb 0 releases (omega arith), eq-eqb c 0 z)

  pub charge_fine : held ≡ 0 → tasks ≡ 0 → releases ≡ 0 → 1 ≤ c → charge_fault held tasks releases c ≡ none
  unfolding charge_fault
  charge_fine h g l z =
      rw (charge_fault, le-ltb 0 held (omega arith), le-ltb 0 tasks (omega arith), le-ltb 0 releases (omega arith), ne_eqb c 0 (λ e. omega arith))

-- a charge record without a fault: nothing is read yet, and it is not 0
pub record Fresh (held tasks releases c : ℕ) : Type 0 where
  pub no_charge : held ≡ 0
  pub no_task_lem : tasks ≡ 0
  pub no_release_lem : releases ≡ 0
  pub not_zero : 1 ≤ c

zero_by : (n : ℕ) → (0 < n → ⊥) → n ≡ 0
zero_by n h = go (ltb 0 n) refl
  where
    go : (b : Bool) → ltb 0 n ≡ b → n ≡ 0
    go true e = absurd (h (ltb-true 0 n e))
    go false e = omega (arith, ltb-false 0 n e)

pub charge_of : (held tasks releases c : ℕ) → charge_fault held tasks releases c ≡ none → Fresh held tasks releases c
charge_of held tasks releases c e = record { no_charge = x; no_task_lem = y; no_release_lem = z; not_zero = some_charge (ltb 0 c) refl }
  where
    never : {n : ℕ} → charge_fault held tasks releases c ≡ some n → ⊥
    never h = let w = sym h ∙ e in let z : ◌≡◌ {A = ℕ} 0 1 = cc in omega arith

    x : held ≡ 0
    x = zero_by held (λ h. never (charge_again held tasks releases c h))

    y : tasks ≡ 0
    y = zero_by tasks (λ h. never (charge_after_task held tasks releases c h))

    z : releases ≡ 0
    z = zero_by releases (λ h. never (charge_after_release held tasks releases c h))

    some_charge : (b : Bool) → ltb 0 c ≡ b → 1 ≤ c
    some_charge true h = ltb-true 0 c h
    some_charge false h = absurd (never (charge_none held tasks releases c x y z (omega (arith, ltb-false 0 c h))))

module _ (charge tasks releases : ℕ) (t : Task) where
  pub task_after : 0 < releases → task_fault charge tasks releases t ≡ some 3
  unfolding task_fault
  task_after h = rw (task_fault, lt-ltb 0 releases h)

  pub task_over : releases ≡ 0 → max_tasks ≤ tasks → task_fault charge tasks releases t ≡ some 4
  unfolding task_fault
  task_over z h = rw (task_fault, le-ltb 0 releases (omega arith), le-leb max_tasks tasks h)

  -- 6, 17, or nothing
  pub task_numbers_lem : releases ≡ 0 → tasks < max_tasks → task_fault charge tasks releases t ≡ wrong_in charge t
  unfolding task_fault
  task_numbers_lem z l = rw (task_fault, le-ltb 0 releases (omega arith), lt-leb max_tasks tasks l)

-- of the numbers of a task it matters only what is wrong with them
pub task_same : (charge tasks releases : ℕ) (t u : Task) → wrong_in charge t ≡ wrong_in charge u → task_fault charge tasks releases t ≡ task_fault charge tasks releases u
unfolding task_fault
task_same charge tasks releases t u e = go (ltb 0 releases) (leb max_tasks tasks) refl refl
  where
    go : (a b : Bool) → ltb 0 releases ≡ a → leb max_tasks tasks ≡ b → task_fault charge tasks releases t ≡ task_fault charge tasks releases u
    go true b p q = rw (task_fault, p)
    go false true p q = rw (task_fault, p, q)
    go false false p q = rw (task_fault, p, q, e)

-- with a wrong mark: 3, 4 or 6
module _ (tasks releases : ℕ) where
  pub mark_after : 0 < releases → mark_fault tasks releases ≡ 3
  unfolding mark_fault
  mark_after h = rw (mark_fault, lt-ltb 0 releases h)

  pub mark_over : releases ≡ 0 → max_tasks ≤ tasks → mark_fault tasks releases ≡ 4
  unfolding mark_fault
  mark_over z h = rw (mark_fault, le-ltb 0 releases (omega arith), le-leb max_tasks tasks h)

  pub mark_alone : releases ≡ 0 → tasks < max_tasks → mark_fault tasks releases ≡ 6
  unfolding mark_fault
  mark_alone z l = rw (mark_fault, le-ltb 0 releases (omega arith), lt-leb max_tasks tasks l)

module _ (s : Tasks) (releases before : ℕ) (w : Width) (r : Release) where
  pub list_early : s.count ≡ 0 → list_fault s releases before w r ≡ some 5
  unfolding list_fault
  list_early h = rw (list_fault, eq-eqb s.count 0 h)

  pub list_fault_lem : (n : ℕ) → 1 ≤ s.count → release_fault s (low_tick w before) (high_tick w) r ≡ some n → list_fault s releases before w r ≡ some n
  unfolding list_fault
  list_fault_lem n l h = rw (list_fault, ne_eqb s.count 0 (λ e. omega arith), h)

  pub list_over : 1 ≤ s.count → release_fault s (low_tick w before) (high_tick w) r ≡ none → max_releases ≤ releases → list_fault s releases before w r ≡ some 10
  unfolding list_fault
  list_over l h m = rw (list_fault, ne_eqb s.count 0 (λ e. omega arith), h, le-leb max_releases releases m)

  pub list_fine : 1 ≤ s.count → release_fault s (low_tick w before) (high_tick w) r ≡ none → releases < max_releases → list_fault s releases before w r ≡ none
  unfolding list_fault
  list_fine l h m = rw (list_fault, ne_eqb s.count 0 (λ e. omega arith), h, lt-leb max_releases releases m)

pub end_early : (tasks : ℕ) → tasks ≡ 0 → end_fault tasks ≡ some 5
unfolding end_fault
end_early tasks h = rw (end_fault, eq-eqb tasks 0 h)

pub end_fine : (tasks : ℕ) → 1 ≤ tasks → end_fault tasks ≡ none
unfolding end_fault
end_fine tasks l = rw (end_fault, ne_eqb tasks 0 (λ e. omega arith))

-- a fault stops the reading; without one the record is taken
module _ (s : State) where
  pub broken_stops : (n : ℕ) → advance s (broken n) ≡ stop n
  unfolding advance
  broken_stops n = refl

  pub mark_stops : advance s wrong_mark ≡ stop (mark_fault (length s.tasks) (length s.releases))
  unfolding advance
  mark_stops = refl

  pub charge_stops : (c n : ℕ) → charge_fault s.charge (length s.tasks) (length s.releases) c ≡ some n → advance s (charge_record c) ≡ stop n
  unfolding advance unless
  charge_stops c n e = rw (unless, e)

  pub charge_taken : (c : ℕ) → charge_fault s.charge (length s.tasks) (length s.releases) c ≡ none → advance s (charge_record c) ≡ next (with_charge s c)
  unfolding advance unless
  charge_taken c e = rw (unless, e)

  pub task_stops : (t : Task) (n : ℕ) → task_fault s.charge (length s.tasks) (length s.releases) t ≡ some n → advance s (task_record t) ≡ stop n
  unfolding advance unless
  task_stops t n e = rw (unless, e)

  pub task_taken : (t : Task) → task_fault s.charge (length s.tasks) (length s.releases) t ≡ none → advance s (task_record t) ≡ next (with_task s t)
  unfolding advance unless
  task_taken t e = rw (unless, e)

  pub release_stops : (w : Width) (r : Release) (n : ℕ) → list_fault (sheet_with s.charge s.tasks) (length s.releases) s.before w r ≡ some n → advance s (release_record w r) ≡ stop n
  unfolding advance unless
  release_stops w r n e = rw (unless, e)

  pub release_taken
      : (w : Width) (r : Release) → list_fault (sheet_with s.charge s.tasks) (length s.releases) s.before w r ≡ none
      → advance s (release_record w r) ≡ next (with_release s r)
  unfolding advance unless
  release_taken w r e = rw (unless, e)

  pub end_stops : (n : ℕ) → end_fault (length s.tasks) ≡ some n → advance s end_record ≡ stop n
  unfolding advance unless
  end_stops n e = rw (unless, e)

  pub end_taken : end_fault (length s.tasks) ≡ none → advance s end_record ≡ last
  unfolding advance unless
  end_taken e = rw (unless, e)

-- the steps by the conditions that lead to them
pub data Moves (s : State) : Record → Step → Type 0 where
  stops : (r : Record) (n : ℕ) → Moves s r (stop n)
  takes_charge
      : (c : ℕ) → s.charge ≡ 0 → length s.tasks ≡ 0 → length s.releases ≡ 0 → 1 ≤ c → Moves s (charge_record c) (next (with_charge s c))
  takes_task
      : (t : Task) → length s.releases ≡ 0 → length s.tasks < max_tasks → Ranged t → Loaded s.charge t → Moves s (task_record t) (next (with_task s t))
  takes_release
      : (w : Width) (r : Release) → 1 ≤ length s.tasks → release_fault (sheet_with s.charge s.tasks) (low_tick w s.before) (high_tick w) r ≡ none → length s.releases < max_releases
      → Moves s (release_record w r) (next (with_release s r))
  ends : 1 ≤ length s.tasks → Moves s end_record last

charge_moves : (s : State) (c : ℕ) → Moves s (charge_record c) (advance s (charge_record c))
charge_moves s c = again (ltb 0 s.charge) refl
  where
    some_charge : s.charge ≡ 0 → length s.tasks ≡ 0 → length s.releases ≡ 0 → (b : Bool) → ltb 0 c ≡ b → Moves s (charge_record c) (advance s (charge_record c))
    some_charge h g l true e = rw (charge_taken s c (charge_fine _ _ _ c h g l (ltb-true 0 c e))) (takes_charge c h g l (ltb-true 0 c e))
    some_charge h g l false e = rw (charge_stops s c 6 (charge_none _ _ _ c h g l (omega (arith, ltb-false 0 c e)))) (stops _ 6)

    after_release : s.charge ≡ 0 → length s.tasks ≡ 0 → (b : Bool) → ltb 0 (length s.releases) ≡ b → Moves s (charge_record c) (advance s (charge_record c))
    after_release h g true e = rw (charge_stops s c 3 (charge_after_release _ _ _ c (ltb-true _ _ e))) (stops _ 3)
    after_release h g false e = some_charge h g (omega (arith, ltb-false 0 (length s.releases) e)) (ltb 0 c) refl

    after_task : s.charge ≡ 0 → (b : Bool) → ltb 0 (length s.tasks) ≡ b → Moves s (charge_record c) (advance s (charge_record c))
    after_task h true e = rw (charge_stops s c 3 (charge_after_task _ _ _ c (ltb-true _ _ e))) (stops _ 3)
    after_task h false e = after_release h (omega (arith, ltb-false 0 (length s.tasks) e)) (ltb 0 (length s.releases)) refl

    again : (b : Bool) → ltb 0 s.charge ≡ b → Moves s (charge_record c) (advance s (charge_record c))
    again true e = rw (charge_stops s c 3 (charge_again _ _ _ c (ltb-true _ _ e))) (stops _ 3)
    again false e = after_task (omega (arith, ltb-false 0 s.charge e)) (ltb 0 (length s.tasks)) refl

task_moves : (s : State) (t : Task) → Moves s (task_record t) (advance s (task_record t))
task_moves s t = after (ltb 0 (length s.releases)) refl
  where
    numbers
        : length s.releases ≡ 0 → length s.tasks < max_tasks → (o : Option ℕ) → wrong_in s.charge t ≡ o → Moves s (task_record t) (advance s (task_record t))
    numbers z l none e =
        let r = entry_of _ _ _ _ _ e in
        rw (task_taken s t (task_numbers_lem _ _ _ t z l ∙ e)) (takes_task t z l r.0 r.1)
    numbers z l (some n) e = rw (task_stops s t n (task_numbers_lem _ _ _ t z l ∙ e)) (stops _ n)

    over : length s.releases ≡ 0 → (b : Bool) → leb max_tasks (length s.tasks) ≡ b → Moves s (task_record t) (advance s (task_record t))
    over z true e = rw (task_stops s t 4 (task_over _ _ _ t z (leb-true _ _ e))) (stops _ 4)
    over z false e = numbers z (leb-false max_tasks (length s.tasks) e) (wrong_in s.charge t) refl

    after : (b : Bool) → ltb 0 (length s.releases) ≡ b → Moves s (task_record t) (advance s (task_record t))
    after true e = rw (task_stops s t 3 (task_after _ _ _ t (ltb-true _ _ e))) (stops _ 3)
    after false e = over (omega (arith, ltb-false 0 (length s.releases) e)) (leb max_tasks (length s.tasks)) refl

release_moves : (s : State) (w : Width) (r : Release) → Moves s (release_record w r) (advance s (release_record w r))
release_moves s w r = early (ltb 0 (length s.tasks)) refl
  where
    over
        : 1 ≤ length s.tasks → release_fault (sheet_with s.charge s.tasks) (low_tick w s.before) (high_tick w) r ≡ none → (b : Bool) → leb max_releases (length s.releases) ≡ b
        → Moves s (release_record w r) (advance s (release_record w r))
    over l f true e = rw (release_stops s w r 10 (list_over (sheet_with s.charge s.tasks) _ _ w r l f (leb-true _ _ e))) (stops _ 10)
    over l f false e = rw (release_taken s w r (list_fine (sheet_with s.charge s.tasks) _ _ w r l f (leb-false _ _ e))) (takes_release w r l f (leb-false _ _ e))

    fault
        : 1 ≤ length s.tasks → (o : Option ℕ) → release_fault (sheet_with s.charge s.tasks) (low_tick w s.before) (high_tick w) r ≡ o
        → Moves s (release_record w r) (advance s (release_record w r))
    fault l none e = over l e (leb max_releases (length s.releases)) refl
    fault l (some n) e = rw (release_stops s w r n (list_fault_lem (sheet_with s.charge s.tasks) _ _ w r n l e)) (stops _ n)

    early : (b : Bool) → ltb 0 (length s.tasks) ≡ b → Moves s (release_record w r) (advance s (release_record w r))
    early true e = fault (ltb-true 0 (length s.tasks) e) (release_fault (sheet_with s.charge s.tasks) (low_tick w s.before) (high_tick w) r) refl
    early false e = rw (release_stops s w r 5 (list_early (sheet_with s.charge s.tasks) _ _ w r (omega (arith, ltb-false 0 (length s.tasks) e)))) (stops _ 5)

end_moves : (s : State) → Moves s end_record (advance s end_record)
end_moves s = early (ltb 0 (length s.tasks)) refl
  where
    early : (b : Bool) → ltb 0 (length s.tasks) ≡ b → Moves s end_record (advance s end_record)
    early true e = rw (end_taken s (end_fine _ (ltb-true 0 (length s.tasks) e))) (ends (ltb-true 0 (length s.tasks) e))
    early false e = rw (end_stops s 5 (end_early _ (omega (arith, ltb-false 0 (length s.tasks) e)))) (stops _ 5)

pub moves : (s : State) (r : Record) → Moves s r (advance s r)
moves s (broken n) = rw (broken_stops s n) (stops _ n)
moves s wrong_mark = rw (mark_stops s) (stops _ _)
moves s (task_record t) = task_moves s t
moves s (release_record w r) = release_moves s w r
moves s (charge_record c) = charge_moves s c
moves s end_record = end_moves s

-- a task record without a fault: there is no release yet, there is room for the task, and nothing is wrong with its numbers
module _ (charge tasks releases : ℕ) (t : Task) (e : task_fault charge tasks releases t ≡ none) where
  no_fault : {n : ℕ} → task_fault charge tasks releases t ≡ some n → ⊥
  no_fault h = let w = sym h ∙ e in let z : ◌≡◌ {A = ℕ} 0 1 = cc in omega arith

  pub task_first : releases ≡ 0
  task_first = go (ltb 0 releases) refl
    where
      go : (b : Bool) → ltb 0 releases ≡ b → releases ≡ 0
      go true h = absurd (no_fault (task_after charge tasks releases t (ltb-true _ _ h)))
      go false h = omega (arith, ltb-false 0 releases h)

  pub task_few : tasks < max_tasks
  task_few = go (leb max_tasks tasks) refl
    where
      go : (b : Bool) → leb max_tasks tasks ≡ b → tasks < max_tasks
      go true h = absurd (no_fault (task_over charge tasks releases t task_first (leb-true _ _ h)))
      go false h = leb-false _ _ h

  task_right : wrong_in charge t ≡ none
  task_right = sym (task_numbers_lem charge tasks releases t task_first task_few) ∙ e

  pub task_ranged : Ranged t
  task_ranged = (entry_of _ _ _ _ _ task_right).0

  pub task_loaded : Loaded charge t
  task_loaded = (entry_of _ _ _ _ _ task_right).1

-- a release record without a fault leaves the number of releases within its limit
pub list_few : (s : Tasks) (releases before : ℕ) (w : Width) (r : Release) → list_fault s releases before w r ≡ none → releases < max_releases
list_few s releases before w r e = early (ltb 0 s.count) refl
  where
    never : {n : ℕ} → list_fault s releases before w r ≡ some n → ⊥
    never h = let w = sym h ∙ e in let z : ◌≡◌ {A = ℕ} 0 1 = cc in omega arith

    over : 1 ≤ s.count → release_fault s (low_tick w before) (high_tick w) r ≡ none → (b : Bool) → leb max_releases releases ≡ b → releases < max_releases
    over l f true h = absurd (never (list_over s releases before w r l f (leb-true _ _ h)))
    over l f false h = leb-false _ _ h

    fault : 1 ≤ s.count → (o : Option ℕ) → release_fault s (low_tick w before) (high_tick w) r ≡ o → releases < max_releases
    fault l none h = over l h (leb max_releases releases) refl
    fault l (some n) h = absurd (never (list_fault_lem s releases before w r n l h))

    early : (b : Bool) → ltb 0 s.count ≡ b → releases < max_releases
    early true h = fault (ltb-true 0 s.count h) (release_fault s (low_tick w before) (high_tick w) r) refl
    early false h = absurd (never (list_early s releases before w r (omega (arith, ltb-false 0 s.count h))))

-- one step of a reading, whatever record some bytes begin with
module _ (rec : List ℕ → Record) (n : ℕ) (s : State) (at : ℕ) (f : List ℕ) (r : Record) (e : rec f ≡ r) where
  pub stops_by : (k : ℕ) → advance s r ≡ stop k → read_by rec (suc n) s at f ≡ refused (record { number = k; place = at })
  unfolding read_by
  stops_by k h = rw (read_by, e, h)

  pub goes_by : (s' : State) → advance s r ≡ next s' → read_by rec (suc n) s at f ≡ read_by rec n s' (at + size_of r) (drop (size_of r) f)
  unfolding read_by
  goes_by s' h = rw (read_by, e, h) (ap (λ q. read_by rec n s' (at + size_of q) (drop (size_of q) f)) e)

  pub ends_by : advance s r ≡ last → read_by rec (suc n) s at f ≡ after_end s (at + size_of r) (drop (size_of r) f)
  unfolding read_by
  ends_by h = rw (read_by, e, h) (ap (λ q. after_end s (at + size_of q) (drop (size_of q) f)) e)

-- one step of the reading
module _ (n : ℕ) (s : State) (at : ℕ) (f : List ℕ) (r : Record) (e : record_of f ≡ r) where
  pub read_stop : (k : ℕ) → advance s r ≡ stop k → read_from (suc n) s at f ≡ refused (record { number = k; place = at })
  read_stop = stops_by record_of n s at f r e

  pub read_next : (s' : State) → advance s r ≡ next s' → read_from (suc n) s at f ≡ read_from n s' (at + size_of r) (drop (size_of r) f)
  read_next = goes_by record_of n s at f r e

  pub read_last : advance s r ≡ last → read_from (suc n) s at f ≡ after_end s (at + size_of r) (drop (size_of r) f)
  read_last = ends_by record_of n s at f r e
