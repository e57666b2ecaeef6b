-- Laws of the check of a list in three columns: the loop over its releases, and what holds where nothing is refused.
use Prim.Native.Nat.{ℕ, suc, ◌+◌, ◌≤◌, ◌<◌}
use mathlib.Core.Path.{◌≡◌, refl, sym, ◌∙◌, ap}
use mathlib.Core.Option.{some, none}
use mathlib.Core.List.{List, [], ◌∷◌}
use native.Mathlib.Omega.{arith}
use native.Mathlib.Numerals.{add-one}
use lib.ListN.{length, get_or, drop}
use lib.Seq.{drop-length}
use Rattle.model.specs.Limits.{max_releases, max_tick}
use Rattle.model.specs.Tasks.{Tasks, Release, release_at, no_release, Valid}
use Rattle.model.specs.Refusal.{Refusal}
use Rattle.model.specs.Checks.{check_tasks, check_count, check_slots, release_fault, check_releases, refusal_of}
use Rattle.model.specs.Calls.{lends, releases_of, list_inputs}
use Rattle.model.specs.Claims.{Trace}
use Rattle.model.proofs.CheckLaws.{fault_of_lem, faultless_of, valid_of, count_of, slot_of}
use Rattle.model.proofs.OrderLaws.{accepted_of}
use Rattle.model.proofs.TraceLaws.{releases_fault, releases_next, trace_of, ticks_of_lem}
use Rattle.model.proofs.TableLaws.{length_table, get_or_table, drop_table}
use Rattle.model.specs.Checks.{fault_at}
use Rattle.releases.specs.Releases.{release}

module _ (n : ℕ) (task tick cost : List ℕ) where
  pub length_releases : length (releases_of n task tick cost) ≡ n
  unfolding releases_of
  length_releases = length_table _ n

  pub release_at_lem : (i : ℕ) → i < n → release_at (releases_of n task tick cost) i ≡ release (get_or task i 0) (get_or tick i 0) (get_or cost i 0)
  unfolding releases_of
  release_at_lem i h = get_or_table _ no_release n i h

  pub drop_releases
      : (i : ℕ) → i < n → drop i (releases_of n task tick cost) ≡ release (get_or task i 0) (get_or tick i 0) (get_or cost i 0) ∷ drop (suc i) (releases_of n task tick cost)
  unfolding releases_of
  drop_releases i h = drop_table _ no_release n i h

-- the invariant of a loop that has passed every release below i; none may be before tick `since`
pub record Checking (s : Tasks) (since n : ℕ) (task tick cost : List ℕ) (before i : ℕ) : Type 0 where
  pub within : i ≤ n
  pub rest : check_releases s since 0 (releases_of n task tick cost) ≡ check_releases s before i (drop i (releases_of n task tick cost))

module _ (s : Tasks) (since n : ℕ) (task tick cost : List ℕ) where
  -- the release at a place of the columns
  abbrev pub placed : ℕ → Release
  placed i = release (get_or task i 0) (get_or tick i 0) (get_or cost i 0)

  pub checking_none : Checking s since n task tick cost since 0
  checking_none = record { within = omega arith; rest = refl }

  pub checking_fault
      : (before i : ℕ) (q : Refusal) → Checking s since n task tick cost before i → i < n → some q ≡ fault_at i (release_fault s before max_tick (placed i))
      → some q ≡ check_releases s since 0 (releases_of n task tick cost)
  checking_fault before i q c h e =
      let w = fault_of_lem i _ q e in
      ap some w.1
      ∙ releases_fault s before i _ (drop (suc i) (releases_of n task tick cost)) q.number w.0
      ∙ sym (c.rest ∙ ap (check_releases s before i) (drop_releases n task tick cost i h))

  pub checking_next
      : (before i : ℕ) → Checking s since n task tick cost before i → i < n → none ≡ fault_at i (release_fault s before max_tick (placed i))
      → Checking s since n task tick cost (get_or tick i 0) (i + 1)
  checking_next before i c h e =
      record {
        within = omega arith;
        rest =
            rw add-one
            (c.rest ∙ ap (check_releases s before i) (drop_releases n task tick cost i h)
            ∙ releases_next s before i _ _ (faultless_of i _ e));
      }

  pub checking_all : (before i : ℕ) → Checking s since n task tick cost before i → n ≤ i → none ≡ check_releases s since 0 (releases_of n task tick cost)
  unfolding check_releases
  checking_all before i c h =
      let e : i ≡ n = omega (arith, c.within) in
      sym (c.rest ∙ ap (check_releases s before i)
      (ap (λ k. drop k (releases_of n task tick cost)) (e ∙ sym (length_releases n task tick cost)) ∙ drop-length (releases_of n task tick cost)))

-- three columns that are long enough
pub record Columns (n : ℕ) (task tick cost : List ℕ) : Type 0 where
  pub task_long : n ≤ length task
  pub tick_long : n ≤ length tick
  pub cost_long : n ≤ length cost

pub columns_of : (n : ℕ) (task tick cost : List ℕ) → none ≡ check_slots (lends n task ∷ lends n tick ∷ lends n cost ∷ []) → Columns n task tick cost
columns_of n task tick cost e =
    let a = slot_of _ _ e in
    let b = slot_of _ _ a.1 in
    let d = slot_of _ _ b.1 in
    record { task_long = a.0; tick_long = b.0; cost_long = d.0 }

-- what a sheet and a list that pass their check say
pub record Listed (s : Tasks) (n : ℕ) (task tick cost : List ℕ) : Type 0 where
  pub valid : Valid s
  pub few : n ≤ max_releases
  pub columns : Columns n task tick cost
  pub trace : Trace s (releases_of n task tick cost)
  pub tick_high : (p : ℕ) → p < n → get_or tick p 0 ≤ max_tick

module _ (s : Tasks) (n : ℕ) (task tick cost : List ℕ) where
  pub listed_by
      : none ≡ check_tasks s → none ≡ check_count (some n) → Columns n task tick cost → none ≡ check_releases s 0 0 (releases_of n task tick cost) → Listed s n task tick cost
  listed_by t m c r =
      record {
        valid = valid_of s (sym t);
        few = count_of n m;
        columns = c;
        trace = trace_of s _ (sym r);
        tick_high = λ p h. rw (release_at_lem n task tick cost p h) at (ticks_of_lem s (releases_of n task tick cost) (sym r) p (omega (arith, length_releases n task tick cost)));
      }

  pub listed_of : none ≡ refusal_of (list_inputs s n task tick cost) → Listed s n task tick cost
  listed_of e = let a = accepted_of _ e in listed_by a.tasks a.count (columns_of n task tick cost a.lent) a.releases
