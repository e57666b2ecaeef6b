-- Laws of the checks of a call about one task: 14, 13, then 12, once the sheet has passed.
use Prim.Native.Nat.{ℕ, ◌≤◌, ◌<◌}
use mathlib.Core.Path.{◌≡◌, sym, ◌∙◌}
use mathlib.Core.Option.{some, none}
use mathlib.Core.List.{List, []}
use lib.ListN.{length}
use Rattle.model.specs.Tasks.{Tasks, Valid}
use Rattle.model.specs.Choice.{column}
use Rattle.model.specs.Refusal.{refuse}
use Rattle.model.specs.Checks.{check_tasks, check_kept, refusal_of}
use Rattle.model.specs.Calls.{lends, task_inputs}
use Rattle.model.proofs.CheckLaws.{valid_of, kept_of, task_unknown, task_known, task_of_lem, slots_short, slots_next, slots_none, slot_of}
use Rattle.model.proofs.OrderLaws.{no_count, no_releases, no_unfit, refused_single, refused_slots, kept_decides, accepted_of}

-- a call about one task whose checks pass
pub record Passed (s : Tasks) (i : ℕ) (kept : List ℕ) : Type 0 where
  pub valid : Valid s
  pub known : i < s.count
  pub long : s.count ≤ length kept
  pub kept_in : (j : ℕ) → j < s.count → column kept j ≤ s.jitter j

module _ (s : Tasks) (i : ℕ) (kept : List ℕ) where
  -- 14
  pub call_task : none ≡ check_tasks s → s.count ≤ i → refuse 14 i ≡ refusal_of (task_inputs s i kept)
  call_task h l = refused_single (task_inputs s i kept) _ h (task_unknown s i l)

  -- 13
  pub call_slots : none ≡ check_tasks s → i < s.count → length kept < s.count → refuse 13 s.count ≡ refusal_of (task_inputs s i kept)
  call_slots h l g = refused_slots (task_inputs s i kept) _ h (task_known s i l) no_count (slots_short (lends s.count kept) [] g)

  -- 12, or none
  pub call_kept : none ≡ check_tasks s → i < s.count → s.count ≤ length kept → check_kept s (some (column kept)) ≡ refusal_of (task_inputs s i kept)
  call_kept h l g =
      kept_decides (task_inputs s i kept) h (task_known s i l) no_count (slots_none ∙ sym (slots_next (lends s.count kept) [] g)) (no_releases s) no_unfit

  -- where no check refuses, all of them hold
  pub passed_of : none ≡ refusal_of (task_inputs s i kept) → Passed s i kept
  passed_of h =
      let a = accepted_of _ h in
      record {
        valid = valid_of s (sym a.tasks);
        known = task_of_lem s i a.single;
        long = (slot_of (lends s.count kept) [] a.lent).0;
        kept_in = kept_of s (column kept) (sym a.kept);
      }
