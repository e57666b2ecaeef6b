-- Numbers and places of the refusals of the calls on the small traces.
use Prim.Native.Nat.{ℕ, ◌≤◌}
use mathlib.Core.Path.{◌≡◌, sym, ap}
use mathlib.Core.Option.{Option, some, none}
use mathlib.Core.List.{List, []}
use native.Mathlib.Omega.{arith}
use lib.ListN.{length}
use Rattle.model.specs.Limits.{max_tasks}
use Rattle.model.specs.Tasks.{Tasks, Release}
use Rattle.model.specs.Refusal.{Refusal, refused}
use Rattle.model.proofs.AnswerByLaws.{by_refusal}
use Rattle.model.proofs.RefusalPlaces.{Within, within_more, within_if, by_first, by_last, tasks_within, needs, needs_none, slots_within}
use Rattle.model.proofs.CheckLaws.{valid_of}
use Rattle.enumeration.specs.SmallTraces.{small_traces}
use Rattle.enumeration.specs.SmallCalls.{small_fault, member_at, check_room, small_refusal, small_call, count_call}
use Rattle.enumeration.proofs.EveryTraceLaws.{every_trace}
use Rattle.enumeration.proofs.FaultLaws.{passed_of}
use Rattle.enumeration.proofs.MemberLaws.{member_of}

module _ (B : ℕ) (s : Tasks) (n t : ℕ) (a : max_tasks ≤ B) (b : n ≤ B) (c : t ≤ B) where
  -- the checks of both calls: a place of the sheet, the number of tasks, which is then at most 32, the count or the tick bound given
  fault_within : (r : Refusal) → some r ≡ small_fault s n t → Within B r
  unfolding small_fault
  fault_within r =
      by_first _ _ r (λ e. within_more max_tasks B r a (tasks_within s r e))
      (λ fine.
      by_first _ _ r (within_if B _ 4 s.count r (omega arith) (omega arith) (omega (arith, (valid_of s (sym fine)).few_tasks)))
      (λ _.
      by_first _ _ r (within_if B _ 10 n r (omega arith) (omega arith) b)
      (λ _. by_last _ r (within_if B _ 8 t r (omega arith) (omega arith) c))))

  -- the columns: the length of a trace, which is at most the count
  room_within
      : (o : Option (List Release)) (p : ℕ) (task tick cost : List ℕ) (r : Refusal) → 1 ≤ s.count → member_at (small_traces s n t) p ≡ o
      → some r ≡ check_room o task tick cost → Within B r
  unfolding check_room
  room_within none p task tick cost r h e f = let z : ◌≡◌ {A = ℕ} 0 1 = cc in absurd (omega arith)
  room_within (some l) p task tick cost r h e f =
      let m = member_of [] (small_traces s n t) p l e in
      let k : length l ≤ B = omega (arith, ap length m.1, ((every_trace s n t h).sound p m.0).few) in
      slots_within B _ r (needs k (needs k (needs k needs_none))) f

  pub small_within : (p : ℕ) (task tick cost : List ℕ) (r : Refusal) → small_call s n t p task tick cost ≡ refused r → Within B r
  unfolding small_call small_refusal
  small_within p task tick cost r e =
      by_first _ _ r (fault_within r)
      (λ fine. by_last _ r (room_within (member_at (small_traces s n t) p) p task tick cost r (passed_of s n t fine).some_task (λ _. member_at (small_traces s n t) p)))
      (by_refusal _ _ r e)

  pub count_within : (r : Refusal) → count_call s n t ≡ refused r → Within B r
  unfolding count_call
  count_within r e = fault_within r (by_refusal _ _ r e)
