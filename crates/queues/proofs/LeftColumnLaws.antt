-- The column of the work that the oldest unfinished job of each task has left.
use Prim.Native.Nat.{ℕ, ◌+◌, ◌<◌}
use mathlib.Core.Path.{◌≡◌, refl, sym, ap, ◌∙◌}
use mathlib.Core.Logic.{◌⊎◌, inl, inr}
use mathlib.Core.Option.{Option}
use mathlib.Core.List.{List}
use native.Mathlib.Omega.{arith}
use lib.ListN.{length, get_or, set, length-set}
use lib.Seq.{get_or-set_same, get_or-set_other}
use lib.Dec.{eqb}
use Rattle.model.specs.Frame.{Frame}
use Rattle.model.specs.Run.{Jobs, left_at}
use Rattle.model.specs.Slots.{Holds}
use Rattle.theory.proofs.RunLaws.{left_zero}
use Rattle.theory.proofs.JumpLaws.{same_or}
use Rattle.queues.specs.Queues.{jobs_of, first_from, work_of}
use Rattle.queues.proofs.SearchedLaws.{work_in}
use Rattle.queues.proofs.HeadLaws.{Ordered, Heads, next_whole}

-- at the beginning of tick t
pub record Lefts (j : Jobs) (tasks t : ℕ) (head left : List ℕ) : Type 0 where
  pub long : length left ≡ 32
  pub each : (i : ℕ) → i < tasks → get_or head i 0 < j.count → get_or left i 0 ≡ left_at j t (get_or head i 0)

-- before the first tick it is the whole work
pub lefts_start : (o : Option Frame) (n tasks : ℕ) (task cost : List ℕ) (charge : ℕ) (ready head left : List ℕ) → Holds (λ i. work_of cost charge n (get_or head i 0)) tasks 32 left
    → Lefts (jobs_of o n task cost charge ready) tasks 0 head left
lefts_start o n tasks task cost charge ready head left b =
    record {
      long = b.long;
      each = λ i l g. b.each i l ∙ work_in cost charge n (get_or head i 0) g ∙ sym (left_zero (jobs_of o n task cost charge ready) (get_or head i 0));
    }

module _ (j : Jobs) (tasks : ℕ) (o : Ordered j tasks) (t : ℕ) (head left : List ℕ) (h : Heads j tasks t head) (w : Lefts j tasks t head left) where
  -- at another tick u at which every job has the same work left
  pub lefts_rest : (u : ℕ) → ((q : ℕ) → left_at j u q ≡ left_at j t q) → Lefts j tasks u head left
  lefts_rest u same = record { long = w.long; each = λ k l d. w.each k l d ∙ sym (same (get_or head k 0)) }

  -- at another tick u at which every job has the same work left but for the oldest unfinished one of task i
  module _ (u i : ℕ) (hi : i < tasks) (inside : get_or head i 0 < j.count) (other : (q : ℕ) → (q ≡ get_or head i 0 → ⊥) → left_at j u q ≡ left_at j t q) where
    -- the oldest unfinished job of another task is another
    apart : (k : ℕ) → k < tasks → get_or head k 0 < j.count → (k ≡ i → ⊥) → get_or head k 0 ≡ get_or head i 0 → ⊥
    apart k l d m y = m (sym (h.own k l d) ∙ ap j.task y ∙ h.own i hi inside)

    there : (x k : ℕ) → k < tasks → get_or head k 0 < j.count → (k ≡ i → ⊥) → get_or (set left i x) k 0 ≡ left_at j u (get_or head k 0)
    there x k l d m = get_or-set_other left i k x 0 m ∙ w.each k l d ∙ sym (other (get_or head k 0) (apart k l d m))

    here : (x : ℕ) → get_or (set left i x) i 0 ≡ x
    here x = get_or-set_same left i x 0 (omega (arith, w.long, hi, o.few_tasks))

    -- which is unfinished
    pub lefts_run : (rest : ℕ) → rest ≡ left_at j u (get_or head i 0) → Lefts j tasks u head (set left i rest)
    lefts_run rest e = record { long = length-set left i rest ∙ w.long; each = λ k l d. go k l d (same_or k i) }
      where
        go : (k : ℕ) → k < tasks → get_or head k 0 < j.count → (k ≡ i) ⊎ (k ≡ i → ⊥) → get_or (set left i rest) k 0 ≡ left_at j u (get_or head k 0)
        go k l d (inl y) = rw y (here rest ∙ e)
        go k l d (inr m) = there rest k l d m

    -- which is finished: the next one of its task has its whole work left
    pub lefts_done : left_at j u (get_or head i 0) ≡ 0 → (next work : ℕ) → next ≡ first_from (λ q. eqb (j.task q) i) j.count (get_or head i 0 + 1)
        → (next < j.count → work ≡ j.work next) → Lefts j tasks u (set head i next) (set left i work)
    lefts_done gone next work f c = record { long = length-set left i work ∙ w.long; each = λ k l. go k l (same_or k i) }
      where
        go : (k : ℕ) → k < tasks → (k ≡ i) ⊎ (k ≡ i → ⊥) → get_or (set head i next) k 0 < j.count → get_or (set left i work) k 0 ≡ left_at j u (get_or (set head i next) k 0)
        go k l (inl y) =
            rw (y, get_or-set_same head i next 0 (omega (arith, h.long, hi, o.few_tasks)))
            (λ d. here work ∙ c d ∙ sym (next_whole j tasks o t head h u i (get_or head i 0) hi refl inside other gone next f d))
        go k l (inr m) = rw (get_or-set_other head i k next 0 m) (λ d. there work k l d m)
