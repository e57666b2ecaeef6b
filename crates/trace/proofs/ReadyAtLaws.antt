-- Ready ticks of a whole list by positions: the least ticks that keep each task's releases and gaps, and their closed form.
use Prim.Native.Nat.{ℕ, ◌+◌, ◌-◌, ◌≤◌, ◌<◌}
use mathlib.Core.Path.{◌≡◌, ap, ◌∙◌}
use mathlib.Core.List.{List}
use native.Mathlib.Omega.{arith}
use lib.ListN.{length, get_or}
use Rattle.model.specs.Tasks.{Tasks, Release, release_at}
use Rattle.model.specs.Gap.{gap, own}
use Rattle.model.specs.Ready.{ready_ticks, place, ready_at}
use Rattle.shaper.proofs.ReadyLaws.{ready_not_before, ready_apart_to, ready_closed, Attained}
use Rattle.trace.proofs.PositionLaws.{place_le, place_back, own_at, place_inside, Held, held}

-- the release at m, of the same task and not after p, from which the ready tick of p lies exactly the gap
pub record Since (s : Tasks) (k : ℕ → ℕ) (l : List Release) (i p : ℕ) : Type 0 where
  pub from : ℕ
  pub not_after : from ≤ p
  pub of_task : (release_at l from).task ≡ i
  pub is : ready_at s k l p ≡ (release_at l from).tick + gap (s.period i) (k i) (place l p - place l from)

module _ (s : Tasks) (k : ℕ → ℕ) (l : List Release) (i : ℕ) where
  -- the ready tick of a release stands at its place among those of its task
  pub ready_own : (p : ℕ) → (release_at l p).task ≡ i → ready_at s k l p ≡ get_or (ready_ticks (s.period i) (k i) (own i l)) (place l p) 0
  unfolding ready_at
  ready_own p e = ap (λ (x : ℕ). get_or (ready_ticks (s.period x) (k x) (own x l)) (place l p) 0) e

  -- it is not before the release
  pub ready_from_lem : (p : ℕ) → p < length l → (release_at l p).task ≡ i → (release_at l p).tick ≤ ready_at s k l p
  ready_from_lem p h e = omega (arith, ready_own p e, own_at l i p h e, ready_not_before (s.period i) (k i) (own i l) (place l p) (place_inside l i p h e))

  -- it lies at least the gap after the ready tick of each earlier release of the task
  pub ready_gap
      : (m p : ℕ) → m ≤ p → p < length l → (release_at l m).task ≡ i → (release_at l p).task ≡ i
      → ready_at s k l m + gap (s.period i) (k i) (place l p - place l m) ≤ ready_at s k l p
  ready_gap m p le h em ep =
      omega (
        arith,
        ready_own m em,
        ready_own p ep,
        ready_apart_to (s.period i) (k i) (own i l) (place l m) (place l p) (place_le l i m p le h em ep) (place_inside l i p h ep),
      )

  -- so the ready ticks of a task never fall
  pub ready_rising : (m p : ℕ) → m ≤ p → p < length l → (release_at l m).task ≡ i → (release_at l p).task ≡ i → ready_at s k l m ≤ ready_at s k l p
  ready_rising m p le h em ep = omega (arith, ready_gap m p le h em ep)

  -- closed form: it lies exactly the gap after some release of the task, its own or an earlier one
  pub ready_at_closed : (p : ℕ) → p < length l → (release_at l p).task ≡ i → Since s k l i p
  ready_at_closed p h e = go (ready_closed (s.period i) (k i) (own i l) (place l p) (place_inside l i p h e))
    where
      go : Attained (s.period i) (k i) (own i l) (place l p) → Since s k l i p
      go (m, g, c) = since (held l i m (omega (arith, place_inside l i p h e)))
        where
          since : Held l i m → Since s k l i p
          since d = record {
            from = d.at;
            not_after = place_back l i d.at p d.inside h d.of_task e (omega arith);
            of_task = d.of_task;
            is = ready_own p e ∙ rw (← own_at l i d.at d.inside d.of_task, d.is) c;
          }
