-- Legal releases by positions, and the ticks of a trace.
use Prim.Native.Nat.{ℕ, zero, suc, ◌+◌, ◌-◌, ◌≤◌, ◌<◌}
use mathlib.Core.Path.{◌≡◌}
use mathlib.Core.List.{List}
use mathlib.Core.Logic.{⊎_elim}
use native.Mathlib.Omega.{arith}
use native.Mathlib.Nat.{le_refl, eq-or-lt_of_le}
use lib.ListN.{length, get_or}
use Rattle.model.specs.Tasks.{Tasks, Release, release_at}
use Rattle.model.specs.Gap.{gap, own, Legal}
use Rattle.model.specs.Ready.{place}
use Rattle.model.specs.Claims.{Trace}
use Rattle.trace.proofs.PositionLaws.{place_le, own_at, place_inside}

-- any release of task i lies at least d_J(k) ticks after the one k places before it
abbrev pub LegalAt : Tasks → List Release → ℕ → Type 0
LegalAt s l i =
    (m p : ℕ) → m ≤ p → p < length l → (release_at l m).task ≡ i → (release_at l p).task ≡ i
    → (release_at l m).tick + gap (s.period i) (s.jitter i) (place l p - place l m) ≤ (release_at l p).tick

module _ (s : Tasks) (l : List Release) (i : ℕ) where
  -- legal releases keep the gaps by positions
  pub legal_at : Legal s l i → LegalAt s l i
  legal_at h m p le g em ep =
      let a : place l m ≤ place l p = place_le l i m p le g em ep in
      let b : place l m + (place l p - place l m) ≡ place l p = omega arith in
      let c : place l p < length (own i l) = place_inside l i p g ep in
      let d : get_or (own i l) (place l m) 0 + gap (s.period i) (s.jitter i) (place l p - place l m) ≤ get_or (own i l) (place l p) 0 =
      rw b at (h (place l m) (place l p - place l m) (omega arith)) in
      rw (own_at l i m (omega arith) em, own_at l i p g ep) at d

-- the ticks of a trace never fall
pub trace_rising : (s : Tasks) (l : List Release) → Trace s l → (m p : ℕ) → m ≤ p → p < length l → (release_at l m).tick ≤ (release_at l p).tick
trace_rising s l h m zero le g = let e : m ≡ 0 = omega arith in rw e (le_refl (release_at l 0).tick)
trace_rising s l h m (suc p) le g =
    ⊎_elim
    (λ e. rw e (le_refl (release_at l (suc p)).tick))
    (λ k. omega (arith, trace_rising s l h m p (omega arith) (omega arith), h.rising p g))
    (eq-or-lt_of_le le)
