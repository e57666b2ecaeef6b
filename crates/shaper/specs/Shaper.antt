-- The state of the shaper: two numbers that stand for the whole history of a task.
use Rattle.std.specs.Prelude.{ℕ, suc, ◌+◌, ◌-◌, ◌*◌, ◌≤◌, max, ◌≡◌, List, [], ◌∷◌}
use Rattle.model.specs.Ready.{ready_next}
use Rattle.shaper.specs.declared.Shaper.{Shaper}
use Rattle.shaper.specs.declared.Shaped.{Shaped}

-- the largest ready tick of a history, 0 where there is none. Ready ticks never fall, so it is the latest
unfoldable pub latest : List ℕ → ℕ
latest [] = 0
latest (r ∷ h) = max r (latest h)

-- the largest of r + kP, r + (k + 1)P, .. over the members r of a history, 0 where there is none
unfoldable pub due : ℕ → List ℕ → ℕ → ℕ
due P [] k = 0
due P (r ∷ h) k = max (r + k * P) (due P h (suc k))

-- the state after the jobs with the ready ticks h, the latest first
abbrev pub state_of : ℕ → ℕ → List ℕ → Shaper
state_of P K h = record { period = P; keep = K; last = latest h; next = due P h 1 }

-- the ready tick of a job released at a after the history h, and the state after it, as document 01 defines the ready tick
abbrev pub shaped_after : ℕ → ℕ → List ℕ → ℕ → Shaped
shaped_after P K h a = record { state = state_of P K (ready_next P K h a ∷ h); ready = ready_next P K h a }

-- the ready tick by the two numbers of a state
unfoldable pub ready_by : Shaper → ℕ → ℕ
ready_by s a = max a (max s.last (s.next - s.keep))

-- the state after a job with the ready tick r
abbrev pub advance : Shaper → ℕ → Shaper
advance s r = record { period = s.period; keep = s.keep; last = r; next = max s.next r + s.period }

-- one step of any state, whether or not it has a history
abbrev pub shape_one : Shaper → ℕ → Shaped
shape_one s a = record { state = advance s (ready_by s a); ready = ready_by s a }

-- ticks below 2^62, so that one step stays within 64 bits
abbrev pub max_state : ℕ
max_state = 4611686018427387904

pub record Small (s : Shaper) (a : ℕ) : Type 0 where
  pub release_small : a ≤ max_state
  pub last_small : s.last ≤ max_state
  pub next_small : s.next ≤ max_state

-- what a step promises of its result: the step of the two numbers, and, for every history that the state stands for, the ready tick of
-- document 01 and the state that stands for the history with it
pub record Shapes (s : Shaper) (a : ℕ) (r : Shaped) : Type 0 where
  pub step : r ≡ shape_one s a
  pub after_history : (P K : ℕ) (h : List ℕ) → s ≡ state_of P K h → r ≡ shaped_after P K h a
