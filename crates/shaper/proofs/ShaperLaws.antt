-- The two numbers of a state give the ready tick of the whole history, and stay small.
use Prim.Native.Nat.{ℕ, suc, ◌+◌, ◌-◌, ◌*◌, ◌≤◌, ◌<◌, max}
use mathlib.Core.Path.{◌≡◌, refl, sym, ap, ap₂, ◌∙◌}
use mathlib.Core.List.{List, [], ◌∷◌, ◌++◌}
use native.Mathlib.Nat.{mul-le-mul}
use native.Mathlib.Omega.{arith}
use lib.ListN.{length, get_or}
use Rattle.model.specs.Limits.{max_time, max_releases, max_tick}
use Rattle.model.specs.Gap.{gap}
use Rattle.model.specs.Ready.{after, ready_next, ready_from, ready_ticks}
use Rattle.shaper.specs.declared.Shaper.{Shaper}
use Rattle.shaper.specs.declared.Shaped.{Shaped}
use Rattle.shaper.specs.ReadyTicks.{max_ready}
use Rattle.shaper.specs.Shaper.{latest, due, state_of, shaped_after, ready_by, advance, shape_one, Small, Shapes}
use Rattle.shaper.proofs.ReadyLaws.{ready_most}
use Rattle.shaper.proofs.History.{history_from, history_of, history_snoc}

module _ (P K : ℕ) where
  join : (r x l d : ℕ) → max (r + (x - K)) (max l (d - K)) ≡ max (max r l) (max (r + x) d - K)
  join r x l d = rw (shift r x, max_less (r + x) d) (regroup r (r + x - K) l (d - K))
    where
      shift : (r x : ℕ) → r + (x - K) ≡ max r (r + x - K)
      shift r x = omega arith

      max_less : (a b : ℕ) → max a b - K ≡ max (a - K) (b - K)
      max_less a b = omega arith

      regroup : (a b c d : ℕ) → max (max a b) (max c d) ≡ max (max a c) (max b d)
      regroup a b c d = omega arith

  -- every gap at once, by two numbers
  pub after_due : (h : List ℕ) (k : ℕ) → after P K h k ≡ max (latest h) (due P h k - K)
  unfolding after latest due gap
  after_due [] k = omega arith
  after_due (r ∷ h) k = ap (max (r + (k * P - K))) (after_due h (suc k)) ∙ join r (k * P) (latest h) (due P h (suc k))

  -- the ready tick by the state
  pub next_by : (h : List ℕ) (a : ℕ) → ready_by (state_of P K h) a ≡ ready_next P K h a
  unfolding ready_next ready_by
  next_by h a = ap (max a) (sym (after_due h 1))

  -- a ready tick is the latest of its history
  pub latest_next : (h : List ℕ) (a : ℕ) → latest (ready_next P K h a ∷ h) ≡ ready_next P K h a
  unfolding ready_next latest
  latest_next h a = omega (arith, after_due h 1)

-- one place further is one period more, where there is a job
due_shift_le : (P : ℕ) (h : List ℕ) (k : ℕ) → due P h (suc k) ≤ due P h k + P
unfolding due
due_shift_le P [] k = omega arith
due_shift_le P (r ∷ h) k = omega (arith, due_shift_le P h (suc k))

due_shift_ge : (P : ℕ) (h : List ℕ) (k : ℕ) → due P h k + P ≤ max P (due P h (suc k))
unfolding due
due_shift_ge P [] k = omega arith
due_shift_ge P (r ∷ h) k = omega (arith, due_shift_ge P h (suc k))

-- one job more
pub due_next : (P : ℕ) (h : List ℕ) (r : ℕ) → max (due P h 1) r + P ≡ due P (r ∷ h) 1
unfolding due
due_next P h r = omega (arith, due_shift_le P h 1, due_shift_ge P h 1)

-- the step of a state that stands for a history is document 01's
pub advance_after : (P K : ℕ) (h : List ℕ) (a : ℕ) → advance (state_of P K h) (ready_next P K h a) ≡ state_of P K (ready_next P K h a ∷ h)
advance_after P K h a = rw (latest_next P K h a, due_next P h (ready_next P K h a))

pub shape_after : (P K : ℕ) (h : List ℕ) (a : ℕ) → shape_one (state_of P K h) a ≡ shaped_after P K h a
shape_after P K h a = rw (next_by P K h a) (ap (λ (s : Shaper). record { state = s; ready = ready_next P K h a }) (advance_after P K h a))

-- what a step promises, r being its ready tick
pub shapes_by
    : (s : Shaper) (a r n p : ℕ)
    → r ≡ ready_by s a
    → n ≡ max s.next r
    → p ≡ s.period
    → Shapes s a (record { state = record { period = s.period; keep = s.keep; last = r; next = n + p }; ready = r })
shapes_by s a r n p e f g = record { step = is_step; after_history = λ P K h i. is_step ∙ ap (λ (x : Shaper). shape_one x a) i ∙ shape_after P K h a }
  where
    by : ℕ → ℕ → Shaped
    by r t = record { state = record { period = s.period; keep = s.keep; last = r; next = t }; ready = r }

    is_step : by r (n + p) ≡ shape_one s a
    is_step = ap₂ by e (ap₂ ◌+◌ (f ∙ ap (max s.next) e) g)

-- no ready tick of a history is over the state's second number
pub latest_due : (P : ℕ) (h : List ℕ) (k : ℕ) → latest h ≤ due P h k
unfolding latest due
latest_due P [] k = omega arith
latest_due P (r ∷ h) k = omega (arith, latest_due P h (suc k))

module _ (P K : ℕ) where
  -- a ready tick is the release's, or at most the state's second number
  pub next_le : (h : List ℕ) (a b : ℕ) → a ≤ b → due P h 1 ≤ b → ready_next P K h a ≤ b
  unfolding ready_next
  next_le h a b l g = omega (arith, after_due P K h 1, latest_due P h 1)

  -- each release raises the state's second number by at most one period past the largest release
  pub due_history
      : (h a : List ℕ) (b : ℕ) → due P h 1 ≤ b → ((m : ℕ) → m < length a → get_or a m 0 ≤ b) → due P (history_from P K h a) 1 ≤ b + length a * P
  unfolding ready_from
  due_history h [] b l g = omega arith
  due_history h (x ∷ a) b l g =
      omega (arith, due_history (ready_next P K h x ∷ h) a (b + P) next (λ m i. omega (arith, g (suc m) (omega arith))))
    where
      next : due P (ready_next P K h x ∷ h) 1 ≤ b + P
      next = omega (arith, due_next P h (ready_next P K h x), next_le h x b (g 0 (omega arith)) l)

-- a task's releases within the documents' limits, for a period P
pub record Within (P : ℕ) (a : List ℕ) : Type 0 where
  pub period_high : P ≤ max_time
  pub few : length a ≤ max_releases
  pub ticks_high : (m : ℕ) → m < length a → get_or a m 0 ≤ max_tick

periods_le : (P n m : ℕ) → P ≤ max_time → n ≤ m → n * P ≤ m * max_time
periods_le P n m l g = mul-le-mul g l

module _ (P K : ℕ) (a : List ℕ) (w : Within P a) where
  -- the state after them stays small, whatever is released next
  pub due_within : due P (history_of P K a) 1 ≤ max_ready + max_time
  unfolding due
  due_within =
      omega (arith, due_history P K [] a max_tick (omega arith) w.ticks_high, periods_le P (length a) max_releases w.period_high w.few)

  pub small_within : (x : ℕ) → x ≤ max_tick → Small (state_of P K (history_of P K a)) x
  small_within x l = omega (arith, due_within, latest_due P (history_of P K a) 1)

  -- their ready ticks, and the next one while there are fewer than 1,024
  pub ready_within : (n : ℕ) → n < length a → get_or (ready_ticks P K a) n 0 ≤ max_ready
  ready_within n l =
      omega (
        arith,
        ready_most P K a n max_tick l (λ m i. w.ticks_high m (omega arith)),
        periods_le P n (max_releases - 1) w.period_high (omega (arith, w.few)),
      )

-- the state of a task in a list: it stands for the releases before the first ..
pub history_none : (P K : ℕ) → history_of P K [] ≡ []
unfolding ready_from
history_none P K = refl

-- .. and, where it stands for the releases a, a step gives the ready tick of x after a, and a state that stands for a and x
pub shapes_list
    : (P K : ℕ) (a : List ℕ) (x : ℕ) (s : Shaper) (r : Shaped)
    → Shapes s x r
    → s ≡ state_of P K (history_of P K a)
    → (r.ready ≡ ready_next P K (history_of P K a) x) × (r.state ≡ state_of P K (history_of P K (a ++ (x ∷ []))))
shapes_list P K a x s r c e =
    let g : r ≡ shaped_after P K (history_of P K a) x = c.after_history P K (history_of P K a) e in
    (ap (λ (y : Shaped). y.ready) g, ap (λ (y : Shaped). y.state) g ∙ ap (state_of P K) (sym (history_snoc P K a x)))
