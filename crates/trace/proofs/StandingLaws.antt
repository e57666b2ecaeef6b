-- The shapers along a list: what they stand for at a position, and what one step adds.
use Prim.Native.Nat.{ℕ, suc, ◌+◌, ◌≤◌, ◌<◌}
use mathlib.Core.Path.{◌≡◌, refl, sym, ap, ap₂, ◌∙◌}
use mathlib.Core.Bool.{Bool, true, false}
use mathlib.Core.Logic.{dite}
use mathlib.Core.List.{List, [], ◌∷◌, ◌++◌, append-nil}
use native.Mathlib.Omega.{arith}
use native.Mathlib.Decide.{ℕ_discrete}
use borrow.Author.Tests.{ne_eqb}
use lib.Dec.{eqb}
use lib.ListN.{length, get_or, take, drop, set, replicate, length-set, get_or-replicate}
use lib.Seq.{take-suc, length-take-le, get_or-take, get_or-set_same, get_or-set_other}
use Rattle.model.specs.Limits.{max_tasks, max_time, max_releases, max_tick}
use Rattle.model.specs.Tasks.{Tasks, Release, release_at, no_release}
use Rattle.model.specs.Gap.{own}
use Rattle.model.specs.Ready.{ready_next, ready_ticks, ready_at}
use Rattle.shaper.specs.declared.Shaper.{Shaper}
use Rattle.shaper.specs.declared.Shaped.{Shaped}
use Rattle.shaper.specs.Shaper.{state_of, Small, Shapes}
use Rattle.shaper.proofs.History.{history_of, history_snoc, ready_here}
use Rattle.shaper.proofs.ShaperLaws.{Within, small_within, history_none, shapes_list}
use Rattle.trace.specs.Standing.{unused, Standing}
use Rattle.trace.proofs.PositionLaws.{own_append, own_same, own_split, own_at, place_of, Held, held}
use Rattle.trace.proofs.ReadyAtLaws.{ready_own}

-- one release of another task in front
own_other : (i : ℕ) (r : Release) → (r.task ≡ i → ⊥) → own i (r ∷ []) ≡ []
unfolding own
own_other i r h = rw (own, ne_eqb r.task i h)

module _ (l : List Release) (p : ℕ) (h : p < length l) (i : ℕ) where
  -- the releases of a task, one position further
  pub own_next : (a : ℕ) → (release_at l p).task ≡ i → (release_at l p).tick ≡ a → own i (take (suc p) l) ≡ own i (take p l) ++ (a ∷ [])
  unfolding own
  own_next a e f =
      ap (own i) (take-suc l p no_release h) ∙ own_append i (take p l) (release_at l p ∷ [])
      ∙ ap (λ (x : List ℕ). own i (take p l) ++ x) (own_same i (release_at l p) [] e ∙ ap (λ (x : ℕ). x ∷ []) f)

  pub own_still : ((release_at l p).task ≡ i → ⊥) → own i (take (suc p) l) ≡ own i (take p l)
  own_still g =
      ap (own i) (take-suc l p no_release h) ∙ own_append i (take p l) (release_at l p ∷ [])
      ∙ ap (λ (x : List ℕ). own i (take p l) ++ x) (own_other i (release_at l p) g)
      ∙ append-nil (own i (take p l))

-- a task has at most as many releases as the list, at none but the list's ticks
own_few : (i : ℕ) (l : List Release) → length (own i l) ≤ length l
unfolding own
own_few i [] = omega arith
own_few i (r ∷ l) = go (eqb r.task i) refl (own_few i l)
  where
    go : (b : Bool) → eqb r.task i ≡ b → length (own i l) ≤ length l → length (own i (r ∷ l)) ≤ suc (length l)
    go true e f = rw (own, e) (omega arith)
    go false e f = rw (own, e) (omega arith)

own_high : (i b : ℕ) (l : List Release) → ((p : ℕ) → p < length l → (release_at l p).tick ≤ b) → (m : ℕ) → m < length (own i l) → get_or (own i l) m 0 ≤ b
own_high i b l f m h = go (held l i m h)
  where
    go : Held l i m → get_or (own i l) m 0 ≤ b
    go d = omega (arith, ap (λ (x : ℕ). get_or (own i l) x 0) d.is, own_at l i d.at d.inside d.of_task, f d.at d.inside)

-- a list within document 01's limits
pub within_own
    : (P i : ℕ) (l : List Release)
    → P ≤ max_time
    → length l ≤ max_releases
    → ((q : ℕ) → q < length l → (release_at l q).tick ≤ max_tick)
    → Within P (own i l)
within_own P i l h f g = record { period_high = h; few = omega (arith, own_few i l); ticks_high = own_high i max_tick l g }

-- the ready ticks of a task's jobs before position p, the latest first
abbrev pub history_at : Tasks → (ℕ → ℕ) → List Release → ℕ → ℕ → List ℕ
history_at s k l p i = history_of (s.period i) (k i) (own i (take p l))

pub history_next
    : (s : Tasks) (k : ℕ → ℕ) (l : List Release) (p i a : ℕ)
    → p < length l
    → (release_at l p).task ≡ i
    → (release_at l p).tick ≡ a
    → history_at s k l (suc p) i ≡ ready_next (s.period i) (k i) (history_at s k l p i) a ∷ history_at s k l p i
history_next s k l p i a h e f =
    ap (history_of (s.period i) (k i)) (own_next l p h i a e f) ∙ history_snoc (s.period i) (k i) (own i (take p l)) a

-- no shaper yet
pub standing_none : (P K : ℕ → ℕ) (h : ℕ → List ℕ) (x : Shaper) → x ≡ unused → Standing P K h 0 (replicate max_tasks x)
standing_none P K h x e =
    record { long = refl; state = λ i g d. absurd (omega arith); past = λ i g k d. get_or-replicate max_tasks i x d k ∙ e }

-- the shapers of all tasks
pub standing_all : (P K : ℕ → ℕ) (h : ℕ → List ℕ) (n c : ℕ) (m : List Shaper) → Standing P K h n m → n ≡ c → Standing P K h c m
standing_all P K h n c m st e = rw e at st

-- the shaper of task i stored: the others stand for what they stood for
standing_set
    : (P K : ℕ → ℕ) (h h' : ℕ → List ℕ) (n n' : ℕ) (m : List Shaper) (i : ℕ) (x : Shaper)
    → Standing P K h n m
    → i < max_tasks
    → (n ≤ n') × (i < n')
    → x ≡ state_of (P i) (K i) (h' i)
    → ((j : ℕ) → j < n' → (i ≡ j → ⊥) → (j < n) × (h' j ≡ h j))
    → Standing P K h' n' (set m i x)
standing_set P K h h' n n' m i x st placed below e others =
    record {
      long = simp length-set st.long;
      state = λ j g d. dite (ℕ_discrete i j) (same d) (other j g d);
      past = λ j g k d. get_or-set_other m i j x d (λ f. omega arith) ∙ st.past j (omega arith) k d;
    }
  where
    same : (d : Shaper) {j : ℕ} → i ≡ j → get_or (set m i x) j d ≡ state_of (P j) (K j) (h' j)
    same d {j} c = rw (← c) (get_or-set_same m i x d (omega (arith, st.long)) ∙ e)

    other : (j : ℕ) → j < n' → (d : Shaper) → (i ≡ j → ⊥) → get_or (set m i x) j d ≡ state_of (P j) (K j) (h' j)
    other j g d c =
        get_or-set_other m i j x d (λ f. c (sym f)) ∙ st.state j (others j g c).0 d ∙ ap (state_of (P j) (K j)) (sym (others j g c).1)

-- one shaper more, before its first job
pub standing_more
    : (P K : ℕ → ℕ) (n : ℕ) (m : List Shaper) (x : Shaper)
    → Standing P K (λ i. []) n m
    → n < max_tasks
    → x ≡ state_of (P n) (K n) []
    → Standing P K (λ i. []) (n + 1) (set m n x)
standing_more P K n m x st placed e = standing_set P K _ _ n (n + 1) m n x st placed (omega arith, omega arith) e (λ j g c. (omega (arith, c), refl))

-- the shapers stand for the releases before position p
abbrev pub StandingAt : Tasks → (ℕ → ℕ) → List Release → List Shaper → ℕ → Type 0
StandingAt s k l m p = Standing s.period k (history_at s k l p) s.count m

module _ (s : Tasks) (k : ℕ → ℕ) (l : List Release) (m : List Shaper) where
  pub standing_fresh : Standing s.period k (λ i. []) s.count m → StandingAt s k l m 0
  unfolding own
  standing_fresh st =
      record {
        long = st.long;
        state = λ i h d. st.state i h d ∙ ap (state_of (s.period i) (k i)) (sym (history_none (s.period i) (k i)));
        past = st.past;
      }

  -- the release at p, of task i at tick a, goes through its shaper
  module _
      (p i a : ℕ)
      (st : StandingAt s k l m p)
      (h : p < length l)
      (of_task : (release_at l p).task ≡ i)
      (at_tick : (release_at l p).tick ≡ a)
      (few : s.count ≤ max_tasks)
      (known : i < s.count)
      (d : Shaper) where
    module _ (g : Shaped) (shapes : Shapes (get_or m i d) a g) where
      -- the step's ready tick, by the task's history ..
      pub step_next : g.ready ≡ ready_next (s.period i) (k i) (history_at s k l p i) a
      step_next = (shapes_list (s.period i) (k i) (own i (take p l)) a (get_or m i d) g shapes (st.state i known d)).0

      -- .. and in the whole list
      pub step_ready : g.ready ≡ ready_at s k l p
      step_ready =
          step_next
          ∙ sym
          (ready_own s k l i p of_task
          ∙ ap₂ (λ (x : List ℕ) (y : ℕ). get_or (ready_ticks (s.period i) (k i) x) y 0)
          (own_split l i p h of_task ∙ ap (λ (x : ℕ). own i (take p l) ++ (x ∷ own i (drop (suc p) l))) at_tick)
          (place_of l i p of_task)
          ∙ ready_here (s.period i) (k i) (own i (take p l)) a (own i (drop (suc p) l)))

      -- its state, one position further
      step_state : g.state ≡ state_of (s.period i) (k i) (history_at s k l (suc p) i)
      step_state =
          (shapes_list (s.period i) (k i) (own i (take p l)) a (get_or m i d) g shapes (st.state i known d)).1
          ∙ ap (λ (x : List ℕ). state_of (s.period i) (k i) (history_of (s.period i) (k i) x)) (sym (own_next l p h i a of_task at_tick))

      pub standing_step : StandingAt s k l (set m i g.state) (suc p)
      standing_step =
          standing_set s.period k (history_at s k l p) (history_at s k l (suc p)) s.count s.count m i g.state st (omega arith)
          (omega arith, known) step_state
          (λ j c n. (c, ap (history_of (s.period j) (k j)) (own_still l p h j (λ e. n (sym of_task ∙ e)))))

    -- a step that the list's limits allow
    module _ (period_high : s.period i ≤ max_time) (short : length l ≤ max_releases) (tick_high : (q : ℕ) → q < length l → (release_at l q).tick ≤ max_tick) where
      high : a ≤ max_tick
      high = rw (← at_tick) (tick_high p h)

      long : length (take p l) ≡ p
      long = length-take-le p l (omega arith)

      own_within : Within (s.period i) (own i (take p l))
      own_within =
          within_own (s.period i) i (take p l) period_high (omega (arith, long))
          (λ q g. rw (get_or-take p l q no_release (omega (arith, long))) (tick_high q (omega (arith, long))))

      pub step_small : Small (get_or m i d) a
      step_small = rw (st.state i known d) (small_within (s.period i) (k i) (own i (take p l)) own_within a high)
