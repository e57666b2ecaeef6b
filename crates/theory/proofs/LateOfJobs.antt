-- A window whose demand is not met keeps a job from finishing.
use Prim.Native.Nat.{ℕ, zero, suc, ◌+◌, ◌-◌, ◌*◌, ◌≤◌, ◌<◌}
use mathlib.Core.Path.{◌≡◌, refl, sym, ◌∙◌}
use mathlib.Core.Bool.{Bool, true, false, ◌&&◌}
use native.Mathlib.Nat.{mul-zero, mul-le-mul_left, le_trans, le_antisymm}
use native.Mathlib.Omega.{arith}
use borrow.Author.Tests.{leb-true, eqb-true, eqb-false, le-leb, eq-eqb}
use lib.Dec.{leb, eqb}
use Rattle.model.specs.Series.{on, sum}
use Rattle.model.specs.Run.{Jobs, left_at}
use Rattle.model.specs.Claims.{is_task, is_above}
use Rattle.model.proofs.SeriesLaws.{le_by, and_left, and_right, and_both, sum_scale_up}
use Rattle.theory.proofs.JobWindows.{place, supply, done_by, came, back, win, of_those, Before, upto}
use Rattle.theory.proofs.RunLaws.{Picked, runs_some, left_step}
use Rattle.theory.proofs.WorkLaws.{done_back, done_le, back_zero}
use Rattle.theory.proofs.FinishLaws.{LastTick, last_tick}
use Rattle.theory.proofs.PlaceLaws.{place_own, place_mono, place_rise, count_ge}
use Rattle.theory.proofs.LoadLaws.{in_window, in_window_lem, came_win, above_suc}
use Rattle.theory.proofs.UptoLaws.{own_to, own_to_lem, own_task, own_le, upto_own, win_upto}

-- the tasks above task i, in the ticks from s on: there are enough jobs, the x-th of task k starts at s + g k x with work C k at least,
-- and the first c k t of them start in t ticks
pub record Burst (j : Jobs) (i s w : ℕ) (C : ℕ → ℕ) (g c : ℕ → ℕ → ℕ) : Type 0 where
  pub enough : (k t : ℕ) → k < i → 1 ≤ t → t < w → c k t ≤ place j.task k j.count
  pub full : (p : ℕ) → p < j.count → j.task p < i → C (j.task p) ≤ j.work p
  pub starts : (p : ℕ) → p < j.count → j.task p < i → j.start p ≡ s + g (j.task p) (place j.task (j.task p) p)
  pub counted : (k t x : ℕ) → k < i → 1 ≤ t → t < w → x < c k t → g k x < t

-- job n of task i and the q before it: from place b on they start not before s, not after n, and with work C i at least
pub record Queue (j : Jobs) (i n s b q : ℕ) (C : ℕ → ℕ) : Type 0 where
  pub in_list : n < j.count
  pub own : j.task n ≡ i
  pub places : place j.task i n ≡ b + q
  pub some_work : 1 ≤ C i
  pub not_before : (p : ℕ) → p ≤ n → j.task p ≡ i → b ≤ place j.task i p → s ≤ j.start p
  pub in_order : (p : ℕ) → p ≤ n → j.task p ≡ i → b ≤ place j.task i p → j.start p ≤ j.start n
  pub own_full : (p : ℕ) → p ≤ n → j.task p ≡ i → b ≤ place j.task i p → C i ≤ j.work p

-- a member of a set that lies in another, over a bound
floor : (a b : Bool) (w c : ℕ) → (a ≡ true → (b ≡ true) × (c ≤ w)) → c * on a 1 ≤ on b w
unfolding on
floor true b w c h = rw (h refl).0 (omega (arith, (h refl).1))
floor false b w c h = omega (arith, mul-zero c)

-- the last tick of a job of task i leaves nothing behind of the tasks above and of its own task up to it
pub last_clear : (j : Jobs) (i n u : ℕ) → j.task n ≡ i → LastTick j n u → back j (upto j i n) (suc u) ≡ 0
last_clear j i n u own k = back_zero j (upto j i n) (suc u) (λ p l e s. go p l e s (eqb p n) refl)
  where
    first : Picked j (left_at j u) u n
    first = runs_some j u n k.0

    none_left : (p : ℕ) → p < j.count → upto j i n p ≡ true → j.start p ≤ u → (p ≡ n → ⊥) → left_at j (suc u) p ≡ 0
    none_left p l e s ne = omega (arith, left_step j u p, le_by (left_at j u p) 0 (λ x. wrong (first.goes_first p l s x)))
      where
        wrong : Before j.task n p → ⊥
        wrong b =
            let f : own_to j i n p ≡ true = sym (upto_own j i n p (omega arith)) ∙ e in
            ne (le_antisymm (own_le j i n p f) (b.1 (own ∙ sym (own_task j i n p f))))

    go : (p : ℕ) → p < j.count → upto j i n p ≡ true → j.start p < suc u → (b : Bool) → eqb p n ≡ b → left_at j (suc u) p ≡ 0
    go p l e s true d = rw (eqb-true p n d) k.1
    go p l e s false d = none_left p l e (omega arith) (eqb-false p n d)

-- so the work that comes in a window up to that tick is at most its supply
pub covered : (j : Jobs) (i n u s : ℕ) → j.task n ≡ i → LastTick j n u → s ≤ u → win j (upto j i n) s (suc u - s) ≤ supply j s (suc u - s)
covered j i n u s own k l =
    omega (arith, came_win j s (suc u - s) (upto j i n), done_back j (upto j i n) s, all, done_le j (upto j i n) s (suc u - s))
  where
    end : s + (suc u - s) ≡ suc u
    end = omega arith

    all : done_by j (upto j i n) (s + (suc u - s)) ≡ came j (upto j i n) (s + (suc u - s))
    all = rw end (omega (arith, done_back j (upto j i n) (suc u), last_clear j i n u own k))

module _ (j : Jobs) (i s w : ℕ) (C : ℕ → ℕ) (g c : ℕ → ℕ → ℕ) (h : Burst j i s w C g c) (t : ℕ) (pos : 1 ≤ t) (lt : t < w) where
  -- a task above brings at least its count of jobs
  own_ge : (k : ℕ) → k < i → C k * c k t ≤ win j (of_those j (is_task k)) s t
  unfolding win
  own_ge k l =
      le_trans (mul-le-mul_left (C k) many)
      (sum_scale_up _ (λ p. on (inside p) 1) (C k) j.count (λ p a. floor (inside p) (inside p) (j.work p) (C k) (λ e. (e, work p a (task_of_lem p e)))))
    where
      inside : ℕ → Bool
      inside p = of_those j (is_task k) p && in_window j s t p

      task_of_lem : (p : ℕ) → inside p ≡ true → j.task p ≡ k
      task_of_lem p e = eqb-true (j.task p) k (and_left (eqb (j.task p) k) (in_window j s t p) e)

      work : (p : ℕ) → p < j.count → j.task p ≡ k → C k ≤ j.work p
      work p a e = rw e at (h.full p a (omega arith))

      holds : (p : ℕ) → p < j.count → j.task p ≡ k → 0 ≤ place j.task k p → place j.task k p < 0 + c k t → inside p ≡ true
      holds p a e x y =
          let st : j.start p ≡ s + g k (place j.task k p) = rw e at (h.starts p a (omega arith)) in
          let d : g k (place j.task k p) < t = h.counted k t (place j.task k p) l pos lt (omega arith) in
          and_both (eqb (j.task p) k) (in_window j s t p) (eq-eqb (j.task p) k e) (in_window_lem j s t p (omega arith) (omega arith))

      many : c k t ≤ sum (λ p. on (inside p) 1) j.count
      many = omega (arith, count_ge j.task k inside 0 (c k t) j.count holds, h.enough k t l pos lt)

  -- and all of them the sum of theirs
  above_ge : (a : ℕ) → a ≤ i → sum (λ k. C k * c k t) a ≤ win j (of_those j (is_above a)) s t
  unfolding sum
  above_ge zero l = omega arith
  above_ge (suc a) l = omega (arith, above_suc j s t a, above_ge a (omega arith), own_ge a (omega arith))

module _ (j : Jobs) (i n s b q : ℕ) (C : ℕ → ℕ) (h : Queue j i n s b q C) (t : ℕ) (run : j.start n < s + t) where
  -- the own jobs from place b up to n
  abbrev queued : ℕ → Bool
  queued p = own_to j i n p && leb b (place j.task i p)

  -- they start in the window with full work
  queue_in : (p : ℕ) → queued p ≡ true → ((own_to j i n p && in_window j s t p) ≡ true) × (C i ≤ j.work p)
  queue_in p e = (and_both (own_to j i n p) (in_window j s t p) own (in_window_lem j s t p low high), h.own_full p le task from)
    where
      own : own_to j i n p ≡ true
      own = and_left (own_to j i n p) (leb b (place j.task i p)) e

      le : p ≤ n
      le = own_le j i n p own

      task : j.task p ≡ i
      task = own_task j i n p own

      from : b ≤ place j.task i p
      from = leb-true b (place j.task i p) (and_right (own_to j i n p) (leb b (place j.task i p)) e)

      low : s ≤ j.start p
      low = h.not_before p le task from

      high : j.start p < s + t
      high = omega (arith, h.in_order p le task from)

  -- they are q + 1 jobs
  queue_many : suc q ≤ sum (λ p. on (queued p) 1) j.count
  queue_many =
      omega (
        arith,
        count_ge j.task i queued b (suc q) j.count holds,
        h.places,
        place_own j.task i n h.own,
        place_mono j.task i (suc n) j.count h.in_list,
      )
    where
      holds : (p : ℕ) → p < j.count → j.task p ≡ i → b ≤ place j.task i p → place j.task i p < b + suc q → queued p ≡ true
      holds p a e x y =
          let le : p ≤ n = le_by p n (λ z. omega (arith, h.places, place_rise j.task i n p z h.own)) in
          and_both (own_to j i n p) (leb b (place j.task i p)) (own_to_lem j i n p e le) (le-leb b (place j.task i p) x)

  -- and bring so much work
  queue_ge : C i * suc q ≤ win j (own_to j i n) s t
  unfolding win
  queue_ge =
      le_trans (mul-le-mul_left (C i) queue_many)
      (sum_scale_up _ (λ p. on (queued p) 1) (C i) j.count (λ p a. floor (queued p) (own_to j i n p && in_window j s t p) (j.work p) (C i) (queue_in p)))

-- a job behind q others whose demand no window of fewer than w ticks from s on meets is not finished before s + w
pub late_core : (j : Jobs) (i n s w b q : ℕ) (C : ℕ → ℕ) (g c : ℕ → ℕ → ℕ)
    → Burst j i s w C g c
    → Queue j i n s b q C
    → ((t : ℕ) → 1 ≤ t → t < w → supply j s t < suc q * C i + sum (λ k. C k * c k t) i)
    → (t : ℕ)
    → t < w
    → left_at j (s + t) n ≡ 0
    → ⊥
late_core j i n s w b q C g c burst queue unmet t lt e = go (last_tick j n (s + t) some e)
  where
    from : b ≤ place j.task i n
    from = omega (arith, queue.places)

    low : s ≤ j.start n
    low = queue.not_before n (omega arith) queue.own from

    some : 1 ≤ j.work n
    some = omega (arith, queue.own_full n (omega arith) queue.own from, queue.some_work)

    go : (u : ℕ) × (u < s + t) × LastTick j n u → ⊥
    go (u, l, k) = wrong (runs_some j u n k.0).started
      where
        wrong : j.start n ≤ u → ⊥
        wrong d =
            let late : s ≤ u = omega (arith, low) in
            let pos : 1 ≤ suc u - s = omega arith in
            let less : suc u - s < w = omega arith in
            let run : j.start n < s + (suc u - s) = omega arith in
            omega (
              arith,
              covered j i n u s queue.own k late,
              win_upto j i n s (suc u - s),
              unmet (suc u - s) pos less,
              above_ge j i s w C g c burst (suc u - s) pos less i (omega arith),
              queue_ge j i n s b q C queue (suc u - s) run,
            )
