-- The walk over q bounds the finish of every job of a task.
use Prim.Native.Nat.{ℕ, suc, ◌+◌, ◌-◌, ◌*◌, ◌≤◌, ◌<◌}
use mathlib.Core.Path.{◌≡◌, ◌∙◌}
use mathlib.Core.Bool.{Bool, true, false, ◌&&◌}
use mathlib.Core.Logic.{◌⊎◌, inl, inr}
use native.Mathlib.Nat.{le_antisymm}
use native.Mathlib.Omega.{arith}
use borrow.Author.Tests.{leb-true, eqb-true, le-leb, eq-eqb}
use lib.Dec.{leb, eqb}
use Rattle.model.specs.Series.{sum}
use Rattle.model.specs.Run.{Jobs, left_at}
use Rattle.model.proofs.SeriesLaws.{le_by, le_or_lt, clash, and_left, and_right, and_both}
use Rattle.theory.proofs.JobWindows.{place, supply, Spaced, Bounded, win, upto}
use Rattle.theory.proofs.RunLaws.{left_later}
use Rattle.theory.proofs.WorkLaws.{Quiet, busy, Latest, latest, latest_done}
use Rattle.theory.proofs.PlaceLaws.{first_refusal, place_mono}
use Rattle.theory.proofs.LoadLaws.{came_win, win_above}
use Rattle.theory.proofs.UptoLaws.{own_to_lem, own_to, upto_own, upto_down, win_upto, win_queue}

-- the walk of task i: its jobs take at most C i and keep gaps g; from each tick s, for each q up to last, the demand of some t ≤ w q is met; and it ends
pub record Walk (j : Jobs) (i : ℕ) (C : ℕ → ℕ) (c : ℕ → ℕ → ℕ) (g : ℕ → ℕ) (last : ℕ) (w : ℕ → ℕ) : Type 0 where
  pub own_work : (p : ℕ) → p < j.count → j.task p ≡ i → j.work p ≤ C i
  pub own_spaced : Spaced j i g
  pub rising : (a b : ℕ) → a ≤ b → g a ≤ g b
  pub met : (q s : ℕ) → q ≤ last → (t : ℕ) × (1 ≤ t) × (t ≤ w q) × (suc q * C i + sum (λ k. C k * c k t) i ≤ supply j s t)
  pub stops : w last ≤ g (suc last)

-- job p of task i is finished w q after a tick that is not after the start of the job q places before it
pub record Done (j : Jobs) (i last : ℕ) (w : ℕ → ℕ) (p : ℕ) : Type 0 where
  pub q : ℕ
  pub q_le : q ≤ last
  pub lead : ℕ
  pub lead_le : lead ≤ p
  pub lead_own : j.task lead ≡ i
  pub places : place j.task i p ≡ place j.task i lead + q
  pub from : ℕ
  pub from_le : from ≤ j.start lead
  pub done : left_at j (from + w q) p ≡ 0

-- the first job of task i that starts at s or later
pub record Lead (j : Jobs) (i s n : ℕ) : Type 0 where
  pub job : ℕ
  pub job_le : job ≤ n
  pub own : j.task job ≡ i
  pub not_before : s ≤ j.start job
  pub first : (p : ℕ) → j.task p ≡ i → s ≤ j.start p → job ≤ p

-- there is one where job n of the task is such a job
pub lead_of_lem : (j : Jobs) (i s n : ℕ) → j.task n ≡ i → s ≤ j.start n → Lead j i s n
lead_of_lem j i s n e l = go (first_refusal from (suc n))
  where
    from : ℕ → Bool
    from p = eqb (j.task p) i && leb s (j.start p)

    is : (p : ℕ) → j.task p ≡ i → s ≤ j.start p → from p ≡ true
    is p a b = and_both (eqb (j.task p) i) (leb s (j.start p)) (eq-eqb (j.task p) i a) (le-leb s (j.start p) b)

    go : ((p : ℕ) → p < suc n → from p ≡ false) ⊎ ((p : ℕ) × (p < suc n) × (from p ≡ true) × ((x : ℕ) → x < p → from x ≡ false)) → Lead j i s n
    go (inl h) = clash (from n) (is n e l) (h n (omega arith))
    go (inr (m, b, h, f)) = record {
      job = m;
      job_le = omega arith;
      own = eqb-true (j.task m) i (and_left (eqb (j.task m) i) (leb s (j.start m)) h);
      not_before = leb-true s (j.start m) (and_right (eqb (j.task m) i) (leb s (j.start m)) h);
      first = λ p a d. le_by m p (λ x. clash (from p) (is p a d) (f p x));
    }

module _ (j : Jobs) (i n : ℕ) (hn : n < j.count) (own : j.task n ≡ i) (k : Latest j (upto j i n) (j.start n)) where
  -- a window whose supply is as large as the set's work in it has a later quiet tick; that is after the start of n, so n is finished there
  again : (t : ℕ) → 1 ≤ t → win j (upto j i n) k.tick t ≤ supply j k.tick t → Quiet j (upto j i n) k.tick t
  again t l h = busy j (upto j i n) (upto_down j i n) k.tick t k.quiet l (omega (arith, came_win j k.tick t (upto j i n)))

  in_set : upto j i n n ≡ true
  in_set = upto_own j i n n (omega arith) ∙ own_to_lem j i n n own (omega arith)

  by_end : (t : ℕ) → Quiet j (upto j i n) k.tick t → left_at j (k.tick + t) n ≡ 0
  by_end t q = latest_done j (upto j i n) n hn in_set k t q

  -- no quiet tick up to the start of n
  no_end : (t : ℕ) → k.tick + t ≤ j.start n → Quiet j (upto j i n) k.tick t → ⊥
  no_end t h (r, a, b, z) = k.last r a (omega arith) z

module _ (j : Jobs) (i : ℕ) (C : ℕ → ℕ) (gs c : ℕ → ℕ → ℕ) (g : ℕ → ℕ) (last : ℕ) (w : ℕ → ℕ) (b : Bounded j i C gs c) (v : Walk j i C c g last w)
    (n : ℕ) (hn : n < j.count) (own : j.task n ≡ i) (k : Latest j (upto j i n) (j.start n)) (m : Lead j i k.tick n) where
  -- places of task i, from the lead on
  abbrev at : ℕ → ℕ
  at p = place j.task i p

  -- a window that meets the demand of q, in which q own jobs come behind the lead, has a quiet tick
  meets : (q t : ℕ)
      → 1 ≤ t
      → suc q * C i + sum (λ x. C x * c x t) i ≤ supply j k.tick t
      → ((p : ℕ) → p < j.count → j.task p ≡ i → p ≤ n → m.job ≤ p → j.start p < k.tick + t → at p < at m.job + suc q)
      → Quiet j (upto j i n) k.tick t
  meets q t l h f = again j i n hn own k t l (omega (arith, win_upto j i n k.tick t, win_above j k.tick t i C gs c b, queue))
    where
      queue : win j (own_to j i n) k.tick t ≤ C i * suc q
      queue =
          win_queue j i n k.tick t (at m.job) (suc q) (C i) v.own_work
          (λ p a e d x y. (place_mono j.task i m.job p (m.first p e x), f p a e d (m.first p e x) y))

  -- few places behind the lead: n is finished in time
  short : at n - at m.job ≤ last → Done j i last w n
  short h = finish (v.met (at n - at m.job) k.tick h)
    where
      up : at m.job ≤ at n
      up = place_mono j.task i m.job n m.job_le

      finish : (t : ℕ) × (1 ≤ t) × (t ≤ w (at n - at m.job)) × (suc (at n - at m.job) * C i + sum (λ x. C x * c x t) i ≤ supply j k.tick t)
          → Done j i last w n
      finish (t, l, le, d) = record {
        q = at n - at m.job;
        q_le = h;
        lead = m.job;
        lead_le = m.job_le;
        lead_own = m.own;
        places = omega (arith, up);
        from = k.tick;
        from_le = m.not_before;
        done = left_later j (k.tick + t) (k.tick + w (at n - at m.job)) n (omega arith)
            (by_end j i n hn own k t (meets (at n - at m.job) t l d (λ p a e x y z. omega (arith, up, place_mono j.task i p n x))));
      }

  -- as many places as the walk does not look at: there would be a quiet tick between
  long : last < at n - at m.job → ⊥
  long h = finish (v.met last k.tick (omega arith))
    where
      apart : (p : ℕ) → p < j.count → j.task p ≡ i → m.job ≤ p → suc last ≤ at p - at m.job → k.tick + w last ≤ j.start p
      apart p a e x y = omega (arith, v.own_spaced m.job p less a m.own e, v.rising (suc last) (at p - at m.job) y, v.stops, m.not_before)
        where
          less : m.job < p
          less = le_by (suc m.job) p (λ z. same (le_antisymm (omega arith) x))
            where
              same : p ≡ m.job → ⊥
              same q = absurd (omega (arith, rw q at y))

      finish : (t : ℕ) × (1 ≤ t) × (t ≤ w last) × (suc last * C i + sum (λ x. C x * c x t) i ≤ supply j k.tick t) → ⊥
      finish (t, l, le, d) =
          no_end j i n hn own k t (omega (arith, apart n hn own m.job_le h))
          (meets last t l d (λ p a e x y z. le_by _ _ (λ far. omega (arith, apart p a e y (omega arith)))))

-- every job of task i is finished w q after a tick that is not after the start of the job q places before it, for some q of the walk
pub fits_core : (j : Jobs) (i : ℕ) (C : ℕ → ℕ) (gs c : ℕ → ℕ → ℕ) (g : ℕ → ℕ) (last : ℕ) (w : ℕ → ℕ)
    → Bounded j i C gs c
    → Walk j i C c g last w
    → (p : ℕ)
    → p < j.count
    → j.task p ≡ i
    → Done j i last w p
fits_core j i C gs c g last w b v n hn own = go (latest j (upto j i n) (j.start n))
  where
    split : (k : Latest j (upto j i n) (j.start n)) (m : Lead j i k.tick n)
        → (place j.task i n - place j.task i m.job ≤ last) ⊎ (last < place j.task i n - place j.task i m.job) → Done j i last w n
    split k m (inl h) = short j i C gs c g last w b v n hn own k m h
    split k m (inr h) = absurd (long j i C gs c g last w b v n hn own k m h)

    go : Latest j (upto j i n) (j.start n) → Done j i last w n
    go k = let m : Lead j i k.tick n = lead_of_lem j i k.tick n own k.before in split k m (le_or_lt _ last)
