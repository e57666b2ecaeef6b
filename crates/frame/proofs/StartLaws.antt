-- Which starts matter: from the end of some window no more of any number of ticks are ours than from a given start.
use Prim.Native.Nat.{ℕ, zero, suc, ◌+◌, ◌-◌, ◌%◌, ◌≤◌, ◌<◌}
use mathlib.Core.Path.{◌≡◌, refl}
use mathlib.Core.Bool.{Bool, true, false}
use mathlib.Core.Option.{Option, some, none}
use native.Mathlib.Omega.{arith}
use native.Mathlib.Nat.{mod-lt}
use Rattle.model.specs.Frame.{Frame, InRules, in_window, in_some, ours_in, turn_of, supply}
use Rattle.model.specs.SameTasks.{SameFrame}
use Rattle.model.proofs.SeriesLaws.{on_true, on_false, on_le}
use Rattle.model.proofs.SupplyLaws.{supply_same, supply_next, supply_first, supply_all}
use Rattle.model.proofs.FrameLaws.{Ruled, ours_place, supply_place, supply_later, ours_in_lem}
use Rattle.frame.specs.Starts.{start_at, starts_of}
use Rattle.frame.proofs.WindowLaws.{window_low, window_high, some_which}

module _ (ours : ℕ → Bool) where
  -- from the tick after one of ours there are no more
  start_ours : (u t : ℕ) → ours u ≡ true → supply ours (suc u) t ≤ supply ours u t
  start_ours u t h = omega (arith, supply_first ours u t, supply_next ours u t, on_true (ours u) 1 h, on_le (ours (u + t)) 1)

  -- and from the tick after another there are no fewer
  start_after : (u t : ℕ) → ours u ≡ false → supply ours u t ≤ supply ours (suc u) t
  start_after u t h = omega (arith, supply_first ours u t, supply_next ours u t, on_false (ours u) 1 h)

  -- from the end of ticks that are all ours there are no more
  start_run : (u n t : ℕ) → ((m : ℕ) → m < n → ours (u + m) ≡ true) → supply ours (u + n) t ≤ supply ours u t
  start_run u zero t h = let e : u + 0 ≡ u = omega arith in rw e (omega arith)
  start_run u (suc n) t h =
      let e : u + suc n ≡ suc (u + n) = omega arith in
      rw e (omega (arith, start_run u n t (λ m l. h m (omega arith)), start_ours (u + n) t (h n (omega arith))))

-- a start that W(q) needs, from which for every number of ticks no more are ours than from u
pub record Dominated (o : Option Frame) (u : ℕ) : Type 0 where
  pub which : ℕ
  pub known : which < starts_of o
  pub below : (t : ℕ) → supply (ours_in o) (start_at o which) t ≤ supply (ours_in o) u t

module _ (f : Frame) (v : InRules f) where
  -- from the end of a window
  supply_end : (k t : ℕ) → supply (ours_in (some f)) (start_at (some f) k) t ≡ supply (ours_in (some f)) (f.first k + f.size k) t
  supply_end k t = supply_place (some f) (f.first k + f.size k) t

  -- a start in a window or at its end
  dominated_in
      : (k x t : ℕ) → k < f.count → f.first k ≤ x → x ≤ f.first k + f.size k
      → supply (ours_in (some f)) (start_at (some f) k) t ≤ supply (ours_in (some f)) x t
  dominated_in k x t l a b =
      let e : x + (f.first k + f.size k - x) ≡ f.first k + f.size k = omega arith in
      let r : supply (ours_in (some f)) (f.first k + f.size k) t ≤ supply (ours_in (some f)) x t =
      rw e at (start_run (ours_in (some f)) x (f.first k + f.size k - x) t (λ m h. ours_in_lem f v k (x + m) l (omega arith) (omega arith))) in
      omega (arith, supply_end k t, r)

  -- the start after a place in the frame
  supply_suc : (x t : ℕ) → supply (ours_in (some f)) (suc (x % f.ticks)) t ≡ supply (ours_in (some f)) (suc x) t
  supply_suc x t =
      supply_same (ours_in (some f)) (ours_in (some f)) (suc (x % f.ticks)) (suc x) t
      (λ n. let e : suc (x % f.ticks) + n ≡ x % f.ticks + suc n = omega arith in
      let g : suc x + n ≡ x + suc n = omega arith in rw (e, g) (ours_place (some f) x (suc n)))

  -- the start after a tick of ours
  after_ours : (x : ℕ) → in_some f f.count (x % f.ticks) ≡ true → Dominated (some f) (suc x)
  after_ours x h =
      let r : (k : ℕ) × (k < f.count) × (in_window f k (x % f.ticks) ≡ true) = some_which f f.count (x % f.ticks) h in
      record {
        which = r.0;
        known = r.1;
        below = λ t. omega (
          arith,
          supply_suc x t,
          dominated_in r.0 (suc (x % f.ticks)) t r.1
              (omega (arith, window_low f r.0 (x % f.ticks) r.2)) (omega (arith, window_high f r.0 (x % f.ticks) r.2)),
        );
      }

  -- from a start to the next
  dominated_next : (x : ℕ) → Dominated (some f) x → Dominated (some f) (suc x)
  dominated_next x d = go (in_some f f.count (x % f.ticks)) refl
    where
      go : (b : Bool) → in_some f f.count (x % f.ticks) ≡ b → Dominated (some f) (suc x)
      go true e = after_ours x e
      go false e =
          record { which = d.which; known = d.known; below = λ t. omega (arith, d.below t, start_after (ours_in (some f)) x t e) }

  -- from the end of a window on
  dominated_from : (k j : ℕ) → k < f.count → Dominated (some f) (f.first k + f.size k + j)
  dominated_from k zero l =
      let e : f.first k + f.size k + 0 ≡ f.first k + f.size k = omega arith in
      rw e (record { which = k; known = l; below = λ t. omega (arith, supply_end k t) })
  dominated_from k (suc j) l =
      let e : f.first k + f.size k + suc j ≡ suc (f.first k + f.size k + j) = omega arith in
      rw e (dominated_next (f.first k + f.size k + j) (dominated_from k j l))

  in_frame : (u : ℕ) → Dominated (some f) u
  in_frame u =
      let l : f.first 0 + f.size 0 ≤ f.ticks = v.inside 0 v.count_low in
      let e : f.first 0 + f.size 0 + (u + f.ticks - (f.first 0 + f.size 0)) ≡ u + f.ticks = omega arith in
      let d : Dominated (some f) (u + f.ticks) = rw e at (dominated_from 0 (u + f.ticks - (f.first 0 + f.size 0)) v.count_low) in
      record { which = d.which; known = d.known; below = λ t. omega (arith, d.below t, supply_later (some f) u t) }

-- every start
pub dominated : (o : Option Frame) → Ruled o → (u : ℕ) → Dominated o u
dominated none h u =
    record {
      which = 0;
      known = omega arith;
      below = λ t. omega (arith, supply_all (ours_in none) (λ x. refl) 0 t, supply_all (ours_in none) (λ x. refl) u t);
    }
dominated (some f) h u = in_frame f (h f refl) u

-- these starts are places in the frame
pub start_in_lem : (o : Option Frame) → Ruled o → (k : ℕ) → start_at o k < turn_of o
start_in_lem none h k = omega arith
start_in_lem (some f) h k = mod-lt (f.first k + f.size k) {m = f.ticks} (h f refl).ticks_low

-- frames with the same windows below the count have the same starts
pub starts_same : (o p : Option Frame) → SameFrame o p → starts_of o ≡ starts_of p
starts_same none none h = refl
starts_same none (some g) h = absurd h
starts_same (some f) none h = absurd h
starts_same (some f) (some g) h = h.count

pub start_same : (o p : Option Frame) → SameFrame o p → (k : ℕ) → k < starts_of o → start_at o k ≡ start_at p k
start_same none none h k l = refl
start_same none (some g) h k l = absurd h
start_same (some f) none h k l = absurd h
start_same (some f) (some g) h k l = λ z. (h.first k l z + h.size k l z) % h.ticks z
