-- What a window says: from every tick on the demand is met within W(q) ticks, and from some tick on in no fewer.
use Prim.Native.Nat.{ℕ, suc, ◌%◌, ◌≤◌, ◌<◌}
use mathlib.Core.Path.{◌≡◌, refl, sym, ap, ◌∙◌}
use mathlib.Core.Option.{Option, some, none}
use native.Mathlib.Omega.{arith}
use native.Mathlib.Nat.{mul-le-mul_left, mod-lt}
use borrow.Author.Tests.{leb-true, leb-false, le-leb, lt-leb}
use Rattle.model.specs.Limits.{horizon_tick}
use Rattle.model.specs.Frame.{ours_in, turn_of, supply}
use Rattle.model.specs.Tasks.{Tasks, load, board_of, our_ticks}
use Rattle.model.specs.Demand.{demand, meets, window_from, larger, largest, window}
use Rattle.model.proofs.SearchLaws.{Found, first_found, first_nothing, first_is, first_none}
use Rattle.model.proofs.LargestLaws.{IsLargest, largest_found, largest_missing}
use Rattle.model.proofs.SupplyLaws.{supply_high, supply_all}
use Rattle.model.proofs.FrameLaws.{Ruled, turn_low, supply_place}

-- t is W for the start u: the least t from 1 to H whose demand is at most our ticks among the t from u on
pub record WindowFrom (s : Tasks) (k : ℕ → ℕ) (i q u t : ℕ) : Type 0 where
  pub low : 1 ≤ t
  pub high : t ≤ horizon_tick
  pub met : demand s k i q t ≤ our_ticks s u t
  pub least : (x : ℕ) → 1 ≤ x → x < t → our_ticks s u x < demand s k i q x

-- every number of ticks from 1 to below t is too short from u on: the demand in it is over our ticks
abbrev pub TooShortFrom : Tasks → (ℕ → ℕ) → ℕ → ℕ → ℕ → ℕ → Type 0
TooShortFrom s k i q u t = (x : ℕ) → 1 ≤ x → x < t → our_ticks s u x < demand s k i q x

-- w is W(q)
pub record Window (s : Tasks) (k : ℕ → ℕ) (i q w : ℕ) : Type 0 where
  pub low : 1 ≤ w
  pub high : w ≤ horizon_tick
  -- from every tick on the demand is met within w ticks
  pub met : (u : ℕ) → (t : ℕ) × (1 ≤ t) × (t ≤ w) × (demand s k i q t ≤ our_ticks s u t)
  -- and from some tick of the frame on in no fewer
  pub worst : ℕ
  pub in_turn : worst < (board_of s).turn
  pub least : (t : ℕ) → 1 ≤ t → t < w → our_ticks s worst t < demand s k i q t

module _ (s : Tasks) (k : ℕ → ℕ) (i q : ℕ) where
  -- W for a start, where there is one up to H
  pub from_some : (u t : ℕ) → window_from s k i q u ≡ some t → WindowFrom s k i q u t
  unfolding window_from meets
  from_some u t h = go (first_found (meets s k i q u) horizon_tick 1 t h)
    where
      go : Found (meets s k i q u) horizon_tick 1 t → WindowFrom s k i q u t
      go f = record {
        low = f.low;
        high = omega arith;
        met = leb-true _ _ f.holds;
        least = λ x a b. leb-false _ _ (f.before x a b);
      }

  -- and back
  pub from_is : (u t : ℕ) → WindowFrom s k i q u t → window_from s k i q u ≡ some t
  unfolding window_from meets
  from_is u t f =
      first_is (meets s k i q u) horizon_tick 1 t
      (record {
        holds = le-leb _ _ f.met;
        low = f.low;
        high = omega arith;
        before = λ x l h. lt-leb _ _ (f.least x l h);
      })

  -- there is none where every t up to H is too short
  pub from_beyond : (u t : ℕ) → horizon_tick < t → TooShortFrom s k i q u t → window_from s k i q u ≡ none
  unfolding window_from meets
  from_beyond u t h f = first_none (meets s k i q u) horizon_tick 1 (λ x l g. lt-leb _ _ (f x l (omega arith)))

  -- and where there is none every t up to H is too short
  pub from_none : (u : ℕ) → window_from s k i q u ≡ none → (t : ℕ) → 1 ≤ t → t ≤ horizon_tick → our_ticks s u t < demand s k i q t
  unfolding window_from meets
  from_none u h t a b = leb-false _ _ (first_nothing (meets s k i q u) horizon_tick 1 h t a (omega arith))

module _ (s : Tasks) (k : ℕ → ℕ) (i : ℕ) where
  -- W(q), where there is one up to H
  pub window_some : Ruled s.frame → (q w : ℕ) → window s k i q ≡ some w → Window s k i q w
  unfolding window
  window_some v q w h = go (largest_found (window_from s k i q) (board_of s).turn w (turn_low s.frame v) h)
    where
      go : IsLargest (window_from s k i q) (board_of s).turn w → Window s k i q w
      go r = record {
        low = worst.low;
        high = worst.high;
        met = met;
        worst = r.at;
        in_turn = r.at_low;
        least = worst.least;
      }
        where
          worst : WindowFrom s k i q r.at w
          worst = from_some s k i q r.at w r.is

          met : (u : ℕ) → (t : ℕ) × (1 ≤ t) × (t ≤ w) × (demand s k i q t ≤ our_ticks s u t)
          met u =
              let e = r.each (u % (board_of s).turn) (mod-lt u {m = (board_of s).turn} (turn_low s.frame v)) in
              let f : WindowFrom s k i q (u % (board_of s).turn) e.0 = from_some s k i q (u % (board_of s).turn) e.0 e.1 in
              (e.0, f.low, e.2, omega (arith, f.met, supply_place s.frame u e.0))

  -- where there is none up to H no demand is met there, from some tick on
  pub window_none : (q : ℕ) → window s k i q ≡ none → (u : ℕ) × ((t : ℕ) → 1 ≤ t → t ≤ horizon_tick → our_ticks s u t < demand s k i q t)
  unfolding window
  window_none q h = let r = largest_missing (window_from s k i q) (board_of s).turn h in (r.0, from_none s k i q r.0 r.2)

  -- W(q) is over q
  pub window_over : Ruled s.frame → (q w : ℕ) → 1 ≤ load s i → window s k i q ≡ some w → q < w
  unfolding demand
  window_over v q w e h =
      let g : Window s k i q w = window_some v q w h in
      let m = g.met 0 in
      omega (arith, m.2, m.3, supply_high (board_of s).ours 0 m.0, mul-le-mul_left (suc q) e)

-- without a frame: w is the least t from 1 to H whose demand is met in t ticks
pub record PlainWindow (s : Tasks) (k : ℕ → ℕ) (i q w : ℕ) : Type 0 where
  pub low : 1 ≤ w
  pub high : w ≤ horizon_tick
  pub met : demand s k i q w ≤ w
  pub least : (t : ℕ) → 1 ≤ t → t < w → t < demand s k i q t

-- every tick is ours
pub plain_ticks : (s : Tasks) → s.frame ≡ none → (u t : ℕ) → our_ticks s u t ≡ t
plain_ticks s e u t = ap (λ o. supply (ours_in o) u t) e ∙ supply_all (ours_in none) (λ x. refl) u t

module _ (s : Tasks) (k : ℕ → ℕ) (i : ℕ) (bare : s.frame ≡ none) where
  -- W(q) is W for the one start
  plain_window : (q : ℕ) → window s k i q ≡ window_from s k i q 0
  unfolding window largest larger
  plain_window q = ap (λ o. largest (window_from s k i q) (turn_of o)) bare ∙ alone (window_from s k i q 0)
    where
      alone : (o : Option ℕ) → larger (some 0) o ≡ o
      alone none = refl
      alone (some a) = ap some (omega arith)

  pub plain_found : (q w : ℕ) → PlainWindow s k i q w → window s k i q ≡ some w
  plain_found q w f =
      plain_window q
      ∙ from_is s k i q 0 w
      (record {
        low = f.low;
        high = f.high;
        met = omega (arith, f.met, plain_ticks s bare 0 w);
        least = λ x a b. omega (arith, f.least x a b, plain_ticks s bare 0 x);
      })

  pub plain_some : (q w : ℕ) → window s k i q ≡ some w → PlainWindow s k i q w
  plain_some q w h = go (from_some s k i q 0 w (sym (plain_window q) ∙ h))
    where
      go : WindowFrom s k i q 0 w → PlainWindow s k i q w
      go f = record {
        low = f.low;
        high = f.high;
        met = omega (arith, f.met, plain_ticks s bare 0 w);
        least = λ x a b. omega (arith, f.least x a b, plain_ticks s bare 0 x);
      }

  pub plain_none : (q : ℕ) → window s k i q ≡ none → (t : ℕ) → 1 ≤ t → t ≤ horizon_tick → t < demand s k i q t
  plain_none q h t a b = omega (arith, from_none s k i q 0 (sym (plain_window q) ∙ h) t a b, plain_ticks s bare 0 t)

  pub plain_beyond : (q t : ℕ) → horizon_tick < t → ((x : ℕ) → 1 ≤ x → x < t → x < demand s k i q x) → window s k i q ≡ none
  plain_beyond q t h f = plain_window q ∙ from_beyond s k i q 0 t h (λ x a b. omega (arith, f x a b, plain_ticks s bare 0 x))
