-- Laws of the search for W(q), start by start: from a number tried it goes on at the least number of ticks among which as many as the demand just found are ours.
use Prim.Native.Nat.{ℕ, suc, ◌+◌, ◌*◌, ◌≤◌, ◌<◌, max}
use mathlib.Core.Path.{◌≡◌, refl, sym, ap, ◌∙◌}
use mathlib.Core.Option.{Option, some, none}
use native.Mathlib.Omega.{arith}
use Rattle.model.specs.Series.{sum}
use Rattle.model.specs.Limits.{horizon_tick}
use Rattle.model.specs.Frame.{Frame, ours_in}
use Rattle.model.specs.Tasks.{Tasks, load, board_of}
use Rattle.model.specs.Demand.{demand, window_from, larger, largest, window}
use Rattle.model.specs.Evaluations.{counted_at}
use Rattle.model.proofs.SupplyLaws.{supply_longer}
use Rattle.model.proofs.FrameLaws.{Ruled}
use Rattle.model.proofs.LargestLaws.{largest_none}
use Rattle.response.proofs.WindowLaws.{TooShortFrom, from_is, from_beyond}
use Rattle.frame.specs.Starts.{starts_of, start_at}
use Rattle.frame.specs.Reached.{Reached}
use Rattle.frame.proofs.ReachedLaws.{reached_all, reached_low, reached_one}
use Rattle.frame.proofs.WindowEnds.{window_ends}
use Rattle.demand.specs.Searching.{Search}
use Rattle.demand.specs.Seeking.{Counts, Seeking}
use Rattle.response.proofs.LoadSums.{Periodic}
use Rattle.demand.proofs.DemandLaws.{from_start, from_next}
use Rattle.demand.proofs.ListLaws.{search_start, search_next, found_length, over_length}

-- without a frame d ticks have d of ours
plain_reach : (s : Tasks) → s.frame ≡ none → (u d t : ℕ) → Reached (board_of s).ours u d t → t ≡ d
plain_reach s bare u d t r = reached_one (ours_in none) u d t d (rw bare at r) (reached_all (ours_in none) (λ x. refl) u d)

-- there is a start
pub some_start : (o : Option Frame) → Ruled o → 0 < starts_of o
some_start none h = omega arith
some_start (some f) h = (h f refl).count_low

-- where one more start is left there is a frame
framed_turn : {A : Type 0} (o : Option Frame) (n : ℕ) → suc n < starts_of o → o ≡ none → A
framed_turn none n l e = absurd (omega arith)
framed_turn (some f) n l e = let z : ◌≡◌ {A = ℕ} 0 1 = cc in absurd (omega arith)

module _ (s : Tasks) (k : ℕ → ℕ) (i : ℕ) (p : Periodic s i) (own : 1 ≤ load s i) (v : Ruled s.frame) (q : ℕ) where
  -- the place of start n
  abbrev from : ℕ → ℕ
  from n = start_at s.frame n

  -- the first number tried from start n
  short_from : (n t : ℕ) → Reached (board_of s).ours (from n) (suc q * load s i + sum (load s) i) t → TooShortFrom s k i q (from n) t
  short_from n t r = from_start s k i p q (from n) t r.least

  low_from : (n t : ℕ) → Reached (board_of s).ours (from n) (suc q * load s i + sum (load s) i) t → 1 ≤ t
  low_from n t r = reached_low (board_of s).ours (from n) _ t (omega (arith, own)) r

  -- at the first start
  pub seek_start : (t : ℕ) → Reached (board_of s).ours (from 0) (suc q * load s i + sum (load s) i) t → Seeking s k i q 0 0 0 t
  unfolding largest
  seek_start t r = record {
    so_far = refl;
    largest_high = omega arith;
    left = some_start s.frame v;
    low = low_from 0 t r;
    short = short_from 0 t r;
    few = omega arith;
    list = λ bare. rw (plain_reach s bare (from 0) _ t r) (search_start s k i p own q);
    uncounted = λ f e. refl;
  }

  module _ (n w m t c : ℕ) (a : Seeking s k i q n w m t) (y : Counts s c) where
    counted_framed : (f : Frame) → s.frame ≡ some f → m + c ≡ 0
    counted_framed f e = omega (arith, a.uncounted f e, y.framed f e)

    -- a number over H: there is no W(q) up to H
    module _ (h : horizon_tick < t) where
      pub seek_over : window s k i q ≡ none
      seek_over = window_ends s k i q v ∙ largest_none _ (starts_of s.frame) n a.left (from_beyond s k i q (from n) t h a.short)

      pub over_counted : m + c ≡ counted_at s k i q
      unfolding counted_at
      over_counted = go s.frame refl
        where
          go : (o : Option Frame) → s.frame ≡ o → m + c ≡ counted_at s k i q
          go none e = rw (counted_at, e, y.plain e) (sym (over_length s k i p own q m t (a.list e) h))
          go (some f) e = rw (counted_at, e) (counted_framed f e)

    module _ (l : t ≤ horizon_tick) (x : ℕ) (r : Reached (board_of s).ours (from n) (demand s k i q t) x) where
      -- the next number tried
      module _ (h : t < x) where
        next_list : s.frame ≡ none → Search s k i q (m + 1) x
        next_list bare =
            let e : x ≡ demand s k i q t = plain_reach s bare (from n) _ x r in
            rw e (search_next s k i p own q m t (a.list bare) l (omega arith))

        next_few : (o : Option Frame) → s.frame ≡ o → m + c ≤ horizon_tick
        next_few none e = omega (arith, y.plain e, (next_list e).few)
        next_few (some f) e = omega (arith, counted_framed f e)

        pub seek_next : Seeking s k i q n w (m + c) x
        seek_next = record {
          so_far = a.so_far;
          largest_high = a.largest_high;
          left = a.left;
          low = omega (arith, a.low);
          short = from_next s k i p q (from n) t x a.short r.least;
          few = next_few s.frame refl;
          list = λ bare. rw (y.plain bare) (next_list bare);
          uncounted = counted_framed;
        }

      -- the last number tried from this start is its W
      module _ (h : x ≤ t) where
        found_here : window_from s k i q (from n) ≡ some t
        found_here =
            from_is s k i q (from n) t
            (record {
              low = a.low;
              high = l;
              met = omega (arith, r.enough, supply_longer (board_of s).ours (from n) x t h);
              least = a.short;
            })

        so_far_next : largest (λ z. window_from s k i q (from z)) (suc n) ≡ some (max w t)
        unfolding largest larger
        so_far_next = rw (a.so_far, found_here)

        -- at the next start
        pub seek_turn : suc n < starts_of s.frame → (t' : ℕ) → Reached (board_of s).ours (from (suc n)) (suc q * load s i + sum (load s) i) t'
            → Seeking s k i q (suc n) (max w t) (m + c) t'
        seek_turn g t' r' = record {
          so_far = so_far_next;
          largest_high = omega (arith, a.largest_high);
          left = g;
          low = low_from (suc n) t' r';
          short = short_from (suc n) t' r';
          few = few s.frame refl;
          list = λ bare. framed_turn s.frame n g bare;
          uncounted = counted_framed;
        }
          where
            few : (o : Option Frame) → s.frame ≡ o → m + c ≤ horizon_tick
            few none e = framed_turn s.frame n g e
            few (some f) e = omega (arith, counted_framed f e)

        -- past the last start: W(q)
        module _ (g : starts_of s.frame ≤ suc n) where
          pub seek_found : window s k i q ≡ some (max w t)
          seek_found =
              let e : starts_of s.frame ≡ suc n = omega (arith, a.left) in
              window_ends s k i q v ∙ ap (largest (λ z. window_from s k i q (from z))) e ∙ so_far_next

          pub found_counted : m + c ≡ counted_at s k i q
          unfolding counted_at
          found_counted = go s.frame refl
            where
              go : (o : Option Frame) → s.frame ≡ o → m + c ≡ counted_at s k i q
              go none e =
                  rw (counted_at, e, y.plain e)
                  (sym (found_length s k i p own q m t (a.list e) (omega (arith, plain_reach s e (from n) _ x r))))
              go (some f) e = rw (counted_at, e) (counted_framed f e)
