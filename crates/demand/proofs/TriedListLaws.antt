-- The list of t for one q: it rises, it ends at W(q) or over H, and its length is within the arrivals of the tasks above.
use Prim.Native.Nat.{ℕ, zero, suc, ◌+◌, ◌-◌, ◌*◌, ◌≤◌, ◌<◌}
use mathlib.Core.Path.{◌≡◌, refl, sym, ap, ◌∙◌}
use mathlib.Core.Bool.{true}
use mathlib.Core.Logic.{◌⊎◌, inl, inr}
use mathlib.Core.Option.{Option, some, none, some-injective}
use native.Mathlib.Omega.{arith}
use native.Mathlib.Numerals.{add-one}
use lib.ListN.{length, get_or}
use Rattle.model.specs.Search.{first}
use Rattle.model.specs.Series.{sum, table}
use Rattle.model.specs.Limits.{horizon_tick}
use Rattle.model.specs.Frame.{Frame}
use Rattle.model.specs.Tasks.{Tasks, Valid, load}
use Rattle.model.specs.Arrival.{arrivals}
use Rattle.model.specs.Demand.{above_load, demand, window}
use Rattle.model.specs.Verdict.{stops}
use Rattle.model.specs.Evaluations.{tried_at, ends_at, tried, taken, counted_at, evaluations}
use Rattle.model.proofs.SeriesLaws.{below_suc, le_or_lt, sum_le, sum_eq, sum_ones, sum_scale, sum_strict}
use Rattle.model.proofs.SearchLaws.{first_found}
use Rattle.model.proofs.TableLaws.{length_table, get_or_table}
use Rattle.response.proofs.ArrivalLaws.{arrivals_mono}
use Rattle.response.proofs.WindowLaws.{PlainWindow, plain_some, plain_none, plain_found}
use Rattle.demand.proofs.ArrivalCountLaws.{arrivals_some}
use Rattle.response.proofs.LoadSums.{Periodic}
use Rattle.demand.proofs.ListLaws.{demand_reaches, search_start, search_next, ends_over, ends_met, list_is, search_found, search_over}
use Rattle.demand.specs.Searching.{Search}
use Rattle.demand.specs.TriedList.{arrivals_above, member_at, last_of, TriedList, TriedLists, EvaluationsFew}

-- the arrivals of the tasks above
module _ (s : Tasks) (k : ℕ → ℕ) (i : ℕ) (p : Periodic s i) where
  -- in more ticks each of them arrives no less often
  each_rises : (t u : ℕ) → t ≤ u → (j : ℕ) → j < i → arrivals (s.period j) (k j) t ≤ arrivals (s.period j) (k j) u
  each_rises t u h j l = arrivals_mono (s.period j) (k j) (k j) t u (p j l) (omega arith) h

  -- and so do all together
  arrivals_rise : (t u : ℕ) → t ≤ u → arrivals_above s k i t ≤ arrivals_above s k i u
  arrivals_rise t u h = sum_le _ _ i (each_rises t u h)

  -- from one tick on each of them arrives once at least
  each_once : (t : ℕ) → 1 ≤ t → (j : ℕ) → j < i → 1 ≤ arrivals (s.period j) (k j) t
  each_once t h j l = arrivals_some _ _ t (p j l) h

  -- and so they are as many as the tasks
  arrivals_once : (t : ℕ) → 1 ≤ t → i ≤ arrivals_above s k i t
  arrivals_once t h = rw (sum_ones i) at (sum_le _ _ i (each_once t h))

  -- a demand over one job of each task above comes from more arrivals than one of each
  arrivals_second : (q t : ℕ) → 1 ≤ t → suc q * load s i + sum (load s) i < demand s k i q t → i < arrivals_above s k i t
  unfolding demand above_load
  arrivals_second q t h l =
      let ones : sum (load s) i ≡ sum (λ j. load s j * 1) i = sum_eq _ _ i (λ j b. omega arith) in
      rw (sum_ones i) at (sum_strict (load s) _ _ i (each_once t h) (omega arith))

  -- a larger demand comes from more arrivals
  arrivals_more : (q t u : ℕ) → t ≤ u → demand s k i q t < demand s k i q u → arrivals_above s k i t < arrivals_above s k i u
  unfolding demand above_load
  arrivals_more q t u h l = sum_strict (load s) _ _ i (each_rises t u h) (omega arith)

-- a member after which the list goes on: it is within H, and the demand in it is not met
record Passed (s : Tasks) (k : ℕ → ℕ) (i q x : ℕ) : Type 0 where
  pub within : tried_at s k i q x ≤ horizon_tick
  pub unmet : tried_at s k i q x < demand s k i q (tried_at s k i q x)

-- the search has come to member m, past all before it
record Reached (s : Tasks) (k : ℕ → ℕ) (i q m : ℕ) : Type 0 where
  pub search : Search s k i q m (tried_at s k i q m)
  pub passed : (x : ℕ) → x < m → Passed s k i q x

-- a member that ends the list: it is over H, or the demand in it is met
abbrev Ends : Tasks → (ℕ → ℕ) → ℕ → ℕ → ℕ → Type 0
Ends s k i q t = (horizon_tick < t) ⊎ ((t ≤ horizon_tick) × (demand s k i q t ≤ t))

-- where the list ends: its last member is at place m
record Ended (s : Tasks) (k : ℕ → ℕ) (i q : ℕ) : Type 0 where
  pub m : ℕ
  pub reached : Reached s k i q m
  pub ends : Ends s k i q (tried_at s k i q m)

module _ (s : Tasks) (k : ℕ → ℕ) (i : ℕ) (p : Periodic s i) (e : 1 ≤ load s i) (q : ℕ) where
  -- the search comes to the first member
  reached_start : Reached s k i q 0
  unfolding tried_at
  reached_start = record { search = search_start s k i p e q; passed = λ x l. absurd (omega arith) }

  -- and from one that is passed to the next
  reached_next : (m : ℕ) → Reached s k i q m → Passed s k i q m → Reached s k i q (suc m)
  unfolding tried_at
  reached_next m r g = record {
    search = rw add-one at (search_next s k i p e q m _ r.search g.within g.unmet);
    passed = λ x l. passed_next x (below_suc x m l);
  }
    where
      passed_next : (x : ℕ) → (x < m) ⊎ (x ≡ m) → Passed s k i q x
      passed_next x (inl l) = r.passed x l
      passed_next x (inr d) = rw d g

  -- from member m on the list ends within n members where m + n is over H
  ended_from : (n m : ℕ) → Reached s k i q m → horizon_tick < n + m → Ended s k i q
  ended_from zero m r h = absurd (omega (arith, r.search.few))
  ended_from (suc n) m r h = go (le_or_lt t horizon_tick) (le_or_lt (demand s k i q t) t) (λ g. ended_from n (suc m) (reached_next m r g) (omega arith))
    where
      t : ℕ
      t = tried_at s k i q m

      go : (t ≤ horizon_tick) ⊎ (horizon_tick < t) → (demand s k i q t ≤ t) ⊎ (t < demand s k i q t) → (Passed s k i q m → Ended s k i q) → Ended s k i q
      go (inr over) d next = record { m = m; reached = r; ends = inl over }
      go (inl low) (inl met) next = record { m = m; reached = r; ends = inr (low, met) }
      go (inl low) (inr unmet) next = next (record { within = low; unmet = unmet })

  -- and so it ends
  list_ends : Ended s k i q
  list_ends = ended_from (suc horizon_tick) 0 reached_start (omega arith)

  -- in a member that is passed there are more arrivals than tasks above and members before it together
  arrivals_passed : (x : ℕ) → ((y : ℕ) → y ≤ x → Passed s k i q y) → x + i < arrivals_above s k i (tried_at s k i q x)
  unfolding tried_at
  arrivals_passed zero g = omega (arith, arrivals_second s k i p q (tried_at s k i q 0) reached_start.search.low (g 0 (omega arith)).unmet)
  arrivals_passed (suc x) g =
      omega (
        arith,
        arrivals_passed x (λ y l. g y (omega arith)),
        arrivals_more s k i p q (tried_at s k i q x) _ (omega (arith, (g x (omega arith)).unmet)) (g (suc x) (omega arith)).unmet,
      )

  -- in the member that is reached they are no fewer
  arrivals_reached : (m : ℕ) → Reached s k i q m → m + i ≤ arrivals_above s k i (tried_at s k i q m)
  unfolding tried_at
  arrivals_reached zero r = omega (arith, arrivals_once s k i p (tried_at s k i q 0) r.search.low)
  arrivals_reached (suc x) r =
      omega (
        arith,
        arrivals_passed x (λ y l. r.passed y (omega arith)),
        arrivals_rise s k i p (tried_at s k i q x) (tried_at s k i q (suc x)) (omega (arith, (r.passed x (omega arith)).unmet)),
      )

  -- the list whose last member is at place m
  module _ (bare : s.frame ≡ none) (m : ℕ) (r : Reached s k i q m) (d : Ends s k i q (tried_at s k i q m)) where
    -- it is the table of the m + 1 members
    list_table : tried s k i q ≡ table (tried_at s k i q) (suc m)
    list_table = list_is s k i p e q m _ r.search (go d)
      where
        go : Ends s k i q (tried_at s k i q m) → ends_at s k i q m ≡ true
        go (inl over) = ends_over s k i p e q m _ r.search over
        go (inr within) = ends_met s k i p e q m _ r.search within.1

    -- its length
    list_length : length (tried s k i q) ≡ suc m
    list_length = ap length list_table ∙ length_table (tried_at s k i q) (suc m)

    -- its members
    member_is : (x : ℕ) → x < length (tried s k i q) → member_at s k i q x ≡ tried_at s k i q x
    member_is x h = ap (λ a. get_or a x 0) list_table ∙ get_or_table (tried_at s k i q) 0 (suc m) x (omega (arith, list_length))

    -- a member with a next one is passed
    member_passed : (x : ℕ) → suc x < length (tried s k i q) → Passed s k i q x
    member_passed x h = r.passed x (omega (arith, list_length))

    -- its last member
    last_is : last_of s k i q ≡ tried_at s k i q m
    last_is = let g : length (tried s k i q) - 1 ≡ m = omega (arith, list_length) in rw g (member_is m (omega (arith, list_length)))

    -- is W(q) where there is one up to H
    last_found : (w : ℕ) → window s k i q ≡ some w → tried_at s k i q m ≡ w
    last_found w h = go d
      where
        go : Ends s k i q (tried_at s k i q m) → tried_at s k i q m ≡ w
        go (inl over) =
            let g : none ≡ some w = sym (search_over s k i p e q m _ r.search bare over) ∙ h in
            let z : ◌≡◌ {A = ℕ} 0 1 = cc in absurd (omega arith)
        go (inr within) =
            some-injective _ _ (sym (plain_found s k i bare q _ (search_found s k i p e q m _ r.search within.0 within.1)) ∙ h)

    -- with a demand that equals it
    last_met : (w : ℕ) → window s k i q ≡ some w → demand s k i q w ≡ w
    last_met w h =
        let f : PlainWindow s k i q w = plain_some s k i bare q w h in omega (arith, f.met, demand_reaches s k i p e q w f.least)

    -- and over H where there is none
    last_over : window s k i q ≡ none → horizon_tick < tried_at s k i q m
    last_over h = go d
      where
        go : Ends s k i q (tried_at s k i q m) → horizon_tick < tried_at s k i q m
        go (inl over) = over
        go (inr within) = absurd (omega (arith, within.1, plain_none s k i bare q h _ (omega (arith, r.search.low)) within.0))

    -- all that is promised of it
    list_holds : TriedList s k i q
    unfolding tried_at
    list_holds = record {
      some_there = omega (arith, list_length);
      starts = member_is 0 (omega (arith, list_length));
      next = λ x h. member_is (suc x) h ∙ ap (demand s k i q) (sym (member_is x (omega arith)));
      within = λ x h. rw (member_is x (omega arith)) (member_passed x h).within;
      rises = λ x h. rw (member_is x (omega arith), member_is (suc x) h) (member_passed x h).unmet;
      found = λ w h. (last_is ∙ last_found w h, last_met w h);
      over = λ h. rw last_is (last_over h);
      short = λ w h. omega (arith, list_length, rw (last_found w h) at (arrivals_reached m r));
      few = omega (arith, list_length, r.search.few);
    }

-- so it is for every task of a sheet within its limits: its load and the periods of the tasks above are at least 1
pub tried_list : TriedLists
tried_list s v bare k i h q =
    let l : Ended s k i q = list_ends s k i periodic own_load q in list_holds s k i periodic own_load q bare l.m l.reached l.ends
  where
    periodic : Periodic s i
    periodic j l = (v.in_range_lem j (omega arith)).period_low

    own_load : 1 ≤ load s i
    own_load = omega (arith, (v.in_range_lem i h).cost_low)

-- a verdict takes at most H + 1 values of q
taken_few : (s : Tasks) (k : ℕ → ℕ) (i : ℕ) → taken s k i ≤ suc horizon_tick
unfolding taken
taken_few s k i = go (first (stops s k i) (suc horizon_tick) 0) refl
  where
    go : (o : Option ℕ) → first (stops s k i) (suc horizon_tick) 0 ≡ o → taken s k i ≤ suc horizon_tick
    go none h = rw (taken, h) (omega arith)
    go (some q) h = rw (taken, h) (first_found (stops s k i) (suc horizon_tick) 0 q h).high

-- of each of them at most H + 1 members count
counted_few : (s : Tasks) → Valid s → (k : ℕ → ℕ) (i : ℕ) → i < s.count → (q : ℕ) → counted_at s k i q ≤ suc horizon_tick
unfolding counted_at
counted_few s v k i h q = go s.frame refl
  where
    go : (o : Option Frame) → s.frame ≡ o → counted_at s k i q ≤ suc horizon_tick
    go none e = rw (counted_at, e) (tried_list s v e k i h q).few
    go (some f) e = rw (counted_at, e) (omega arith)

pub evaluations_few : EvaluationsFew
unfolding evaluations
evaluations_few s v k i h =
    omega (
      arith,
      sum_scale (counted_at s k i) (λ q. 1) (suc horizon_tick) (taken s k i) (λ q l. omega (arith, counted_few s v k i h q)),
      sum_ones (taken s k i),
      taken_few s k i,
    )
