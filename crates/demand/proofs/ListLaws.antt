-- Laws of the list of t for one q: every search for W(q) follows it.
use Prim.Native.Nat.{ℕ, suc, ◌+◌, ◌-◌, ◌*◌, ◌≤◌, ◌<◌}
use mathlib.Core.Path.{◌≡◌, refl}
use mathlib.Core.Bool.{true, false, or-true}
use mathlib.Core.Logic.{◌⊎◌, inl, inr, dite}
use mathlib.Core.Option.{some, none}
use native.Mathlib.Omega.{arith}
use native.Mathlib.Numerals.{add-one}
use native.Mathlib.Decide.{dec_lt}
use borrow.Author.Tests.{lt-ltb, le-ltb, eq-eqb, ne_eqb}
use lib.Dec.{eqb}
use lib.ListN.{length}
use Rattle.model.specs.Search.{first}
use Rattle.model.specs.Series.{sum, table}
use Rattle.model.specs.Limits.{horizon_tick}
use Rattle.model.specs.Tasks.{Tasks, load}
use Rattle.model.specs.Demand.{demand, window}
use Rattle.model.specs.Evaluations.{tried_at, ends_at, tried}
use Rattle.model.proofs.SearchLaws.{first_is}
use Rattle.model.proofs.SeriesLaws.{below_suc}
use Rattle.model.proofs.TableLaws.{length_table}
use Rattle.response.proofs.WindowLaws.{PlainWindow, plain_beyond}
use Rattle.response.proofs.LoadSums.{Periodic}
use Rattle.demand.proofs.DemandLaws.{demand_mono, demand_own, short_start, short_next}
use Rattle.demand.specs.Searching.{TooShort, Search}

module _ (s : Tasks) (k : ℕ → ℕ) (i : ℕ) (p : Periodic s i) (e : 1 ≤ load s i) where
  -- where every t below is too short, the demand is not below t
  pub demand_reaches : (q t : ℕ) → TooShort s k i q t → t ≤ demand s k i q t
  demand_reaches q t f =
      dite (dec_lt 1 t)
      (λ l. omega (arith, f (t - 1) (omega arith) (omega arith), demand_mono s k i p q (t - 1) t (omega arith)))
      (λ l. omega (arith, demand_own s k i q t))

  -- the first member
  pub search_start : (q : ℕ) → Search s k i q 0 (suc q * load s i + sum (load s) i)
  unfolding tried_at
  search_start q = record {
    member = refl;
    passed = λ x l. absurd (omega arith);
    few = omega arith;
    low = omega arith;
    short = short_start s k i p q;
  }

  module _ (q m t : ℕ) (f : Search s k i q m t) where
    -- a t over H ends the list
    pub ends_over : horizon_tick < t → ends_at s k i q m ≡ true
    unfolding ends_at
    ends_over h = rw (ends_at, ← f.member, lt-ltb horizon_tick t h) (or-true (eqb (tried_at s k i q (suc m)) t))

    -- and so does a t whose demand is met
    pub ends_met : demand s k i q t ≤ t → ends_at s k i q m ≡ true
    unfolding ends_at tried_at
    ends_met h = rw (ends_at, ← f.member, eq-eqb (demand s k i q t) t (omega (arith, demand_reaches q t f.short)))

    -- no other
    goes_on : t ≤ horizon_tick → t < demand s k i q t → ends_at s k i q m ≡ false
    unfolding ends_at tried_at
    goes_on l h = rw (ends_at, ← f.member, ne_eqb (demand s k i q t) t (λ d. omega arith), le-ltb horizon_tick t l)

    -- the next member is the demand in t
    pub search_next : t ≤ horizon_tick → t < demand s k i q t → Search s k i q (m + 1) (demand s k i q t)
    unfolding tried_at
    search_next l h = record {
      member = rw (add-one, ← f.member);
      passed = λ x g. passed_next x (below_suc x m (omega arith));
      few = omega (arith, f.low);
      low = omega (arith, f.low);
      short = short_next s k i p q t f.short;
    }
      where
        passed_next : (x : ℕ) → (x < m) ⊎ (x ≡ m) → ends_at s k i q x ≡ false
        passed_next x (inl g) = f.passed x g
        passed_next x (inr d) = rw d (goes_on l h)

    -- the list where it ends at t
    pub list_is : ends_at s k i q m ≡ true → tried s k i q ≡ table (tried_at s k i q) (suc m)
    unfolding tried
    list_is h =
        let d : first (ends_at s k i q) (suc horizon_tick) 0 ≡ some m =
        first_is (ends_at s k i q) (suc horizon_tick) 0 m
        (record { holds = h; low = omega arith; high = omega (arith, f.few); before = λ x a b. f.passed x b }) in
        rw (tried, d)

    ended : ends_at s k i q m ≡ true → length (tried s k i q) ≡ m + 1
    ended h = rw (list_is h, length_table (tried_at s k i q) (suc m)) (omega arith)

    -- the last member is W(q) where its demand is met
    pub search_found : t ≤ horizon_tick → demand s k i q t ≤ t → PlainWindow s k i q t
    search_found l h = record { low = omega (arith, f.low); high = l; met = h; least = f.short }

    pub found_length : demand s k i q t ≤ t → length (tried s k i q) ≡ m + 1
    found_length h = ended (ends_met h)

    -- and there is none up to H where it is over H
    pub search_over : s.frame ≡ none → horizon_tick < t → window s k i q ≡ none
    search_over bare h = plain_beyond s k i bare q t h f.short

    pub over_length : horizon_tick < t → length (tried s k i q) ≡ m + 1
    over_length h = ended (ends_over h)
