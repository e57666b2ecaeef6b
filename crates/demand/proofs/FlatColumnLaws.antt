-- Laws of the columns: the sums step by step, the copy of a task set's columns, the factors of its periods.
use Prim.Native.Nat.{ℕ, ◌+◌, ◌*◌, ◌≤◌, ◌<◌}
use mathlib.Core.Path.{◌≡◌, refl, sym, ap, ◌∙◌}
use mathlib.Core.Option.{Option}
use mathlib.Core.List.{List}
use native.Mathlib.Omega.{arith}
use native.Mathlib.Nat.{add-zero, mul-le-mul}
use native.Mathlib.Numerals.{add-one}
use lib.ListN.{set, replicate}
use Rattle.model.specs.Series.{sum}
use Rattle.model.specs.Limits.{max_tasks, max_time, horizon_tick}
use Rattle.model.specs.Frame.{Frame}
use Rattle.model.specs.Tasks.{load, Valid}
use Rattle.model.specs.Arrival.{ceil_div, arrivals}
use Rattle.model.specs.Demand.{above_load}
use Rattle.model.specs.Choice.{column}
use Rattle.model.proofs.SlotLaws.{holds_none, holds_next}
use Rattle.taskset.specs.declared.TaskSet.{TaskSet}
use Rattle.taskset.specs.TaskSet.{view_of}
use Rattle.quotient.specs.declared.Factor.{Factor}
use Rattle.quotient.specs.Factor.{parts_of, IsFactor, Divided}
use Rattle.quotient.proofs.FactorLaws.{ceil_high}
use Rattle.demand.specs.Columns.{column_load, flat_tasks, Small, Tried, Columns, Loads, Periods, Factored, IsTerm, IsLoad, IsOnce, Copied, Prepared}
use Rattle.demand.proofs.ArrivalCountLaws.{arrivals_ceil}

-- the loads of a task set without a charge are its column
pub flat_loads : (o : Option Frame) (loads periods : List ℕ) (J D : ℕ) → load (flat_tasks o loads periods J D) ≡ column loads
flat_loads o loads periods J D = λ x j. add-zero (column loads j) x

-- the sum over the columns is the load of the tasks above
pub column_above
    : (o : Option Frame) (loads periods keeps : List ℕ) (J D n t : ℕ)
    → column_load loads periods keeps n t ≡ above_load (flat_tasks o loads periods J D) (column keeps) n t
unfolding column_load above_load
column_above o loads periods keeps J D n t =
    ap (λ f. sum (λ j. f j * arrivals (column periods j) (column keeps j) t) n) (sym (flat_loads o loads periods J D))

-- what the search meets can be divided by the period of a task
pub divided : (E P h l K x : ℕ) → Small E P K → IsFactor P h l → x ≤ horizon_tick + max_time → Divided x P h l
divided E P h l K x s f r = record { period_low = s.period_low; period_high = s.period_high; dividend = r; by = f }

-- load × arrival count stays below 64 bits
pub term_high : (E P K t : ℕ) → Small E P K → Tried t → E * ceil_div (t + K) P ≤ 12000000000000
term_high E P K t s h =
    mul-le-mul {n₂ = 1000000} {m₂ = 12000000} s.load_high (ceil_high (t + K) P (omega (arith, s.keep_high, h.high)) s.period_high)

-- and is the definition's
pub term_is : (E P K t : ℕ) → Small E P K → Tried t → IsTerm E P K t (E * ceil_div (t + K) P)
term_is E P K t s h = record { is = ap (◌*◌ E) (sym (arrivals_ceil P K t h.low)); high = term_high E P K t s h }

-- the sum of the first j terms
pub record Summed (loads periods keeps : List ℕ) (n t j r : ℕ) : Type 0 where
  pub within : j ≤ n
  pub is : r ≡ column_load loads periods keeps j t
  pub high : r ≤ 12000000000000 * j

-- no term
pub summed_none : (loads periods keeps : List ℕ) (n t : ℕ) → Summed loads periods keeps n t 0 0
unfolding column_load sum
summed_none loads periods keeps n t = record { within = omega arith; is = refl; high = omega arith }

-- one term more
pub summed_next : (loads periods keeps : List ℕ) (n t j r x : ℕ)
    → Summed loads periods keeps n t j r
    → j < n
    → IsTerm (column loads j) (column periods j) (column keeps j) t x
    → Summed loads periods keeps n t (j + 1) (r + x)
unfolding column_load sum
summed_next loads periods keeps n t j r x f l e =
    record { within = omega arith; is = rw (add-one, f.is, e.is); high = omega arith }

-- all terms
pub summed_all : (loads periods keeps : List ℕ) (n t j r : ℕ)
    → n ≤ 32
    → Summed loads periods keeps n t j r
    → n ≤ j
    → IsLoad loads periods keeps n t r
summed_all loads periods keeps n t j r few f l =
    let e : j ≡ n = omega arith in record { is = f.is ∙ ap (λ (m : ℕ). column_load loads periods keeps m t) e; high = omega arith }

-- the sum of the first j loads
pub record Once (loads : List ℕ) (n j r : ℕ) : Type 0 where
  pub within : j ≤ n
  pub is : r ≡ sum (column loads) j
  pub high : r ≤ 1000000 * j

-- the loads of columns of tasks
pub loads_of : (loads periods keeps : List ℕ) (n : ℕ) → Columns loads periods keeps n → Loads loads n
loads_of loads periods keeps n c = record { few = c.few; long = c.loads_long; high = λ j l. (c.small j l).load_high }

-- no load
pub once_none : (loads : List ℕ) (n : ℕ) → Once loads n 0 0
unfolding sum
once_none loads n = record { within = omega arith; is = refl; high = omega arith }

-- one load more
pub once_next : (loads : List ℕ) (n j r x : ℕ) → Once loads n j r → j < n → x ≡ column loads j → x ≤ 1000000 → Once loads n (j + 1) (r + x)
unfolding sum
once_next loads n j r x f l e h = record { within = omega arith; is = rw (add-one, f.is, e); high = omega arith }

-- all loads
pub once_all : (loads : List ℕ) (n j r : ℕ) → n ≤ 32 → Once loads n j r → n ≤ j → IsOnce loads n r
once_all loads n j r few f l =
    let e : j ≡ n = omega arith in record { is = f.is ∙ ap (sum (column loads)) e; high = omega arith }

-- nothing is copied
pub copied_none : (s : TaskSet) → Copied s 0 (replicate max_tasks 0) (replicate max_tasks 0)
copied_none s = record { within = omega arith; of_loads = holds_none _ _; of_periods = holds_none _ _ }

-- one task more
pub copied_next : (s : TaskSet) (loads periods : List ℕ) (j : ℕ)
    → s.count ≤ 32
    → Copied s j loads periods
    → j < s.count
    → Copied s (j + 1) (set loads j (load (view_of s) j)) (set periods j ((view_of s).period j))
copied_next s loads periods j few f l =
    record {
      within = omega arith;
      of_loads = holds_next _ _ j _ loads f.of_loads (omega arith) refl;
      of_periods = holds_next _ _ j _ periods f.of_periods (omega arith) refl;
    }

-- all tasks
pub copied_all : (s : TaskSet) (loads periods : List ℕ) (j : ℕ) → Copied s j loads periods → s.count ≤ j → Copied s s.count loads periods
copied_all s loads periods j f l = let e : j ≡ s.count = omega arith in rw e at f

-- the periods of the first i tasks of a valid sheet
pub copied_periods : (s : TaskSet) (loads periods : List ℕ) (i : ℕ) → Valid (view_of s) → Copied s s.count loads periods → i ≤ s.count → Periods periods i
copied_periods s loads periods i v f h =
    record {
      few = omega (arith, v.few_tasks);
      long = omega (arith, v.few_tasks, f.of_periods.long);
      low = λ j l. omega (arith, f.of_periods.each j (omega arith), (v.in_range_lem j (omega arith)).period_low);
    }

-- no period is prepared
pub prepared_none : (periods : List ℕ) → Prepared periods 0 (replicate max_tasks 0) (replicate max_tasks 0)
prepared_none periods = record { of_highs = holds_none _ _; of_lows = holds_none _ _ }

-- one period more
pub prepared_next : (periods highs lows : List ℕ) (j : ℕ) (m : Factor)
    → Prepared periods j highs lows
    → j < 32
    → m ≡ parts_of (column periods j)
    → Prepared periods (j + 1) (set highs j m.high) (set lows j m.low)
prepared_next periods highs lows j m f l e =
    record {
      of_highs = holds_next _ _ j m.high highs f.of_highs l (ap (λ r. r.high) e);
      of_lows = holds_next _ _ j m.low lows f.of_lows l (ap (λ r. r.low) e);
    }

-- what is prepared for n periods serves the sum over fewer tasks
pub factored : (periods highs lows : List ℕ) (n i : ℕ) → Prepared periods n highs lows → n ≤ 32 → i ≤ n → Factored periods highs lows i
factored periods highs lows n i f few h =
    record {
      highs_long = omega (arith, f.of_highs.long);
      lows_long = omega (arith, f.of_lows.long);
      each = λ j l. record { high_is = f.of_highs.each j (omega arith); low_is = f.of_lows.each j (omega arith) };
    }
