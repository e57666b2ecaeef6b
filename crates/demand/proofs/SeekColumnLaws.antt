-- The search for W(q), start by start, over the columns of a task and of those above it.
use Prim.Native.Nat.{ℕ, suc, ◌+◌, ◌*◌, ◌≤◌, ◌<◌, max}
use mathlib.Core.Path.{◌≡◌, refl, sym, ap, ap₂, ◌∙◌}
use mathlib.Core.Bool.{Bool, true, false}
use mathlib.Core.Option.{Option, some, none}
use mathlib.Core.List.{List}
use native.Mathlib.Omega.{arith}
use native.Mathlib.Nat.{add-zero, mul-le-mul}
use native.Mathlib.Numerals.{add-one}
use Rattle.model.specs.Series.{sum}
use Rattle.model.specs.Limits.{horizon_tick}
use Rattle.model.specs.Frame.{Frame, ours_in, turn_of}
use Rattle.model.specs.Tasks.{Tasks, load}
use Rattle.model.specs.Choice.{column}
use Rattle.model.specs.Demand.{demand, window}
use Rattle.model.specs.Evaluations.{counted_at}
use Rattle.model.proofs.FrameLaws.{Ruled}
use Rattle.frame.specs.Starts.{starts_of, start_at}
use Rattle.frame.specs.Reached.{Reached}
use Rattle.frame.specs.WindowColumns.{column_frame, FrameColumns, IsWithin, Begins}
use Rattle.frame.proofs.StartLaws.{start_in_lem}
use Rattle.frame.proofs.ColumnLaws.{ruled_columns}
use Rattle.demand.specs.Columns.{flat_tasks, Searchable, IsLoad, IsOnce}
use Rattle.demand.specs.Seeking.{Counts, tally_of, Seeking}
use Rattle.demand.proofs.FlatColumnLaws.{flat_loads, column_above}
use Rattle.response.proofs.LoadSums.{Periodic}
use Rattle.demand.proofs.SeekLaws as seek

module _ (o : Option Frame) (loads periods keeps : List ℕ) (i J D : ℕ) (c : Searchable loads periods keeps i) (v : Ruled o) where
  abbrev flat : Tasks
  flat = flat_tasks o loads periods J D

  pub periodic : Periodic flat i
  periodic j l = (c.above.small j l).period_low

  pub own_load : 1 ≤ load flat i
  own_load = omega (arith, c.cost_low)

  module _ (q own : ℕ) (few : q ≤ horizon_tick) (is-own : own ≡ (q + 1) * column loads i) where
    -- the jobs of the task itself stay far below 64 bits
    pub own_high : own ≤ 10000001000000
    own_high = omega (arith, mul-le-mul {n₁ = q + 1} {n₂ = 10000001} {m₂ = 1000000} (omega arith) c.cost_high)

    own_suc : own ≡ suc q * load flat i
    own_suc = (rw add-one at is-own) ∙ ap (◌*◌ (suc q)) (sym (add-zero (column loads i)))

    module _ (once : ℕ) (one : IsOnce loads i once) where
      -- what a start begins with
      need_is : own + once ≡ suc q * load flat i + sum (load flat) i
      need_is = ap₂ ◌+◌ own_suc (one.is ∙ ap (λ f. sum f i) (sym (flat_loads o loads periods J D)))

      -- at the first start
      pub seek_start : (t : ℕ) → Reached (ours_in o) (start_at o 0) (own + once) t → Seeking flat (column keeps) i q 0 0 0 t
      seek_start t r = seek.seek_start flat (column keeps) i periodic own_load v q t (rw need_is at r)

      module _ (n w m t e a x : ℕ) (f : Seeking flat (column keeps) i q n w m t) (y : Counts flat e)
          (load_is : IsLoad loads periods keeps i t a) (l : t ≤ horizon_tick) (r : Reached (ours_in o) (start_at o n) (own + a) x) where
        -- the sum is the demand in t ticks
        demand_is : own + a ≡ demand flat (column keeps) i q t
        unfolding demand
        demand_is = ap₂ ◌+◌ own_suc (load_is.is ∙ column_above o loads periods keeps J D i t)

        reach_is : Reached (ours_in o) (start_at o n) (demand flat (column keeps) i q t) x
        reach_is = rw demand_is at r

        -- the next number tried
        pub seek_next : t < x → Seeking flat (column keeps) i q n w (m + e) x
        seek_next h = seek.seek_next flat (column keeps) i periodic own_load v q n w m t e f y l x reach_is h

        -- at the next start
        pub seek_turn : x ≤ t → n + 1 < starts_of o → (t' : ℕ) → Reached (ours_in o) (start_at o (n + 1)) (own + once) t'
            → Seeking flat (column keeps) i q (n + 1) (max w t) (m + e) t'
        seek_turn h g t' r' =
            rw add-one
            (seek.seek_turn flat (column keeps) i periodic own_load v q n w m t e f y l x reach_is h (omega (arith, g)) t'
            (rw (add-one, need_is) at r'))

        -- past the last start: W(q), and what has counted
        pub seek_found : x ≤ t → starts_of o ≤ n + 1 → window flat (column keeps) i q ≡ some (max w t)
        seek_found h g = seek.seek_found flat (column keeps) i periodic own_load v q n w m t e f y l x reach_is h (omega (arith, g))

        pub found_counted : x ≤ t → starts_of o ≤ n + 1 → m + e ≡ counted_at flat (column keeps) i q
        found_counted h g = seek.found_counted flat (column keeps) i periodic own_load v q n w m t e f y l x reach_is h (omega (arith, g))

  -- a number over H
  module _ (q n w m t e : ℕ) (f : Seeking flat (column keeps) i q n w m t) (y : Counts flat e) (h : horizon_tick < t) where
    pub seek_over : window flat (column keeps) i q ≡ none
    seek_over = seek.seek_over flat (column keeps) i periodic own_load v q n w m t e f y h

    pub over_counted : m + e ≡ counted_at flat (column keeps) i q
    over_counted = seek.over_counted flat (column keeps) i periodic own_load v q n w m t e f y h

-- a start of a frame in columns, as the code has it
module _ (framed : Bool) (ticks count : ℕ) (first size : List ℕ) (c : FrameColumns framed ticks count first size) (n at before : ℕ)
    (place : at ≡ start_at (column_frame framed ticks count first size) n) (w : IsWithin first size count at before) where
  in_frame : framed ≡ true → at < ticks
  in_frame e =
      let v : start_at (column_frame framed ticks count first size) n < turn_of (column_frame framed ticks count first size) =
      start_in_lem (column_frame framed ticks count first size) (ruled_columns framed ticks count first size c) n in
      let z : turn_of (column_frame framed ticks count first size) ≡ ticks = ap (λ b. turn_of (column_frame b ticks count first size)) e in
      omega (arith, place, v, z)

  pub begins_at : Begins framed ticks count first size at before
  begins_at = record { in_frame = in_frame; within = w }

-- how much a number that is tried counts, as the code has it
pub counts_of
    : (framed : Bool) (ticks count : ℕ) (first size loads periods : List ℕ) (J D : ℕ)
    → Counts (flat_tasks (column_frame framed ticks count first size) loads periods J D) (tally_of framed)
counts_of true ticks count first size loads periods J D =
    record { plain = λ e. let z : ◌≡◌ {A = ℕ} 0 1 = cc in absurd (omega arith); framed = λ f e. refl }
counts_of false ticks count first size loads periods J D =
    record { plain = λ e. refl; framed = λ f e. let z : ◌≡◌ {A = ℕ} 0 1 = cc in absurd (omega arith) }

-- by a number equal to it
pub counts_by : (s : Tasks) (a c : ℕ) → Counts s a → c ≡ a → Counts s c
counts_by s a c y e = record { plain = λ b. e ∙ y.plain b; framed = λ f b. e ∙ y.framed f b }

pub tally_high : (framed : Bool) → tally_of framed ≤ 1
tally_high true = omega arith
tally_high false = omega arith
