-- The search for W(q), start by start, over the columns of a task and of those above it and the windows of a frame.
use Prim.Native.Nat.{ℕ, ◌+◌, ◌*◌, ◌≤◌, ◌<◌, max}
use mathlib.Core.Path.{◌≡◌, sym}
use mathlib.Core.Option.{none}
use mathlib.Core.List.{List}
use native.Mathlib.Omega.{arith}
use Rattle.model.specs.Limits.{horizon_tick}
use Rattle.model.specs.Frame.{ours_in}
use Rattle.model.specs.Demand.{window}
use Rattle.model.specs.Choice.{column}
use Rattle.model.proofs.FrameLaws.{Ruled}
use Rattle.frame.specs.Starts.{starts_of, start_at}
use Rattle.frame.specs.Reached.{Reached, IsReach}
use Rattle.frame.specs.declared.Supply.{Supply}
use Rattle.frame.specs.WindowColumns.{IsSupply, frame_in, BeginsAt}
use Rattle.frame.proofs.ColumnLaws.{ruled_columns}
use Rattle.demand.specs.declared.TaskColumns.{TaskColumns}
use Rattle.demand.specs.declared.Start.{Start}
use Rattle.demand.specs.Columns.{IsLoad}
use Rattle.demand.specs.Seeking.{Counts, tally_of, StartedIn, Seeking}
use Rattle.demand.proofs.SeekColumnLaws.{counts_of, counts_by, tally_high}
use Rattle.demand.proofs.SeekColumnLaws as seek
use Rattle.keeping.specs.Keeping.{flat, Searched, WithinIs, Product}

-- the loop of the search: own is what the task itself brings; k starts are done, of which w is the largest W; m has counted, t is tried next from the place at
pub record Searching (supply : Supply) (columns : TaskColumns) (keeps : List ℕ) (n once q own starts tally at before t w k m : ℕ) : Type 0 where
  pub may : Searched columns.loads columns.periods keeps n once q
  pub ruled : Ruled (frame_in supply)
  pub own_is : own ≡ (q + 1) * column columns.loads n
  pub own_small : own ≤ 10000001000000
  pub starts_is : starts ≡ starts_of (frame_in supply)
  pub counts : Counts (flat (frame_in supply) columns.loads columns.periods) tally
  pub tally_few : tally ≤ 1
  pub begins : BeginsAt supply at before
  pub place : at ≡ start_at (frame_in supply) k
  pub list : Seeking (flat (frame_in supply) columns.loads columns.periods) (column keeps) n q k w m t

module _ (supply : Supply) (columns : TaskColumns) (keeps : List ℕ) (n once q own starts tally : ℕ) where
  -- from a place of the frame on: the ticks among which d are ours
  abbrev Reaches : ℕ → ℕ → ℕ → Type 0
  Reaches at d x = IsReach (ours_in (frame_in supply)) at d x

  pub search_start
      : Searched columns.loads columns.periods keeps n once q → IsSupply supply → Product (q + 1) (column columns.loads n) own
      → starts ≡ starts_of (frame_in supply) → tally ≡ tally_of supply.framed
      → (b : Start) → StartedIn supply 0 (own + once) b
      → Searching supply columns keeps n once q own starts tally b.at b.before b.t 0 0 0
  search_start f v p a e b g = record {
    may = f;
    ruled = ruled;
    own_is = p.is;
    own_small = p.small;
    starts_is = a;
    counts = counts_by _ _ _ (counts_of supply.framed supply.ticks supply.count supply.first supply.size columns.loads columns.periods 0 0) e;
    tally_few = omega (arith, e, tally_high supply.framed);
    begins = g.begins;
    place = g.place;
    list =
        seek.seek_start (frame_in supply) columns.loads columns.periods keeps n 0 0 f.columns ruled q own f.q_high p.is once f.once_is
        b.t g.reach.reached;
  }
    where
      ruled : Ruled (frame_in supply)
      ruled = ruled_columns _ _ _ _ _ v.columns

  module _ (at before t w k m : ℕ) (f : Searching supply columns keeps n once q own starts tally at before t w k m) where
    pub search_over : horizon_tick < t → window (flat (frame_in supply) columns.loads columns.periods) (column keeps) n q ≡ none
    search_over =
        seek.seek_over (frame_in supply) columns.loads columns.periods keeps n 0 0 f.may.columns f.ruled q k w m t tally f.list f.counts

    module _ (r x : ℕ) (l : IsLoad columns.loads columns.periods keeps n t r) (within : t ≤ horizon_tick) (g : Reaches at (own + r) x) where
      reached : Reached (ours_in (frame_in supply)) (start_at (frame_in supply) k) (own + r) x
      reached = rw f.place at g.reached

      -- the next t from the same start
      pub search_next : t < x → Searching supply columns keeps n once q own starts tally at before x w k (m + tally)
      search_next h = record {
        may = f.may;
        ruled = f.ruled;
        own_is = f.own_is;
        own_small = f.own_small;
        starts_is = f.starts_is;
        counts = f.counts;
        tally_few = f.tally_few;
        begins = f.begins;
        place = f.place;
        list =
            seek.seek_next (frame_in supply) columns.loads columns.periods keeps n 0 0 f.may.columns f.ruled q own f.may.q_high f.own_is once
            f.may.once_is k w m t tally r x f.list f.counts l within reached h;
      }

      module _ (v : ℕ) (e : v ≡ max w t) (h : x ≤ t) where
        -- past the last start
        pub search_within : starts ≤ k + 1 → WithinIs (frame_in supply) columns.loads columns.periods keeps n q v (m + tally)
        search_within d = rw e (record {
          is =
              seek.seek_found (frame_in supply) columns.loads columns.periods keeps n 0 0 f.may.columns f.ruled q own f.may.q_high f.own_is once
              f.may.once_is k w m t tally r x f.list f.counts l within reached h (omega (arith, f.starts_is));
          counted =
              sym
              (seek.found_counted (frame_in supply) columns.loads columns.periods keeps n 0 0 f.may.columns f.ruled q own f.may.q_high f.own_is
              once f.may.once_is k w m t tally r x f.list f.counts l within reached h (omega (arith, f.starts_is)));
          small = omega (arith, f.list.few, f.tally_few);
        })

        -- at the next start
        pub search_turn
            : k + 1 < starts → (b : Start) → StartedIn supply (k + 1) (own + once) b
            → Searching supply columns keeps n once q own starts tally b.at b.before b.t v (k + 1) (m + tally)
        search_turn d b i = rw e (record {
          may = f.may;
          ruled = f.ruled;
          own_is = f.own_is;
          own_small = f.own_small;
          starts_is = f.starts_is;
          counts = f.counts;
          tally_few = f.tally_few;
          begins = i.begins;
          place = i.place;
          list =
              seek.seek_turn (frame_in supply) columns.loads columns.periods keeps n 0 0 f.may.columns f.ruled q own f.may.q_high f.own_is once
              f.may.once_is k w m t tally r x f.list f.counts l within reached h (omega (arith, f.starts_is)) b.t i.reach.reached;
        })
