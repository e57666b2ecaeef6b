-- The windows of a frame as columns: what is worked out once for a call, and what the functions over them take and answer.
use Rattle.std.specs.Prelude as std
use Rattle.std.specs.Prelude.{ℕ, ◌+◌, ◌-◌, ◌≤◌, ◌<◌, min, ◌≡◌, Bool, true, List, length}
use Rattle.std.proofs.Math.Option.{Option}
use Rattle.model.specs.Series.{sum}
use Rattle.model.specs.Limits.{max_frame, max_windows}
use Rattle.model.specs.Choice.{column}
use Rattle.model.specs.SameTasks.{SameFrame}
use Rattle.model.specs.Frame as model_frame
use Rattle.frame.specs.declared.Frame.{Frame}
use Rattle.frame.specs.declared.Supply.{Supply}
use Rattle.frame.specs.declared.SupplySlices.{SupplySlices}
use Rattle.frame.specs.FrameView.{given, frame_of}

-- a frame with these columns of first ticks and lengths
abbrev pub column_windows : ℕ → ℕ → List ℕ → List ℕ → model_frame.Frame
column_windows ticks count first size = record { ticks = ticks; count = count; first = column first; size = column size }

-- the frame, if there is one
abbrev pub column_frame : Bool → ℕ → ℕ → List ℕ → List ℕ → Option model_frame.Frame
column_frame framed ticks count first size = given framed (column_windows ticks count first size)

-- the lengths of its windows added up: our ticks of a frame (proofs/WindowLaws.antt, `supply_whole`)
abbrev pub per_frame : model_frame.Frame → ℕ
per_frame f = sum f.size f.count

-- columns of n windows
pub record Windows (first size : List ℕ) (n : ℕ) : Type 0 where
  pub few : n ≤ max_windows
  pub first_long : n ≤ length first
  pub size_long : n ≤ length size
  pub first_high : (k : ℕ) → k < n → column first k ≤ max_frame
  pub size_high : (k : ℕ) → k < n → column size k ≤ max_frame

-- columns of a frame within the rules, if there is one
pub record FrameColumns (framed : Bool) (ticks count : ℕ) (first size : List ℕ) : Type 0 where
  pub windows : Windows first size count
  pub rules : framed ≡ true → model_frame.InRules (column_windows ticks count first size)

-- such columns, and our ticks of a frame
pub record Supplies (framed : Bool) (ticks per count : ℕ) (first size : List ℕ) : Type 0 where
  pub columns : FrameColumns framed ticks count first size
  pub per_is : per ≡ per_frame (column_windows ticks count first size)

-- the ticks of n windows among the first x of a frame, and their bound
pub record IsWithin (first size : List ℕ) (n x r : ℕ) : Type 0 where
  pub is : r ≡ sum (λ k. min (x - column first k) (column size k)) n
  pub high : r ≤ 160000

-- x is the number of ticks of a frame up to tick r of its windows, that tick included
pub record Located (first size : List ℕ) (n r x : ℕ) : Type 0 where
  pub which : ℕ
  pub left : ℕ
  pub known : which < n
  pub low : 1 ≤ left
  pub high : left ≤ column size which
  pub counted : r ≡ sum (column size) which + left
  pub place : x ≡ column first which + left

-- a place in the frame, and the ticks of the windows before it
pub record Begins (framed : Bool) (ticks count : ℕ) (first size : List ℕ) (at before : ℕ) : Type 0 where
  pub in_frame : framed ≡ true → at < ticks
  pub within : IsWithin first size count at before

-- what is worked out once for a frame: columns that hold it, so that the same ticks are ours (the model's `ours_same`)
pub record Prepared (f : std.Option Frame) (r : Supply) : Type 0 where
  pub supplies : Supplies r.framed r.ticks r.per r.count r.first r.size
  pub same : SameFrame (column_frame r.framed r.ticks r.count r.first r.size) (frame_of f)

-- the same facts of a supply: the frame that it holds, if there is one, its windows, and a place in the frame with the ticks of windows before it
abbrev pub frame_in : Supply → Option model_frame.Frame
frame_in s = column_frame s.framed s.ticks s.count s.first s.size

abbrev pub HasWindows : Supply → Type 0
HasWindows s = Windows s.first s.size s.count

abbrev pub HasColumns : Supply → Type 0
HasColumns s = FrameColumns s.framed s.ticks s.count s.first s.size

abbrev pub IsSupply : Supply → Type 0
IsSupply s = Supplies s.framed s.ticks s.per s.count s.first s.size

abbrev pub BeginsAt : Supply → ℕ → ℕ → Type 0
BeginsAt s at before = Begins s.framed s.ticks s.count s.first s.size at before

-- the supply whose columns are lent
abbrev pub supply_lent : SupplySlices → Supply
supply_lent s = record {
  framed = s.framed;
  ticks = s.ticks;
  per = s.per;
  count = s.count;
  first = s.first.now;
  size = s.size.now;
}
