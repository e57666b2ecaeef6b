-- The boards' processor is regular: a pickup of 1, load E + S, whatever ticks of a frame are ours; its demand is the sheet's, and its supply our ticks of the sheet.
use Prim.Native.Nat.{ℕ}
use mathlib.Core.Path.{◌≡◌, refl}
use mathlib.Core.Option.{Option}
use native.Mathlib.Omega.{arith}
use Rattle.model.specs.Frame.{Frame}
use Rattle.model.specs.Processor.{pickup, board}
use Rattle.model.specs.Tasks.{Tasks, board_of, our_ticks}
use Rattle.model.specs.Demand.{above_load, demand}
use Rattle.processor.specs.ProcessorDemand.{Regular, above_on, demand_on, supply_on}

-- the boards' processor with a charge S and a frame, if any
pub regular : (S : ℕ) (f : Option Frame) → Regular (board S f)
regular S f = record { pickup = pickup; starts = λ ready. omega arith; rises = λ c d h. omega arith; some_work = λ c h. omega arith }

pub pickup_board : (S : ℕ) (f : Option Frame) → (regular S f).pickup ≡ pickup
unfolding regular
pickup_board S f = refl

-- that of a sheet
abbrev pub regular_of : (s : Tasks) → Regular (board_of s)
regular_of s = regular s.charge s.frame

pub supply_board : (s : Tasks) (u t : ℕ) → supply_on (board_of s) u t ≡ our_ticks s u t
supply_board s u t = refl

pub above_board : (s : Tasks) (k : ℕ → ℕ) (i t : ℕ) → above_on (board_of s) s k i t ≡ above_load s k i t
unfolding above_on above_load
above_board s k i t = refl

pub demand_board : (s : Tasks) (k : ℕ → ℕ) (i q t : ℕ) → demand_on (board_of s) s k i q t ≡ demand s k i q t
unfolding demand_on demand above_on above_load
demand_board s k i q t = refl
