-- Windows in a frame (document 02, R-10): which ticks are ours, and our ticks among some.
use Rattle.std.specs.Prelude.{ℕ, zero, suc, ◌+◌, ◌%◌, ◌≤◌, ◌<◌, Bool, true, false, ◌&&◌, ◌||◌, leb, ltb}
use Rattle.std.proofs.Math.Option.{Option, some, none}
use Rattle.model.specs.Series.{on, sum}
use Rattle.model.specs.Limits.{max_frame, max_windows}

-- "frame": its ticks, the number of its windows, and the first tick and the length of each
pub record Frame : Type 0 where
  pub ticks : ℕ
  pub count : ℕ
  pub first : ℕ → ℕ
  pub size : ℕ → ℕ

-- a frame within the rules: "1 to 10,000 ticks and 1 to 16 windows, each a first tick and a length of at least 1, inside the frame, each first tick over the
-- first + length before it"
pub record InRules (f : Frame) : Type 0 where
  pub ticks_low : 1 ≤ f.ticks
  pub ticks_high : f.ticks ≤ max_frame
  pub count_low : 1 ≤ f.count
  pub count_high : f.count ≤ max_windows
  pub size_low : (k : ℕ) → k < f.count → 1 ≤ f.size k
  pub inside : (k : ℕ) → k < f.count → f.first k + f.size k ≤ f.ticks
  pub apart : (k : ℕ) → suc k < f.count → f.first k + f.size k < f.first (suc k)

-- tick x of the frame lies in window k: "from first up to first + length, not including the latter"
unfoldable pub in_window : Frame → ℕ → ℕ → Bool
in_window f k x = leb (f.first k) x && ltb x (f.first k + f.size k)

-- it lies in one of the first n windows
unfoldable pub in_some : Frame → ℕ → ℕ → Bool
in_some f zero x = false
in_some f (suc n) x = in_some f n x || in_window f n x

-- the ticks that are "ours": those of the windows, and "the frame repeats from tick 0"; every tick where there is no frame
abbrev pub ours_in : Option Frame → ℕ → Bool
ours_in none t = true
ours_in (some f) t = in_some f f.count (t % f.ticks)

-- the ticks after which this repeats: those of the frame, and 1 where there is none
abbrev pub turn_of : Option Frame → ℕ
turn_of none = 1
turn_of (some f) = f.ticks

-- "our ticks among t ticks from" u
unfoldable pub supply : (ℕ → Bool) → ℕ → ℕ → ℕ
supply ours u t = sum (λ n. on (ours (u + n)) 1) t
