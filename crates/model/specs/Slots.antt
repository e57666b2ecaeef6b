-- Columns of slots.
use Rattle.std.specs.Prelude.{ℕ, ◌≤◌, ◌<◌, ◌≡◌, List, length, get_or}

-- the first n slots of a column of k slots hold f 0, .., f (n - 1), and the others 0
pub record Holds (f : ℕ → ℕ) (n k : ℕ) (l : List ℕ) : Type 0 where
  pub long : length l ≡ k
  pub each : (p : ℕ) → p < n → get_or l p 0 ≡ f p
  pub past : (p : ℕ) → n ≤ p → p < k → get_or l p 0 ≡ 0
