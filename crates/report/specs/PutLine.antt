-- What it means that a line was written.
use Rattle.std.specs.Prelude.{ℕ, ◌+◌, ◌≤◌, ◌≡◌, List, length}
use Rattle.text.specs.Text.{Put}

-- a line of at most n bytes was written
pub record PutLine (n : ℕ) (held : List ℕ) (at : ℕ) (text now : List ℕ) (r : ℕ) : Type 0 where
  pub put : Put held at text now r
  pub small : r ≤ at + n
  pub long : length now ≡ length held
