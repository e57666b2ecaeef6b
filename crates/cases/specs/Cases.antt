-- Blocks of a case as numbers and as a task set.
use Rattle.std.specs.Prelude.{ℕ, ◌+◌, ◌*◌, ◌/◌, ◌%◌, ◌<◌, min, ◌≡◌, not, List, eqb, length, get_or, drop}
use Rattle.taskset.specs.declared.Task.{Task}
use Rattle.taskset.specs.declared.TaskSet.{TaskSet}
use Rattle.taskset.specs.TaskSet.{no_task}

-- the number of the four bytes from a place on, the low byte first
abbrev pub number_at : List ℕ → ℕ → ℕ
number_at s at = get_or s at 0 + 256 * get_or s (at + 1) 0 + 65536 * get_or s (at + 2) 0 + 16777216 * get_or s (at + 3) 0

-- the number of the eight bytes from a place on, the low four first
abbrev pub tick_at : List ℕ → ℕ → ℕ
tick_at s at = number_at s at + 4294967296 * number_at s (at + 4)

-- the entry of a task in a block of numbers: P, J, E, D and the mark, 0 for high and any other number for low
abbrev pub entry_of : List ℕ → ℕ → Task
entry_of head i = record {
  period = get_or head (8 + 5 * i) 0;
  jitter = get_or head (8 + 5 * i + 1) 0;
  cost = get_or head (8 + 5 * i + 2) 0;
  deadline = get_or head (8 + 5 * i + 3) 0;
  low = not (eqb (get_or head (8 + 5 * i + 4) 0) 0);
}

-- the first n slots of a list hold f 0, .., f (n - 1)
abbrev pub Filled : {A : Type 0} (f : ℕ → A) (d : A) → ℕ → List A → Type 0
Filled f d n l = (i : ℕ) → i < n → get_or l i d ≡ f i

-- the n numbers in a row of bytes, w bytes each and read by a given reading, stand in the first n slots of a column, whose other slots hold what they held
pub record Numbers (w : ℕ) (reading : List ℕ → ℕ → ℕ) (s held : List ℕ) (n : ℕ) (column : List ℕ) : Type 0 where
  pub count : n ≡ min (length s / w) (length held)
  pub each : Filled (λ i. reading s (w * i)) 0 n column
  pub rest : drop n column ≡ drop n held

-- a task set is the one in a block of numbers: the count at 4, the charge in the low byte of the number at 5, the 32 entries from 8 on
pub record SetIn (head : List ℕ) (s : TaskSet) : Type 0 where
  pub count : s.count ≡ get_or head 4 0
  pub charge : s.charge ≡ get_or head 5 0 % 256
  pub entries : Filled (entry_of head) no_task 32 s.tasks
