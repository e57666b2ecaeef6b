-- The slice for the answer of a call for C is one more lent slice, the last: the statement. proofs/AnswerOrderLaws.antt proves it (`slots_last`).
use Rattle.std.specs.Prelude.{ℕ, ◌≡◌, [], ◌∷◌, ◌++◌}
use Rattle.model.specs.Checks.{Inputs, answer_of}
use Rattle.interface.specs.Interface.{with_slots}

-- the inputs of a call to which one more slice is lent, the last of its slices
abbrev pub also_lends : ℕ → ℕ → Inputs → Inputs
also_lends n slots c = record {
  tasks = c.tasks;
  single = c.single;
  count = c.count;
  lent = c.lent ++ (record { needed = n; slots = slots } ∷ []);
  kept = c.kept;
  releases = c.releases;
  unfit = c.unfit;
}

-- the answer with so many slots for it, n being needed, is that of the call in whose order of checks the slice stands last of the lent slices
abbrev pub SlotsLast : Type 1
SlotsLast =
    (A : Type 0) (n slots : ℕ) (a : A) (c : Inputs) → with_slots n slots (answer_of c a) ≡ answer_of (also_lends n slots c) a
