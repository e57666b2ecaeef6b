-- The check of a trace: which release is too close to an earlier one of its task.
use Rattle.std.specs.Prelude.{ℕ, Bool, List, reverse, length, take, ltb}
use Rattle.std.proofs.Math.Option.{Option}
use Rattle.model.specs.Search.{first}
use Rattle.model.specs.Tasks.{Tasks, Release, release_at}
use Rattle.model.specs.Gap.{own}
use Rattle.model.specs.Ready.{after}

-- the ticks of the earlier releases of the task of the release at p, the latest first
unfoldable pub earlier : List Release → ℕ → List ℕ
earlier l p = reverse (own (release_at l p).task (take p l))

-- the release at p lies less than d_J(k) after the one k places before, for some k
unfoldable pub too_close : Tasks → List Release → ℕ → Bool
too_close s l p =
    ltb (release_at l p).tick (after (s.period (release_at l p).task) (s.jitter (release_at l p).task) (earlier l p) 1)

-- the first release of the whole list that is too close to an earlier one of its task
unfoldable pub first_close : Tasks → List Release → Option ℕ
first_close s l = first (too_close s l) (length l) 0
