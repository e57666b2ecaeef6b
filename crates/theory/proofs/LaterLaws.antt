-- Jobs that may all run a number of ticks later, on ticks that are ours so much later: their run is the same, so many ticks later.
use Prim.Native.Nat.{ℕ, zero, suc, ◌+◌, ◌≤◌, ◌<◌}
use mathlib.Core.Path.{◌≡◌, sym, ap, ◌∙◌, fun_ext}
use mathlib.Core.Logic.{dite}
use mathlib.Core.Bool.{Bool, cond, ◌&&◌}
use mathlib.Core.Option.{none}
use native.Mathlib.Decide.{dec_le}
use native.Mathlib.Omega.{arith}
use borrow.Author.Tests.{le-leb, lt-leb}
use lib.Dec.{leb, ltb}
use Rattle.model.specs.Run.{Jobs, pending, top, pick, less, left_at, runs, finish_of}
use Rattle.model.proofs.SupplyLaws.{supply_same}
use Rattle.theory.proofs.JobWindows.{Served}
use Rattle.theory.proofs.RunLaws.{left_early}
use Rattle.theory.proofs.FinishLaws.{LastTick, finish_ran, finish_last}

-- the same jobs, each of which may run n ticks later, on other ticks of ours
abbrev pub later : Jobs → ℕ → (ℕ → Bool) → Jobs
later j n ours = record { count = j.count; task = j.task; start = λ p. j.start p + n; work = j.work; ours = ours; turn = j.turn }

-- a test of two numbers is that of the numbers and n
test_later : (a b n : ℕ) → leb (a + n) (b + n) ≡ leb a b
test_later a b n =
    dite (dec_le a b) (λ h. le-leb (a + n) (b + n) (omega arith) ∙ sym (le-leb a b h)) (λ h. lt-leb (a + n) (b + n) (omega arith) ∙ sym (lt-leb a b (omega arith)))

-- ticks that are ours n ticks later; those below n may be any, since no job has started
module _ (j : Jobs) (n : ℕ) (ours : ℕ → Bool) (same : (t : ℕ) → ours (t + n) ≡ j.ours t) where
  -- the job that is picked, whatever each job has left
  pick_later : (left : ℕ → ℕ) (t : ℕ) → pick (later j n ours) left (t + n) ≡ pick j left t
  unfolding pick pending
  pick_later left t = λ x.
      cond (same t x) (top j.task (λ p. test_later (j.start p) t n x && ltb 0 (left p)) j.count) none

  -- the work left
  pub left_then : (t : ℕ) → left_at (later j n ours) (t + n) ≡ left_at j t
  unfolding left_at
  left_then zero = fun_ext (λ p. left_early (later j n ours) (0 + n) p (omega arith))
  left_then (suc t) =
      let e : suc t + n ≡ suc (t + n) = omega arith in
      ap (left_at (later j n ours)) e
      ∙ ap (λ (left : ℕ → ℕ). λ p. less (pick (later j n ours) left (t + n)) left p) (left_then t)
      ∙ ap (λ o. λ p. less o (left_at j t) p) (pick_later (left_at j t) t)

  -- the job that runs
  pub runs_then : (t : ℕ) → runs (later j n ours) (t + n) ≡ runs j t
  unfolding runs
  runs_then t = ap (λ (left : ℕ → ℕ). pick (later j n ours) left (t + n)) (left_then t) ∙ pick_later (left_at j t) t

  module _ (served : Served (later j n ours)) where
    -- every turn has a tick of ours before, if it has one n ticks later
    pub served_before : Served j
    served_before u =
        rw (supply_same j.ours ours u (u + n) j.turn (λ m. sym (same (u + m)) ∙ ap ours (omega arith))) (served (u + n))

    -- every finish is n ticks later
    pub finish_then : (p : ℕ) → p < j.count → 1 ≤ j.work p → finish_of (later j n ours) p ≡ finish_of j p + n
    finish_then p h w = go (finish_ran j served_before p h w)
      where
        go : (u : ℕ) × (finish_of j p ≡ suc u) × LastTick j p u → finish_of (later j n ours) p ≡ finish_of j p + n
        go (u, e, (r, z)) =
            let s : suc u + n ≡ suc (u + n) = omega arith in
            finish_last (later j n ours) served p h w (u + n)
            (runs_then u ∙ r, ap (λ x. left_at (later j n ours) x p) (sym s) ∙ ap (λ f. f p) (left_then (suc u)) ∙ z)
            ∙ omega (arith, e)
