-- How long an accepted text is at most.
use Prim.Native.Nat.{ℕ, suc, ◌*◌, ◌≤◌}
use mathlib.Core.List.{List, [], ◌∷◌}
use native.Mathlib.Omega.{arith}
use lib.ListN.{length, length-append}
use Rattle.model.specs.Limits.{max_time}
use Rattle.model.proofs.CheckLaws.{valid_of}
use Rattle.taskset.specs.declared.Task.{Task}
use Rattle.fileformat.specs.File.{sheet_of}
use Rattle.fileformat.proofs.StepLaws.{Ranged}
use Rattle.fileformat.proofs.RoundTrips.{AllRanged}
use Rattle.text.specs.Text.{line_feed, field}
use Rattle.text.proofs.TextLaws.{field_below}
use Rattle.textformat.specs.Lines.{comma}
use Rattle.textformat.specs.TextSheet.{line_text, text_of}
use Rattle.textformat.specs.TextTrips.{LoadedIsShort}
use Rattle.textformat.proofs.TextTrips.{loaded_is_text, loaded_valid}

-- a number within its limit has at most 7 digits, and one byte more in its field
field_short : (n end : ℕ) → n ≤ max_time → length (field n end) ≤ 8
field_short n end h = field_below n end 6 (omega arith)

-- a line of four of them
line_short : (t : Task) → Ranged t → length (line_text t) ≤ 32
unfolding line_text
line_short t r =
    let a = field_short t.period comma r.period_high in
    let b = field_short t.jitter comma r.jitter_high in
    let c = field_short t.cost comma (omega (arith, r.cost_period, r.period_high)) in
    let d = field_short t.deadline line_feed r.deadline_high in
    rw (length-append, length-append, length-append) (omega (arith, a, b, c, d))

-- a line for each task
text_short : (ts : List Task) → AllRanged ts → length (text_of ts) ≤ 32 * length ts
unfolding text_of
text_short [] h = omega arith
text_short (t ∷ l) h =
    omega (arith, length-append (line_text t) (text_of l), line_short t (h 0 (omega arith)), text_short l (λ i g. h (suc i) (omega arith)))

-- no longer text is accepted
pub loaded_short : LoadedIsShort
loaded_short text ts e =
    let v = valid_of (sheet_of ts) (loaded_valid text ts e) in
    rw (← loaded_is_text text ts e) (omega (arith, text_short ts v.in_range_lem, v.few_tasks))
