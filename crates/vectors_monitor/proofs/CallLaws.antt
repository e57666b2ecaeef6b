-- Calls on a window, one after the other.
use Prim.Native.Nat.{ℕ, ◌+◌, ◌<◌, ◌≤◌, min}
use mathlib.Core.Bool.{Bool, true, false}
use mathlib.Core.Path.{◌≡◌, refl, sym, ap, ◌∙◌}
use mathlib.Core.List.{List, [], ◌∷◌, ◌++◌}
use native.Mathlib.Omega.{arith}
use native.Mathlib.Numerals.{add-one}
use lib.ListN.{length, get_or, drop, drop_of_length-le}
use Rattle.model.specs.Tasks.{Tasks}
use Rattle.model.specs.LastJobs.{WindowCall, finished}
use Rattle.model.proofs.TableLaws.{length_table, drop_table}
use Rattle.monitor.specs.MonitorCalls.{open_after, job_after}
use Rattle.monitor.specs.AfterAnyCalls.{slots_after, slots_after_all}
use Rattle.vectors_monitor.specs.CaseCalls.{open_calls, job_calls}

-- the first i jobs of two columns were brought: the calls that are left give what all give
pub record Brought (w₀ t r w : List ℕ) (i : ℕ) : Type 0 where
  pub low : i ≤ min (length t) (length r)
  pub rest : slots_after_all w₀ (job_calls t r) ≡ slots_after_all w (drop i (job_calls t r))
  pub long : length w ≡ length w₀

pub brought_none : (w t r : List ℕ) → Brought w t r w 0
brought_none w t r = record { low = omega arith; rest = refl; long = refl }

-- one job more
calls_next
    : (t r w : List ℕ) (i : ℕ)
    → i < min (length t) (length r)
    → slots_after_all w (drop i (job_calls t r)) ≡ slots_after_all (job_after w (record { task = get_or t i 0; response = get_or r i 0 })) (drop (i + 1) (job_calls t r))
unfolding job_calls slots_after_all slots_after
calls_next t r w i h = rw add-one (ap (slots_after_all w) (drop_table _ (finished (record { task = 0; response = 0 })) _ i h))

pub brought_next
    : (w₀ t r w w' : List ℕ) (i : ℕ)
    → Brought w₀ t r w i
    → i < min (length t) (length r)
    → w' ≡ job_after w (record { task = get_or t i 0; response = get_or r i 0 })
    → length w' ≡ length w
    → Brought w₀ t r w' (i + 1)
brought_next w₀ t r w w' i b h e l = record {
  low = omega arith;
  rest = b.rest ∙ calls_next t r w i h ∙ ap (λ x. slots_after_all x (drop (i + 1) (job_calls t r))) (sym e);
  long = l ∙ b.long;
}

-- no job is left
pub brought_all : (w₀ t r w : List ℕ) (i : ℕ) → Brought w₀ t r w i → min (length t) (length r) ≤ i → w ≡ slots_after_all w₀ (job_calls t r)
unfolding job_calls slots_after_all
brought_all w₀ t r w i b h = sym (b.rest ∙ ap (slots_after_all w) (drop_of_length-le (job_calls t r) {i = i} (rw (length_table job (min (length t) (length r))) h)))
  where
    job : ℕ → WindowCall
    job k = finished (record { task = get_or t k 0; response = get_or r k 0 })

-- an opening, or none
pub opened_yes : (opened : Bool) (s : Tasks) (w w' : List ℕ) → opened ≡ true → w' ≡ open_after s w → w' ≡ slots_after_all w (open_calls opened s)
unfolding open_calls slots_after_all slots_after
opened_yes opened s w w' e h = rw e h

pub opened_no : (opened : Bool) (s : Tasks) (w : List ℕ) → opened ≡ false → w ≡ slots_after_all w (open_calls opened s)
unfolding open_calls slots_after_all
opened_no opened s w e = rw e refl

-- calls, and then calls
slots_append : (w : List ℕ) (a b : List WindowCall) → slots_after_all w (a ++ b) ≡ slots_after_all (slots_after_all w a) b
unfolding slots_after_all
slots_append w [] b = refl
slots_append w (c ∷ a) b = slots_append (slots_after w c) a b

pub slots_then
    : (w w₁ w₂ : List ℕ) (a b : List WindowCall) → w₁ ≡ slots_after_all w a → w₂ ≡ slots_after_all w₁ b → w₂ ≡ slots_after_all w (a ++ b)
slots_then w w₁ w₂ a b e₁ e₂ = e₂ ∙ ap (λ x. slots_after_all x b) e₁ ∙ sym (slots_append w a b)

-- a job, by the number of its task
pub job_of
    : (w w' : List ℕ) (k task response : ℕ)
    → w' ≡ job_after w (record { task = k; response = response })
    → k ≡ task
    → w' ≡ job_after w (record { task = task; response = response })
job_of w w' k task response h e = h ∙ ap (λ x. job_after w (record { task = x; response = response })) e
