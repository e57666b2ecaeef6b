-- Laws of the printed answers.
use Prim.Native.Nat.{ℕ, ◌≤◌}
use mathlib.Core.Path.{◌≡◌, ap, ◌∙◌}
use mathlib.Core.List.{List}
use lib.ListN.{length, take}
use Rattle.fileformat.specs.RoundTrips.{deciding_bytes}
use Rattle.fileformat.proofs.Prefix.{decode_first}
use Rattle.std.specs.Prelude.{Result, Ok, Err}
use Rattle.refusal.specs.declared.Refusal.{Refusal}
use Rattle.report.specs.PutLine.{PutLine}
use Rattle.report.proofs.ReportLaws.{wider}
use Rattle.answers.specs.Tried.{Tried, OrRefusal}
use Rattle.answers.specs.Answers.{choose_text, replay_text, Printed}

-- the bytes that a program reads decide what it prints: n of them, 14,899 or more
pub choose_first : (n : ℕ) (f : List ℕ) → deciding_bytes ≤ n → choose_text (take n f) ≡ choose_text f
unfolding choose_text
choose_first n f h = rw (choose_text, decode_first n f h)

pub replay_first : (n : ℕ) (f : List ℕ) → deciding_bytes ≤ n → replay_text (take n f) ≡ replay_text f
unfolding replay_text
replay_first n f h = rw (replay_text, decode_first n f h)

-- a text of the bytes that were read into a buffer of 14,899 bytes or more is that of the whole file
pub choose_printed
    : (m : ℕ) (buffer : List ℕ) (n : ℕ) (held now : List ℕ) (r : ℕ) → deciding_bytes ≤ length buffer → PutLine m held 0 (choose_text (take n buffer)) now r
    → Printed choose_text m buffer n held now r
choose_printed m buffer n held now r h p = record { line = p; whole = λ f e. ap choose_text e ∙ choose_first (length buffer) f h }

pub replay_printed
    : (m : ℕ) (buffer : List ℕ) (n : ℕ) (held now : List ℕ) (r : ℕ) → deciding_bytes ≤ length buffer → PutLine m held 0 (replay_text (take n buffer)) now r
    → Printed replay_text m buffer n held now r
replay_printed m buffer n held now r h p = record { line = p; whole = λ f e. ap replay_text e ∙ replay_first (length buffer) f h }

-- a text, or the refusal to print, and its end
pub tried_printed
    : (m : ℕ) (held : List ℕ) (text : List ℕ) (mid : List ℕ) (r : Result ℕ Refusal) (now : List ℕ) (x : ℕ) → 64 ≤ m → Tried m held text mid r → OrRefusal r mid now x
    → PutLine m held 0 text now x
tried_printed m held text mid (Ok n) now x h t e = rw (← e.0, e.1) t
tried_printed m held text mid (Err q) now x h t e = rw (← t.0, t.1) (wider 64 m _ _ _ _ _ h e)
