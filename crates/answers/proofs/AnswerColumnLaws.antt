-- From columns and structs to lists: what the programs hand from call to call.
use Prim.Native.Nat.{ℕ, zero, suc, ◌≤◌, ◌<◌}
use mathlib.Core.Path.{◌≡◌, refl, sym, ap, ap₂, ◌∙◌}
use mathlib.Core.Option.{none}
use mathlib.Core.List.{List, [], ◌∷◌, ◌++◌}
use native.Mathlib.Omega.{arith}
use lib.ListN.{length, get_or-append}
use Rattle.model.proofs.CheckLaws.{slots_next, slots_none}
use Rattle.model.specs.Limits.{max_releases}
use Rattle.model.specs.Tasks.{Tasks}
use Rattle.model.specs.Choice.{Scope}
use Rattle.model.specs.Refusal.{Answer, refused, answered}
use Rattle.model.specs.Checks.{check_slots}
use Rattle.model.specs.Calls.{lends}
use Rattle.fileformat.specs.File.{File, decode}
use Rattle.fileformat.specs.FileCalls.{read_call}
use Rattle.fileformat.proofs.RoundTrips.{decode_valid}
use Rattle.text.specs.Text.{lines}
use Rattle.report.specs.Report.{choice_line, choice_fields, choice_text, run_line, run_text, choice_header, last_line, run_header}

-- three columns with room
slots_pass : (n : ℕ) (a b c : List ℕ) → n ≤ length a → n ≤ length b → n ≤ length c → check_slots (lends n a ∷ lends n b ∷ lends n c ∷ []) ≡ none
slots_pass n a b c ha hb hc = slots_next (lends n a) _ ha ∙ slots_next (lends n b) _ hb ∙ slots_next (lends n c) [] hc ∙ sym slots_none

-- with columns of 1,024 slots a read answers as the file says
pub read_roomy : (f a b c : List ℕ) → max_releases ≤ length a → max_releases ≤ length b → max_releases ≤ length c → read_call f a b c ≡ decode f
unfolding read_call
read_roomy f a b c ha hb hc = go (decode f) refl
  where
    go : (d : Answer File) → decode f ≡ d → read_call f a b c ≡ d
    go (refused q) e = rw (read_call, e)
    go (answered x) e =
        let v : length x.releases ≤ max_releases = (decode_valid f x e).few in
        rw (read_call, e, slots_pass (length x.releases) a b c (omega arith) (omega arith) (omega arith))

-- texts of lines that agree
pub lines_same : (f g : ℕ → List ℕ) (n : ℕ) → ((i : ℕ) → i < n → f i ≡ g i) → lines f n ≡ lines g n
unfolding lines
lines_same f g zero h = refl
lines_same f g (suc n) h = ap₂ ◌++◌ (lines_same f g n (λ i l. h i (omega arith))) (h n (omega arith))

-- slots past the answer are not printed
pub choice_text_same
    : (c : Scope) (s : Tasks) (ks ws rk rw' : List ℕ) → s.count ≤ length ks → s.count ≤ length ws
    → choice_text c s (ks ++ rk) (ws ++ rw') ≡ choice_text c s ks ws
unfolding choice_text choice_line
choice_text_same c s ks ws rk rw' hk hw =
    ap (λ (t : List ℕ). choice_header ++ (t ++ last_line c))
    (lines_same (choice_line s (ks ++ rk) (ws ++ rw')) (choice_line s ks ws) s.count
    (λ i l. ap₂ (choice_fields i (s.period i) (s.jitter i) (s.cost i) (s.deadline i))
    (get_or-append ks rk 0 i (omega arith)) (get_or-append ws rw' 0 i (omega arith))))

pub run_text_same
    : (n : ℕ) (a b c d ra rb rc rd : List ℕ) → n ≤ length a → n ≤ length b → n ≤ length c → n ≤ length d
    → run_text n (a ++ ra) (b ++ rb) (c ++ rc) (d ++ rd) ≡ run_text n a b c d
unfolding run_text run_line
run_text_same n a b c d ra rb rc rd ha hb hc hd =
    ap (λ (t : List ℕ). run_header ++ t)
    (lines_same (run_line (a ++ ra) (b ++ rb) (c ++ rc) (d ++ rd)) (run_line a b c d) n
    (λ p l. rw (
      get_or-append a ra 0 p (omega arith),
      get_or-append b rb 0 p (omega arith),
      get_or-append c rc 0 p (omega arith),
      get_or-append d rd 0 p
          (omega arith),
    )))
