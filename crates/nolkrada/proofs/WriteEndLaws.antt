-- Laws of how a write ends.
use Prim.Native.Nat.{ℕ, ◌≤◌, ◌<◌}
use mathlib.Core.Path.{◌≡◌, refl, ap, ◌∙◌}
use mathlib.Core.Option.{Option, some, none}
use mathlib.Core.List.{List, [], ◌∷◌, ◌++◌}
use native.Mathlib.Omega.{arith}
use lib.ListN.{length, drop}
use Rattle.model.specs.Refusal.{Refusal, Answer, refused, answered}
use Rattle.model.specs.Checks.{Inputs, refusal_of, answer_of}
use Rattle.model.specs.Calls.{column_after}
use Rattle.taskset.specs.TaskSet.{view_of}
use Rattle.fileformat.specs.File.{encode}
use Rattle.fileformat.specs.FileCalls.{write_inputs, file_of}
use Rattle.interface.specs.Interface.{sheet_from, refusal_code, code_of, code_in, words_after, as_words, or_too_few, with_slots, Ends}
use Rattle.interface.proofs.InterfaceLaws.{with_enough, with_few, words_put}
use Rattle.nolkrada.specs.Files.{write_answer, WriteEnds}

-- the file of a call with these inputs: its bytes and its word
module _ (c : Inputs) (file out answer : List ℕ) where
  file_refused
      : (o : Option Refusal) (r number place : ℕ) (out' : List ℕ)
      → refusal_of c ≡ o
      → refused (record { number = number; place = place }) ≡ answer_of c (length file)
      → r ≡ refusal_code number place
      → out' ≡ column_after (refusal_of c) file out
      → WriteEnds (answer_of c file) out answer r out' answer
  unfolding answer_of column_after code_in words_after as_words
  file_refused none r number place out' e h i b =
      let h' : refused (record { number = number; place = place }) ≡ answered (length file) = rw (answer_of, e) at h in
      let z : ◌≡◌ {A = ℕ} 0 1 = cc in absurd (omega arith)
  file_refused (some q) r number place out' e h i b =
      let h' : ◌≡◌ {A = Answer ℕ} (refused (record { number = number; place = place })) (refused q) = rw (answer_of, e) at h in
      let q' : record { number = number; place = place } ≡ q = cc in
      let b' : out' ≡ out = rw e at b in
      rw (answer_of, e, ← q') (record { code = i; words = refl; bytes = b' })

  file_written
      : (o : Option Refusal) (k : ℕ) (out' answer' : List ℕ)
      → refusal_of c ≡ o
      → answered k ≡ answer_of c (length file)
      → out' ≡ column_after (refusal_of c) file out
      → answer' ≡ k ∷ drop 1 answer
      → WriteEnds (answer_of c file) out answer 0 out' answer'
  unfolding answer_of column_after code_in words_after as_words
  file_written none k out' answer' e h b w =
      let h' : ◌≡◌ {A = Answer ℕ} (answered k) (answered (length file)) = rw (answer_of, e) at h in
      let k' : k ≡ length file = cc in
      let b' : out' ≡ file ++ drop (length file) out = rw e at b in
      rw (answer_of, e) (record { code = refl; words = w ∙ ap (λ (x : ℕ). x ∷ drop 1 answer) k'; bytes = b' })
  file_written (some q) k out' answer' e h b w =
      let h' : answered k ≡ refused q = rw (answer_of, e) at h in
      let z : ◌≡◌ {A = ℕ} 0 1 = cc in absurd (omega arith)

module _ (sheet : List ℕ) (count charge n : ℕ) (task tick cost out answer : List ℕ) where
  abbrev ended : Answer (List ℕ)
  ended = write_answer sheet count charge n task tick cost out answer

  abbrev inputs : Inputs
  inputs = write_inputs (view_of (sheet_from sheet count charge)) n task tick cost (length out)

  abbrev file : List ℕ
  file = encode (file_of (sheet_from sheet count charge) n task tick cost)

  as_called : 1 ≤ length answer → ended ≡ answer_of inputs file
  unfolding write_answer
  as_called h = with_enough 1 (length answer) (answer_of inputs file) h

  -- where no word is lent: the refusal of the call without it, unless 13 comes first
  pub write_stopped
      : (r number place : ℕ)
      → some (record { number = number; place = place }) ≡ refusal_of inputs
      → r ≡ code_of (some (or_too_few 1 (length answer) (record { number = number; place = place })))
      → WriteEnds ended out answer r out answer
  unfolding write_answer answer_of with_slots code_of code_in words_after as_words
  write_stopped r number place h e = rw (write_answer, answer_of, ← h) (record { code = e; words = refl; bytes = refl })

  pub write_no_words : (r : ℕ) → length answer < 1 → none ≡ refusal_of inputs → r ≡ refusal_code 13 1 → WriteEnds ended out answer r out answer
  unfolding write_answer answer_of code_in words_after as_words
  write_no_words r h g e = rw (write_answer, answer_of, ← g, with_few 1 (length answer) file h) (record { code = e; words = refl; bytes = refl })

  pub write_refused
      : (r number place : ℕ) (out' : List ℕ)
      → 1 ≤ length answer
      → refused (record { number = number; place = place }) ≡ answer_of inputs (length file)
      → r ≡ refusal_code number place
      → out' ≡ column_after (refusal_of inputs) file out
      → WriteEnds ended out answer r out' answer
  write_refused r number place out' h a i b = rw (as_called h) (file_refused inputs file out answer (refusal_of inputs) r number place out' refl a i b)

  pub write_written
      : (k r : ℕ) (out' answer' : List ℕ)
      → 1 ≤ length answer
      → answered k ≡ answer_of inputs (length file)
      → out' ≡ column_after (refusal_of inputs) file out
      → Ends 1 (answered (k ∷ [])) answer r answer'
      → WriteEnds ended out answer r out' answer'
  write_written k r out' answer' h a b w =
      let w' = words_put 1 (k ∷ []) answer r answer' h w in
      rw (as_called h, w'.0) (file_written inputs file out answer (refusal_of inputs) k out' answer' refl a b w'.1)
