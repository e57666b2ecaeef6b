-- Laws of how a read ends.
use Prim.Native.Nat.{ℕ, ◌≤◌}
use mathlib.Core.Path.{◌≡◌, refl, sym, ◌∙◌}
use mathlib.Core.List.{List, [], ◌∷◌, ◌++◌}
use native.Mathlib.Omega.{arith}
use lib.ListN.{length, drop}
use Rattle.model.specs.Refusal.{Refusal, Answer, refused, answered}
use Rattle.model.specs.Calls.{column_after}
use Rattle.taskset.specs.declared.TaskSet.{TaskSet}
use Rattle.fileformat.specs.File.{File, decode}
use Rattle.fileformat.specs.FileCalls.{set_with, read_call, read_count, read_sheet, read_column}
use Rattle.interface.specs.Interface.{refusal_code, code_in, words_after, as_words, Ends}
use Rattle.interface.specs.TaskNumbers.{numbers_of}
use Rattle.interface.proofs.InterfaceLaws.{words_put}
use Rattle.nolkrada.specs.Files.{file_words, entry_numbers, sheet_numbers, read_answer, ReadEnds}
use Rattle.nolkrada.proofs.ReadLaws.{Halts, call_told, within_enough}

module _ (f sheet task tick cost answer : List ℕ) where
  abbrev ended : Answer File
  ended = read_answer f sheet task tick cost answer

  as_called : 3 ≤ length answer → 160 ≤ length sheet → ended ≡ read_call f task tick cost
  unfolding read_answer
  as_called h g = within_enough (decode f) (length sheet) (length answer) task tick cost g h ∙ sym (call_told task tick cost f)

  -- a read that is refused changes no slot
  pub read_halted : (r : ℕ) → Halts ended → r ≡ code_in ended → ReadEnds ended sheet task tick cost answer r sheet task tick cost answer
  unfolding words_after as_words read_column column_after
  read_halted r h e = go ended refl h
    where
      go : (a : Answer File) → ended ≡ a → Halts a → ReadEnds ended sheet task tick cost answer r sheet task tick cost answer
      go (refused q) e' h = record { code = e; words = rw e'; numbers = rw e'; task_column = rw e'; tick_column = rw e'; cost_column = rw e' }
      go (answered x) e' h = absurd h

  -- a count that is a refusal is that of a read that is refused; one that is not tells the releases
  refusal_of_lem : (a : Answer File) (q : Refusal) → refused q ≡ read_count a → a ≡ refused q
  unfolding read_count
  refusal_of_lem (refused p) q h = sym h'
    where
      h' : ◌≡◌ {A = Answer File} (refused q) (refused p)
      h' = cc
  refusal_of_lem (answered x) q h = let z : ◌≡◌ {A = ℕ} 0 1 = cc in absurd (omega arith)

  pub read_refused
      : (r number place : ℕ) (task' tick' cost' : List ℕ)
      → 3 ≤ length answer
      → 160 ≤ length sheet
      → refused (record { number = number; place = place }) ≡ read_count (read_call f task tick cost)
      → r ≡ refusal_code number place
      → task' ≡ read_column (λ q. q.task) (read_call f task tick cost) task
      → tick' ≡ read_column (λ q. q.tick) (read_call f task tick cost) tick
      → cost' ≡ read_column (λ q. q.cost) (read_call f task tick cost) cost
      → ReadEnds ended sheet task tick cost answer r sheet task' tick' cost' answer
  unfolding code_in words_after as_words
  read_refused r number place task' tick' cost' h g e i ta ti co =
      let s = refusal_of_lem (read_call f task tick cost) (record { number = number; place = place }) e in
      rw (as_called h g) (record { code = rw s i; words = rw s refl; numbers = rw s refl; task_column = ta; tick_column = ti; cost_column = co })

  -- the code, the words and the numbers of a read that is answered
  module _ (n : ℕ) (s : TaskSet) where
    read_code : (a : Answer File) → answered n ≡ read_count a → 0 ≡ code_in a
    unfolding read_count code_in
    read_code (refused p) e = let z : ◌≡◌ {A = ℕ} 0 1 = cc in absurd (omega arith)
    read_code (answered x) e = refl

    read_words : (a : Answer File) → answered n ≡ read_count a → s ≡ read_sheet a → s.count ∷ n ∷ s.charge ∷ drop 3 answer ≡ words_after (as_words file_words a) answer
    unfolding read_count read_sheet words_after as_words file_words set_with
    read_words (refused p) e i = let z : ◌≡◌ {A = ℕ} 0 1 = cc in absurd (omega arith)
    read_words (answered x) e i = let m : n ≡ length x.releases = cc in rw (i, m) refl

    read_numbers
        : (a : Answer File)
        → answered n ≡ read_count a
        → s ≡ read_sheet a
        → numbers_of s.tasks ++ drop (length (numbers_of s.tasks)) sheet ≡ words_after (as_words sheet_numbers a) sheet
    unfolding read_count read_sheet words_after as_words entry_numbers sheet_numbers set_with
    read_numbers (refused p) e i = let z : ◌≡◌ {A = ℕ} 0 1 = cc in absurd (omega arith)
    read_numbers (answered x) e i = rw i refl

  pub read_answered
      : (n r : ℕ) (s : TaskSet) (sheet' task' tick' cost' answer' : List ℕ)
      → 3 ≤ length answer
      → 160 ≤ length sheet
      → answered n ≡ read_count (read_call f task tick cost)
      → s ≡ read_sheet (read_call f task tick cost)
      → sheet' ≡ numbers_of s.tasks ++ drop (length (numbers_of s.tasks)) sheet
      → Ends 3 (answered (s.count ∷ n ∷ s.charge ∷ [])) answer r answer'
      → task' ≡ read_column (λ q. q.task) (read_call f task tick cost) task
      → tick' ≡ read_column (λ q. q.tick) (read_call f task tick cost) tick
      → cost' ≡ read_column (λ q. q.cost) (read_call f task tick cost) cost
      → ReadEnds ended sheet task tick cost answer r sheet' task' tick' cost' answer'
  read_answered n r s sheet' task' tick' cost' answer' h g e i se an ta ti co =
      let a = read_call f task tick cost in
      let w = words_put 3 (s.count ∷ n ∷ s.charge ∷ []) answer r answer' h an in
      rw (as_called h g) (record {
        code = w.0 ∙ read_code n s a e;
        words = w.1 ∙ read_words n s a e i;
        numbers = se ∙ read_numbers n s a e i;
        task_column = ta;
        tick_column = ti;
        cost_column = co;
      })
