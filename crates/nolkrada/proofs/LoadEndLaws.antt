-- Laws of how a load ends.
use Prim.Native.Nat.{ℕ, ◌≤◌, ◌<◌}
use mathlib.Core.Path.{◌≡◌, refl, sym, ap, ◌∙◌}
use mathlib.Core.Option.{Option, some, none}
use mathlib.Core.List.{List, [], ◌∷◌, ◌++◌}
use lib.ListN.{length, drop}
use Rattle.model.specs.Refusal.{Refusal, Answer, refused, answered}
use Rattle.model.specs.Checks.{check_slots}
use Rattle.model.proofs.CheckLaws.{slots_short, slots_next, slots_none}
use Rattle.taskset.specs.declared.Task.{Task}
use Rattle.taskset.specs.declared.TaskSet.{TaskSet}
use Rattle.fileformat.specs.FileCalls.{set_of, set_with}
use Rattle.textformat.specs.TextSheet.{load}
use Rattle.interface.specs.Interface.{refusal_code, code_in, words_after, as_words, too_few, Ends}
use Rattle.interface.specs.TaskNumbers.{numbers_of}
use Rattle.nolkrada.specs.Files.{entry_numbers}
use Rattle.nolkrada.specs.Texts.{text_word, load_lent, load_within, load_answer, LoadEnds}
use Rattle.interface.proofs.InterfaceLaws.{words_put}

module _ (text sheet answer : List ℕ) where
  abbrev ended : Answer (List Task)
  ended = load_answer text sheet answer

  -- what the text and the slices answer
  ended_refused : (q : Refusal) → load text ≡ refused q → ended ≡ refused q
  unfolding load_answer load_within
  ended_refused q e = rw (load_answer, e)

  ended_slots
      : (ts : List Task) (o : Option Refusal)
      → load text ≡ answered ts
      → check_slots (load_lent (length sheet) (length answer)) ≡ o
      → ended ≡ elim o [ none ↦ answered ts | some q ↦ refused q ]
  unfolding load_answer load_within
  ended_slots ts o e h = rw (load_answer, e, load_within, h)

  -- a load that is refused changes no slot
  load_halted : (q : Refusal) (r : ℕ) → ended ≡ refused q → r ≡ refusal_code q.number q.place → LoadEnds ended sheet answer r sheet answer
  unfolding code_in words_after as_words
  load_halted q r e i = rw e (record { code = i; words = refl; numbers = refl })

  -- what is wrong with the text
  pub load_refused
      : (r number place : ℕ)
      → load text ≡ refused (record { number = number; place = place })
      → r ≡ refusal_code number place
      → LoadEnds ended sheet answer r sheet answer
  load_refused r number place e i = load_halted (record { number = number; place = place }) r (ended_refused _ e) i

  -- too few slots for the sheet, or for the word
  pub load_no_sheet : (ts : List Task) (r : ℕ) → load text ≡ answered ts → length sheet < 160 → r ≡ refusal_code 13 160 → LoadEnds ended sheet answer r sheet answer
  load_no_sheet ts r e h i = load_halted (too_few 160) r (ended_slots ts (some (too_few 160)) e (sym (slots_short _ _ h))) i

  pub load_no_word
      : (ts : List Task) (r : ℕ)
      → load text ≡ answered ts
      → 160 ≤ length sheet
      → length answer < 1
      → r ≡ refusal_code 13 1
      → LoadEnds ended sheet answer r sheet answer
  load_no_word ts r e h g i = load_halted (too_few 1) r (ended_slots ts (some (too_few 1)) e (slots_next _ _ h ∙ sym (slots_short _ _ g))) i

  -- the tasks: their sheet and their number are put
  pub load_answered
      : (ts : List Task) (s : TaskSet) (r : ℕ) (sheet' answer' : List ℕ)
      → load text ≡ answered ts
      → s ≡ set_of ts
      → 160 ≤ length sheet
      → 1 ≤ length answer
      → sheet' ≡ numbers_of s.tasks ++ drop (length (numbers_of s.tasks)) sheet
      → Ends 1 (answered (s.count ∷ [])) answer r answer'
      → LoadEnds ended sheet answer r sheet' answer'
  unfolding code_in words_after as_words text_word entry_numbers set_with
  load_answered ts s r sheet' answer' e d h g se an =
      let w = words_put 1 (s.count ∷ []) answer r answer' g an in
      let a : ended ≡ answered ts = ended_slots ts none e (slots_next _ _ h ∙ slots_next _ _ g ∙ sym slots_none) in
      rw a (record {
        code = w.0;
        words = w.1 ∙ ap (λ (x : TaskSet). x.count ∷ drop 1 answer) d;
        numbers = se ∙ ap (λ (x : TaskSet). numbers_of x.tasks ++ drop (length (numbers_of x.tasks)) sheet) d;
      })
