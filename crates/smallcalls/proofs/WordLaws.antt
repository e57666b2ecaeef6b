-- How a call on the small traces for C ends, by its answer: the code, the words and the columns.
use Prim.Native.Nat.{ℕ, ◌≤◌, ◌<◌}
use mathlib.Core.Path.{◌≡◌, refl, sym, ap, ◌∙◌}
use mathlib.Core.Bool.{Bool, true, false}
use mathlib.Core.Option.{Option, some, none}
use mathlib.Core.List.{List, [], ◌∷◌}
use borrow.Author.Tests.{lt-ltb, le-ltb}
use lib.Dec.{ltb}
use lib.ListN.{length}
use Rattle.model.specs.Tasks.{Release}
use Rattle.model.specs.Refusal.{Refusal, Answer, refused, answered}
use Rattle.enumeration.specs.SmallCalls.{small_column}
use Rattle.interface.specs.Interface.{refusal_code, code_in, words_after, as_words, with_slots, too_few, Ends}
use Rattle.std.specs.Prelude as std
use Rattle.std.specs.Prelude.{Ok}
use Rattle.smalltraces.specs.SmallAnswers.{SmallEnds}
use Rattle.smallcalls.specs.SmallWords.{small_words, words_last, SmallWordsEnd, WordsEnd}

-- an answer put into n words, or too few of them
as_slots : {A : Type 0} (word : A → List ℕ) (n slots : ℕ) (v : A) → as_words word (words_last n slots (answered v)) ≡ with_slots n slots (answered (word v))
unfolding words_last with_slots as_words
as_slots {A} word n slots v = go (ltb slots n)
  where
    go : (b : Bool) → as_words word (elim b [ true ↦ refused (too_few n) | false ↦ answered v ]) ≡ elim b [ true ↦ refused (too_few n) | false ↦ answered (word v) ]
    go true = refl
    go false = refl

code_words : {A : Type 0} (word : A → List ℕ) (a : Answer A) → code_in (as_words word a) ≡ code_in a
unfolding as_words code_in
code_words word (answered v) = refl
code_words word (refused q) = refl

-- a call that answers in n words alone: a refusal, and an answer
module _ {A : Type 0} (n : ℕ) (word : A → List ℕ) (a : Answer A) (answer : List ℕ) where
  pub end_refused : (q : Refusal) (r : ℕ) → a ≡ refused q → r ≡ refusal_code q.number q.place → WordsEnd n word a answer r answer
  unfolding words_last code_in as_words words_after
  end_refused q r e f = rw e (record { code = f; words = refl })

  pub end_answered : (v : A) (r : ℕ) (answer' : List ℕ) → a ≡ answered v → Ends n (answered (word v)) answer r answer' → WordsEnd n word a answer r answer'
  end_answered v r answer' e w =
      rw e
      (record {
        code = w.0 ∙ ap code_in (sym (as_slots word n (length answer) v)) ∙ code_words word (words_last n (length answer) (answered v));
        words = w.1 ∙ ap (λ (x : Answer (List ℕ)). words_after x answer) (sym (as_slots word n (length answer) v));
      })

-- the call for a trace: the words by such an end, and the columns
module _ (a : Answer (Option (List Release))) (task tick cost answer : List ℕ) where
  abbrev b : Answer (Option (List Release))
  b = words_last 2 (length answer) a

  -- where nothing is written to the columns
  pub still : (r : ℕ) (answer' : List ℕ) → WordsEnd 2 small_words a answer r answer' → ((f : Release → ℕ) (held : List ℕ) → held ≡ small_column f b held)
      → SmallWordsEnd b task tick cost answer r task tick cost answer'
  still r answer' w h =
      record { code = w.code; words = w.words; task_column = h _ task; tick_column = h _ tick; cost_column = h _ cost }

  pub trace_refused : (q : Refusal) (r : ℕ) → a ≡ refused q → r ≡ refusal_code q.number q.place → SmallWordsEnd b task tick cost answer r task tick cost answer
  unfolding words_last small_column
  trace_refused q r e f = still r answer (end_refused 2 small_words a answer q r e f) (λ g held. ap (λ (x : Answer (Option (List Release))). small_column g (words_last 2 (length answer) x) held) (sym e))

  pub trace_past : (r : ℕ) (answer' : List ℕ) → a ≡ answered none → Ends 2 (answered (0 ∷ 0 ∷ [])) answer r answer' → SmallWordsEnd b task tick cost answer r task tick cost answer'
  unfolding words_last small_column small_words
  trace_past r answer' e w =
      still r answer' (end_answered 2 small_words a answer none r answer' e w)
      (λ g held. go g held (ltb (length answer) 2) ∙ ap (λ (x : Answer (Option (List Release))). small_column g (words_last 2 (length answer) x) held) (sym e))
    where
      go : (g : Release → ℕ) (held : List ℕ) (c : Bool) → held ≡ small_column g (elim c [ true ↦ refused (too_few 2) | false ↦ answered none ]) held
      go g held true = refl
      go g held false = refl

  module _ (l : List Release) (e : a ≡ answered (some l)) where
    -- too few words
    few : length answer < 2 → b ≡ refused (too_few 2)
    unfolding words_last
    few h = rw (e, words_last, lt-ltb (length answer) 2 h)

    enough : 2 ≤ length answer → b ≡ a
    unfolding words_last
    enough h = rw (e, words_last, le-ltb (length answer) 2 h)

    pub trace_few : (r : ℕ) → length answer < 2 → r ≡ refusal_code 13 2 → SmallWordsEnd b task tick cost answer r task tick cost answer
    unfolding code_in as_words words_after small_column
    trace_few r h f = rw (few h) (record { code = f; words = refl; task_column = refl; tick_column = refl; cost_column = refl })

    -- the trace is there
    pub trace_put
        : (k r : ℕ) (task' tick' cost' answer' : List ℕ) → length l ≡ k → 2 ≤ length answer → SmallEnds a task tick cost task' tick' cost' (Ok (std.Some k))
        → Ends 2 (answered (1 ∷ k ∷ [])) answer r answer' → SmallWordsEnd b task tick cost answer r task' tick' cost' answer'
    unfolding small_words
    trace_put k r task' tick' cost' answer' f h s w =
        let v = end_answered 2 small_words a answer (some l) r answer' e (rw f w) in
        record {
          code = v.code;
          words = v.words;
          task_column = rw (enough h) s.task_column;
          tick_column = rw (enough h) s.tick_column;
          cost_column = rw (enough h) s.cost_column;
        }
