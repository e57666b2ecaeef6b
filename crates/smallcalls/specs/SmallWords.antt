-- The calls on the small traces for C: what they answer in words, and how they end.
use Rattle.std.specs.Prelude.{ℕ, ◌≡◌, true, false, List, [], ◌∷◌, ltb, length}
use Rattle.std.proofs.Math.Option.{Option, some, none}
use Rattle.model.specs.Tasks.{Tasks, Release}
use Rattle.model.specs.Refusal.{Answer, refused, answered}
use Rattle.enumeration.specs.SmallCalls.{small_call, small_column}
use Rattle.interface.specs.Interface.{code_in, words_after, as_words, too_few}

-- the trace at a position as two words: 1 and the number of its releases; 0 and 0 where there is none
unfoldable pub small_words : Option (List Release) → List ℕ
small_words none = 0 ∷ 0 ∷ []
small_words (some l) = 1 ∷ length l ∷ []

-- the slice for the words is looked at after all else: 13 where n slots are needed and there are fewer
unfoldable pub words_last : {A : Type 0} → ℕ → ℕ → Answer A → Answer A
words_last n slots (refused r) = refused r
words_last n slots (answered a) = elim (ltb slots n) [ true ↦ refused (too_few n) | false ↦ answered a ]

-- the trace at a position, with two words lent after the columns
unfoldable pub small_answer : Tasks → ℕ → ℕ → ℕ → List ℕ → List ℕ → List ℕ → List ℕ → Answer (Option (List Release))
small_answer s n t p task tick cost answer = words_last 2 (length answer) (small_call s n t p task tick cost)

-- how that call ends, given its answer: what it returns, and what stands in the words and in the columns
pub record SmallWordsEnd (a : Answer (Option (List Release))) (task tick cost answer : List ℕ) (r : ℕ) (task' tick' cost' answer' : List ℕ) : Type 0 where
  pub code : r ≡ code_in a
  pub words : answer' ≡ words_after (as_words small_words a) answer
  pub task_column : task' ≡ small_column (λ q. q.task) a task
  pub tick_column : tick' ≡ small_column (λ q. q.tick) a tick
  pub cost_column : cost' ≡ small_column (λ q. q.cost) a cost

-- how a call ends that answers in n words alone, which are looked at last: what it returns, and what stands in the words
pub record WordsEnd {A : Type 0} (n : ℕ) (word : A → List ℕ) (a : Answer A) (answer : List ℕ) (r : ℕ) (answer' : List ℕ) : Type 0 where
  pub code : r ≡ code_in (words_last n (length answer) a)
  pub words : answer' ≡ words_after (as_words word (words_last n (length answer) a)) answer
