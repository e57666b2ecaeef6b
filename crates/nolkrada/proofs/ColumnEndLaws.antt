-- Laws of how a call ends that answers in two columns and a word.
use Prim.Native.Nat.{ℕ, ◌≤◌, ◌<◌}
use mathlib.Core.Path.{◌≡◌, refl}
use mathlib.Core.Option.{Option, some, none}
use mathlib.Core.List.{List}
use native.Mathlib.Omega.{arith}
use lib.ListN.{length}
use Rattle.model.specs.Refusal.{Refusal, Answer, refused, answered}
use Rattle.model.specs.Checks.{Inputs, refusal_of, answer_of}
use Rattle.model.specs.Calls.{column_after}
use Rattle.interface.specs.Interface.{refusal_code, code_of, code_in, words_after, as_words, or_too_few, with_slots, Ends}
use Rattle.interface.proofs.InterfaceLaws.{with_enough, with_few, words_put}
use Rattle.nolkrada.specs.Runs.{ColumnsEnd}

module _ {A : Type 0} (c : Inputs) (x : A) where
  -- a column after a call with these inputs, given its answer
  column_answered : (k : A) (l held out : List ℕ) → answered k ≡ answer_of c x → out ≡ column_after (refusal_of c) l held → out ≡ words_after (answered l) held
  unfolding words_after column_after answer_of
  column_answered k l held out e h = go (refusal_of c) refl
    where
      go : (o : Option Refusal) → refusal_of c ≡ o → out ≡ words_after (answered l) held
      go none g = rw g at h
      go (some q) g =
          let e' : answered k ≡ refused q = rw (answer_of, g) at e in
          let z : ◌≡◌ {A = ℕ} 0 1 = cc in absurd (omega arith)

  column_refused : (q : Refusal) (l held out : List ℕ) → refused q ≡ answer_of c x → out ≡ column_after (refusal_of c) l held → out ≡ held
  unfolding column_after answer_of
  column_refused q l held out e h = go (refusal_of c) refl
    where
      go : (o : Option Refusal) → refusal_of c ≡ o → out ≡ held
      go none g =
          let e' : refused q ≡ answered x = rw (answer_of, g) at e in
          let z : ◌≡◌ {A = ℕ} 0 1 = cc in absurd (omega arith)
      go (some p) g = rw g at h

  -- a call with these inputs and this value, which puts two lists into the columns
  module _ (word : A → List ℕ) (firsts seconds first second answer : List ℕ) where
    abbrev ended : Answer A
    ended = with_slots 1 (length answer) (answer_of c x)

    as_called : 1 ≤ length answer → ended ≡ answer_of c x
    as_called h = with_enough 1 (length answer) _ h

    -- where no word is lent: the refusal of the call without it, unless 13 comes first
    pub ends_stopped
        : (r number place : ℕ)
        → some (record { number = number; place = place }) ≡ refusal_of c
        → r ≡ code_of (some (or_too_few 1 (length answer) (record { number = number; place = place })))
        → ColumnsEnd word ended firsts seconds first second answer r first second answer
    unfolding answer_of with_slots code_of code_in words_after as_words
    ends_stopped r number place h e = rw (answer_of, ← h) (record { code = e; words = refl; first_column = refl; second_column = refl })

    pub ends_no_words : (r : ℕ) → length answer < 1 → none ≡ refusal_of c → r ≡ refusal_code 13 1
        → ColumnsEnd word ended firsts seconds first second answer r first second answer
    unfolding answer_of code_in words_after as_words
    ends_no_words r h g e =
        rw (answer_of, ← g, with_few 1 (length answer) x h) (record { code = e; words = refl; first_column = refl; second_column = refl })

    pub ends_refused
        : (r number place : ℕ) (first' second' : List ℕ)
        → 1 ≤ length answer
        → refused (record { number = number; place = place }) ≡ answer_of c x
        → r ≡ refusal_code number place
        → first' ≡ column_after (refusal_of c) firsts first
        → second' ≡ column_after (refusal_of c) seconds second
        → ColumnsEnd word ended firsts seconds first second answer r first' second' answer
    unfolding code_in words_after as_words
    ends_refused r number place first' second' h e i a b =
        rw (as_called h, ← e)
        (record {
          code = i;
          words = refl;
          first_column = column_refused _ firsts first first' e a;
          second_column = column_refused _ seconds second second' e b;
        })

    pub ends_answered
        : (k : A) (r : ℕ) (first' second' answer' : List ℕ)
        → 1 ≤ length answer
        → answered k ≡ answer_of c x
        → first' ≡ column_after (refusal_of c) firsts first
        → second' ≡ column_after (refusal_of c) seconds second
        → Ends 1 (answered (word k)) answer r answer'
        → ColumnsEnd word ended firsts seconds first second answer r first' second' answer'
    unfolding code_in words_after as_words
    ends_answered k r first' second' answer' h e a b w =
        let w' = words_put 1 (word k) answer r answer' h w in
        rw (as_called h, ← e)
        (record {
          code = w'.0;
          words = w'.1;
          first_column = column_answered k firsts first first' e a;
          second_column = column_answered k seconds second second' e b;
        })
