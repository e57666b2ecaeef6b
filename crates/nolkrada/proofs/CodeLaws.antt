-- Every refusal of a call for C has one of the numbers and a place below 2^32, so that its code tells both.
use Prim.Native.Nat.{ℕ, ◌+◌, ◌*◌, ◌/◌, ◌%◌, ◌≤◌, ◌<◌}
use mathlib.Core.Path.{◌≡◌, refl, sym, ap, ap₂, ◌∙◌}
use mathlib.Core.Bool.{Bool, true, false, ◌&&◌}
use mathlib.Core.Option.{Option, some, none}
use mathlib.Core.List.{List}
use native.Mathlib.Omega.{arith}
use native.Mathlib.Nat.{mod-eq_of_lt, div-eq_of_lt, mul-add-div_right, mul-add-mod_self_right}
use borrow.Author.Tests.{ne_eqb}
use lib.Dec.{ltb}
use lib.ListN.{length}
use Rattle.model.specs.Limits.{max_tasks, max_releases}
use Rattle.model.specs.Refusal.{Refusal, Answer, refused, answered}
use Rattle.model.specs.Calls.{arrival_call, verdict_call, choice_call, trace_call, jump_call}
use Rattle.model.proofs.RefusalPlaces.{Within, within_more, Needs, needs, needs_none, slots_within, refusal_within, answer_within, task_limited, choice_limited, list_limited, ready_limited, run_limited}
use Rattle.taskset.specs.declared.Task.{Task}
use Rattle.taskset.specs.TaskSet.{view_of}
use Rattle.fileformat.specs.File.{File, decode}
use Rattle.fileformat.proofs.RoundTrips.{decode_valid}
use Rattle.fileformat.proofs.FilePlaces.{decode_within, write_limited}
use Rattle.textformat.specs.TextSheet.{load}
use Rattle.textformat.proofs.TextPlaces.{load_within_lem}
use Rattle.monitor.specs.Layout.{window_slots}
use Rattle.monitor.proofs.PlaceLaws.{open_limited, task_within, show_within, all_within}
use Rattle.admission.proofs.PlaceLaws.{open_within, ask_within, commit_within}
use Rattle.plan.specs.PlanView.{task_entry}
use Rattle.rows.specs.Rows.{offer_numbers, board_numbers, plan_row, board_row}
use Rattle.interface.specs.Interface.{task_at, sheet_from, framed_from, refusal_code, code_of, code_in, as_words, too_few, after_slots, or_too_few, with_slots, one_word, verdict_words, trace_words, shown_words}
use Rattle.enumeration.proofs.PlaceLaws.{small_within, count_within}
use Rattle.smallcalls.specs.SmallWords.{words_last, small_answer}
use Rattle.nolkrada.specs.Files.{read_lent, read_within, read_answer, write_answer}
use Rattle.nolkrada.specs.Texts.{load_lent, load_within, load_answer}
use Rattle.nolkrada.specs.Runs.{jump_answer, choice_answer}
use Rattle.nolkrada.specs.Codes.{told, refusal_from, Tells, TellsOf, CodesTell, SmallCodesTell}

-- the largest place that a code holds
abbrev top : ℕ
top = 4294967295

-- the code of a refusal within bounds: number · 2^32 + place, no bit of the place being lost
pub code_whole : (r : Refusal) → Within top r → refusal_code r.number r.place ≡ r.number * 4294967296 + r.place
unfolding refusal_code
code_whole r w = ap (λ x. r.number * 4294967296 + x) (mod-eq_of_lt (omega (arith, w.place_high)))

-- and back
pub told_code : (r : Refusal) → Within top r → told (refusal_code r.number r.place) ≡ some r
unfolding told
told_code r w = ap told (code_whole r w) ∙ back
  where
    small : r.place < 4294967296
    small = omega (arith, w.place_high)

    number : (r.number * 4294967296 + r.place) / 4294967296 ≡ r.number
    number = omega (arith, mul-add-div_right {m = 4294967296} (omega arith) r.number r.place, div-eq_of_lt small)

    place : (r.number * 4294967296 + r.place) % 4294967296 ≡ r.place
    place = mul-add-mod_self_right r.number 4294967296 r.place ∙ mod-eq_of_lt small

    back : told (r.number * 4294967296 + r.place) ≡ some r
    back =
        rw (told, ne_eqb (r.number * 4294967296 + r.place) 0 (λ e. omega (arith, w.number_low)))
        (ap₂ (λ n p. some (record { number = n; place = p })) number place)

-- refusals within bounds are told
tells : (o : Option Refusal) → ((r : Refusal) → some r ≡ o → Within top r) → Tells o
unfolding code_of told
tells none h = refl
tells (some r) h = told_code r (h r refl)

tells_of : {A : Type 0} (a : Answer A) → ((r : Refusal) → a ≡ refused r → Within top r) → TellsOf a
unfolding code_in refusal_from told
tells_of (answered x) h = refl
tells_of (refused r) h = told_code r (h r refl)

-- words of an answer keep its refusal
words_refused : {A : Type 0} (f : A → List ℕ) (a : Answer A) (r : Refusal) → as_words f a ≡ refused r → a ≡ refused r
unfolding as_words
words_refused f (answered x) r e = let z : ◌≡◌ {A = ℕ} 0 1 = cc in absurd (omega arith)
words_refused f (refused q) r e = ap refused (cc)

-- one more lent slice, of at most 1,024 slots
few_within : (n : ℕ) → n ≤ max_releases → Within top (too_few n)
few_within n h = record { number_low = omega arith; number_high = omega arith; place_high = omega arith }

more_within : (n slots : ℕ) (r : Refusal) → n ≤ max_releases → Within top r → Within top (or_too_few n slots r)
unfolding or_too_few
more_within n slots r h w = go (ltb slots n && after_slots r.number) refl
  where
    go : (b : Bool) → (ltb slots n && after_slots r.number) ≡ b → Within top (or_too_few n slots r)
    go true e = rw (or_too_few, e) (few_within n h)
    go false e = rw (or_too_few, e) w

slots_told : {A : Type 0} (n slots : ℕ) (a : Answer A) → n ≤ max_releases → ((r : Refusal) → a ≡ refused r → Within top r) → TellsOf (with_slots n slots a)
unfolding with_slots code_in refusal_from
slots_told n slots (answered x) h f = go (ltb slots n) refl
  where
    go : (b : Bool) → ltb slots n ≡ b → TellsOf (with_slots n slots (answered x))
    go true e = rw (with_slots, e) (told_code (too_few n) (few_within n h))
    go false e = rw (with_slots, e) (tells_of (answered x) (λ r g. let z : ◌≡◌ {A = ℕ} 0 1 = cc in absurd (omega arith)))
slots_told n slots (refused q) h f = told_code (or_too_few n slots q) (more_within n slots q h (f q refl))

words_told
    : {A : Type 0} (n slots : ℕ) (f : A → List ℕ) (a : Answer A) → n ≤ max_releases → ((r : Refusal) → a ≡ refused r → Within top r) → TellsOf (with_slots n slots (as_words f a))
words_told n slots f a h g = slots_told n slots (as_words f a) h (λ r e. g r (words_refused f a r e))

-- words that are looked at after all else
last_told : {A : Type 0} (n slots : ℕ) (a : Answer A) → n ≤ max_releases → ((r : Refusal) → a ≡ refused r → Within top r) → TellsOf (words_last n slots a)
unfolding words_last code_in refusal_from
last_told n slots (answered x) h f = go (ltb slots n) refl
  where
    go : (b : Bool) → ltb slots n ≡ b → TellsOf (words_last n slots (answered x))
    go true e = rw (words_last, e) (told_code (too_few n) (few_within n h))
    go false e = rw (words_last, e) (tells_of (answered x) (λ r g. let z : ◌≡◌ {A = ℕ} 0 1 = cc in absurd (omega arith)))
last_told n slots (refused q) h f = told_code q (f q refl)

-- what is answered once the lent slices are checked: a refusal is that of the slices
slotted : {A : Type 0} (x : A) (o : Option Refusal) (r : Refusal) → ◌≡◌ {A = Answer A} (elim o [ none ↦ answered x | some q ↦ refused q ]) (refused r) → some r ≡ o
slotted x none r e = let z : ◌≡◌ {A = ℕ} 0 1 = cc in absurd (omega arith)
slotted x (some q) r e = let i : q ≡ r = cc in sym (ap some i)

-- a read: the file's refusal, or 13 for at most 1,024 slots
lent_needs : (m sheet task tick cost answer : ℕ) → m ≤ max_releases → Needs max_releases (read_lent m sheet task tick cost answer)
lent_needs m sheet task tick cost answer h =
    let a : 160 ≤ max_releases = omega arith in let b : 3 ≤ max_releases = omega arith in needs a (needs h (needs h (needs h (needs b needs_none))))

read_within_lem
    : (f : List ℕ) (a : Answer File) (sheet task tick cost answer : ℕ) (r : Refusal) → decode f ≡ a → read_within a sheet task tick cost answer ≡ refused r → Within top r
unfolding read_within
read_within_lem f (refused q) sheet task tick cost answer r d e = within_more 14915 top r (omega arith) (decode_within f r (d ∙ e))
read_within_lem f (answered x) sheet task tick cost answer r d e =
    within_more max_releases top r (omega arith)
    (slots_within max_releases _ r (lent_needs (length x.releases) sheet task tick cost answer (decode_valid f x d).few) (slotted x _ r e))

-- a load: the text's refusal, or 13 for at most 160 slots
load_slots : (text : List ℕ) (a : Answer (List Task)) (sheet answer : ℕ) (r : Refusal) → load text ≡ a → load_within a sheet answer ≡ refused r → Within top r
unfolding load_within
load_slots text (refused q) sheet answer r d e = within_more max_tasks top r (omega arith) (load_within_lem text r (d ∙ e))
load_slots text (answered ts) sheet answer r d e =
    let a : 160 ≤ 160 = omega arith in
    let b : 1 ≤ 160 = omega arith in
    within_more 160 top r (omega arith) (slots_within 160 (load_lent sheet answer) r (needs a (needs b needs_none)) (slotted ts _ r e))

-- the code of every call for C tells its refusal
pub codes_tell : CodesTell
unfolding arrival_call verdict_call trace_call jump_call choice_call jump_answer choice_answer read_answer load_answer write_answer
codes_tell = record {
  arrival = λ sheet count charge task kept t answer h.
      words_told 1 (length answer) one_word _ (omega arith)
      (λ r. answer_within top _ _ r (task_limited (view_of (sheet_from sheet count charge)) top task kept (omega arith) (omega arith)));
  verdict = λ sheet count charge frame task kept answer h.
      words_told 4 (length answer) verdict_words _ (omega arith)
      (λ r. answer_within top _ _ r (task_limited (framed_from sheet count charge frame) top task kept (omega arith) (omega arith)));
  choice = λ sheet count charge frame kept worst answer.
      slots_told 1 (length answer) _ (omega arith)
      (λ r e. within_more max_releases top r (omega arith)
      (answer_within max_releases _ _ r (choice_limited (framed_from sheet count charge frame) kept worst) e));
  trace = λ sheet count charge n task tick cost answer.
      words_told 2 (length answer) trace_words _ (omega arith)
      (λ r e. within_more max_releases top r (omega arith) (answer_within max_releases _ _ r (list_limited (view_of (sheet_from sheet count charge)) n task tick cost) e));
  ready = λ sheet count charge kept n task tick cost ready.
      tells _ (λ r e. within_more max_releases top r (omega arith)
      (refusal_within max_releases _ (ready_limited (view_of (sheet_from sheet count charge)) kept n task tick cost ready) r e));
  run = λ sheet count charge frame kept n task tick cost ready finish.
      tells _ (λ r e. within_more max_releases top r (omega arith)
      (refusal_within max_releases _ (run_limited (framed_from sheet count charge frame) kept n task tick cost ready finish) r e));
  jump = λ sheet count charge frame kept n task tick cost ready finish answer.
      slots_told 1 (length answer) _ (omega arith)
      (λ r e. within_more max_releases top r (omega arith)
      (answer_within max_releases _ _ r (run_limited (framed_from sheet count charge frame) kept n task tick cost ready finish) e));
  read =
      λ file sheet task tick cost answer. tells_of _
      (λ r. read_within_lem file (decode file) (length sheet) (length task) (length tick) (length cost) (length answer) r refl);
  load = λ text sheet answer. tells_of _ (λ r. load_slots text (load text) (length sheet) (length answer) r refl);
  write = λ sheet count charge n task tick cost out answer.
      slots_told 1 (length answer) _ (omega arith)
      (λ r e. within_more 14915 top r (omega arith) (answer_within 14915 _ _ r (write_limited (view_of (sheet_from sheet count charge)) n task tick cost (length out)) e));
  monitor_open = λ sheet count charge window.
      tells _ (λ r e. within_more max_releases top r (omega arith)
      (refusal_within max_releases _ (open_limited (view_of (sheet_from sheet count charge)) window) r e));
  monitor_take = λ window task h. tells _ (λ r. task_within top window task r (omega arith) (omega arith));
  monitor_show = λ window task answer h.
      words_told 3 (length answer) shown_words _ (omega arith) (λ r. show_within top window task r (omega arith) (omega arith));
  monitor_show_all = λ window jobs late largest. tells _ (λ r e. within_more window_slots top r (omega arith) (all_within window jobs late largest r e));
  board_open = λ sheet count charge frame board.
      words_told board_numbers (length board) board_row _ (omega arith)
      (λ r e. within_more max_releases top r (omega arith) (open_within (framed_from sheet count charge frame) r e));
  board_ask = λ sheet count charge frame task place offer h.
      words_told offer_numbers (length offer) plan_row _ (omega arith)
      (λ r. ask_within top (framed_from sheet count charge frame) (task_entry (task_at task 0)) place r (omega arith) (omega arith));
  board_commit = λ board offer sheet count charge frame n task tick cost at.
      words_told board_numbers (length board) board_row _ (omega arith) (λ r e. within_more max_releases top r (omega arith) (commit_within _ _ r e));
}

pub small_codes_tell : SmallCodesTell
unfolding small_answer
small_codes_tell = record {
  small_trace = λ sheet count charge releases ticks position task tick cost answer h k.
      last_told 2 (length answer) _ (omega arith)
      (λ r. small_within top (view_of (sheet_from sheet count charge)) releases ticks (omega arith) (omega arith) (omega arith) position task tick cost r);
  small_trace_count = λ sheet count charge releases ticks answer h k.
      last_told 1 (length answer) _ (omega arith)
      (λ r. count_within top (view_of (sheet_from sheet count charge)) releases ticks (omega arith) (omega arith) (omega arith) r);
}
