-- How the calls on rows end: the length of what is written, and that it is the row of what the definition gives.
use Prim.Native.Nat.{ℕ, ◌≤◌, ◌<◌}
use mathlib.Core.Path.{◌≡◌, refl, sym, ap, ◌∙◌}
use Rattle.std.specs.Prelude as std
use mathlib.Core.Option.{some, none}
use mathlib.Core.List.{List, ◌++◌}
use native.Mathlib.Omega.{arith}
use lib.ListN.{length, take, drop, length-take}
use Rattle.model.specs.Tasks.{Tasks, Valid}
use Rattle.model.specs.Refusal.{Refusal, Answer, refused, answered}
use Rattle.frame.specs.declared.Frame.{Frame}
use Rattle.frame.specs.FrameView.{framed_of}
use Rattle.admission.specs.Offers as admission_offers
use Rattle.admission.specs.Boards as admission_boards
use Rattle.offer.proofs.AskLaws.{planned_few}
use Rattle.plan.specs.declared.Plan.{Plan}
use Rattle.plan.specs.declared.Board.{Board}
use Rattle.plan.specs.PlanView.{plan_view, board_view}
use Rattle.rows.specs.Rows.{offer_numbers, board_numbers, plan_row, board_row}
use Rattle.rows.proofs.RowLaws.{length_plan, length_board}
use Rattle.rows.proofs.RoundRows.{plan_same}
use Rattle.interface.specs.Interface.{refusal_code, code_of, as_words, or_too_few, Ends}
use Rattle.interface.proofs.InterfaceLaws.{ends_refused, ends_answered, put_few, put_words}

-- the length of a row
front_short : (n : ℕ) (l : List ℕ) → n ≤ 32 → length (take n l) ≤ 32
front_short n l h = omega (arith, length-take n l)

plan_long : (p : Plan) (f : std.Option Frame) → p.tasks.count ≤ 32 → length (plan_row (plan_view p f)) ≡ 227
plan_long p f h = length_plan (plan_view p f) h (front_short _ p.keep h) (front_short _ p.worst h)

board_long : (b : Board) → Valid (framed_of b.plan.tasks b.frame) → length (board_row (board_view b)) ≡ 264
board_long b v =
    length_board (board_view b) v.few_tasks v.framed (front_short _ b.plan.keep v.few_tasks) (front_short _ b.plan.worst v.few_tasks)

-- a row that was written
written : (n : ℕ) (l held row : List ℕ) → length l ≡ n → row ≡ l ++ drop n held → row ≡ l ++ drop (length l) held
written n l held row h e = e ∙ ap (λ k. l ++ drop k held) (sym h)

-- a call on a board
module _ (a : Answer admission_boards.Board) (held : List ℕ) where
  pub board_refused
      : (r number place : ℕ) → refused (record { number = number; place = place }) ≡ a
      → r ≡ code_of (some (or_too_few board_numbers (length held) (record { number = number; place = place }))) → Ends board_numbers (as_words board_row a) held r held
  board_refused r number place e c = ends_refused board_numbers board_row a held r number place e c

  module _ (b : Board) (h : answered (board_view b) ≡ a) where
    pub board_few : (r : ℕ) → length held < board_numbers → r ≡ refusal_code 13 board_numbers → Ends board_numbers (as_words board_row a) held r held
    board_few r l c = ends_answered board_numbers board_row a held (board_view b) r held h (put_few board_numbers (board_row (board_view b)) held r l c)

    pub board_written
        : (row : List ℕ) → board_numbers ≤ length held → Valid (framed_of b.plan.tasks b.frame) → row ≡ board_row (board_view b) ++ drop board_numbers held
        → Ends board_numbers (as_words board_row a) held 0 row
    board_written row l v c =
        ends_answered board_numbers board_row a held (board_view b) 0 row h
        (put_words board_numbers (board_row (board_view b)) held row l (written board_numbers (board_row (board_view b)) held row (board_long b v) c))

-- an answer that says what a record or a refusal says
same_refused : (r : Refusal) (a : Answer admission_offers.Plan) → admission_offers.SameAnswer (refused r) a → refused r ≡ a
same_refused r (refused q) h = ap refused h
same_refused r (answered p) h = absurd h

pub record Given (g : admission_offers.Plan) (a : Answer admission_offers.Plan) : Type 0 where
  pub plan : admission_offers.Plan
  pub is : answered plan ≡ a
  pub same : admission_offers.SamePlan g plan

same_answered : (g : admission_offers.Plan) (a : Answer admission_offers.Plan) → admission_offers.SameAnswer (answered g) a → Given g a
same_answered g (refused q) h = absurd h
same_answered g (answered p) h = record { plan = p; is = refl; same = h }

-- an ask
module _ (a : Answer admission_offers.Plan) (held : List ℕ) where
  pub ask_refused
      : (r number place : ℕ) → admission_offers.SameAnswer (refused (record { number = number; place = place })) a
      → r ≡ code_of (some (or_too_few offer_numbers (length held) (record { number = number; place = place }))) → Ends offer_numbers (as_words plan_row a) held r held
  ask_refused r number place h c = ends_refused offer_numbers plan_row a held r number place (same_refused _ a h) c

  module _ (p : Plan) (f : std.Option Frame) (h : admission_offers.SameAnswer (answered (plan_view p f)) a) where
    given : Given (plan_view p f) a
    given = same_answered (plan_view p f) a h

    pub ask_few : (r : ℕ) → length held < offer_numbers → r ≡ refusal_code 13 offer_numbers → Ends offer_numbers (as_words plan_row a) held r held
    ask_few r l c = ends_answered offer_numbers plan_row a held given.plan r held given.is (put_few offer_numbers (plan_row given.plan) held r l c)

    pub ask_written
        : (row : List ℕ) → offer_numbers ≤ length held → p.tasks.count ≤ 32 → row ≡ plan_row (plan_view p f) ++ drop offer_numbers held
        → Ends offer_numbers (as_words plan_row a) held 0 row
    ask_written row l v c =
        let k = plan_same (plan_view p f) given.plan given.same in
        let w = written offer_numbers (plan_row (plan_view p f)) held row (plan_long p f v) c in
        ends_answered offer_numbers plan_row a held given.plan 0 row given.is
        (put_words offer_numbers (plan_row given.plan) held row l (w ∙ ap (λ x. x ++ drop (length x) held) k))

    -- at most 32 tasks
    pub ask_short : (s : Tasks) (t : admission_offers.Entry) (n : ℕ) → a ≡ admission_offers.ask_call s t n → p.tasks.count ≤ 32
    unfolding admission_offers.answer_by
    ask_short s t n k = planned_few none (plan_view p f) a h s t n k refl
