-- What was written is read back as the same, and is well-formed as what was put in force is.
use Prim.Native.Nat.{ℕ, ◌≤◌}
use mathlib.Core.Path.{◌≡◌, sym, ap, ◌∙◌}
use mathlib.Core.List.{List, ◌++◌}
use lib.ListN.{length, drop}
use Rattle.model.specs.Limits.{max_charge}
use Rattle.model.specs.Tasks.{Tasks}
use Rattle.model.specs.Refusal.{Refusal, Answer, refused, answered}
use Rattle.model.specs.Checks.{refusal_of}
use Rattle.admission.specs.Offers.{Plan, plan_of, plan_inputs, plan_call}
use Rattle.admission.specs.Boards as admission_boards
use Rattle.admission.proofs.AskedLaws.{plan_refusal, plan_same, by_answered, by_passed}
use Rattle.admission.proofs.AcceptedLaws.{planned_valid, opens_well, put_in_force, next_well}
use Rattle.offer.proofs.PlanLaws.{kept_long, worst_long}
use Rattle.rows.specs.Rows.{board_numbers, board_row}
use Rattle.rows.specs.RoundRows.{Writable, SameBoard}
use Rattle.rows.proofs.RoundRows.{board_read}
use Rattle.interface.specs.Interface.{words_after, as_words, with_slots, Ends}
use Rattle.interface.proofs.InterfaceLaws.{words_put}
use Rattle.rowcalls.specs.RowsStay.{held_in, Holding, RowsStay}

-- a well-formed board can be written
writable : (b : admission_boards.Board) → admission_boards.WellFormed b → b.plan.tasks.charge ≤ max_charge → Writable b.plan
unfolding plan_call
writable b w h =
    let a = by_answered (refusal_of (plan_inputs b.plan.tasks)) (plan_of b.plan.tasks) b.plan w in
    record {
      valid = planned_valid b w;
      byte = h;
      kept_long = sym (ap (λ (p : Plan). length p.kept) a.1) ∙ kept_long b.plan.tasks a.0;
      worst_long = sym (ap (λ (p : Plan). length p.worst) a.1) ∙ worst_long b.plan.tasks a.0;
    }

-- a board that says the same as a well-formed one is well-formed
well_same : (a b : admission_boards.Board) → SameBoard a b → admission_boards.WellFormed b → admission_boards.WellFormed a
unfolding plan_call
well_same a b h w =
    let x = by_answered (refusal_of (plan_inputs b.plan.tasks)) (plan_of b.plan.tasks) b.plan w in
    let t = h.plan.tasks in
    let o = plan_same a.plan.tasks b.plan.tasks t in
    let ks = o.kept ∙ ap (λ (p : Plan). p.kept) x.1 ∙ sym h.plan.kept in
    let ws = o.worst ∙ ap (λ (p : Plan). p.worst) x.1 ∙ sym h.plan.worst in
    let sc = o.scope ∙ ap (λ (p : Plan). p.scope) x.1 ∙ sym h.plan.scope in
    by_passed _ (plan_of a.plan.tasks) (x.0 ∙ sym (plan_refusal a.plan.tasks b.plan.tasks t))
    ∙ (λ z. answered (record { tasks = a.plan.tasks; kept = ks z; worst = ws z; scope = sc z }))

-- a row with a well-formed board in front
holds : (b : admission_boards.Board) (rest row : List ℕ) → admission_boards.WellFormed b → b.plan.tasks.charge ≤ max_charge → row ≡ board_row b ++ rest → Holding row b
holds b rest row w h e =
    let s = board_read b rest (writable b w h) in
    rw e (record { same = s; well_formed = well_same (held_in (board_row b ++ rest)) b s w })

ended
    : (a : Answer admission_boards.Board) (b : admission_boards.Board) (held : List ℕ) (r : ℕ) (row : List ℕ) → a ≡ answered b → board_numbers ≤ length held
    → Ends board_numbers (as_words board_row a) held r row → (r ≡ 0) × (row ≡ board_row b ++ drop (length (board_row b)) held)
unfolding as_words
ended a b held r row e l h = words_put board_numbers (board_row b) held r row l (rw e at h)

kept_row : (a : Answer admission_boards.Board) (q : Refusal) (held : List ℕ) (r : ℕ) (row : List ℕ) → a ≡ refused q → Ends board_numbers (as_words board_row a) held r row → row ≡ held
unfolding as_words with_slots words_after
kept_row a q held r row e h = let g : Ends board_numbers (refused q) held r row = rw e at h in g.1

-- its charge is that of the sheet, or of the offer
charge_opened
    : (s : Tasks) (b : admission_boards.Board) → admission_boards.open_call s ≡ answered b → s.charge ≤ max_charge → b.plan.tasks.charge ≤ max_charge
unfolding admission_boards.open_call
charge_opened s b e h =
    let a = by_answered (refusal_of (plan_inputs s)) (record { plan = plan_of s; last = 0 }) b e in
    rw (← a.1) h

charge_put
    : (a : admission_boards.Board) (c : admission_boards.Commit) (b : admission_boards.Board) → admission_boards.commit_call a c ≡ answered b
    → c.offer.tasks.charge ≤ max_charge → b.plan.tasks.charge ≤ max_charge
charge_put a c b e h = rw (← (put_in_force a c b e)) h

pub rows_stay : RowsStay
rows_stay = record {
  opened = λ s b held r row h e l g.
      let x = ended _ b held r row e l g in
      let w = opens_well s b e in
      (x.0, holds b _ row w (charge_opened s b e h) x.1);
  committed = λ c b held r row h e l g.
      let x = ended _ b held r row e l g in
      (x.0, holds b _ row (next_well (held_in held) c b e) (charge_put (held_in held) c b e h) x.1);
  left = λ c q held r row e g. kept_row _ q held r row e g;
}
