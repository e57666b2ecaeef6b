-- Laws of opening and commit: each check in turn, the run of the releases, and what is answered.
use Prim.Native.Nat.{ℕ, ◌≤◌, ◌<◌}
use mathlib.Core.Path.{◌≡◌, sym, ap, ◌∙◌}
use mathlib.Core.Bool.{Bool, true, false}
use mathlib.Core.Option.{Option, some, none}
use mathlib.Core.List.{List, [], ◌∷◌, ◌++◌}
use native.Mathlib.Omega.{arith}
use borrow.Author.Tests.{lt-ltb, le-ltb}
use lib.ListN.{length, take, drop, length-append}
use lib.Seq.{take-append_seam}
use Rattle.model.specs.Limits.{max_tasks, max_releases}
use Rattle.model.specs.Frame.{Frame}
use Rattle.model.specs.Slots.{Holds}
use Rattle.model.specs.Tasks.{Tasks, with_frame, Valid}
use Rattle.model.specs.Run.{finish_at, finish_list}
use Rattle.model.specs.Choice.{column}
use Rattle.model.specs.Refusal.{Refusal, refuse, Answer, refused, answered, first_refusal}
use Rattle.model.specs.Checks.{refuse_if, check_tasks, check_count, check_slots, check_kept, check_releases, refusal_of}
use Rattle.model.specs.Calls.{lends, releases_of, column_after, run_inputs}
use Rattle.model.proofs.TableLaws.{length_table}
use Rattle.model.proofs.CheckLaws.{valid_of, count_of, slots_next, slots_none, slots_rest}
use Rattle.model.proofs.OrderLaws.{no_single, no_unfit, first_refusal_lem, next_check, last_decides, both_none, accepts}
use Rattle.model.proofs.RefusalPlaces.{by_first, by_last}
use Rattle.model.proofs.FramedLaws.{kept_alike}
use Rattle.releases.proofs.ReleaseLaws.{length_releases}
use Rattle.admission.specs.Offers.{Plan, plan_of, plan_inputs, answer_by, plan_call}
use Rattle.admission.specs.Boards.{Board, open_call, Commit, stale, any_over, too_soon, commit_refusal, commit_call, board_after}
use Rattle.admission.proofs.SinceLaws.{since_passes}
use Rattle.board.specs.BoardCalls.{list_refusal, soon_after}
use Rattle.board.proofs.OverLaws.{column_kept}

-- a board opens with what was planned
pub opened : (s : Tasks) (o : Option Refusal) (p : Plan) → answer_by o p ≡ plan_call s → answer_by o (record { plan = p; last = 0 }) ≡ open_call s
unfolding plan_call open_call answer_by
opened s o p e = go o (refusal_of (plan_inputs s)) e
  where
    go
        : (o r : Option Refusal) → answer_by o p ≡ answer_by r (plan_of s)
        → answer_by {A = Board} o (record { plan = p; last = 0 }) ≡ answer_by {A = Board} r (record { plan = plan_of s; last = 0 })
    go none none h = let w : p ≡ plan_of s = cc in let f : Plan → Answer Board = λ x. answered (record { plan = x; last = 0 }) in ap f w
    go none (some r) h = let z : ◌≡◌ {A = ℕ} 0 1 = cc in absurd (omega arith)
    go (some q) none h = let z : ◌≡◌ {A = ℕ} 0 1 = cc in absurd (omega arith)
    go (some q) (some r) h = let w : q ≡ r = cc in ap refused w

-- the checks of kept jitters and of releases do not look at the frame, nor at slots past the kept jitters
pub kept_check
    : (o : Option Frame) (s : Tasks) (keep kept : List ℕ) → Holds (column keep) s.count 32 kept
    → check_kept (with_frame none s) (some (column kept)) ≡ check_kept (with_frame o s) (some (column (take s.count keep)))
kept_check o s keep kept h =
    ap (λ (k : ℕ → ℕ). check_kept (with_frame none s) (some k)) (column_kept s.count keep kept h) ∙ kept_alike o s (some (column (take s.count keep)))

-- the checks before the offer
module _ (b : Board) (n : ℕ) (task tick cost : List ℕ) where
  abbrev s : Tasks
  s = b.plan.tasks

  abbrev sheet : Option Refusal
  sheet = check_tasks s

  abbrev slots : Option Refusal
  slots = check_slots (lends n task ∷ lends n tick ∷ lends n cost ∷ [])

  abbrev keeps : Option Refusal
  keeps = check_kept s (some (column b.plan.kept))

  abbrev list : Option Refusal
  list = check_releases s b.last 0 (releases_of n task tick cost)

  module _ (r : Refusal) where
    pub list_sheet : some r ≡ sheet → some r ≡ list_refusal b n task tick cost
    unfolding list_refusal
    list_sheet h = first_refusal_lem _ _ r h

    pub list_count : none ≡ sheet → some r ≡ check_count (some n) → some r ≡ list_refusal b n task tick cost
    unfolding list_refusal
    list_count t h = first_refusal_lem _ _ r h ∙ next_check _ _ t

    pub list_slots : none ≡ sheet → none ≡ check_count (some n) → some r ≡ slots → some r ≡ list_refusal b n task tick cost
    unfolding list_refusal
    list_slots t c h = first_refusal_lem _ _ r h ∙ next_check _ _ c ∙ next_check _ _ t

    pub list_kept : none ≡ sheet → none ≡ check_count (some n) → none ≡ slots → some r ≡ keeps → some r ≡ list_refusal b n task tick cost
    unfolding list_refusal
    list_kept t c l h = first_refusal_lem _ _ r h ∙ next_check _ _ l ∙ next_check _ _ c ∙ next_check _ _ t

  pub list_releases : none ≡ sheet → none ≡ check_count (some n) → none ≡ slots → none ≡ keeps → list ≡ list_refusal b n task tick cost
  unfolding list_refusal
  list_releases t c l k = last_decides _ ∙ next_check _ _ k ∙ next_check _ _ l ∙ next_check _ _ c ∙ next_check _ _ t

  -- where they pass
  module _ (e : none ≡ list_refusal b n task tick cost) where
    pub record Listed : Type 0 where
      pub sheet_passes : none ≡ sheet
      pub count_passes : none ≡ check_count (some n)
      pub slots_pass : none ≡ slots
      pub kept_passes : none ≡ keeps
      pub list_passes : none ≡ list

    pub listed : Listed
    unfolding list_refusal
    listed =
        let x = both_none _ _ e in
        let y = both_none _ _ x.1 in
        let z = both_none _ _ y.1 in
        let u = both_none _ _ z.1 in
        let v = both_none _ _ u.1 in
        record { sheet_passes = x.0; count_passes = y.0; slots_pass = z.0; kept_passes = u.0; list_passes = v.0 }

    pub listed_valid : Valid s
    listed_valid = valid_of s (sym listed.sheet_passes)

    pub listed_few : n ≤ max_releases
    listed_few = count_of n listed.count_passes

    -- the run with these kept jitters, whatever stands past them, and with columns of 1,024 slots is not refused
    module _
        (kept ready finish : List ℕ) (k : column kept ≡ column b.plan.kept) (lk : max_tasks ≤ length kept) (lr : max_releases ≤ length ready)
        (lf : max_releases ≤ length finish) where
      pub runs : none ≡ refusal_of (run_inputs s kept n task tick cost ready finish)
      runs =
          accepts (run_inputs s kept n task tick cost ready finish)
          (record {
            tasks = listed.sheet_passes;
            single = no_single s;
            count = listed.count_passes;
            lent = lent;
            kept = listed.kept_passes ∙ ap (λ c. check_kept s (some c)) (sym k);
            releases = sym (since_passes s b.last 0 0 (releases_of n task tick cost) (omega arith) (sym listed.list_passes));
            unfit = no_unfit;
          })
        where
          lent : none ≡ check_slots (lends s.count kept ∷ lends n task ∷ lends n tick ∷ lends n cost ∷ lends n ready ∷ lends n finish ∷ [])
          lent =
              let front = lends n task ∷ lends n tick ∷ lends n cost ∷ [] in
              let back = lends n ready ∷ lends n finish ∷ [] in
              let last : none ≡ check_slots back =
              slots_none ∙ sym (slots_next _ _ (omega (arith, listed_few)) ∙ slots_next _ [] (omega (arith, listed_few))) in
              last ∙ sym (slots_rest front back listed.slots_pass) ∙ sym (slots_next _ _ (omega (arith, listed_valid.few_tasks)))

      -- its finish ticks stand in front
      abbrev ticks : List ℕ
      ticks = finish_list s (column kept) (releases_of n task tick cost)

      front : (out : List ℕ) → out ≡ column_after (refusal_of (run_inputs s kept n task tick cost ready finish)) ticks finish → out ≡ ticks ++ drop (length ticks) finish
      unfolding column_after
      front out h = rw (← runs) at h

      ticks_long : length ticks ≡ n
      unfolding finish_list
      ticks_long =
          length_table (finish_at s (column kept) (releases_of n task tick cost)) (length (releases_of n task tick cost)) ∙ length_releases n task tick cost

      pub finish_long : (out : List ℕ) → out ≡ column_after (refusal_of (run_inputs s kept n task tick cost ready finish)) ticks finish → n ≤ length out
      finish_long out h = omega (arith, ticks_long, ap length (front out h) ∙ length-append ticks (drop (length ticks) finish))

      pub finishes
          : (out : List ℕ) → out ≡ column_after (refusal_of (run_inputs s kept n task tick cost ready finish)) ticks finish
          → take n out ≡ finish_list s (column b.plan.kept) (releases_of n task tick cost)
      finishes out h =
          let l = releases_of n task tick cost in
          let f = ticks in
          let w = front out h in
          let k' = ticks_long in
          ap (take n) w ∙ ap (λ m. take m (f ++ drop (length f) finish)) (sym k') ∙ take-append_seam f (drop (length f) finish) ∙ ap (λ c. finish_list s c l) k

  -- the tick
  pub soon_before : (at : ℕ) → at < b.last → true ≡ soon_after b n task tick cost at
  unfolding soon_after
  soon_before at h = rw (soon_after, lt-ltb at b.last h)

  pub soon_over
      : (at : ℕ) (t : Bool) (l : List ℕ) → b.last ≤ at → t ≡ any_over at l → l ≡ finish_list s (column b.plan.kept) (releases_of n task tick cost)
      → t ≡ soon_after b n task tick cost at
  unfolding soon_after
  soon_over at t l h e f = rw (soon_after, le-ltb at b.last h) (e ∙ ap (any_over at) f)

-- the checks of a commit
module _ (b : Board) (c : Commit) where
  abbrev pub before : Option Refusal
  before = list_refusal b c.count c.task c.tick c.cost

  pub commit_list : (r : Refusal) → some r ≡ before → some r ≡ commit_refusal b c
  unfolding commit_refusal list_refusal
  commit_list r =
      by_first _ _ r (λ h. first_refusal_lem _ _ r h)
      (λ t.
      by_first _ _ r (λ h. first_refusal_lem _ _ r h ∙ next_check _ _ t)
      (λ n.
      by_first _ _ r (λ h. first_refusal_lem _ _ r h ∙ next_check _ _ n ∙ next_check _ _ t)
      (λ l.
      by_first _ _ r (λ h. first_refusal_lem _ _ r h ∙ next_check _ _ l ∙ next_check _ _ n ∙ next_check _ _ t)
      (λ k. by_last _ r (λ h. first_refusal_lem _ _ r h ∙ next_check _ _ k ∙ next_check _ _ l ∙ next_check _ _ n ∙ next_check _ _ t)))))

  module _ (e : none ≡ before) where
    rest : first_refusal (refuse_if (stale b c) 19 0 ∷ refuse_if (too_soon b c) 20 0 ∷ []) ≡ commit_refusal b c
    unfolding commit_refusal
    rest =
        let d = listed b c.count c.task c.tick c.cost e in
        next_check _ _ d.list_passes ∙ next_check _ _ d.kept_passes ∙ next_check _ _ d.slots_pass ∙ next_check _ _ d.count_passes ∙ next_check _ _ d.sheet_passes

    -- 19
    pub commit_stale : stale b c ≡ true → refuse 19 0 ≡ commit_refusal b c
    unfolding refuse_if first_refusal
    commit_stale h = (rw h) ∙ rest

    -- 20
    pub commit_soon : stale b c ≡ false → soon_after b c.count c.task c.tick c.cost c.at ≡ true → refuse 20 0 ≡ commit_refusal b c
    unfolding refuse_if first_refusal too_soon soon_after
    commit_soon h g = (rw (h, g)) ∙ rest

    pub commit_passes : stale b c ≡ false → soon_after b c.count c.task c.tick c.cost c.at ≡ false → none ≡ commit_refusal b c
    unfolding refuse_if first_refusal too_soon soon_after
    commit_passes h g = (rw (h, g)) ∙ rest

  -- what is answered, and the board afterwards
  pub commit_refused
      : (o : Option Refusal) (r : Refusal) → some r ≡ o → o ≡ commit_refusal b c → (answer_by o b ≡ commit_call b c) × (b ≡ board_after b c)
  unfolding commit_call board_after answer_by
  commit_refused o r h e = let w : some r ≡ commit_refusal b c = h ∙ e in (rw (← h, ← w), rw (board_after, ← w))

  abbrev next : Board
  next = record { plan = c.offer; last = c.at }

  pub commit_accepted : (o : Option Refusal) → none ≡ o → o ≡ commit_refusal b c → (answer_by o next ≡ commit_call b c) × (next ≡ board_after b c)
  unfolding commit_call board_after answer_by
  commit_accepted o h e = let w : none ≡ commit_refusal b c = h ∙ e in (rw (← h, ← w), rw (board_after, ← w))
