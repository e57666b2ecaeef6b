-- From one commit to the next: the choice in force is safe, the run starts after the last commit's tick, and is done at the next one's.
use Prim.Native.Nat.{ℕ, zero, suc, ◌≤◌, ◌<◌}
use mathlib.Core.Path.{◌≡◌, refl, sym, ap, ◌∙◌}
use mathlib.Core.Logic.{◌⊎◌, inl, inr}
use mathlib.Core.Bool.{Bool, true, false, ◌||◌}
use mathlib.Core.Option.{Option, some, none}
use mathlib.Core.List.{List, [], ◌∷◌}
use native.Mathlib.Omega.{arith}
use borrow.Author.Tests.{ltb-false}
use lib.Dec.{ltb}
use lib.ListN.{length, get_or}
use lib.IntN.{ℤ}
use Rattle.model.specs.Series.{table}
use Rattle.model.specs.Tasks.{Tasks, board_of, Release, release_at, Valid}
use Rattle.model.specs.Run.{runs, finish_at, finish_list}
use Rattle.model.specs.Choice.{chosen, Scope, scope, choice}
use Rattle.model.specs.Refusal.{Refusal, Answer, refused, answered, first_refusal}
use Rattle.model.specs.Checks.{refusal_of}
use Rattle.model.specs.Calls.{kept_column}
use Rattle.model.proofs.SeriesLaws.{le_or_lt, most_le}
use Rattle.model.proofs.TableLaws.{length_table, get_or_table}
use Rattle.model.proofs.FrameLaws.{ours_same}
use Rattle.model.proofs.CheckLaws.{valid_of, valid_passes, kept_passes, chosen_of}
use Rattle.model.proofs.OrderLaws.{next_check, accepted_of}
use Rattle.model.proofs.TraceLaws.{From, from_of}
use Rattle.trace.proofs.ReadyAtLaws.{ready_from_lem}
use Rattle.response.proofs.ChoiceLaws.{choice_keeps}
use Rattle.admission.specs.Offers.{Plan, plan_of, plan_inputs, plan_call}
use Rattle.admission.specs.Boards.{Board, WellFormed, Commit, releases_in, any_over, too_soon, commit_refusal, commit_call, board_after, boards_after}
use Rattle.admission.proofs.AskedLaws.{by_answered}
use Rattle.admission.proofs.AcceptedLaws.{opens_well, accepted, put_in_force, asked, place_low, next_well, new_sheet}
use Rattle.guarantee.specs.ChoiceSafe.{Safe}
use Rattle.guarantee.specs.Pickup.{Picks}
use Rattle.guarantee.specs.BetweenCommits.{in_force, kept_by, jobs_under, SinceLast, Between, document_refusal, Ended, Claimed, BetweenCommits}
use Rattle.guarantee.proofs.Demand3.{demand3}
use Rattle.guarantee.proofs.ChoiceSafe.{choice_safe}
use Rattle.guarantee.proofs.IdleLaws.{idle_from}
use Rattle.guarantee.proofs.PickupLaws.{tick_picks}

-- a check that passes between others
skip_third : (a d c : Option Refusal) (l : List (Option Refusal)) → none ≡ c → first_refusal (a ∷ d ∷ c ∷ l) ≡ first_refusal (a ∷ d ∷ l)
unfolding first_refusal
skip_third (some r) d c l e = refl
skip_third none (some r) c l e = refl
skip_third none none c l e = sym (next_check c l e)

neither : (a d : Bool) → (a || d) ≡ false → (a ≡ false) × (d ≡ false)
neither false d h = (refl, h)
neither true d h = let z : ◌≡◌ {A = ℕ} 0 1 = cc in absurd (omega arith)

-- no number of a list is over t
none_over : (t : ℕ) (l : List ℕ) → any_over t l ≡ false → (p : ℕ) → p < length l → get_or l p 0 ≤ t
unfolding any_over
none_over t [] e p h = absurd (omega arith)
none_over t (x ∷ l) e zero h = ltb-false t x (neither _ _ e).0
none_over t (x ∷ l) e (suc p) h = none_over t l (neither (ltb t x) _ e).1 p (omega arith)

-- what a well-formed board holds
record Well (b : Board) : Type 0 where
  passes : none ≡ refusal_of (plan_inputs (in_force b))
  valid : Valid (in_force b)
  keeps : List ℕ
  worsts : List ℤ
  chosen_is : choice (in_force b) ≡ chosen keeps worsts
  kept_is : keeps ≡ b.plan.kept
  scope_is : scope (in_force b) ≡ b.plan.scope

well_of : (b : Board) → WellFormed b → Well b
unfolding plan_call kept_column
well_of b w =
    let a = by_answered (refusal_of (plan_inputs (in_force b))) (plan_of (in_force b)) b.plan w in
    let x = accepted_of (plan_inputs (in_force b)) a.0 in
    let d = chosen_of (choice (in_force b)) x.unfit in
    record {
      passes = a.0;
      valid = valid_of (in_force b) (sym x.tasks);
      keeps = d.keeps;
      worsts = d.worsts;
      chosen_is = d.is;
      kept_is = sym (ap kept_column d.is) ∙ ap (λ (p : Plan). p.kept) a.1;
      scope_is = ap (λ (p : Plan). p.scope) a.1;
    }

-- such a choice is safe
safe_of : (s : Tasks) → Valid s → (ks ks' : List ℕ) (ws : List ℤ) (c : Scope) → choice s ≡ chosen ks ws → ks ≡ ks' → scope s ≡ c → Safe c s ks' ws
safe_of s v ks ks' ws c h e f = rw (← e, ← f) (choice_safe s v ks ws h)

module _ (b : Board) (w : WellFormed b) where
  abbrev held : Well b
  held = well_of b w

  within : (j : ℕ) → j < (in_force b).count → kept_by b j ≤ (in_force b).jitter j
  within j h = rw (← held.kept_is) (choice_keeps (scope (in_force b)) (in_force b) held.keeps held.worsts held.chosen_is j h)

  safe : Safe b.plan.scope (in_force b) b.plan.kept held.worsts
  safe = safe_of (in_force b) held.valid _ _ held.worsts _ held.chosen_is held.kept_is held.scope_is

  -- a job runs only after its release
  idle : (l : List Release) → SinceLast b l → (t : ℕ) → t ≤ b.last → runs (jobs_under b l) t ≡ none
  idle l d t h = ours ((board_of (in_force b)).ours t) refl
    where
      picks
          : ((board_of (in_force b)).ours t ≡ true → Picks (in_force b) (kept_by b) l t (runs (jobs_under b l) t))
          × ((board_of (in_force b)).ours t ≡ false → runs (jobs_under b l) t ≡ none)
      picks = tick_picks (in_force b) held.valid.framed (kept_by b) l d.trace t

      some_job : (o : Option ℕ) → runs (jobs_under b l) t ≡ o → Picks (in_force b) (kept_by b) l t o → o ≡ none
      some_job none e p = refl
      some_job (some q) e p =
          let r = ready_from_lem (in_force b) (kept_by b) l (release_at l q).task q p.0.in_list refl in
          absurd (omega (arith, r, p.0.was_ready, d.since q p.0.in_list))

      ours : (x : Bool) → (board_of (in_force b)).ours t ≡ x → runs (jobs_under b l) t ≡ none
      ours true e = some_job (runs (jobs_under b l) t) refl (picks.0 e)
      ours false e = picks.1 e

  claims : (l : List Release) → SinceLast b l → Between b l
  claims l d =
      record {
        limit = λ i h. (demand3 (in_force b) held.valid (kept_by b) within i h).limit l d.trace;
        share = λ i h. (demand3 (in_force b) held.valid (kept_by b) within i h).share l d.trace;
        on_time = λ i h j. safe.on_time i h j l d.trace;
        idle_before = idle l d;
      }

module _ (b : Board) (w : WellFormed b) where
  -- the checks of document 02: those of the sheet in force and of its kept jitters pass
  in_order : (c : Commit) → commit_refusal b c ≡ document_refusal b c
  unfolding commit_refusal
  in_order c = sym (next_check _ _ (valid_passes (in_force b) (well_of b w).valid)) ∙ skip_third _ _ _ _ (kept_passes (in_force b) (kept_by b) (within b w))

  -- an accepted commit
  module _ (c : Commit) (b' : Board) (e : commit_call b c ≡ answered b') where
    abbrev l : List Release
    l = releases_in c

    from : From (in_force b) b.last l
    from = from_of (in_force b) b.last 0 l (sym (accepted b c b' e).releases)

    since : SinceLast b l
    since = record { trace = record { sound = from.sound; rising = from.rising }; since = from.first }

    -- the tick
    soon : (ltb c.at b.last ≡ false) × (any_over c.at (finish_list (in_force b) (kept_by b) l) ≡ false)
    unfolding too_soon
    soon = neither _ _ (accepted b c b' e).late_enough

    all_finished : (p : ℕ) → p < length l → finish_at (in_force b) (kept_by b) l p ≤ c.at
    unfolding finish_list
    all_finished p h =
        let f = finish_at (in_force b) (kept_by b) l in
        let g = none_over c.at (table f (length l)) soon.1 p (omega (arith, length_table f (length l))) in
        rw (get_or_table f 0 (length l) p h) at g

    done : (t : ℕ) → c.at ≤ t → runs (jobs_under b l) t ≡ none
    done t h =
        idle_from (in_force b) (well_of b w).valid.framed (kept_by b) l since.trace t
        (omega (arith, most_le (finish_at (in_force b) (kept_by b) l) (length l) c.at all_finished))

  -- what it ends and puts in force
  ends : (c : Commit) (b' : Board) → commit_call b c ≡ answered b' → Ended b c b'
  ends c b' e =
      record {
        list = since c b' e;
        ticks = (from c b' e).tick_high;
        order = ltb-false c.at b.last (soon c b' e).0;
        finished = all_finished c b' e;
        idle_after = done c b' e;
        is = sym (put_in_force b c b' e);
        task = (asked b c b' e).task;
        place = (asked b c b' e).place;
        place_low = place_low b c b' e;
        new_sheet = new_sheet b c b' e;
        ours = λ t. ap (λ (f : ℕ → Bool). f t) (ours_same (in_force b').frame (in_force b).frame (new_sheet b c b' e).frame);
        apart = both_runs;
      }
    where
      last_is : b'.last ≡ c.at
      last_is = sym (ap (λ (x : Board). x.last) (put_in_force b c b' e))

      both_runs : (m : List Release) → SinceLast b' m → (t : ℕ) → (runs (jobs_under b (releases_in c)) t ≡ none) ⊎ (runs (jobs_under b' m) t ≡ none)
      both_runs m d t = go (le_or_lt c.at t)
        where
          go : (c.at ≤ t) ⊎ (t < c.at) → (runs (jobs_under b (releases_in c)) t ≡ none) ⊎ (runs (jobs_under b' m) t ≡ none)
          go (inl h) = inl (done c b' e t h)
          go (inr h) = inr (idle b' (next_well b c b' e) m d t (omega (arith, last_is)))

  -- a refused one leaves the board
  leaves : (c : Commit) (r : Refusal) → commit_call b c ≡ refused r → board_after b c ≡ b
  unfolding board_after
  leaves c r e = rw (board_after, e)

-- everything that is claimed of a well-formed board
claimed : (b : Board) → WellFormed b → Claimed b
claimed b w = record { well_formed = w; between = claims b w; checks = in_order b w; ended = ends b w; left = leaves b w }

-- a commit, accepted or refused, leaves a well-formed board
well_after : (b : Board) → WellFormed b → (c : Commit) → WellFormed (board_after b c)
unfolding board_after
well_after b w c = go (commit_call b c) refl
  where
    go : (a : Answer Board) → commit_call b c ≡ a → WellFormed (elim a [ refused r ↦ b | answered b' ↦ b' ])
    go (refused r) e = w
    go (answered b') e = next_well b c b' e

wells_after : (b : Board) → WellFormed b → (cs : List Commit) → WellFormed (boards_after b cs)
unfolding boards_after
wells_after b w [] = w
wells_after b w (c ∷ cs) = wells_after (board_after b c) (well_after b w c) cs

-- claims from one commit to the next
pub between_commits : BetweenCommits
between_commits s b e cs = claimed (boards_after b cs) (wells_after b (opens_well s b e) cs)
